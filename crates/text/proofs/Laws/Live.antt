-- No stack that the twin comes to is a dead end, since each of its items has bytes that finish it.
--   Calm w       before the bytes w, or before the end if there are none, numbers and white space are done
--   Ends k w     the bytes w finish the stack k, wherever they stand
--   Kin k l w    k is a stack that the twin comes to, l the same with one level more to open, and w finishes both
use mathlib.Core.Path.{◌≡◌, refl}
use mathlib.Core.Bool.{true}
use mathlib.Core.List.{List, [], ◌∷◌, ◌++◌, map}
use Prim.Native.Nat.{ℕ, suc, ◌+◌}
use Rattle.chars.specs.Base.{one_of}
use Rattle.text.specs.Machine.{Item, ws, byte, range, hex, text, escape, digits, digit, integer, fraction}
use Rattle.text.specs.Machine.{exponent, sign, value, first, next, close, inner, pass, go, begins, move, optional}
use Rattle.text.specs.Machine.{feed, ends, run}
use Rattle.text.specs.declared.scan.Shape.{Shape}
use Rattle.text.specs.declared.scan.Shape.TheVariants.{List as list, Object as object}
use Rattle.std.specs.Prelude.{Ok}
use Rattle.text.proofs.Laws.Moves.Bytes.{byte_is}
use Rattle.text.proofs.Laws.Moves.Values.{first_close, next_close}

-- items that are done before some byte
pub data Lax : Item → Type 0 where
  l_ws : Lax ws
  l_digits : Lax digits
  l_fraction : Lax fraction
  l_exponent : Lax exponent

-- items that one byte finishes, each with its kin of one level more; a sign that may be left out is finished by a plus
pub data Shut : Item → Item → Type 0 where
  s_byte : {x : ℕ} → Shut (byte x) (byte x)
  s_range : {lo hi : ℕ} → Shut (range lo hi) (range lo hi)
  s_hex : Shut hex hex
  s_text : Shut text text
  s_escape : Shut escape escape
  s_digit : Shut digit digit
  s_sign : Shut sign sign
  s_first : {sh : Shape} {n : ℕ} → Shut (first sh n) (first sh (suc n))
  s_next : {sh : Shape} {n : ℕ} → Shut (next sh n) (next sh (suc n))

-- ---- bytes before which numbers and white space are done

pub record Quiet (b : ℕ) : Type 0 where
  pub on_ws : move ws b ≡ pass
  pub on_digits : move digits b ≡ pass
  pub on_fraction : move fraction b ≡ pass
  pub on_exponent : move exponent b ≡ pass

quiet_quote : Quiet 34
unfolding move one_of
quiet_quote = record { on_ws = refl; on_digits = refl; on_fraction = refl; on_exponent = refl }

quiet_colon : Quiet 58
unfolding move one_of
quiet_colon = record { on_ws = refl; on_digits = refl; on_fraction = refl; on_exponent = refl }

quiet_close : (sh : Shape) → Quiet (close sh)
unfolding move one_of
quiet_close list = record { on_ws = refl; on_digits = refl; on_fraction = refl; on_exponent = refl }
quiet_close object = record { on_ws = refl; on_digits = refl; on_fraction = refl; on_exponent = refl }

lax_passes : {x : Item} {b : ℕ} → Lax x → Quiet b → move x b ≡ pass
lax_passes l_ws q = q.on_ws
lax_passes l_digits q = q.on_digits
lax_passes l_fraction q = q.on_fraction
lax_passes l_exponent q = q.on_exponent

pub data Calm : List ℕ → Type 0 where
  at_end_lem : Calm []
  at_byte : {b : ℕ} {w : List ℕ} → Quiet b → Calm (b ∷ w)

pub calm_quote : {w : List ℕ} → Calm (34 ∷ w)
calm_quote = at_byte quiet_quote

pub calm_close : {w : List ℕ} (sh : Shape) → Calm (close sh ∷ w)
calm_close sh = at_byte (quiet_close sh)

-- ---- bytes that finish a stack

pub record Ends (k : List Item) (w : List ℕ) : Type 0 where
  pub whole : (at : ℕ) → run k w at ≡ Ok tt

lax_optional : {x : Item} → Lax x → optional x ≡ true
unfolding optional
lax_optional l_ws = refl
lax_optional l_digits = refl
lax_optional l_fraction = refl
lax_optional l_exponent = refl

module _ {k : List Item} where
  pub ends_lax : {x : Item} {w : List ℕ} → Lax x → Calm w → Ends k w → Ends (x ∷ k) w
  unfolding run ends feed
  ends_lax x at_end_lem e = record { whole = λ at. rw (lax_optional x) (e.whole at) }
  ends_lax x (at_byte q) e = record { whole = λ at. rw (lax_passes x q) (e.whole at) }

  module _ {w : List ℕ} where
    ends_by : {x : Item} {b : ℕ} (xs : List Item) → move x b ≡ go xs → Ends (xs ++ k) w → Ends (x ∷ k) (b ∷ w)
    unfolding run feed
    ends_by xs m e = record { whole = λ at. rw m (e.whole (at + 1)) }

    pub ends_shut : {x : Item} {b : ℕ} → move x b ≡ go [] → Ends k w → Ends (x ∷ k) (b ∷ w)
    ends_shut m e = ends_by [] m e

-- a zero, an empty string
ends_integer : {k : List Item} {w : List ℕ} → Calm w → Ends k w → Ends (integer ∷ k) (48 ∷ w)
unfolding move
ends_integer c e = ends_by (fraction ∷ []) refl (ends_lax l_fraction c e)

ends_value : {n : ℕ} {k : List Item} {w : List ℕ} → Ends k w → Ends (value n ∷ k) (34 ∷ 34 ∷ w)
unfolding move begins
ends_value e = ends_by (text ∷ []) refl (ends_shut refl e)

-- ---- stacks that the twin comes to

pub data Kin : List Item → List Item → List ℕ → Type 0 where
  none : Kin [] [] []
  lax : {x : Item} {k l : List Item} {w : List ℕ} → Lax x → Calm w → Kin k l w → Kin (x ∷ k) (x ∷ l) w
  shut : {x y : Item} {k l : List Item} {b : ℕ} {w : List ℕ}
      → Shut x y → move x b ≡ go [] → move y b ≡ go [] → Kin k l w → Kin (x ∷ k) (y ∷ l) (b ∷ w)
  an_integer : {k l : List Item} {w : List ℕ} → Calm w → Kin k l w → Kin (integer ∷ k) (integer ∷ l) (48 ∷ w)
  a_value : {n : ℕ} {k l : List Item} {w : List ℕ}
      → Calm w → Kin k l w → Kin (value n ∷ k) (value (suc n) ∷ l) (34 ∷ 34 ∷ w)

pub kin_ends : {k l : List Item} {w : List ℕ} → Kin k l w → Ends k w
unfolding run ends
kin_ends none = record { whole = λ at. refl }
kin_ends (lax x c g) = ends_lax x c (kin_ends g)
kin_ends (shut x m n g) = ends_shut m (kin_ends g)
kin_ends (an_integer c g) = ends_integer c (kin_ends g)
kin_ends (a_value c g) = ends_value (kin_ends g)

pub kin_ends_more : {k l : List Item} {w : List ℕ} → Kin k l w → Ends l w
unfolding run ends
kin_ends_more none = record { whole = λ at. refl }
kin_ends_more (lax x c g) = ends_lax x c (kin_ends_more g)
kin_ends_more (shut x m n g) = ends_shut n (kin_ends_more g)
kin_ends_more (an_integer c g) = ends_integer c (kin_ends_more g)
kin_ends_more (a_value c g) = ends_value (kin_ends_more g)

-- ---- their parts

module _ {k l : List Item} {w : List ℕ} (g : Kin k l w) where
  pub kin_text : Kin (text ∷ k) (text ∷ l) (34 ∷ w)
  unfolding move
  kin_text = shut s_text refl refl g

  pub kin_tail : Kin (range 128 191 ∷ k) (range 128 191 ∷ l) (128 ∷ w)
  unfolding move
  kin_tail = shut s_range refl refl g

  pub kin_hex : Kin (hex ∷ k) (hex ∷ l) (48 ∷ w)
  unfolding move
  kin_hex = shut s_hex refl refl g

  pub kin_digit : Kin (digit ∷ k) (digit ∷ l) (48 ∷ w)
  unfolding move
  kin_digit = shut s_digit refl refl g

  pub kin_word : (v : List ℕ) → Kin (map byte v ++ k) (map byte v ++ l) (v ++ w)
  kin_word [] = g
  kin_word (b ∷ v) = shut s_byte (byte_is b b refl) (byte_is b b refl) (kin_word v)

  module _ (sh : Shape) (n : ℕ) where
    pub kin_first : Kin (first sh n ∷ k) (first sh (suc n) ∷ l) (close sh ∷ w)
    kin_first = shut s_first (first_close (close sh) sh n refl) (first_close (close sh) sh (suc n) refl) g

    pub kin_next : Kin (ws ∷ next sh n ∷ k) (ws ∷ next sh (suc n) ∷ l) (close sh ∷ w)
    kin_next =
        let closed = shut s_next (next_close (close sh) sh n refl) (next_close (close sh) sh (suc n) refl) g in
        lax l_ws (calm_close sh) closed

    pub kin_inner : Kin (inner sh n ++ k) (inner sh (suc n) ++ l) (34 ∷ 34 ∷ close sh ∷ w)
    kin_inner = a_value (calm_close sh) kin_next

-- behind the quote that opens a name
pub kin_name : {k l : List Item} {w : List ℕ}
    → Calm w → Kin k l w → Kin (text ∷ ws ∷ byte 58 ∷ ws ∷ k) (text ∷ ws ∷ byte 58 ∷ ws ∷ l) (34 ∷ 58 ∷ w)
kin_name c g = kin_text (lax l_ws (at_byte quiet_colon) (kin_word (lax l_ws c g) (58 ∷ [])))

-- what is owed of a whole text of at most n levels
abbrev pub start : ℕ → List Item
start n = ws ∷ value n ∷ ws ∷ []

pub kin_start : (n : ℕ) → Kin (start n) (start (suc n)) (34 ∷ 34 ∷ [])
kin_start n = lax l_ws calm_quote (a_value at_end_lem (lax l_ws at_end_lem none))
