-- A string held in a run: its characters are laid behind their number, and nothing before it changes.
use mathlib.Core.Path.{◌≡◌, refl, sym, ap, ◌∙◌, subst}
use mathlib.Core.Bool.{Bool, true, false}
use mathlib.Core.List.{List, [], ◌∷◌, ◌++◌, append_assoc}
use Prim.Native.Nat.{ℕ, ◌+◌, ◌-◌, ◌≤◌}
use native.Mathlib.Omega.{arith}
use lib.Dec.{leb}
use lib.ListN.{length, take, drop, set, length-append}
use lib.Seq.{take_at, length-take-le}
use borrow.Author.Tests.{le-leb}
use borrow.Rule.Slice.PartMut.{mid_of, post_of, put_mid, mid_len, same_len_mid}
use Rattle.chars.specs.Base.{pick, part}
use Rattle.text.specs.Json.{Json, null, bool, number, string, list, object}
use Rattle.text.specs.Contents.{kind_of, Stands, StandingText, Raw}
use Rattle.text.specs.declared.walk.Span.{Span}
use Rattle.chars.specs.Decoding.{text_of, decoded_of, Decodes}
use Rattle.chars.specs.Putting.{lay}
use Rattle.std.specs.Prelude.{Result, Ok, Err}
use Rattle.chars.specs.declared.strings.DecodeError.{DecodeError}
use Rattle.chars.specs.declared.strings.DecodeError.TheVariants.{Lone, Short}
use Rattle.chars.proofs.Laws.Putting.{lay_length}
use Rattle.chars.proofs.Laws.Strings.Lengths.{chars_few}
use Rattle.syntax.specs.Forms.{Reading, wrong, read}
use Rattle.syntax.specs.Members.{only, characters, characters_of}
use Rattle.held.specs.Held.{held_text}
use Rattle.parts.specs.Room.{Roomy, cost}
use Rattle.parts.specs.Holding.{is_text, Extends, Laid, Left, Holds, HoldsTo}
use Rattle.std.specs.Prelude.{Option, Some, None}
use Rattle.parts.specs.declared.holding.Ended.{Ended}
use Rattle.parts.proofs.Laws.Extends.{extends_front}

-- ---- strings and other values

pub never : {A : Type 0} → false ≡ true → A
never z = absurd (let y : ◌≡◌ {A = ℕ} 0 1 = cc in omega arith)

pub not_text : (t : Json) → is_text (kind_of t) ≡ false → characters_of t ≡ wrong
not_text null e = refl
not_text (bool true) e = refl
not_text (bool false) e = refl
not_text (number w) e = refl
not_text (string w) e = never (sym e)
not_text (list ts) e = refl
not_text (object ms) e = refl

pub record AString (t : Json) : Type 0 where
  pub raw : List ℕ
  pub is : t ≡ string raw

pub is_string : (t : Json) → is_text (kind_of t) ≡ true → AString t
is_string null e = never e
is_string (bool true) e = never e
is_string (bool false) e = never e
is_string (number w) e = never e
is_string (string w) e = record { raw = w; is = refl }
is_string (list ts) e = never e
is_string (object ms) e = never e

-- ---- what the decoder told

pub record Counted (w : List ℕ) (k : ℕ) : Type 0 where
  pub said : characters w ≡ read (text_of w).chars
  pub count : k ≡ length (text_of w).chars

pub told_count : (w : List ℕ) (n k : ℕ) → decoded_of (text_of w) n ≡ Ok k → Counted w k
unfolding decoded_of characters
told_count w n k e = by (text_of w).sound refl (leb (length (text_of w).chars) n) e
  where
    by : (t : Bool) → (text_of w).sound ≡ t → (u : Bool)
        → pick t (pick u (Ok (length (text_of w).chars)) (Err Short)) (Err Lone) ≡ Ok k → Counted w k
    by false s u e = absurd (let y : ◌≡◌ {A = ℕ} 0 1 = cc in omega arith)
    by true s false e = absurd (let y : ◌≡◌ {A = ℕ} 0 1 = cc in omega arith)
    by true s true e = record { said = rw s; count = cc }

pub told_lone : (w : List ℕ) (n : ℕ) → decoded_of (text_of w) n ≡ Err Lone → characters w ≡ wrong
unfolding decoded_of characters
told_lone w n e = by (text_of w).sound (leb (length (text_of w).chars) n) e
  where
    by : (t u : Bool) → pick t (pick u (Ok (length (text_of w).chars)) (Err Short)) (Err Lone) ≡ Err Lone
        → only t (text_of w).chars ≡ wrong
    by false u e = refl
    by true true e = absurd (let y : ◌≡◌ {A = ℕ} 0 1 = cc in omega arith)
    by true false e = absurd (let y : ◌≡◌ {A = ℕ} 0 1 = cc in omega arith)

-- where there is room for as many characters as bytes, it is never short
pub told_short : (w : List ℕ) (n : ℕ) → length w ≤ n → decoded_of (text_of w) n ≡ Err Short → ⊥
unfolding decoded_of
told_short w n h e = by (text_of w).sound (rw (le-leb (length (text_of w).chars) n (omega (arith, chars_few w))) at e)
  where
    by : (t : Bool) → pick t (Ok (length (text_of w).chars)) (Err Lone) ≡ Err Short → ⊥
    by true e = let y : ◌≡◌ {A = ℕ} 0 1 = cc in omega arith
    by false e = let y : ◌≡◌ {A = ℕ} 0 1 = cc in omega arith

-- and so, whatever is told, a surrogate escape stands alone
pub told_wrong : (w : List ℕ) (n : ℕ) (e : DecodeError) → length w ≤ n → decoded_of (text_of w) n ≡ Err e
    → characters w ≡ wrong
told_wrong w n Lone h q = told_lone w n q
told_wrong w n Short h q = absurd (told_short w n h q)

-- ---- the run afterwards

lay_is : (xs out : List ℕ) → length xs ≤ length out → lay xs out ≡ xs ++ drop (length xs) out
unfolding lay
lay_is [] out h = refl
lay_is (x ∷ xs) [] h = absurd (omega arith)
lay_is (x ∷ xs) (o ∷ out) h = ap (λ (l : List ℕ). x ∷ l) (lay_is xs out (omega arith))

-- characters laid from a place up to the run's end
pub laid_extends :
    (run cs : List ℕ) (a k : ℕ) → a ≤ length run → length cs ≤ length (mid_of a k run)
    → Extends run (put_mid a k run (lay cs (mid_of a k run))) a cs (a + length cs)
laid_extends run cs a k low few =
    let mid = mid_of a k run in
    let there = length-take-le a run low in
    let rest = drop (length cs) mid ++ post_of a k run in
    let all : put_mid a k run (lay cs mid) ≡ (take a run ++ cs) ++ rest =
    ap (λ (l : List ℕ). take a run ++ (l ++ post_of a k run)) (lay_is cs mid few)
    ∙ ap (λ (l : List ℕ). take a run ++ l) (append_assoc cs (drop (length cs) mid) (post_of a k run))
    ∙ sym (append_assoc (take a run) cs rest) in
    record {
      size = same_len_mid a k run (lay cs mid) (lay_length cs mid);
      place = refl;
      is = ap (take (a + length cs)) all
          ∙ take_at (take a run ++ cs) rest (a + length cs) (length-append (take a run) cs ∙ omega (arith, there));
    }

-- ---- the string that stands there

pub string_stands :
    {s : List ℕ} {v e : ℕ} (t : Json) → Stands s t v e → is_text (kind_of t) ≡ true → StandingText s v
string_stands {s} {v} {e} t p h =
    let a = is_string t h in
    record { what = a.raw; stop = e; is = subst (λ (u : Json). Stands s u v e) a.is p }

-- its characters are those of the part between the quotes
pub text_said :
    {s : List ℕ} {v e : ℕ} {t : Json} (q : Span) → Stands s t v e → is_text (kind_of t) ≡ true
    → ((w : List ℕ) (f : ℕ) → Stands s (string w) v f → Raw s w f q)
    → characters_of t ≡ characters (part s q.from q.to)
text_said {s} {v} {e} {t} q p h f =
    let a = is_string t h in
    let r = f a.raw e (subst (λ (u : Json). Stands s u v e) a.is p) in
    ap characters_of a.is ∙ ap characters (sym r.is)

-- and it ends behind its last quote
pub text_ends :
    {s : List ℕ} {v e : ℕ} {t : Json} (q : Span) → Stands s t v e → is_text (kind_of t) ≡ true
    → ((w : List ℕ) (f : ℕ) → Stands s (string w) v f → Raw s w f q) → q.to + 1 ≡ e
text_ends {s} {v} {e} {t} q p h f =
    let a = is_string t h in (f a.raw e (subst (λ (u : Json). Stands s u v e) a.is p)).past

module _ (run w after : List ℕ) (at : ℕ) (room : Roomy run at (1 + length w)) where
  abbrev size : ℕ
  size = length run - (at + 1)

  mid_length : length (mid_of (at + 1) size run) ≡ size
  mid_length = mid_len (at + 1) (length run) run (omega arith)

  enough : length w ≤ size
  enough = omega (arith, room.room)

  module _ (d : Result ℕ DecodeError) (p : Decodes w (mid_of (at + 1) size run) d after) where
    told_of : d ≡ decoded_of (text_of w) size
    told_of = p.told ∙ ap (decoded_of (text_of w)) mid_length

    pub held_size : length (put_mid (at + 1) size run after) ≡ length run
    held_size = same_len_mid (at + 1) size run after (ap length p.laid ∙ lay_length (text_of w).chars
        (mid_of (at + 1) size run))

    pub held_wrong : (e : DecodeError) → d ≡ Err e → characters w ≡ wrong
    held_wrong e q = told_wrong w size e enough (sym told_of ∙ q)

    pub held_count : (n : ℕ) → d ≡ Ok n → (Counted w n) × (n ≤ length w)
    held_count n e =
        let c = told_count w size n (sym told_of ∙ e) in
        (c, omega (arith, c.count, chars_few w))

    pub held_text_lem :
        (n : ℕ) → d ≡ Ok n
        → Laid held_text run (set (put_mid (at + 1) size run after) at n) at (characters w) (at + 1 + n)
    held_text_lem n e =
        let c = (held_count n e).0 in
        let cs = (text_of w).chars in
        let x = laid_extends run cs (at + 1) size (omega (arith, room.room))
        (omega (arith, mid_length, enough, chars_few w)) in
        let y : Extends run (set (put_mid (at + 1) size run (lay cs (mid_of (at + 1) size run))) at (length cs)) at
        (held_text cs) (at + 1 + length cs) = extends_front (length cs) (omega (arith, room.room)) x in
        record {
          thing = cs;
          said = c.said;
          extends = subst (λ (k : ℕ). Extends run (set (put_mid (at + 1) size run after) at k) at (held_text cs)
              (at + 1 + k)) (sym c.count)
              (subst (λ (l : List ℕ). Extends run (set (put_mid (at + 1) size run l) at (length cs)) at (held_text cs)
              (at + 1 + length cs)) (sym p.laid) y);
        }

-- a string's cost is room for its raw part
pub text_room :
    {s : List ℕ} {v e : ℕ} {t : Json} {run : List ℕ} {at : ℕ} → Stands s t v e → is_text (kind_of t) ≡ true → (q : Span)
    → ((w : List ℕ) (f : ℕ) → Stands s (string w) v f → Raw s w f q) → Roomy run at (0 + cost t)
    → Roomy run at (1 + length (part s q.from q.to))
unfolding cost
text_room {s} {v} {e} {t} {run} {at} p h q f room =
    let a = is_string t h in
    let r = f a.raw e (subst (λ (u : Json). Stands s u v e) a.is p) in
    let c : cost t ≡ length a.raw + 3 = ap cost a.is in
    let l : length (part s q.from q.to) ≡ length a.raw = ap length r.is in
    record { room = omega (arith, c, l, room.room); bounded = room.bounded }

-- the same reading, said otherwise
pub holds_alike :
    {A : Type 0} (h : A → List ℕ) (run run' : List ℕ) (at : ℕ) (r : Option ℕ) (x y : Reading A)
    → x ≡ y → Holds h run run' at x r → Holds h run run' at y r
holds_alike h run run' at r x y e f = subst (λ z. Holds h run run' at z r) e f

pub ends_alike :
    {A : Type 0} (h : A → List ℕ) (run run' : List ℕ) (at e : ℕ) (r : Option Ended) (x y : Reading A)
    → x ≡ y → HoldsTo h run run' at x e r → HoldsTo h run run' at y e r
ends_alike h run run' at e r x y k f = subst (λ z. HoldsTo h run run' at z e r) k f

-- an answer that is known, of what is read likewise
pub laid_string :
    {A : Type 0} (h : A → List ℕ) {run run' : List ℕ} {at p : ℕ} {r : Option ℕ} {x y : Reading A}
    → Holds h run run' at x r → r ≡ Some p → x ≡ y → Laid h run run' at y p
laid_string {A} h {run} {run'} {at} {p} {r} {x} {y} f e g =
    subst (λ (z : Reading A). Holds h run run' at z (Some p)) g (subst (λ (q : Option ℕ). Holds h run run' at x q) e f)

pub left_string :
    {A : Type 0} (h : A → List ℕ) {run run' : List ℕ} (at : ℕ) {r : Option ℕ} {x y : Reading A}
    → Holds h run run' at x r → r ≡ None → x ≡ y → Left run run' y
left_string {A} h {run} {run'} at {r} {x} {y} f e g =
    subst (λ (z : Reading A). Holds h run run' at z None) g (subst (λ (q : Option ℕ). Holds h run run' at x q) e f)
