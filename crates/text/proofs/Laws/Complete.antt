-- What the grammar reads the twin passes, by induction on the reading: what follows a value stops every number.
use mathlib.Core.Path.{◌≡◌, refl, sym, ap, ◌∙◌, subst}
use mathlib.Core.List.{List, [], ◌∷◌, ◌++◌, map}
use Prim.Native.Nat.{ℕ, zero, suc, ◌+◌, ◌≤◌}
use native.Mathlib.Omega.{arith}
use lib.ListN.{length, get_or, drop}
use Rattle.chars.specs.Base.{At, one_of}
use Rattle.text.specs.Json.{Json, Values, Members, string, list, object, depth, depths, depthm, Space, zero}
use Rattle.text.specs.Json.{Spelt, Quoted, Piece, a_value, elements, rest}
use Rattle.text.specs.Json.{members, more, Reads, a_null, a_true, a_false, a_number, a_string, empty_list}
use Rattle.text.specs.Json.{some_list, element, close_list, comma_list, empty_object, some_object, member}
use Rattle.text.specs.Json.{close_object, comma_object}
use Rattle.text.specs.Contents.{Ends}
use Rattle.text.specs.Verdicts.{Text}
use Rattle.text.specs.Machine.{Item, Move, pass, go, ws, byte, text, value, first, next, inner, move, run}
use Rattle.text.specs.Machine.{feed, ends, verdict_at}
use Rattle.text.specs.Machine as M
use Rattle.text.specs.Reading.{Done}
use Rattle.std.specs.Prelude.{Ok}
use Rattle.text.specs.declared.scan.Shape.{Shape}
use Rattle.text.specs.declared.scan.Shape.TheVariants.{List as a_list, Object as an_object}
use Rattle.text.proofs.Laws.Reading.{takes_at, seq, frame, alike, from_empty}
use Rattle.text.proofs.Laws.Values.{next_goes}
use Rattle.text.proofs.Laws.Eating.{eats_done, word_eats, run_takes}
use Rattle.text.proofs.Laws.Numbers.{number_eat}
use Rattle.text.proofs.Laws.Chars.{rest_done}
use Rattle.text.proofs.Laws.Moves.Bytes.{byte_is}
use Rattle.text.proofs.Laws.Moves.Values.{first_close, next_close, value_false, value_null, value_opens}
use Rattle.text.proofs.Laws.Moves.Values.{value_text, value_true}
use Rattle.text.proofs.Laws.Moves.Owing.{first_enters}
use Rattle.text.proofs.Laws.Ends.{ends_calm, ends_rest, ends_more, ends_after}
use Rattle.text.proofs.Laws.Spaces.{space_done, space_end}
use Rattle.text.proofs.Laws.Starts.{Starts, value_starts, elements_start, members_start}

-- the items that read a piece, and how deep it goes
abbrev pub owed : ℕ → Piece → List Item
owed n (a_value t) = value n ∷ []
owed n (elements ts) = inner a_list n
owed n (rest ts) = ws ∷ next a_list n ∷ []
owed n (members ms) = M.before an_object ++ inner an_object n
owed n (more ms) = ws ∷ next an_object n ∷ []

abbrev pub deepness : Piece → ℕ
deepness (a_value t) = depth t
deepness (elements ts) = depths ts
deepness (rest ts) = depths ts
deepness (members ms) = depthm ms
deepness (more ms) = depthm ms

-- a value is done only where no number goes on
abbrev pub Stopped : List ℕ → Piece → ℕ → Type 0
Stopped s (a_value t) e = Ends s e
Stopped s (elements ts) e = Unit {0}
Stopped s (rest ts) e = Unit {0}
Stopped s (members ms) e = Unit {0}
Stopped s (more ms) e = Unit {0}

-- a string's rest behind its opening quote
pub body_done : {s w : List ℕ} {i e : ℕ} → Quoted s w i e → Done s (text ∷ []) (i + 1) e
body_done {s} {w} {i} {e} p =
    subst (λ (n : ℕ). Done s (text ∷ []) (i + 1) n) (sym p.past) (rest_done p.spelt p.body p.closes)

pub quoted_done : {s w : List ℕ} {i e : ℕ} → Quoted s w i e → Done s (byte 34 ∷ text ∷ []) i e
quoted_done p = seq (takes_at (byte 34) (text ∷ []) p.opens [] (byte_is 34 34 refl)) (body_done p)

module _ {s : List ℕ} where
  word_done : {i e : ℕ} (n b : ℕ) (w : List ℕ) → Spelt s (b ∷ w) i e → move (value n) b ≡ go (map byte w)
      → Done s (value n ∷ []) i e
  word_done {i} {e} n b w p m =
      eats_done (value n ∷ []) p
      (λ k at.
      run_takes (value n) k (w ++ drop e s) at b (map byte w) m
      ∙ word_eats w (drop e s) k (at + 1)
      ∙ ap (run k (drop e s)) (omega arith))

  -- an opening byte, white space, and what stands behind it
  open_done : {i j e : ℕ} (sh : Shape) (n b : ℕ) → At s i (M.opener sh) → Space s (i + 1) j → At s j b
      → move ws b ≡ pass → Done s (first sh n ∷ []) j e → Done s (value (suc n) ∷ []) i e
  open_done {i} sh n b o w p m r =
      seq (takes_at (value (suc n)) [] o (ws ∷ first sh n ∷ []) (value_opens (M.opener sh) (suc n) sh refl))
      (seq (frame (first sh n ∷ []) (space_done w p m)) r)

  enter_list : {i e : ℕ} (n : ℕ) → Starts s i → Done s (inner a_list n) i e → Done s (first a_list n ∷ []) i e
  enter_list {i} n v r =
      let e = first_enters (get_or s i 0) a_list n (λ z. v.inner (sym v.at.is ∙ z)) in
      seq (alike (first a_list n ∷ []) (inner a_list n) v.at.inside e) r

  enter_object : {i e : ℕ} (n : ℕ) → At s i 34 → Done s (M.before an_object ++ inner an_object n) i e
      → Done s (first an_object n ∷ []) i e
  enter_object {i} n p r =
      let z = p.is in
      let e = first_enters (get_or s i 0) an_object n (omega arith) in
      seq (alike (first an_object n ∷ []) (M.before an_object ++ inner an_object n) p.inside e) r

  close_done : {i j : ℕ} (sh : Shape) (n : ℕ) → Space s i j → At s j (M.close sh) → move ws (M.close sh) ≡ pass
      → Done s (ws ∷ next sh n ∷ []) i (j + 1)
  close_done sh n w p m =
      seq (frame (next sh n ∷ []) (space_done w p m)) (takes_at (next sh n) [] p [] (next_close (M.close sh) sh n refl))

  comma_done : {i j k b e : ℕ} (sh : Shape) (n : ℕ) → Space s i j → At s j 44 → Space s (j + 1) k → At s k b
      → move ws b ≡ pass → Done s (M.before sh ++ inner sh n) k e → Done s (ws ∷ next sh n ∷ []) i e
  unfolding move one_of
  comma_done sh n w o x p m r =
      seq (frame (next sh n ∷ []) (space_done w o refl))
      (seq (next_goes sh n o.inside o.is) (seq (frame (M.before sh ++ inner sh n) (space_done x p m)) r))

quote_begins : (n b : ℕ) → b ≡ 34 → (k : List Item) → feed (value n ∷ k) b ≡ feed (byte 34 ∷ text ∷ k) b
unfolding feed
quote_begins n b e k =
    ap (λ (m : Move). M.onto m k (feed k b)) (value_text b n e)
    ∙ sym (ap (λ (m : Move). M.onto m (text ∷ k) (feed (text ∷ k) b)) (byte_is b 34 e))

pub reads_done : {s : List ℕ} {p : Piece} {i e : ℕ} (n : ℕ) → Reads s p i e → deepness p ≤ n → Stopped s p e
    → Done s (owed n p) i e
unfolding depth move one_of
reads_done n (a_null p) h c = word_done n 110 (117 ∷ 108 ∷ 108 ∷ []) p (value_null 110 n refl)
reads_done n (a_true p) h c = word_done n 116 (114 ∷ 117 ∷ 101 ∷ []) p (value_true 116 n refl)
reads_done n (a_false p) h c = word_done n 102 (97 ∷ 108 ∷ 115 ∷ 101 ∷ []) p (value_false 102 n refl)
reads_done {s} {e = e} n (a_number p w) h c = eats_done (value n ∷ []) p (number_eat n w (drop e s) (ends_calm c))
reads_done {s} n (a_string {i} p) h c =
    seq (alike (value n ∷ []) (byte 34 ∷ text ∷ []) p.opens.inside (quote_begins n (get_or s i 0) p.opens.is))
    (quoted_done p)
reads_done zero (empty_list o w p) h c = absurd (omega arith)
reads_done (suc n) (empty_list o w p) h c =
    open_done a_list n 93 o w p refl (takes_at (first a_list n) [] p [] (first_close 93 a_list n refl))
reads_done zero (some_list o w r) h c = absurd (omega arith)
reads_done (suc n) (some_list o w r) h c =
    let v = elements_start r in
    open_done a_list n v.first o w v.at v.black (enter_list n v (reads_done n r (omega arith) tt))
reads_done n (element {t = t} {ts = ts} v r) h c =
    seq (frame (ws ∷ next a_list n ∷ []) (reads_done n v (omega arith) (ends_rest r))) (reads_done n r (omega arith) tt)
reads_done n (close_list w p) h c = close_done a_list n w p refl
reads_done n (comma_list w o x r) h c =
    let v = elements_start r in comma_done a_list n w o x v.at v.black (reads_done n r h tt)
reads_done zero (empty_object o w p) h c = absurd (omega arith)
reads_done (suc n) (empty_object o w p) h c =
    open_done an_object n 125 o w p refl (takes_at (first an_object n) [] p [] (first_close 125 an_object n refl))
reads_done zero (some_object o w r) h c = absurd (omega arith)
reads_done (suc n) (some_object o w r) h c =
    let v = members_start r in open_done an_object n 34 o w v refl (enter_object n v (reads_done n r (omega arith) tt))
reads_done n (member {t = t} {ms = ms} q w o x v r) h c =
    let b = value_starts v in
    seq (frame (ws ∷ byte 58 ∷ ws ∷ inner an_object n) (quoted_done q))
    (seq (frame (byte 58 ∷ ws ∷ inner an_object n) (space_done w o refl))
    (seq (takes_at (byte 58) (ws ∷ inner an_object n) o [] (byte_is 58 58 refl))
    (seq (frame (inner an_object n) (space_done x b.at b.black))
    (seq (frame (ws ∷ next an_object n ∷ []) (reads_done n v (omega arith) (ends_more r)))
    (reads_done n r (omega arith) tt)))))
reads_done n (close_object w p) h c = close_done an_object n w p refl
reads_done n (comma_object w o x r) h c = comma_done an_object n w o x (members_start r) refl (reads_done n r h tt)

-- what is no number, true, false or null ends with a byte of its own, whatever follows
pub data Shut : Json → Type 0 where
  shut_text : {w : List ℕ} → Shut (string w)
  shut_list : {ts : Values} → Shut (list ts)
  shut_object : {ms : Members} → Shut (object ms)

pub shut_done : {s : List ℕ} {t : Json} {i e : ℕ} (n : ℕ) → Shut t → Reads s (a_value t) i e → depth t ≤ n
    → Done s (value n ∷ []) i e
unfolding depth move one_of
shut_done {s} n shut_text (a_string {i} p) h =
    seq (alike (value n ∷ []) (byte 34 ∷ text ∷ []) p.opens.inside (quote_begins n (get_or s i 0) p.opens.is))
    (quoted_done p)
shut_done zero shut_list (empty_list o w p) h = absurd (omega arith)
shut_done (suc n) shut_list (empty_list o w p) h =
    open_done a_list n 93 o w p refl (takes_at (first a_list n) [] p [] (first_close 93 a_list n refl))
shut_done zero shut_list (some_list o w r) h = absurd (omega arith)
shut_done (suc n) shut_list (some_list o w r) h =
    let v = elements_start r in
    open_done a_list n v.first o w v.at v.black (enter_list n v (reads_done n r (omega arith) tt))
shut_done zero shut_object (empty_object o w p) h = absurd (omega arith)
shut_done (suc n) shut_object (empty_object o w p) h =
    open_done an_object n 125 o w p refl (takes_at (first an_object n) [] p [] (first_close 125 an_object n refl))
shut_done zero shut_object (some_object o w r) h = absurd (omega arith)
shut_done (suc n) shut_object (some_object o w r) h =
    let v = members_start r in open_done an_object n 34 o w v refl (enter_object n v (reads_done n r (omega arith) tt))

-- a JSON text of at most n levels is whole for the twin
pub text_complete : (n : ℕ) (s : List ℕ) → Text n s → verdict_at n s ≡ Ok tt
unfolding verdict_at ends
text_complete n s t =
    let p = t.says in
    let v = value_starts p.reads in
    let w = space_done p.before v.at v.black in
    let r = reads_done n p.reads t.shallow (ends_after p.after) in
    (seq (frame (value n ∷ ws ∷ []) w) (seq (frame (ws ∷ []) r) (space_end p.after))).goes []
    ∙ from_empty [] s (length s) refl
