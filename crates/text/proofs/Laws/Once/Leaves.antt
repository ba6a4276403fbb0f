-- A value without inner values is told by its first byte and its end, which the twin tells.
use mathlib.Core.Path.{◌≡◌, refl, sym, ap, ◌∙◌}
use mathlib.Core.Bool.{true, false}
use mathlib.Core.List.{List, [], ◌∷◌}
use Prim.Native.Nat.{ℕ, ◌+◌, ◌-◌}
use native.Mathlib.Omega.{arith}
use lib.Dec.{eqb}
use lib.ListN.{get_or}
use borrow.Author.Tests.{ne_eqb}
use Rattle.chars.specs.Base.{pick, At, part}
use Rattle.text.specs.Json.{Json, null, bool, number, string, depth, Number}
use Rattle.text.specs.Json.{Spelt, a_value, Reads, a_null, a_true, a_false, a_number, a_string, empty_list}
use Rattle.text.specs.Json.{some_list, empty_object, some_object}
use Rattle.text.specs.Contents.{Ends}
use Rattle.text.specs.Machine.{value}
use Rattle.text.proofs.Laws.Places.{done_unique}
use Rattle.text.proofs.Laws.Parts.{spelt_first}
use Rattle.text.proofs.Laws.Starts.{number_first}
use Rattle.text.proofs.Laws.Complete.{reads_done}
use Rattle.text.proofs.Laws.Once.Readings.{Same, Once}

-- what such a value is, by its first byte and its end
unfoldable leaf_of : List ℕ → ℕ → ℕ → Json
leaf_of s i e =
    pick (eqb (get_or s i 0) 34) (string (part s (i + 1) (e - 1)))
    (pick (eqb (get_or s i 0) 102) (bool false)
    (pick (eqb (get_or s i 0) 110) null
    (pick (eqb (get_or s i 0) 116) (bool true) (number (part s i e)))))

number_is : {s w : List ℕ} {i e : ℕ} → Number w → Spelt s w i e → number w ≡ leaf_of s i e
unfolding leaf_of
number_is {s} {w} {i} {e} n q =
    let b = number_first n q in
    let z = b.at.is in
    rw (
      ne_eqb (get_or s i 0) 34 (omega arith),
      ne_eqb (get_or s i 0) 102 (omega arith),
      ne_eqb (get_or s i 0) 110 (omega arith),
      ne_eqb (get_or s i 0) 116 (omega arith),
    )
    (ap number (sym q.is))

pub record Opens (s : List ℕ) (i : ℕ) : Type 0 where
  pub no_list : get_or s i 0 ≡ 91 → ⊥
  pub no_object : get_or s i 0 ≡ 123 → ⊥

leaf_is : {s : List ℕ} {i e : ℕ} {t : Json} → Opens s i → Reads s (a_value t) i e → t ≡ leaf_of s i e
unfolding leaf_of
leaf_is o (a_null p) = rw (spelt_first p).is
leaf_is o (a_true p) = rw (spelt_first p).is
leaf_is o (a_false p) = rw (spelt_first p).is
leaf_is o (a_number p n) = number_is n p
leaf_is {s} {i} {e} o (a_string p) =
    let q = p.past in
    let k : e - 1 ≡ p.close = omega arith in
    rw p.opens.is (ap string (sym p.spelt.is ∙ ap (part s (i + 1)) (sym k)))
leaf_is o (empty_list p w c) = absurd (o.no_list p.is)
leaf_is o (some_list p w r) = absurd (o.no_list p.is)
leaf_is o (empty_object p w c) = absurd (o.no_object p.is)
leaf_is o (some_object p w r) = absurd (o.no_object p.is)

-- a byte other than both opening bytes opens nothing
pub opens_not : {s : List ℕ} {i : ℕ} (b : ℕ) → At s i b → (b ≡ 91 → ⊥) → (b ≡ 123 → ⊥) → Opens s i
opens_not b p n m = record { no_list = λ e. n (sym p.is ∙ e); no_object = λ e. m (sym p.is ∙ e) }

pub number_opens : {s w : List ℕ} {i e : ℕ} → Number w → Spelt s w i e → Opens s i
number_opens n p = let b = number_first n p in opens_not b.first b.at (omega arith) (omega arith)

leaf_once : {s : List ℕ} {i e : ℕ} {t : Json} → Opens s i → depth t ≡ 0 → Reads s (a_value t) i e → Ends s e
    → (u : Json) (f : ℕ) → Reads s (a_value u) i f → Ends s f → depth u ≡ 0 → Same Json t u e f
leaf_once {s} {i} {e} o z r c u f q d y =
    let k = done_unique (value 0 ∷ []) (reads_done 0 r (omega arith) c) (reads_done 0 q (omega arith) d) in
    record { what = leaf_is o r ∙ ap (leaf_of s i) k ∙ sym (leaf_is o q); stop = k }

-- what opens nothing has no level
leaf_flat : {s : List ℕ} {i e : ℕ} {t : Json} → Opens s i → Reads s (a_value t) i e → depth t ≡ 0
unfolding depth
leaf_flat o (a_null p) = refl
leaf_flat o (a_true p) = refl
leaf_flat o (a_false p) = refl
leaf_flat o (a_number p n) = refl
leaf_flat o (a_string p) = refl
leaf_flat o (empty_list p w c) = absurd (o.no_list p.is)
leaf_flat o (some_list p w r) = absurd (o.no_list p.is)
leaf_flat o (empty_object p w c) = absurd (o.no_object p.is)
leaf_flat o (some_object p w r) = absurd (o.no_object p.is)

pub flat_once : {s : List ℕ} {i e : ℕ} {t : Json} → Opens s i → Reads s (a_value t) i e → Ends s e
    → Once s (a_value t) i e
flat_once o r c u f q d = leaf_once o (leaf_flat o r) r c u f q d (leaf_flat o q)
