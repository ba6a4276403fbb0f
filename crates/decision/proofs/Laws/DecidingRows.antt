-- Rows of a policy, and what they come to for the context entries of a request.
use mathlib.Core.Path.{◌≡◌, refl, sym, ap, ◌∙◌, subst}
use mathlib.Core.Bool.{Bool, true, false}
use mathlib.Core.List.{List, [], ◌∷◌}
use Prim.Native.Nat.{ℕ, suc, ◌+◌, ◌<◌}
use native.Mathlib.Numerals.{add-one}
use lib.ListN.{length, get_or}
use Rattle.chars.specs.Base.{pick}
use Rattle.syntax.specs.Policy.{Value, Row, Context}
use Rattle.held.specs.Held.{held_value, held_context}
use Rattle.held.specs.Held.{type_number, any_of}
use Rattle.held.specs.Lying.{Lies, Lying}
use Rattle.held.proofs.Laws.Parts.{BehindLabel, value_lies}
use Rattle.decision.specs.Decision.{Result, holds, fails, no_entry, other_type, Found, nothing, found}
use Rattle.decision.specs.Decision.{typed, meets, result_with, row_result, Part, behind_row, rows_from}
use Rattle.decision.specs.Deciding.{FindsAt, Finds}
use Rattle.decision.specs.Deciding.{told_why, told_result, told_part}
use Rattle.decision.specs.declared.deciding.Why as declared
use Rattle.decision.specs.declared.deciding.Why.TheVariants.{Missing, OtherType}
use Rattle.std.proofs.Common.{Option, Some, None}
use Rattle.decision.specs.declared.deciding.Failing.TheVariants as F
use Rattle.held.proofs.Laws.Runs.{lies_first, lies_inside}

abbrev W : Type 0
W = declared.Why

-- ---- what was found

pub record Something (run : List ℕ) (r : ℕ) (f : Found) : Type 0 where
  pub value : Value
  pub is : f ≡ found value
  pub finds : FindsAt run r value

pub something : {run : List ℕ} {r : Option ℕ} {p : ℕ} (f : Found) → Finds run r f → r ≡ Some p → Something run p f
something {p = p} nothing e h = let z : ◌≡◌ {A = Option ℕ} None (Some p) = sym e ∙ h in cc
something {run} {p = p} (found v) (q, e, y) h =
    let z : q ≡ p = cc in
    record { value = v; is = refl; finds = subst (λ (k : ℕ). FindsAt run k v) z y }

module _ {run : List ℕ} {r : ℕ} {f : Found} (s : Something run r f) where
  pub found_lying : Lying held_context run r
  found_lying = record { thing = s.finds.context; lies = s.finds.lies }

  pub found_type : get_or run r 0 ≡ type_number s.value
  unfolding held_context
  found_type = lies_first s.finds.lies ∙ ap type_number s.finds.is

  pub found_inside : r < length run
  unfolding held_context
  found_inside = lies_inside s.finds.lies

  pub found_lies : {v : ℕ} → BehindLabel run r v → Lies run v (held_value s.value)
  found_lies {v} far =
      subst (λ (z : Value). Lies run v (held_value z)) s.finds.is
      (value_lies s.finds.context s.finds.lies far)

  pub found_value_lying : {v : ℕ} → BehindLabel run r v → Lying held_value run v
  found_value_lying far = record { thing = s.value; lies = found_lies far }

-- ---- what a row comes to

none_found :
    (x : Row) (run : List ℕ) {r : Option ℕ} (f : Found) → Finds run r f → r ≡ None
    → Some Missing ≡ told_result (result_with x f)
none_found x run nothing e h = refl
none_found x run (found v) (q, e, y) h = let z : ◌≡◌ {A = Option ℕ} None (Some q) = sym h ∙ e in cc

module _ (x : Row) (cs : List Context) (f : Found) (e : row_result x cs ≡ result_with x f) where
  pub result_missing : (run : List ℕ) {r : Option ℕ} → Finds run r f → r ≡ None
      → Some Missing ≡ told_result (row_result x cs)
  result_missing run z h = none_found x run f z h ∙ ap told_result (sym e)

  module _ (v : Value) (is : f ≡ found v) where
    abbrev some : Bool
    some = any_of (λ y. meets x.operator y v) x.entries

    told : row_result x cs ≡ pick (typed x.operator v) (pick some holds (fails no_entry)) (fails other_type)
    told = e ∙ ap (result_with x) is

    pub result_other : typed x.operator v ≡ false → Some OtherType ≡ told_result (row_result x cs)
    result_other t =
        ap told_result
        (sym (told ∙ ap (λ (b : Bool). pick b (pick some holds (fails no_entry)) (fails other_type)) t))

    pub result_by :
        (b : Bool) → typed x.operator v ≡ true → some ≡ b
        → told_result (pick b holds (fails no_entry)) ≡ told_result (row_result x cs)
    result_by b t u =
        ap told_result
        (sym (told ∙ ap (λ (c : Bool). pick c (pick some holds (fails no_entry)) (fails other_type)) t
        ∙ ap (λ (c : Bool). pick c holds (fails no_entry)) u))

-- ---- the first that does not hold

module _ (k : ℕ) (rest : Part) where
  row_stops :
      (x : Result) {r : Option W} {why : W} → r ≡ told_result x → r ≡ Some why
      → Some (F.Row k why) ≡ told_part (behind_row k x rest)
  row_stops holds {why = why} e h = let z : ◌≡◌ {A = Option W} None (Some why) = sym e ∙ h in cc
  row_stops (fails w) {why = why} e h = let z : why ≡ told_why w = cc in ap (λ (v : W). Some (F.Row k v)) z

  row_goes_on : (x : Result) {r : Option W} → r ≡ told_result x → r ≡ None → behind_row k x rest ≡ rest
  row_goes_on holds e h = refl
  row_goes_on (fails w) e h = let z : ◌≡◌ {A = Option W} None (Some (told_why w)) = sym h ∙ e in cc

module _ (k : ℕ) (x : Row) (xs : List Row) (cs : List Context) {r : Option W} (e : r ≡ told_result (row_result x cs)) where
  pub row_fails : {why : W} → r ≡ Some why → Some (F.Row k why) ≡ told_part (rows_from k (x ∷ xs) cs)
  unfolding rows_from
  row_fails h = row_stops k (rows_from (suc k) xs cs) (row_result x cs) e h

  pub row_passed : r ≡ None → rows_from k (x ∷ xs) cs ≡ rows_from (k + 1) xs cs
  unfolding rows_from
  row_passed h =
      row_goes_on k (rows_from (suc k) xs cs) (row_result x cs) e h
      ∙ ap (λ (n : ℕ). rows_from n xs cs) (sym (add-one k))

pub rows_over_lem : (k : ℕ) (cs : List Context) → None ≡ told_part (rows_from k [] cs)
unfolding rows_from
rows_over_lem k cs = refl
