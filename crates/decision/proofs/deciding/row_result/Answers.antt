-- The key is looked for first, then the value's type and then the entries.
use mathlib.Core.Path.{refl, sym, ◌∙◌}
use mathlib.Core.Bool.{true, false}
use native.Mathlib.Omega.{arith}
use Rattle.held.proofs.Laws.Parts.{context_lying, row_inside, row_operator, row_key_lies, entries_lie, row_lying}
use Rattle.held.proofs.Laws.Parts.{row_key_lying, row_operating, entries_lying}
use Rattle.decision.specs.Decision.{value_at, row_result}
use Rattle.decision.proofs.Laws.DecidingRows.{something, found_lying}
use Rattle.decision.proofs.Laws.DecidingRows.{found_type, found_inside, found_lies, found_value_lying}
use Rattle.decision.proofs.Laws.DecidingRows.{result_missing, result_other, result_by}
use Rattle.decision.proofs.deciding.row_result.Goals as goal

pub overflow_add-p : goal.overflow_add-p
overflow_add-p c =
    omega (arith, row_inside c.requires.0.thing c.requires.0.lies, c.requires.0.lies.bounded)

pub key_place-requires : goal.key_place-requires
key_place-requires c =
    (row_key_lying c.requires.0, c.requires.1)

pub returns-in_default : goal.returns-in_default
unfolding row_result
returns-in_default c =
    λ x cs l m.
    let z = c.key_place.ensures x.key cs (row_key_lies x l) m in
    result_missing x cs (value_at x.key cs) refl _ z c.in_default.is

pub bounds-policy-p : goal.bounds-policy-p
bounds-policy-p c =
    row_inside c.requires.0.thing c.requires.0.lies

pub offset_bounds-request-c : goal.offset_bounds-request-c
offset_bounds-request-c c =
    let l = row_key_lies c.requires.0.thing c.requires.0.lies in
    let z = c.key_place.ensures c.requires.0.thing.key c.requires.1.thing l c.requires.1.lies in
    let s = something (value_at c.requires.0.thing.key c.requires.1.thing) z c.in-Some.is in
    omega (arith, found_inside s, s.finds.lies.bounded)

pub bounds-request-c : goal.bounds-request-c
bounds-request-c c =
    let l = row_key_lies c.requires.0.thing c.requires.0.lies in
    let z = c.key_place.ensures c.requires.0.thing.key c.requires.1.thing l c.requires.1.lies in
    let s = something (value_at c.requires.0.thing.key c.requires.1.thing) z c.in-Some.is in
    found_inside s

pub returns-then-not-typed : goal.returns-then-not-typed
unfolding row_result
returns-then-not-typed c =
    λ x cs l m.
    let z = c.key_place.ensures x.key cs (row_key_lies x l) m in
    let s = something (value_at x.key cs) z c.in-Some.is in
    let t = c.typed.ensures x.operator s.value (row_operator x l) (found_type s) in
    result_other x cs (value_at x.key cs) refl s.value s.is
    (sym t ∙ c.if-not-typed.true)

pub behind_label-l-requires : goal.behind_label-l-requires
behind_label-l-requires c =
    row_lying c.requires.0

pub behind_label-v-requires : goal.behind_label-v-requires
behind_label-v-requires c =
    let l = row_key_lies c.requires.0.thing c.requires.0.lies in
    let z = c.key_place.ensures c.requires.0.thing.key c.requires.1.thing l c.requires.1.lies in
    let s = something (value_at c.requires.0.thing.key c.requires.1.thing) z c.in-Some.is in
    context_lying (found_lying s)

pub some_meets-requires : goal.some_meets-requires
some_meets-requires c =
    let l = row_key_lies c.requires.0.thing c.requires.0.lies in
    let z = c.key_place.ensures c.requires.0.thing.key c.requires.1.thing l c.requires.1.lies in
    let s = something (value_at c.requires.0.thing.key c.requires.1.thing) z c.in-Some.is in (
      row_operating c.requires.0,
      entries_lying c.requires.0 c.behind_label-l.ensures,
      found_value_lying s c.behind_label-v.ensures,
    )

pub returns-then-some_meets : goal.returns-then-some_meets
unfolding row_result
returns-then-some_meets c =
    λ x cs l m.
    let z = c.key_place.ensures x.key cs (row_key_lies x l) m in
    let s = something (value_at x.key cs) z c.in-Some.is in
    let t = c.typed.ensures x.operator s.value (row_operator x l) (found_type s) in
    let es = entries_lie x l c.behind_label-l.ensures in
    let vs = found_lies s c.behind_label-v.ensures in
    let u = c.some_meets.ensures x.operator x.entries s.value (row_operator x l) es vs in
    result_by x cs (value_at x.key cs) refl s.value s.is true
    (sym t ∙ c.if-not-typed.false) (sym u ∙ c.if-some_meets.true)

pub returns-else-some_meets : goal.returns-else-some_meets
unfolding row_result
returns-else-some_meets c =
    λ x cs l m.
    let z = c.key_place.ensures x.key cs (row_key_lies x l) m in
    let s = something (value_at x.key cs) z c.in-Some.is in
    let t = c.typed.ensures x.operator s.value (row_operator x l) (found_type s) in
    let es = entries_lie x l c.behind_label-l.ensures in
    let vs = found_lies s c.behind_label-v.ensures in
    let u = c.some_meets.ensures x.operator x.entries s.value (row_operator x l) es vs in
    result_by x cs (value_at x.key cs) refl s.value s.is false
    (sym t ∙ c.if-not-typed.false) (sym u ∙ c.if-some_meets.false)
