-- Each of the three tests is of the lists as they lie one behind the other.
use native.Mathlib.Omega.{arith}
use Rattle.held.proofs.Laws.Parts.{statement_lying, actions_values, resources_values, rows_lie}
use Rattle.refined.proofs.Laws.KeepingStatements.{actions_enough, resources_enough, rows_ranged}
use Rattle.refined.proofs.Laws.KeepingWhole.{whole_first, whole_second, whole_third}
use Rattle.refined.proofs.finishing.is_whole.Goals as goal

pub behind_label-requires : goal.behind_label-requires
behind_label-requires c =
    statement_lying (record { thing = c.requires.thing; lies = c.requires.lies })

pub list-l-requires : goal.list-l-requires
list-l-requires c =
    actions_values (record { thing = c.requires.thing; lies = c.requires.lies }) c.behind_label.ensures

pub has_some-requires : goal.has_some-requires
has_some-requires c =
    actions_enough c.requires c.behind_label.ensures c.list-l.ensures

pub returns-then-not-has_some : goal.returns-then-not-has_some
returns-then-not-has_some c =
    λ x l. whole_first _ x l c.behind_label.ensures c.list-l.ensures
    c.has_some.ensures c.if-not-has_some.true

pub overflow_add-t : goal.overflow_add-t
overflow_add-t c =
    omega (arith, actions_enough c.requires c.behind_label.ensures c.list-l.ensures)

pub list-m-requires : goal.list-m-requires
list-m-requires c =
    resources_values (record { thing = c.requires.thing; lies = c.requires.lies })
    c.behind_label.ensures c.list-l.ensures

pub has_some-requires-2 : goal.has_some-requires-2
has_some-requires-2 c =
    resources_enough c.requires c.behind_label.ensures c.list-l.ensures c.list-m.ensures

pub returns-then-not-has_some-2 : goal.returns-then-not-has_some-2
returns-then-not-has_some-2 c =
    λ x l. whole_second _ _ x l c.behind_label.ensures c.list-l.ensures
    c.has_some.ensures c.if-not-has_some.false
    c.list-m.ensures c.has_some-2.ensures c.if-not-has_some-2.true

pub overflow_add-t-2 : goal.overflow_add-t-2
overflow_add-t-2 c =
    omega (
      arith,
      resources_enough c.requires c.behind_label.ensures c.list-l.ensures
          c.list-m.ensures,
    )

pub rows_some-requires : goal.rows_some-requires
rows_some-requires c =
    rows_ranged c.requires c.behind_label.ensures c.list-l.ensures
    c.list-m.ensures

pub returns : goal.returns
returns c =
    λ x l. whole_third _ _ x l c.behind_label.ensures c.list-l.ensures
    c.has_some.ensures c.if-not-has_some.false
    c.list-m.ensures c.has_some-2.ensures c.if-not-has_some-2.false
    (c.rows_some.ensures x.rows (rows_lie x l c.behind_label.ensures c.list-l.ensures
    c.list-m.ensures))
