-- The members in the order's order, from the lists as they lie one behind the other and their rows.
use native.Mathlib.Omega.{arith}
use Rattle.held.proofs.Laws.Parts.{statement_lying, actions_values, resources_values}
use Rattle.refined.proofs.Laws.KeepingStatements.{actions_kept, resources_kept, rows_kept, statement_adds}
use Rattle.refined.proofs.finishing.put_kept_statement.Goals as goal

pub behind_label-a-requires : goal.behind_label-a-requires
behind_label-a-requires c =
    statement_lying (record { thing = c.requires.thing; lies = c.requires.lies })

pub put_kept_list-requires : goal.put_kept_list-requires
put_kept_list-requires c =
    actions_kept c.requires c.behind_label-a.ensures

pub list-l-requires : goal.list-l-requires
list-l-requires c =
    actions_values (record { thing = c.requires.thing; lies = c.requires.lies })
    c.behind_label-a.ensures

pub overflow_add-t : goal.overflow_add-t
overflow_add-t c =
    omega (
      arith,
      (resources_kept c.requires c.behind_label-a.ensures
          c.list-l.ensures).ready.enough,
    )

pub put_kept_list-requires-2 : goal.put_kept_list-requires-2
put_kept_list-requires-2 c =
    resources_kept c.requires c.behind_label-a.ensures c.list-l.ensures

pub list-m-requires : goal.list-m-requires
list-m-requires c =
    resources_values (record { thing = c.requires.thing; lies = c.requires.lies })
    c.behind_label-a.ensures c.list-l.ensures

pub overflow_add-t-2 : goal.overflow_add-t-2
overflow_add-t-2 c =
    omega (
      arith,
      c.ranges,
      c.well_formed,
      (rows_kept c.requires c.behind_label-a.ensures c.list-l.ensures
          c.list-m.ensures).ready.enough,
    )

pub put_kept_condition-requires : goal.put_kept_condition-requires
put_kept_condition-requires c =
    rows_kept c.requires c.behind_label-a.ensures c.list-l.ensures c.list-m.ensures

pub returns : goal.returns
returns c =
    λ y.
    statement_adds y c.behind_label-a.ensures c.list-l.ensures c.list-m.ensures (c.put_head.ensures y.thing y.lies)
    (c.put_kept_list.ensures (actions_kept y c.behind_label-a.ensures)) c.put_bytes.ensures
    (c.put_kept_list-2.ensures (resources_kept y c.behind_label-a.ensures c.list-l.ensures))
    (c.put_kept_condition.ensures (rows_kept y c.behind_label-a.ensures c.list-l.ensures c.list-m.ensures)) c.put.ensures
