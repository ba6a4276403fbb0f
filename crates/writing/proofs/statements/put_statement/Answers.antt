-- The members in the order's order, from the lists as they lie one behind the other.
use mathlib.Core.List.{map}
use Rattle.syntax.specs.Policy.{text}
use Rattle.held.proofs.Laws.Parts.{statement_lying, texts_values, actions_lie, actions_values, resources_lie}
use Rattle.held.proofs.Laws.Parts.{resources_values, rows_lie, statement_rows}
use Rattle.writing.specs.Bytes.{statement_bytes}
use Rattle.writing.proofs.Laws.Showing.{adds_as, adds_then}
use Rattle.writing.proofs.Laws.Pieces.{head_before}
use Rattle.writing.proofs.statements.put_statement.Goals as goal

pub behind_label-a-requires : goal.behind_label-a-requires
behind_label-a-requires c = statement_lying c.requires

pub put_list-requires : goal.put_list-requires
put_list-requires c =
    actions_values c.requires c.behind_label-a.ensures

pub list-b-requires : goal.list-b-requires
list-b-requires c =
    actions_values c.requires c.behind_label-a.ensures

pub put_list-requires-2 : goal.put_list-requires-2
put_list-requires-2 c =
    resources_values c.requires c.behind_label-a.ensures c.list-b.ensures

pub list-c-requires : goal.list-c-requires
list-c-requires c =
    resources_values c.requires c.behind_label-a.ensures c.list-b.ensures

pub put_condition-requires : goal.put_condition-requires
put_condition-requires c =
    statement_rows c.requires c.behind_label-a.ensures c.list-b.ensures
    c.list-c.ensures

pub returns : goal.returns
unfolding statement_bytes
returns c =
    λ x l.
    let actions = texts_values x.actions (actions_lie x l c.behind_label-a.ensures) in
    let resources = texts_values x.resources (resources_lie x l c.behind_label-a.ensures c.list-b.ensures) in
    adds_as (head_before x _) (adds_then (c.put_head.ensures x l)
    (adds_then (c.put_list.ensures (map text x.actions) actions)
    (adds_then c.put_bytes.ensures
    (adds_then (c.put_list-2.ensures (map text x.resources) resources)
    (adds_then (c.put_condition.ensures x.rows (rows_lie x l c.behind_label-a.ensures c.list-b.ensures c.list-c.ensures))
    c.put.ensures)))))
