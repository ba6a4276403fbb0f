-- The Resource list lies behind the Action list, the rows behind that; a request's parts lie one behind the other.
use mathlib.Core.Path.{sym, ◌∙◌}
use Rattle.held.proofs.Laws.Parts.{statement_lying, actions_values, resources_lie}
use Rattle.held.proofs.Laws.Parts.{resources_values, rows_lie, statement_rows, request_action, resource_lies}
use Rattle.held.proofs.Laws.Parts.{request_resource, contexts_lie, request_contexts, text_value}
use Rattle.decision.proofs.Laws.DecidingStatement.{behind_resource, behind_rows, like_operating, like_some}
use Rattle.decision.proofs.deciding.failing_behind.Goals as goal

pub behind_label-requires : goal.behind_label-requires
behind_label-requires c = statement_lying c.requires.0

pub list-l-requires : goal.list-l-requires
list-l-requires c =
    actions_values c.requires.0 c.behind_label.ensures

pub past_value-t-requires : goal.past_value-t-requires
past_value-t-requires c = text_value (request_action c.requires.1)

pub some_meets-requires : goal.some_meets-requires
some_meets-requires c = (
  like_operating,
  resources_values c.requires.0 c.behind_label.ensures c.list-l.ensures,
  text_value (request_resource c.requires.1 c.past_value-t.ensures),
)

pub returns-then-not-some_meets : goal.returns-then-not-some_meets
returns-then-not-some_meets c =
    λ x q l m.
    let rs = resources_lie x l c.behind_label.ensures c.list-l.ensures in
    let t = resource_lies q m c.past_value-t.ensures in
    let e = like_some x.resources q.resource c.some_meets.ensures rs t in
    behind_resource x q (sym e ∙ c.if-not-some_meets.true)

pub list-w-requires : goal.list-w-requires
list-w-requires c =
    resources_values c.requires.0 c.behind_label.ensures c.list-l.ensures

pub past_value-contexts-requires : goal.past_value-contexts-requires
past_value-contexts-requires c =
    text_value (request_resource c.requires.1 c.past_value-t.ensures)

pub failing_row-requires : goal.failing_row-requires
failing_row-requires c = (
  statement_rows c.requires.0 c.behind_label.ensures c.list-l.ensures
      c.list-w.ensures,
  request_contexts c.requires.1 c.past_value-t.ensures c.past_value-contexts.ensures,
)

pub returns : goal.returns
returns c =
    λ x q l m.
    let rs = resources_lie x l c.behind_label.ensures c.list-l.ensures in
    let t = resource_lies q m c.past_value-t.ensures in
    let e = like_some x.resources q.resource c.some_meets.ensures rs t in
    let ws = rows_lie x l c.behind_label.ensures c.list-l.ensures
    c.list-w.ensures in
    let cs = contexts_lie q m c.past_value-t.ensures c.past_value-contexts.ensures in
    c.failing_row.ensures x.rows q.context ws cs
    ∙ behind_rows x q (sym e ∙ c.if-not-some_meets.false)
