-- The Action list lies behind the Sid, and the request's action at its beginning.
use mathlib.Core.Path.{sym, ◌∙◌}
use Rattle.held.proofs.Laws.Parts.{statement_lying, actions_lie, actions_values, action_lies, request_action, text_value}
use Rattle.decision.proofs.Laws.DecidingStatement.{part_action, part_behind_lem, like_operating, like_some}
use Rattle.decision.proofs.deciding.first_failing.Goals as goal

pub behind_label-a-requires : goal.behind_label-a-requires
behind_label-a-requires c = statement_lying c.requires.0

pub some_meets-requires : goal.some_meets-requires
some_meets-requires c =
    (like_operating, actions_values c.requires.0 c.behind_label-a.ensures, text_value (request_action c.requires.1))

pub returns-then-not-some_meets : goal.returns-then-not-some_meets
returns-then-not-some_meets c =
    λ x q l m.
    let e = like_some x.actions q.action c.some_meets.ensures (actions_lie x l c.behind_label-a.ensures) (action_lies q m) in
    part_action x q (sym e ∙ c.if-not-some_meets.true)

pub returns : goal.returns
returns c =
    λ x q l m.
    let e = like_some x.actions q.action c.some_meets.ensures (actions_lie x l c.behind_label-a.ensures) (action_lies q m) in
    c.failing_behind.ensures x q l m
    ∙ part_behind_lem x q (sym e ∙ c.if-not-some_meets.false)
