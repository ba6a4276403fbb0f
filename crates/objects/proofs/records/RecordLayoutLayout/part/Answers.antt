-- Each turn has its own reader.
use native.Mathlib.Omega.{arith}
use Rattle.objects.proofs.Laws.Records.{last_turn, action_part, resource_part, contexts_part}
use Rattle.objects.specs.Records.{records}
use Rattle.objects.proofs.Laws.Gathering.{part_is}
use Rattle.objects.proofs.records.RecordLayoutLayout.part.Goals as goal

pub returns-then-turn-eq1 : goal.returns-then-turn-eq1
returns-then-turn-eq1 c =
    part_is records c.args.s.now c.args.run.now c.action.new.run c.args.v c.args.at c.if-turn-eq1.true c.laid.ensures
    (action_part c.args.s.now c.args.run.now c.action.new.run c.args.v c.args.at c.in_ok-action.field-0 (omega (arith, c.requires.0.room)) c.in_ok-action.ensures)

pub returns-then-turn-eq2 : goal.returns-then-turn-eq2
returns-then-turn-eq2 c =
    part_is records c.args.s.now c.args.run.now c.resource.new.run c.args.v c.args.at c.if-turn-eq2.true c.laid-then-turn-eq2.ensures
    (resource_part c.args.s.now c.args.run.now c.resource.new.run c.args.v c.args.at c.in_ok-resource.field-0 (omega (arith, c.requires.0.room)) c.in_ok-resource.ensures)

pub returns : goal.returns
returns c =
    part_is records c.args.s.now c.args.run.now c.contexts.new.run c.args.v c.args.at
    (last_turn c.args.turn c.requires.1 c.if-turn-eq1.false c.if-turn-eq2.false) c.laid-2.ensures
    (contexts_part c.args.s.now c.args.run.now c.contexts.new.run c.args.v c.args.at c.in_ok-contexts.field-0 (omega (arith, c.requires.0.room)) c.in_ok-contexts.ensures)
