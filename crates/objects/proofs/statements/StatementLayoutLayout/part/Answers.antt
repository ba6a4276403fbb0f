-- Each turn has its own reader.
use native.Mathlib.Omega.{arith}
use Rattle.objects.proofs.Laws.Statements.{sid_part, action_part, resource_part, condition_part, last_turn, effect_part}
use Rattle.objects.specs.Statements.{statements}
use Rattle.objects.proofs.Laws.Gathering.{part_is}
use Rattle.objects.proofs.statements.StatementLayoutLayout.part.Goals as goal

pub returns-then-turn-eq1 : goal.returns-then-turn-eq1
returns-then-turn-eq1 c =
    part_is statements c.args.s.now c.args.run.now c.sid.new.run c.args.v c.args.at c.if-turn-eq1.true c.laid.ensures
    (sid_part c.args.s.now c.args.run.now c.sid.new.run c.args.v c.args.at c.in_ok-sid.field-0 (omega (arith, c.requires.0.room)) c.in_ok-sid.ensures)

pub returns-then-turn-eq2 : goal.returns-then-turn-eq2
returns-then-turn-eq2 c =
    part_is statements c.args.s.now c.args.run.now c.entries.new.run c.args.v c.args.at c.if-turn-eq2.true c.laid-then-turn-eq2.ensures
    (action_part c.args.s.now c.args.run.now c.entries.new.run c.args.v c.args.at c.in_ok-entries.field-0 (omega (arith, c.requires.0.room)) c.in_ok-entries.ensures)

pub returns-then-turn-eq3 : goal.returns-then-turn-eq3
returns-then-turn-eq3 c =
    part_is statements c.args.s.now c.args.run.now c.entries-then-turn-eq3.new.run c.args.v c.args.at c.if-turn-eq3.true c.laid-then-turn-eq3.ensures
    (resource_part c.args.s.now c.args.run.now c.entries-then-turn-eq3.new.run c.args.v c.args.at c.in_ok-entries-2.field-0 (omega (arith, c.requires.0.room)) c.in_ok-entries-2.ensures)

pub returns-then-turn-eq4 : goal.returns-then-turn-eq4
returns-then-turn-eq4 c =
    part_is statements c.args.s.now c.args.run.now c.condition.new.run c.args.v c.args.at c.if-turn-eq4.true c.laid-then-turn-eq4.ensures
    (condition_part c.args.s.now c.args.run.now c.condition.new.run c.args.v c.args.at c.in_ok-condition.field-0 (omega (arith, c.requires.0.room)) c.in_ok-condition.ensures)

pub returns : goal.returns
returns c =
    part_is statements c.args.s.now c.args.run.now c.args.run.now c.args.v c.args.at
    (last_turn c.args.turn c.requires.1 c.if-turn-eq1.false c.if-turn-eq2.false c.if-turn-eq3.false c.if-turn-eq4.false) c.told.ensures
    (effect_part c.args.s.now c.args.run.now c.args.v c.args.at c.in_ok-effect_at.field-0 (omega (arith, c.requires.0.room)) c.in_ok-effect_at.ensures)
