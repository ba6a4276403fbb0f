-- Each turn has its own reader.
use native.Mathlib.Omega.{arith}
use Rattle.objects.proofs.Laws.Contexts.{last_turn, key_part, value_part, type_part}
use Rattle.objects.specs.Contexts.{contexts}
use Rattle.objects.proofs.Laws.Gathering.{part_is}
use Rattle.objects.proofs.contexts.ContextLayoutLayout.part.Goals as goal

pub returns-then-turn-eq1 : goal.returns-then-turn-eq1
returns-then-turn-eq1 c =
    part_is contexts c.args.s.now c.args.run.now c.key_name.new.run c.args.v c.args.at c.if-turn-eq1.true c.laid.ensures
    (key_part c.args.s.now c.args.run.now c.key_name.new.run c.args.v c.args.at c.in_ok-key_name.field-0 (omega (arith, c.requires.0.room)) c.in_ok-key_name.ensures)

pub returns-then-turn-eq2 : goal.returns-then-turn-eq2
returns-then-turn-eq2 c =
    part_is contexts c.args.s.now c.args.run.now c.sole.new.run c.args.v c.args.at c.if-turn-eq2.true c.laid-then-turn-eq2.ensures
    (value_part c.args.s.now c.args.run.now c.sole.new.run c.args.v c.args.at c.in_ok-sole.field-0 (omega (arith, c.requires.0.room)) c.in_ok-sole.ensures)

pub returns : goal.returns
returns c =
    part_is contexts c.args.s.now c.args.run.now c.args.run.now c.args.v c.args.at
    (last_turn c.args.turn c.requires.1 c.if-turn-eq1.false c.if-turn-eq2.false) c.told.ensures
    (type_part c.args.s.now c.args.run.now c.args.v c.args.at c.in_ok-type_at.field-0 (omega (arith, c.requires.0.room)) c.in_ok-type_at.ensures)
