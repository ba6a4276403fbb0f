-- Each turn passes one operator and its rows; it is marked, so that none comes twice.
use native.Mathlib.Omega.{arith}
use Rattle.syntax.specs.PolicyLayout.{rows_of}
use Rattle.held.specs.Held.{held_row}
use Rattle.parts.specs.Spoken.{operator_is}
use Rattle.straight.proofs.Laws.Reads.{reads_inside}
use Rattle.straight.proofs.Laws.Taking.{several_past}
use Rattle.straight.proofs.Laws.Conditions.{names_by, rising_start}
use Rattle.straight.proofs.Laws.Conditions.{rising_less, rising_more, rising_end}
use Rattle.straight.proofs.rows.condition.Goals as goal

pub loop-operator-init : goal.loop-operator-init
loop-operator-init c =
    rising_start c.requires (c.opened.ensures.found _ c.in_ok-i.was)

pub parted-requires : goal.parted-requires
parted-requires c = reads_inside ((several_past held_row 2 c.args.s.now c.loop-operator.run c.rows.new.run
    c.in_ok-operator.field-0.value c.loop-operator.past (rows_of ((operator_is c.in_ok-operator.field-0.operator))) c.rows.ensures c.in_ok-h.was)).reads

pub closed-requires : goal.closed-requires
closed-requires c = reads_inside ((several_past held_row 2 c.args.s.now c.loop-operator.run c.rows.new.run
    c.in_ok-operator.field-0.value c.loop-operator.past (rows_of ((operator_is c.in_ok-operator.field-0.operator))) c.rows.ensures c.in_ok-h.was)).reads

pub returns-in_default : goal.returns-in_default
returns-in_default c =
    rising_end (c.loop-operator.invariant) ((operator_is c.in_ok-operator.field-0.operator)) ((names_by c.args.s.now c.loop-operator.i c.operator_at.ensures
    c.in_ok-operator.was)) ((several_past held_row 2 c.args.s.now c.loop-operator.run c.rows.new.run
    c.in_ok-operator.field-0.value c.loop-operator.past (rows_of ((operator_is c.in_ok-operator.field-0.operator))) c.rows.ensures c.in_ok-h.was))
    c.number-k.ensures c.if-seen-k.false
    (c.closed.ensures.found _ c.in_ok-end.was)

pub loop-operator-smaller : goal.loop-operator-smaller
loop-operator-smaller c =
    rising_less (c.loop-operator.invariant) ((operator_is c.in_ok-operator.field-0.operator)) ((names_by c.args.s.now c.loop-operator.i c.operator_at.ensures
    c.in_ok-operator.was)) ((several_past held_row 2 c.args.s.now c.loop-operator.run c.rows.new.run
    c.in_ok-operator.field-0.value c.loop-operator.past (rows_of ((operator_is c.in_ok-operator.field-0.operator))) c.rows.ensures c.in_ok-h.was))
    (c.parted.ensures.found _ c.in-Some.is)

pub loop-operator-preserved : goal.loop-operator-preserved
loop-operator-preserved c =
    rising_more (c.loop-operator.invariant) ((operator_is c.in_ok-operator.field-0.operator)) ((names_by c.args.s.now c.loop-operator.i c.operator_at.ensures
    c.in_ok-operator.was)) ((several_past held_row 2 c.args.s.now c.loop-operator.run c.rows.new.run
    c.in_ok-operator.field-0.value c.loop-operator.past (rows_of ((operator_is c.in_ok-operator.field-0.operator))) c.rows.ensures c.in_ok-h.was))
    c.number-k.ensures c.if-seen-k.false
    (omega (arith, (c.loop-operator.invariant).few, c.if-count-h.false)) (c.parted.ensures.found _ c.in-Some.is)
