-- Each turn passes one row behind those before it, whose key none of them has; behind the last the object ends.
use Rattle.syntax.specs.PolicyLayout.{row_of, rows_of}
use Rattle.held.specs.Held.{held_row}
use Rattle.parts.specs.Spoken.{operator_is}
use Rattle.straight.proofs.Laws.Taking.{member_past}
use Rattle.straight.proofs.Laws.Going.{going_less}
use Rattle.straight.proofs.Laws.Lists.{member_passed}
use Rattle.straight.proofs.Laws.Differing.{differing_start, differing_lying}
use Rattle.straight.proofs.Laws.Differing.{differing_new, differing_more, differing_end}
use Rattle.straight.proofs.Laws.Rows.{rows_by, rows_mean}
use Rattle.straight.proofs.rows.rows.Goals as goal

pub loop-h-init : goal.loop-h-init
loop-h-init c =
    differing_start (rows_by (operator_is c.args.o)) c.requires
    (c.opened.ensures.found _ c.in_ok-i.was)

pub has_key-requires : goal.has_key-requires
has_key-requires c =
    differing_lying (rows_by ((operator_is c.args.o))) (c.loop-h.invariant) ((member_passed held_row (row_of ((operator_is c.args.o))) 1
    (member_past held_row 1 c.args.s.now c.loop-h.run c.row.new.run
    c.loop-h.i c.loop-h.past (row_of ((operator_is c.args.o))) c.row.ensures c.in_ok-h.was)))

pub returns-in_default : goal.returns-in_default
returns-in_default c =
    let o = (operator_is c.args.o) in
    let new = differing_new (rows_by o) (c.loop-h.invariant) ((member_passed held_row (row_of ((operator_is c.args.o))) 1
    (member_past held_row 1 c.args.s.now c.loop-h.run c.row.new.run
    c.loop-h.i c.loop-h.past (row_of ((operator_is c.args.o))) c.row.ensures c.in_ok-h.was))) _ c.has_key.ensures
    c.if-has_key.false in
    differing_end (rows_by o) (c.loop-h.invariant) ((member_passed held_row (row_of ((operator_is c.args.o))) 1
    (member_past held_row 1 c.args.s.now c.loop-h.run c.row.new.run
    c.loop-h.i c.loop-h.past (row_of ((operator_is c.args.o))) c.row.ensures c.in_ok-h.was))) new (rows_of o) (rows_mean o)
    (c.closed.ensures.found _ c.in_ok-end.was)

pub loop-h-smaller : goal.loop-h-smaller
loop-h-smaller c =
    going_less (rows_by ((operator_is c.args.o))).frame _ (c.loop-h.invariant).going ((member_passed held_row (row_of ((operator_is c.args.o))) 1
    (member_past held_row 1 c.args.s.now c.loop-h.run c.row.new.run
    c.loop-h.i c.loop-h.past (row_of ((operator_is c.args.o))) c.row.ensures c.in_ok-h.was)))
    (c.parted.ensures.found _ c.in-Some.is)

pub loop-h-preserved : goal.loop-h-preserved
loop-h-preserved c =
    let new = differing_new (rows_by ((operator_is c.args.o))) (c.loop-h.invariant) ((member_passed held_row (row_of ((operator_is c.args.o))) 1
    (member_past held_row 1 c.args.s.now c.loop-h.run c.row.new.run
    c.loop-h.i c.loop-h.past (row_of ((operator_is c.args.o))) c.row.ensures c.in_ok-h.was))) _ c.has_key.ensures
    c.if-has_key.false in
    differing_more (rows_by ((operator_is c.args.o))) (c.loop-h.invariant) ((member_passed held_row (row_of ((operator_is c.args.o))) 1
    (member_past held_row 1 c.args.s.now c.loop-h.run c.row.new.run
    c.loop-h.i c.loop-h.past (row_of ((operator_is c.args.o))) c.row.ensures c.in_ok-h.was))) new
    (c.parted.ensures.found _ c.in-Some.is)
