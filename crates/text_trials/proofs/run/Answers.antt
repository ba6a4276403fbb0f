-- Each line begins past the one before, and lies inside the run.
use Rattle.std.proofs.Common.{sym, arith}
use Rattle.chars.proofs.Laws.Lines.{line_ahead}
use Rattle.text_trials.proofs.run.Goals as goal

pub slice_bounds-answer-count : goal.slice_bounds-answer-count
slice_bounds-answer-count g c =
    (line_ahead c.args.s.now c.loop-end.at _ _ (sym c.in-Some.ensures)).order

pub slice_bounds-answer-start : goal.slice_bounds-answer-start
slice_bounds-answer-start g c =
    (line_ahead c.args.s.now c.loop-end.at _ _ (sym c.in-Some.ensures)).order

pub slice_bounds-answer-end : goal.slice_bounds-answer-end
slice_bounds-answer-end g c =
    (line_ahead c.args.s.now c.loop-end.at _ _ (sym c.in-Some.ensures)).inside

pub loop-end-smaller : goal.loop-end-smaller
loop-end-smaller g c =
    let h = line_ahead c.args.s.now c.loop-end.at _ _ (sym c.in-Some.ensures) in
    omega (arith, h.later, h.next)
