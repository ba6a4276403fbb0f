-- Each line begins past the one before, and lies inside the piece.
use Rattle.std.proofs.Common.{sym, arith}
use Rattle.chars.proofs.Laws.Lines.{line_ahead}
use Rattle.muckposy.proofs.reading.Log.feed.Goals as goal

pub slice_bounds-keep-count : goal.slice_bounds-keep-count
slice_bounds-keep-count g c =
    (line_ahead c.args.piece.now c.loop-end.at _ _ (sym c.in-Some.ensures)).order

pub slice_bounds-keep-start : goal.slice_bounds-keep-start
slice_bounds-keep-start g c =
    (line_ahead c.args.piece.now c.loop-end.at _ _ (sym c.in-Some.ensures)).order

pub slice_bounds-keep-end : goal.slice_bounds-keep-end
slice_bounds-keep-end g c =
    (line_ahead c.args.piece.now c.loop-end.at _ _ (sym c.in-Some.ensures)).inside

pub slice_bounds-end_line-count : goal.slice_bounds-end_line-count
slice_bounds-end_line-count g c =
    (line_ahead c.args.piece.now c.loop-end.at _ _ (sym c.in-Some.ensures)).order

pub slice_bounds-end_line-start : goal.slice_bounds-end_line-start
slice_bounds-end_line-start g c =
    (line_ahead c.args.piece.now c.loop-end.at _ _ (sym c.in-Some.ensures)).order

pub slice_bounds-end_line-end : goal.slice_bounds-end_line-end
slice_bounds-end_line-end g c =
    (line_ahead c.args.piece.now c.loop-end.at _ _ (sym c.in-Some.ensures)).inside

pub loop-end-smaller : goal.loop-end-smaller
loop-end-smaller g c =
    let h = line_ahead c.args.piece.now c.loop-end.at _ _ (sym c.in-Some.ensures) in
    omega (arith, h.later, h.next)
