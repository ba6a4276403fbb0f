-- Each turn tests one row; behind the last, all is zero.
use mathlib.Core.Path.{sym, ◌∙◌}
use native.Mathlib.Omega.{arith}
use Rattle.candidates.proofs.Laws.FittingWild.{part_zero}
use Rattle.rooms.proofs.Laws.WalkingRows.{testing_start, testing_now, testing_not, testing_next}
use Rattle.rooms.proofs.Laws.WalkingRows.{testing_end, part_size, told_many}
use Rattle.rooms.proofs.walking.fits_room.Goals as goal

pub loop-note-init : goal.loop-note-init
loop-note-init c =
    λ ss fs l. testing_start _ l (omega (arith, told_many l, told_many c.requires.told, c.requires.enough))

pub slice_bounds-fits_row-end : goal.slice_bounds-fits_row-end
slice_bounds-fits_row-end c =
    let walk = c.loop-note.invariant c.requires.slots c.requires.values c.requires.told in
    let now = testing_now _ walk c.loop-note-test.true in
    now.room

pub fits_row-requires : goal.fits_row-requires
fits_row-requires c =
    let walk = c.loop-note.invariant c.requires.slots c.requires.values c.requires.told in
    let now = testing_now _ walk c.loop-note-test.true in
    (record { slot = now.slot; stands = now.stands }, part_size _ _ now.room)

pub returns-then-not-fits_row : goal.returns-then-not-fits_row
returns-then-not-fits_row c =
    λ ss fs l.
    let w = c.loop-note.invariant ss fs l in
    let now = testing_now _ w c.loop-note-test.true in
    testing_not _ w c.loop-note-test.true (sym (c.fits_row.ensures now.slot now.stands) ∙ c.if-not-fits_row.true)

pub loop-note-preserved : goal.loop-note-preserved
loop-note-preserved c =
    λ ss fs l.
    let w = c.loop-note.invariant ss fs l in
    let now = testing_now _ w c.loop-note-test.true in
    testing_next _ w c.loop-note-test.true (sym (c.fits_row.ensures now.slot now.stands) ∙ c.if-not-fits_row.false)

pub returns : goal.returns
returns c =
    λ ss fs l.
    let w = c.loop-note.invariant ss fs l in
    c.is_zero.ensures ∙ part_zero c.args.room.now _ ∙ testing_end _ w c.loop-note-test.false
