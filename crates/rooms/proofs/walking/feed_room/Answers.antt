-- Each turn charges one row; the others stay.
use native.Mathlib.Omega.{arith}
use Rattle.rooms.proofs.Laws.WalkingRows.{feeding_start, feeding_now, feeding_right, feeding_fits}
use Rattle.rooms.proofs.Laws.WalkingRows.{feeding_next, feeding_end, part_size, told_many}
use Rattle.rooms.proofs.walking.feed_room.Goals as goal

pub loop-note-init : goal.loop-note-init
loop-note-init c =
    λ ss fs l r f.
    feeding_start _ l (omega (arith, told_many l, told_many c.requires.roomy.told, c.requires.roomy.enough)) r f

pub slice_bounds-feed_row-end : goal.slice_bounds-feed_row-end
slice_bounds-feed_row-end c =
    let walk = c.loop-note.invariant c.requires.roomy.slots c.requires.roomy.values c.requires.roomy.told c.requires.right c.requires.fit
    in
    let now = feeding_now walk c.loop-note-test.true in
    now.room

pub feed_row-requires : goal.feed_row-requires
feed_row-requires c =
    let walk = c.loop-note.invariant c.requires.roomy.slots c.requires.roomy.values c.requires.roomy.told c.requires.right c.requires.fit
    in
    let now = feeding_now walk c.loop-note-test.true in
    record {
      slot = now.slot;
      stands = now.stands;
      value = now.value;
      valued = now.valued;
      right = feeding_right walk c.loop-note-test.true;
      fits = feeding_fits walk c.loop-note-test.true;
      size = part_size _ _ now.room;
    }

pub loop-note-preserved : goal.loop-note-preserved
loop-note-preserved c =
    λ ss fs l r f.
    let w = c.loop-note.invariant ss fs l r f in
    let y = feeding_now w c.loop-note-test.true in
    feeding_next w c.loop-note-test.true c.feed_row.new.row c.feed_row.auto.row
    (c.feed_row.ensures y.slot y.value y.stands y.valued (feeding_right w c.loop-note-test.true)
    (feeding_fits w c.loop-note-test.true))

pub shape_of-room : goal.shape_of-room
shape_of-room c =
    let walk = c.loop-note.invariant c.requires.roomy.slots c.requires.roomy.values c.requires.roomy.told c.requires.right c.requires.fit in
    let size = walk.size in
    size

pub returns : goal.returns
returns c =
    λ ss fs l r f. feeding_end (c.loop-note.invariant ss fs l r f) c.loop-note-test.false
