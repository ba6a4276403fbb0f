-- Each turn joins one row to the other room's.
use native.Mathlib.Omega.{arith}
use Rattle.rooms.proofs.Laws.WalkingRows.{meeting_start, meeting_now, meeting_fits, meeting_other}
use Rattle.rooms.proofs.Laws.WalkingRows.{meeting_next, meeting_end, part_size, told_many}
use Rattle.rooms.proofs.walking.join_room.Goals as goal

pub loop-note-init : goal.loop-note-init
loop-note-init c =
    λ ss fs l f g.
    meeting_start _ _ l (omega (arith, told_many l, told_many c.requires.roomy.told, c.requires.roomy.enough))
    c.requires.size f g

pub slice_bounds-join_row-end : goal.slice_bounds-join_row-end
slice_bounds-join_row-end c =
    let walk = c.loop-note.invariant c.requires.roomy.slots c.requires.roomy.values c.requires.roomy.told c.requires.fit c.requires.same in
    let now = meeting_now walk c.loop-note-test.true in
    now.room

pub join_row-requires : goal.join_row-requires
join_row-requires c =
    let walk = c.loop-note.invariant c.requires.roomy.slots c.requires.roomy.values c.requires.roomy.told c.requires.fit c.requires.same in
    let now = meeting_now walk c.loop-note-test.true in
    let sizes = walk.other_size in
    record {
      slot = now.slot;
      stands = now.stands;
      fits = meeting_fits walk c.loop-note-test.true;
      other = meeting_other walk c.loop-note-test.true;
      size = part_size _ _ now.room;
      same_size = part_size c.loop-note.a c.args.other.now (omega (arith, now.room, sizes));
    }

pub loop-note-preserved : goal.loop-note-preserved
loop-note-preserved c =
    λ ss fs l f g.
    let w = c.loop-note.invariant ss fs l f g in
    let y = meeting_now w c.loop-note-test.true in
    meeting_next w c.loop-note-test.true c.join_row.new.row c.join_row.auto.row
    (c.join_row.ensures y.slot y.stands (meeting_fits w c.loop-note-test.true) (meeting_other w c.loop-note-test.true))

pub shape_of-room : goal.shape_of-room
shape_of-room c =
    let walk = c.loop-note.invariant c.requires.roomy.slots c.requires.roomy.values c.requires.roomy.told c.requires.fit c.requires.same in
    let size = walk.size in
    size

pub returns : goal.returns
returns c =
    λ ss fs l f g. meeting_end (c.loop-note.invariant ss fs l f g) c.loop-note-test.false
