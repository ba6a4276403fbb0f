-- `front` opens a level for members, members ask `front` for values of as many levels as they were given: twice the
-- levels, and one more for members, falls. At each turn a member is due, if a name stands there; else what was read is told.
use Rattle.std.proofs.Common.{◌+◌, ◌-◌, ◌*◌, length}
use Rattle.text.specs.declared.scan.Shape.TheVariants.{Object}
use Rattle.text.proofs.Laws.Quick.{Strung}
use Rattle.text.proofs.quick.+front_members_of.Given as goal

abbrev pub decreases-front : goal.decreases-front
decreases-front l = 2 * l.left

abbrev pub decreases-members_of : goal.decreases-members_of
decreases-members_of l = 2 * l.left + 1

abbrev pub invariant-members_of-loop-v : goal.invariant-members_of-loop-v
invariant-members_of-loop-v l = Strung l.s Object l.left l.at l.i l.read

abbrev pub decreases-members_of-loop-v : goal.decreases-members_of-loop-v
decreases-members_of-loop-v l = length l.s - l.i
