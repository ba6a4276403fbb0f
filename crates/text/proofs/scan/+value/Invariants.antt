-- The first inner value takes one of the levels left, so `left` falls at each call; the loop's place is always that
-- of an inner value owed.
use Rattle.std.proofs.Common.{◌-◌, length}
use Rattle.text.specs.Reading.{Enters}
use Rattle.text.proofs.scan.+value.Given as goal

abbrev pub decreases-value : goal.decreases-value
decreases-value l = l.left

abbrev pub invariant-loop-n : goal.invariant-loop-n
invariant-loop-n l = Enters l.s l.left l.at l.shape l.i

abbrev pub decreases-loop-n : goal.decreases-loop-n
decreases-loop-n l = length l.s - l.i
