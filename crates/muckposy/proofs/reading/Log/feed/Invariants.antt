-- Each line begins past the one before; the log is under the same policy.
use Rattle.std.proofs.Common.{◌≡◌, ◌-◌, length}
use Rattle.muckposy.proofs.reading.Log.feed.Given as goal

abbrev pub decreases-loop-end : goal.decreases-loop-end
decreases-loop-end g l = length l.piece - l.at

abbrev pub invariant-loop-end : goal.invariant-loop-end
invariant-loop-end g l = l.self.feeder.0 ≡ l.initial.self.feeder.0
