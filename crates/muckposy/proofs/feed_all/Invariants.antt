-- The log stays under the same policy.
use Rattle.std.proofs.Common.{◌≡◌}
use Rattle.muckposy.proofs.feed_all.Given as goal

abbrev pub invariant-loop : goal.invariant-loop
invariant-loop g l = l.log.feeder.0 ≡ l.initial.log.feeder.0
