-- Each turn passes one statement, kept in mind where it is the first that holds, and notes what it charges; a Deny that
-- holds ends the walk.
use Rattle.rooms.proofs.Laws.Judging.{Judgings}
use Rattle.rooms.proofs.listing.decide_policy.Given as goal

abbrev pub invariant-loop-i : goal.invariant-loop-i
invariant-loop-i l = Judgings l.run l.request l.initial.dir l.n l.i l.p l.dir l.next l.allowed
