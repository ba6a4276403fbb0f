-- Each turn notes the entries of one statement behind those before it.
-- whichever policy lies there
use Rattle.syntax.specs.Policy.{Policy}
use Rattle.held.specs.Held.{held}
use Rattle.held.specs.Lying.{Lies}
use Rattle.rooms.specs.Rooms.{slots, none}
use Rattle.rooms.proofs.Laws.ListingTurns.{StatementsWalk}
use Rattle.rooms.proofs.listing.list_policy.Given as goal

abbrev pub invariant-loop-i : goal.invariant-loop-i
invariant-loop-i l =
    (x : Policy) → Lies l.run 0 (held x) → StatementsWalk (λ y. none (slots y)) x l.run l.run l.initial.dir l.n l.i l.p l.dir l.next
