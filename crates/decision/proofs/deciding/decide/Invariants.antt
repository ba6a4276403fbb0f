-- The first Deny that matches ends the walk. Of the statements passed none is such a Deny, and the first Allow that
-- matches is kept; of a statement's Action entries passed none matches. Whichever policy and request lie in the runs
-- are those decided on.
use Prim.Native.Nat.{◌+◌, ◌-◌}
use Rattle.decision.specs.Matching.{matches}
use Rattle.held.specs.Held.{held_text, held_statement, held, held_request, any_of}
use Rattle.held.specs.Lying.{Lying}
use Rattle.decision.specs.Decision.{decide}
use Rattle.held.proofs.Laws.Coming.{Coming}
use Rattle.decision.proofs.Laws.DecidingOrder.{told, Kept, number}
use Rattle.decision.proofs.deciding.decide.Given as goal

abbrev pub invariant-entries : goal.invariant-entries
invariant-entries l =
    (s : Lying held_statement l.policy l.p) (q : Lying held_request l.request 0)
    → Coming held_text l.policy l.m l.j l.e (any_of (λ x. matches x q.thing.action))
    (any_of (λ x. matches x q.thing.action) s.thing.actions)

abbrev pub decreases-entries : goal.decreases-entries
decreases-entries l = l.m - l.j

abbrev pub invariant-statements : goal.invariant-statements
invariant-statements l =
    Kept l.allowed
    × ((x : Lying held l.policy 0) (q : Lying held_request l.request 0)
    → Coming held_statement l.policy l.n l.i l.p (told (number l.allowed) (l.i + 1) q.thing) (decide x.thing q.thing))

abbrev pub decreases-statements : goal.decreases-statements
decreases-statements l = l.n - l.i
