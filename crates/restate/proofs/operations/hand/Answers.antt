-- A small room that took the whole shows the same as a large one.
use mathlib.Core.Path.{ap, ◌∙◌}
use mathlib.Core.List.{List}
use Prim.Native.Nat.{ℕ}
use Rattle.restate.specs.Operations.{handed}
use Rattle.restate.proofs.Laws.Handing.{shows_taken, given_is}
use Rattle.restate.proofs.operations.hand.Goals as goal

pub returns-in-Some : goal.returns-in-Some
returns-in-Some c =
    λ x l. c.given.ensures
    ∙ ap (λ (bs : List ℕ). handed bs c.args.out.now)
    (given_is c.args.out.now (shows_taken c.new-sink.ensures.2 (c.put_policy.ensures x l)) c.written.ensures c.in-Some.is)
