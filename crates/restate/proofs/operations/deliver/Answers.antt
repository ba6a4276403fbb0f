-- What the sink gives is a whole result; or it was too much.
use mathlib.Core.Path.{ap, ◌∙◌}
use mathlib.Core.List.{List}
use Prim.Native.Nat.{ℕ}
use native.Mathlib.Omega.{arith}
use Rattle.restate.specs.Operations.{handed}
use Rattle.restate.proofs.Laws.Handing.{hand_long, given_is, given_fits}
use Rattle.restate.proofs.operations.deliver.Goals as goal

pub given-requires : goal.given-requires
given-requires c = omega (arith, given_fits c.written.ensures c.in-Some.is, c.requires)

pub returns-in-Some : goal.returns-in-Some
returns-in-Some c =
    λ ws s. c.given.ensures
    ∙ ap (λ (l : List ℕ). handed l c.args.out.now) (given_is c.args.out.now s c.written.ensures c.in-Some.is)

pub returns-in-None : goal.returns-in-None
returns-in-None c = λ ws s. hand_long c.args.out.now s c.written.ensures c.requires c.in-None.is
