-- The run has N numbers.
use native.Mathlib.Omega.{arith}
use borrow.Author.Rules.{rules}
use Rattle.policy.proofs.Laws.Lending.{lends}
use Rattle.policy.proofs.reading.lend.Goals as goal

pub whole_as_slice-f : goal.whole_as_slice-f
whole_as_slice-f g c = omega (arith, c.requires.few)

pub returns : goal.returns
returns g c = lends _ _ c.f.ensures (search rules)
