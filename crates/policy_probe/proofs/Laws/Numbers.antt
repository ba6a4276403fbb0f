-- The numbers of an answer tell what it answers.
use mathlib.Core.Path.{◌≡◌, sym, subst}
use mathlib.Core.List.{List}
use Prim.Native.Nat.{ℕ}
use lib.ListN.{length}
use Rattle.syntax.specs.Limits.{run_numbers}
use Rattle.policy.specs.Reading.{Rules, Answers}
use Rattle.std.specs.Prelude.{Result}
use Rattle.policy.specs.declared.refusals.Refusal.{Refusal}
use Rattle.policy_probe.specs.declared.Told.{Told}
use Rattle.policy_probe.specs.Numbers.{of_read, Tells, answered}

pub tells :
    {A : Type 0} (k : Rules A) (h : A → List ℕ) (s before after : List ℕ) (r : Result ℕ Refusal) {t : Told}
    → length before ≡ run_numbers → Answers k h s after r → t ≡ of_read r → Tells k h s before after t
tells k h s before after r e a q = subst (Tells k h s before after) (sym q) (answered e r a)
