-- Where a member's name is owed, members stand there.
use mathlib.Core.List.{[], ◌∷◌, ◌++◌}
use mathlib.Core.Logic.{⊎_elim}
use native.Mathlib.Omega.{arith}
use Rattle.text.specs.Machine.{ws}
use Rattle.objects.specs.declared.leaving.Owed.TheVariants.{Next}
use Rattle.objects.specs.Leaving.{within, outside}
use Rattle.policy.proofs.Laws.Onward.{owed_whole, entering}
use Rattle.policy.proofs.onward.blamed_inside.Goals as goal

pub member_at-requires : goal.member_at-requires
member_at-requires c = (
  ⊎_elim
      (λ e. entering _ _ 14 (outside ++ (ws ∷ [])) c.requires.1.0 (omega arith)
      (owed_whole c.args.s.now c.args.at e c.requires.0))
      (λ e. entering _ _ 13 ((within Next ++ outside) ++ (ws ∷ [])) c.requires.1.0 (omega arith)
      (owed_whole c.args.s.now c.args.at e c.requires.0))
      c.in-Alone.is,
  c.requires.1.1,
)
