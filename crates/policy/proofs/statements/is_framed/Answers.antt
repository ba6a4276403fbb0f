-- Only an object is a policy, and only with the members of one and the right Version.
use mathlib.Core.Path.{ap, ◌∙◌}
use Rattle.syntax.specs.PolicyLayout.{policy_of}
use Rattle.parts.proofs.Laws.Holding.{never}
use Rattle.parts.proofs.Laws.Several.{is_object_lem, object_stands}
use Rattle.policy.proofs.Laws.StatementsPolicy.{policy_not}
use Rattle.parts.proofs.Laws.Kinds.{object_told}
use Rattle.policy.proofs.statements.is_framed.Goals as goal

pub kind_at-requires : goal.kind_at-requires
kind_at-requires c = c.requires

pub returns-then-ne : goal.returns-then-ne
returns-then-ne c = let no = object_told c.kind_at.ensures c.ne.ensures c.if-ne.true in
    record { not = λ z t e p. policy_not t (no t e p); object = λ z. never z }

pub has_frame-requires : goal.has_frame-requires
has_frame-requires c = let yes = object_told c.kind_at.ensures c.ne.ensures c.if-ne.false in
    record {
      what = (is_object_lem c.requires.what (yes _ _ c.requires.is)).inside;
      stop = c.requires.stop;
      is = object_stands c.requires.is (yes _ _ c.requires.is);
    }

pub returns : goal.returns
returns c = let yes = object_told c.kind_at.ensures c.ne.ensures c.if-ne.false in
    record {
      not = λ z t e p. ap policy_of (is_object_lem t (yes t e p)).is
          ∙ c.has_frame.ensures z _ _ (object_stands p (yes t e p));
      object = λ z. yes;
    }
