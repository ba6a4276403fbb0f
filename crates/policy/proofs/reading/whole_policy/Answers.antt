-- The policy is held from the run's beginning on, and its limits are judged on what is held.
use mathlib.Core.Path.{sym, ◌∙◌}
use native.Mathlib.Omega.{arith}
use Rattle.held.specs.Held.{held}
use Rattle.parts.proofs.Laws.Formed.{holds_past, holds_wrong}
use Rattle.policy.proofs.Laws.Reading.{whole_text, root_stands, root_room, held_lies, policy_wrong}
use Rattle.policy.proofs.Laws.Reading.{policy_over, policy_known}
use Rattle.policy.proofs.reading.whole_policy.Goals as goal

pub root-v-requires : goal.root-v-requires
root-v-requires c = c.requires.whole

pub hold_policy-h-requires : goal.hold_policy-h-requires
hold_policy-h-requires c =
    record {
      what = (whole_text c.requires).tree;
      stop = c.root-v.ensures.stop;
      is = (root_stands c.requires c.root-v.ensures);
      room = omega (arith, root_room c.requires c.root-v.ensures);
      bounded = c.requires.lent.bounded;
    }

pub shape_of-run-in_default : goal.shape_of-run-in_default
shape_of-run-in_default c =
    (holds_wrong held c.args.run.now _ _ _
    (c.hold_policy-h.ensures _ _ (root_stands c.requires c.root-v.ensures))
    c.in_default.is).size

pub returns-in_default : goal.returns-in_default
returns-in_default c =
    policy_wrong c.requires.short (whole_text c.requires) (holds_wrong held c.args.run.now _ _ _
    (c.hold_policy-h.ensures _ _ (root_stands c.requires c.root-v.ensures))
    c.in_default.is).said

pub over_limit-requires : goal.over_limit-requires
over_limit-requires c =
    record {
      thing = (holds_past held c.args.run.now _ _ _
          (c.hold_policy-h.ensures _ _ (root_stands c.requires c.root-v.ensures))
          c.in-Some.is).thing;
      lies = held_lies c.requires.lent.bounded
          (holds_past held c.args.run.now _ _ _
          (c.hold_policy-h.ensures _ _ (root_stands c.requires c.root-v.ensures))
          c.in-Some.is);
    }

pub shape_of-run-then-over_limit : goal.shape_of-run-then-over_limit
shape_of-run-then-over_limit c =
    (holds_past held c.args.run.now _ _ _
    (c.hold_policy-h.ensures _ _ (root_stands c.requires c.root-v.ensures))
    c.in-Some.is).extends.size

pub returns-then-over_limit : goal.returns-then-over_limit
returns-then-over_limit c =
    policy_over c.requires.short (whole_text c.requires) _ (holds_past held c.args.run.now _ _ _
    (c.hold_policy-h.ensures _ _ (root_stands c.requires c.root-v.ensures))
    c.in-Some.is).said (sym (c.over_limit.ensures _
    (held_lies c.requires.lent.bounded (holds_past held c.args.run.now _ _ _
    (c.hold_policy-h.ensures _ _ (root_stands c.requires c.root-v.ensures))
    c.in-Some.is))) ∙ c.if-over_limit.true)

pub shape_of-run : goal.shape_of-run
shape_of-run c =
    (holds_past held c.args.run.now _ _ _
    (c.hold_policy-h.ensures _ _ (root_stands c.requires c.root-v.ensures))
    c.in-Some.is).extends.size

pub returns : goal.returns
returns c =
    policy_known c.requires.short (whole_text c.requires) (holds_past held c.args.run.now _ _ _
    (c.hold_policy-h.ensures _ _ (root_stands c.requires c.root-v.ensures))
    c.in-Some.is) (sym (c.over_limit.ensures _
    (held_lies c.requires.lent.bounded (holds_past held c.args.run.now _ _ _
    (c.hold_policy-h.ensures _ _ (root_stands c.requires c.root-v.ensures))
    c.in-Some.is))) ∙ c.if-over_limit.false)
