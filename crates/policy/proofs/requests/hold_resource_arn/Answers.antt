-- An absent resource is laid as it is meant; a text is held, and then tested where it lies.
use mathlib.Core.Path.{refl, ap, ◌∙◌}
use mathlib.Core.List.{[], ◌∷◌}
use Prim.Native.Nat.{◌+◌}
use native.Mathlib.Omega.{arith}
use lib.ListN.{length-set}
use Rattle.syntax.specs.Members.{optional}
use Rattle.syntax.specs.RecordLayout.{only_one, is_resource_arn, resource_arn_of}
use Rattle.held.specs.Held.{held_text}
use Rattle.parts.proofs.Laws.Room.{roomy_less}
use Rattle.parts.proofs.Laws.Formed.{holds_past, past_first, past_within, part_told, formed_no, formed_yes}
use Rattle.parts.proofs.Laws.Formed.{then_wrong}
use Rattle.parts.proofs.Laws.Requests.Members.{placed_absent, refused}
use Rattle.parts.proofs.Laws.Requests.Sole.{the_one, resource_said}
use Rattle.parts.proofs.Laws.Requests.Laying.{extends_two}
use Rattle.parts.proofs.Laws.Formed.{none_holds}
use Rattle.policy.proofs.requests.hold_resource_arn.Goals as goal

pub overflow_add-first : goal.overflow_add-first
overflow_add-first c = omega (arith, c.requires.roomy.room, c.requires.roomy.bounded)

pub bounds-run-first : goal.bounds-run-first
bounds-run-first c =
    omega (arith, c.requires.roomy.room)

pub bounds-run-at : goal.bounds-run-at
bounds-run-at c =
    omega (arith, c.requires.roomy.room, length-set c.args.run.now (c.args.at + 1) 42)

pub overflow_add-result : goal.overflow_add-result
overflow_add-result c =
    omega (arith, c.requires.roomy.room, c.requires.roomy.bounded)

pub returns-then-v-eq0 : goal.returns-then-v-eq0
returns-then-v-eq0 c =
    λ x p. record {
      thing = 42 ∷ [];
      said = ap (optional (42 ∷ []) (only_one resource_arn_of)) (placed_absent p c.if-v-eq0.true);
      extends = extends_two c.args.run.now c.args.at 1 42 (omega (arith, c.requires.roomy.room));
    }

pub hold_only-requires : goal.hold_only-requires
hold_only-requires c =
    record {
      what = c.requires.what;
      is = c.requires.is;
      roomy = roomy_less c.requires.roomy refl
          (omega arith);
    }

pub returns-in_err-past : goal.returns-in_err-past
returns-in_err-past c =
    λ x p.
    none_holds held_text c.args.run.now _ c.args.at (optional (42 ∷ []) (only_one resource_arn_of) x) c.from_residual.ensures
    (refused held_text _ _ c.args.at (the_one x) _ (c.hold_only.ensures x p)
    c.in_err-past.was
    (λ e. resource_said p c.if-v-eq0.false ∙ then_wrong _ e))

pub slice_bounds-is_resource_arn-count : goal.slice_bounds-is_resource_arn-count
slice_bounds-is_resource_arn-count c =
    past_first (omega (arith, c.requires.roomy.room)) (holds_past held_text c.args.run.now
    c.hold_only.new.run c.args.at
    (the_one c.requires.what) (c.hold_only.ensures c.requires.what c.requires.is)
    c.in_ok-past.was)

pub slice_bounds-is_resource_arn-start : goal.slice_bounds-is_resource_arn-start
slice_bounds-is_resource_arn-start c =
    past_first (omega (arith, c.requires.roomy.room)) (holds_past held_text c.args.run.now
    c.hold_only.new.run c.args.at
    (the_one c.requires.what) (c.hold_only.ensures c.requires.what c.requires.is)
    c.in_ok-past.was)

pub slice_bounds-is_resource_arn-end : goal.slice_bounds-is_resource_arn-end
slice_bounds-is_resource_arn-end c =
    past_within (omega (arith, c.requires.roomy.room)) (holds_past held_text c.args.run.now
    c.hold_only.new.run c.args.at
    (the_one c.requires.what) (c.hold_only.ensures c.requires.what c.requires.is)
    c.in_ok-past.was)

pub returns-then-not-is_resource_arn : goal.returns-then-not-is_resource_arn
returns-then-not-is_resource_arn c =
    λ x p. let d = holds_past held_text c.args.run.now c.hold_only.new.run
    c.args.at (the_one x) (c.hold_only.ensures x p) c.in_ok-past.was in
    let n = part_told (omega (arith, c.requires.roomy.room)) d is_resource_arn c.is_resource_arn.ensures
    c.if-not-is_resource_arn.true in
    record {
      size = d.extends.size;
      said = resource_said p c.if-v-eq0.false ∙ formed_no is_resource_arn
          (λ cs. cs) d.said n;
    }

pub returns : goal.returns
returns c =
    λ x p. let d = holds_past held_text c.args.run.now c.hold_only.new.run
    c.args.at (the_one x) (c.hold_only.ensures x p) c.in_ok-past.was in
    let n = part_told (omega (arith, c.requires.roomy.room)) d is_resource_arn c.is_resource_arn.ensures
    c.if-not-is_resource_arn.false in
    record {
      thing = d.thing;
      said = resource_said p c.if-v-eq0.false ∙ formed_yes is_resource_arn (λ cs. cs)
          d.said n;
      extends = d.extends;
    }
