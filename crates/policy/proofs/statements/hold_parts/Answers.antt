-- Each part is held behind those before it; what is wrong in one is wrong in all.
use native.Mathlib.Omega.{arith}
use Rattle.syntax.specs.PolicyLayout.{action_of, resource_of}
use Rattle.held.specs.Held.{held_text, held_list, held_value}
use Rattle.parts.proofs.Laws.Formed.{holds_past, holds_wrong, ends_past, ends_wrong}
use Rattle.parts.proofs.Laws.Fits.{action_fits, resource_fits}
use Rattle.policy.proofs.Laws.StatementsParts.{texts_left, texts_laid, sid_place, entries_place}
use Rattle.policy.proofs.Laws.StatementsParts.{sid_left, actions_left, resources_left, parts_holds}
use Rattle.parts.proofs.Laws.Formed.{none_holds}
use Rattle.policy.specs.Statements.{parts_of, held_parts}
use Rattle.policy.proofs.statements.hold_parts.Goals as goal

pub hold_sid_at-requires : goal.hold_sid_at-requires
hold_sid_at-requires c =
    record {
      what = c.requires.sid;
      is = c.requires.sid_is;
      roomy = record { room = omega (arith, c.requires.roomy.room); bounded = c.requires.roomy.bounded };
    }

pub returns-in_err-p : goal.returns-in_err-p
returns-in_err-p c =
    λ i z x y e f pi px py pz.
    none_holds held_parts c.args.run.now _ c.args.at (parts_of i x y z) c.from_residual.ensures
    (sid_left i x y z (holds_wrong held_text c.args.run.now _ _ _ (c.hold_sid_at.ensures i pi) c.in_err-p.was))

pub hold_entries-requires : goal.hold_entries-requires
hold_entries-requires c =
    let a = holds_past held_text c.args.run.now _ _ _ (c.hold_sid_at.ensures _ c.requires.sid_is) c.in_ok-p.was in
    record {
      what = c.requires.action;
      stop = c.requires.action_stop;
      is = c.requires.action_is;
      roomy = record {
        room = omega (arith, c.requires.roomy.room, a.extends.size, sid_place c.requires.sid a);
        bounded = omega (arith, a.extends.size, c.requires.roomy.bounded);
      };
    }

pub returns-in_err-g : goal.returns-in_err-g
returns-in_err-g c =
    λ i z x y e f pi px py pz.
    none_holds held_parts c.args.run.now _ c.args.at (parts_of i x y z) c.from_residual-in_err-g.ensures
    (let sid = holds_past held_text c.args.run.now _ _ _ (c.hold_sid_at.ensures i pi) c.in_ok-p.was in
    actions_left i x y z sid (texts_left action_of x (ends_wrong (held_list held_value) _ _ _ _ _
    (c.hold_entries.ensures x e px) c.in_err-g.was)))

pub hold_entries-requires-2 : goal.hold_entries-requires-2
hold_entries-requires-2 c =
    let a = holds_past held_text c.args.run.now _ _ _ (c.hold_sid_at.ensures _ c.requires.sid_is) c.in_ok-p.was in
    let b = texts_laid action_of _ (ends_past (held_list held_value) _ _ _ _ _ (c.hold_entries.ensures _ _ c.requires.action_is)
    c.in_ok-g.was).0 in
    record {
      what = c.requires.resource;
      stop = c.requires.resource_stop;
      is = c.requires.resource_is;
      roomy = record {
        room = omega (
          arith,
          c.requires.roomy.room,
          a.extends.size,
          b.extends.size,
          sid_place c.requires.sid a,
          entries_place action_of action_fits c.requires.action b,
        );
        bounded = omega (arith, a.extends.size, b.extends.size, c.requires.roomy.bounded);
      };
    }

pub returns-in_err-k : goal.returns-in_err-k
returns-in_err-k c =
    λ i z x y e f pi px py pz.
    none_holds held_parts c.args.run.now _ c.args.at (parts_of i x y z) c.from_residual-in_err-k.ensures
    (let sid = holds_past held_text c.args.run.now _ _ _ (c.hold_sid_at.ensures i pi) c.in_ok-p.was in
    let actions = texts_laid action_of x (ends_past (held_list held_value) _ _ _ _ _ (c.hold_entries.ensures x e px)
    c.in_ok-g.was).0 in
    resources_left i x y z sid actions (texts_left resource_of y (ends_wrong (held_list held_value) _ _ _ _ _
    (c.hold_entries-2.ensures y f py) c.in_err-k.was)))

pub hold_condition_at-requires : goal.hold_condition_at-requires
hold_condition_at-requires c =
    let a = holds_past held_text c.args.run.now _ _ _ (c.hold_sid_at.ensures _ c.requires.sid_is) c.in_ok-p.was in
    let b = texts_laid action_of _ (ends_past (held_list held_value) _ _ _ _ _ (c.hold_entries.ensures _ _ c.requires.action_is)
    c.in_ok-g.was).0 in
    let d = texts_laid resource_of _ (ends_past (held_list held_value) _ _ _ _ _ (c.hold_entries-2.ensures _ _ c.requires.resource_is)
    c.in_ok-k.was).0 in
    record {
      what = c.requires.condition;
      is = c.requires.condition_is;
      roomy = record {
        room = omega (
          arith,
          c.requires.roomy.room,
          a.extends.size,
          b.extends.size,
          d.extends.size,
          sid_place c.requires.sid a,
          entries_place action_of action_fits c.requires.action b,
          entries_place resource_of resource_fits c.requires.resource d,
        );
        bounded = omega (arith, a.extends.size, b.extends.size, d.extends.size, c.requires.roomy.bounded);
      };
    }

pub returns : goal.returns
returns c =
    λ i z x y e f pi px py pz.
    let sid = holds_past held_text c.args.run.now _ _ _ (c.hold_sid_at.ensures i pi) c.in_ok-p.was in
    let actions = texts_laid action_of x (ends_past (held_list held_value) _ _ _ _ _ (c.hold_entries.ensures x e px)
    c.in_ok-g.was).0
    in
    let resources = texts_laid resource_of y (ends_past (held_list held_value) _ _ _ _ _ (c.hold_entries-2.ensures y f py)
    c.in_ok-k.was).0 in
    parts_holds i x y z sid actions resources _ c.hold_condition_at.result (c.hold_condition_at.ensures z pz)
