-- The record is held from the run's beginning on.
use native.Mathlib.Omega.{arith}
use Rattle.held.specs.Held.{held_request}
use Rattle.parts.proofs.Laws.Formed.{holds_past, holds_wrong}
use Rattle.policy.proofs.Laws.Reading.{whole_text, root_stands, root_room, record_wrong, record_known}
use Rattle.policy.proofs.reading.whole_record.Goals as goal

pub root-v-requires : goal.root-v-requires
root-v-requires c = c.requires.whole

pub hold_request-h-requires : goal.hold_request-h-requires
hold_request-h-requires c =
    record {
      what = (whole_text c.requires).tree;
      stop = c.root-v.ensures.stop;
      is = (root_stands c.requires c.root-v.ensures);
      roomy = record {
        room = omega (
          arith,
          root_room c.requires
              c.root-v.ensures,
        );
        bounded = c.requires.lent.bounded;
      };
    }

pub shape_of-run-in_default : goal.shape_of-run-in_default
shape_of-run-in_default c = (holds_wrong held_request
    c.args.run.now _ _ _
    (c.hold_request-h.ensures _ _ (root_stands
    c.requires
    c.root-v.ensures)) c.in_default.is).size

pub returns-in_default : goal.returns-in_default
returns-in_default c = record_wrong c.requires.short (whole_text c.requires)
    (holds_wrong held_request
    c.args.run.now _ _ _
    (c.hold_request-h.ensures _ _
    (root_stands c.requires
    c.root-v.ensures))
    c.in_default.is).said

pub shape_of-run : goal.shape_of-run
shape_of-run c = (holds_past held_request
    c.args.run.now _ _ _
    (c.hold_request-h.ensures _ _
    (root_stands c.requires
    c.root-v.ensures))
    c.in-Some.is).extends.size

pub returns : goal.returns
returns c = record_known c.requires.short (whole_text c.requires)
    (holds_past held_request
    c.args.run.now _ _ _
    (c.hold_request-h.ensures _ _
    (root_stands c.requires
    c.root-v.ensures))
    c.in-Some.is)
