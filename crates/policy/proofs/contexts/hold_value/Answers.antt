-- The value is held as a text; a number's halves are then laid in its place.
-- the text that lies in the run, and where its list ends
use mathlib.Core.Path.{ap, ◌∙◌}
use Prim.Native.Nat.{◌≤◌}
use native.Mathlib.Omega.{arith}
use lib.ListN.{length}
use Rattle.syntax.specs.Policy.{text, number}
use Rattle.syntax.specs.Members.{then, characters_of}
use Rattle.syntax.specs.RecordLayout.{only_one}
use Rattle.held.specs.Held.{held_text, held_value}
use Rattle.parts.specs.Requests.{typed_as}
use Rattle.parts.specs.declared.words.ValueType.{ValueType}
use Rattle.parts.specs.declared.words.ValueType.TheVariants as V
use Rattle.syntax.proofs.Laws.Numbers.{number_small}
use Rattle.parts.proofs.Laws.Extends.{extends_kept, extends_after}
use Rattle.parts.proofs.Laws.Formed.{ends_past, ends_wrong, past_first, past_within, then_read, left_then}
use Rattle.parts.proofs.Laws.Requests.Tests.{typed_text, typed_long}
use Rattle.parts.proofs.Laws.Requests.Laying.{number_no, number_read, number_said, number_room}
use Rattle.parts.proofs.Laws.Formed.{none_ends}
use Rattle.policy.proofs.contexts.hold_value.Goals as goal

pub returns-in_err-h : goal.returns-in_err-h
returns-in_err-h c =
    λ t e p.
    none_ends held_value c.args.run.now _ c.args.at (then (only_one characters_of t) (typed_as c.args.kind)) _ c.from_residual.ensures
    (left_then _ (ends_wrong held_text c.args.run.now c.hold_sole.new.run
    c.args.at (only_one characters_of t) e (c.hold_sole.ensures t e p) c.in_err-h.was))

pub overflow_sub-h : goal.overflow_sub-h
overflow_sub-h c = past_first ((let z : c.args.at ≤ length c.args.run.now = omega (arith, c.requires.roomy.room) in z)) ((((ends_past held_text c.args.run.now c.hold_sole.new.run c.args.at
    (only_one characters_of _) _ (c.hold_sole.ensures _ _ c.requires.is) c.in_ok-h.was)).0))

pub returns-then-h-first-gt-ENTRY : goal.returns-then-h-first-gt-ENTRY
returns-then-h-first-gt-ENTRY c =
    λ t e p. let d = ((ends_past held_text c.args.run.now c.hold_sole.new.run c.args.at
    (only_one characters_of t) e (c.hold_sole.ensures t e p) c.in_ok-h.was)).0 in
    record {
      size = d.extends.size;
      said = ap (λ (k : ValueType). then (only_one characters_of t) (typed_as k)) c.in-Text.is ∙ then_read (typed_as V.Text) d.said ∙ typed_long d.thing (omega
          (arith, d.extends.place, c.if-h-first-gt-ENTRY.true));
    }

pub returns-else-h-first-gt-ENTRY : goal.returns-else-h-first-gt-ENTRY
returns-else-h-first-gt-ENTRY c =
    λ t e p. let d = (ends_past held_text c.args.run.now c.hold_sole.new.run c.args.at
    (only_one characters_of t) e (c.hold_sole.ensures t e p) c.in_ok-h.was) in (
      record {
        thing = text d.0.thing;
        said = ap (λ (k : ValueType). then (only_one characters_of t) (typed_as k)) c.in-Text.is ∙ then_read (typed_as V.Text) d.0.said ∙ typed_text d.0.thing (omega
            (arith, d.0.extends.place, c.if-h-first-gt-ENTRY.false));
        extends = d.0.extends;
      },
      d.1,
    )

pub slice_bounds-number_in-count : goal.slice_bounds-number_in-count
slice_bounds-number_in-count c = past_first ((let z : c.args.at ≤ length c.args.run.now = omega (arith, c.requires.roomy.room) in z)) ((((ends_past held_text c.args.run.now c.hold_sole.new.run c.args.at
    (only_one characters_of _) _ (c.hold_sole.ensures _ _ c.requires.is) c.in_ok-h.was)).0))

pub slice_bounds-number_in-start : goal.slice_bounds-number_in-start
slice_bounds-number_in-start c = past_first ((let z : c.args.at ≤ length c.args.run.now = omega (arith, c.requires.roomy.room) in z)) ((((ends_past held_text c.args.run.now c.hold_sole.new.run c.args.at
    (only_one characters_of _) _ (c.hold_sole.ensures _ _ c.requires.is) c.in_ok-h.was)).0))

pub slice_bounds-number_in-end : goal.slice_bounds-number_in-end
slice_bounds-number_in-end c = past_within ((let z : c.args.at ≤ length c.args.run.now = omega (arith, c.requires.roomy.room) in z)) ((((ends_past held_text c.args.run.now c.hold_sole.new.run c.args.at
    (only_one characters_of _) _ (c.hold_sole.ensures _ _ c.requires.is) c.in_ok-h.was)).0))

pub returns-in_err-n-in-Number : goal.returns-in_err-n-in-Number
returns-in_err-n-in-Number c =
    λ t e p.
    none_ends held_value c.args.run.now _ c.args.at (then (only_one characters_of t) (typed_as c.args.kind)) _ c.from_residual-in_err-n-in-Number.ensures
    (let d = ((ends_past held_text c.args.run.now c.hold_sole.new.run c.args.at
    (only_one characters_of t) e (c.hold_sole.ensures t e p) c.in_ok-h.was)).0 in
    record {
      size = d.extends.size;
      said = ap (λ (k : ValueType). then (only_one characters_of t) (typed_as k)) c.in-Number.is ∙ number_no ((let z : c.args.at ≤ length c.args.run.now = omega (arith, c.requires.roomy.room) in z)) d _ c.number_in.ensures c.in_err-n-in-Number.was;
    })

pub put_number-requires : goal.put_number-requires
put_number-requires c =
    let d = (((ends_past held_text c.args.run.now c.hold_sole.new.run c.args.at
    (only_one characters_of _) _ (c.hold_sole.ensures _ _ c.requires.is) c.in_ok-h.was)).0) in
    let n = number_read ((let z : c.args.at ≤ length c.args.run.now = omega (arith, c.requires.roomy.room) in z)) d _ c.number_in.ensures _ c.in_ok-n-in-Number.was in (
      number_room ((let z : c.args.at ≤ length c.args.run.now = omega (arith, c.requires.roomy.room) in z)) d _ c.number_in.ensures _ c.in_ok-n-in-Number.was c.requires.roomy.bounded,
      number_small d.thing n,
    )

pub returns-in_ok-n-in-Number : goal.returns-in_ok-n-in-Number
returns-in_ok-n-in-Number c =
    λ t e p. let d = (ends_past held_text c.args.run.now c.hold_sole.new.run c.args.at
    (only_one characters_of t) e (c.hold_sole.ensures t e p) c.in_ok-h.was) in (
      record {
        thing = number _;
        said = ap (λ (k : ValueType). then (only_one characters_of t) (typed_as k)) c.in-Number.is ∙ number_said ((let z : c.args.at ≤ length c.args.run.now = omega (arith, c.requires.roomy.room) in z)) d.0 _ c.number_in.ensures _ c.in_ok-n-in-Number.was;
        extends = extends_after (extends_kept d.0.extends ((let z : c.args.at ≤ length c.args.run.now = omega (arith, c.requires.roomy.room) in z))) c.put_number.ensures;
      },
      d.1,
    )
