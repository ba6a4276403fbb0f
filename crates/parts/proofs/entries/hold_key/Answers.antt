-- The text is held and tested where it lies.
use native.Mathlib.Omega.{arith}
use Rattle.syntax.specs.Forms.{is_key}
use Rattle.syntax.specs.Members.{characters}
use Rattle.syntax.specs.PolicyLayout.{key_of}
use Rattle.held.specs.Held.{held_text}
use Rattle.parts.proofs.Laws.Formed.{holds_past, holds_wrong, part_told, formed_no}
use Rattle.parts.proofs.Laws.Formed.{formed_yes, left_then}
use Rattle.parts.proofs.Laws.Formed.{none_holds}
use Rattle.parts.proofs.entries.hold_key.Goals as goal

pub returns-in_err-past : goal.returns-in_err-past
unfolding key_of
returns-in_err-past c =
    none_holds held_text c.args.run.now _ c.args.at (key_of c.args.raw.now) c.from_residual.ensures (left_then _
    (holds_wrong held_text c.args.run.now _
    c.args.at
    (characters c.args.raw.now)
    c.hold_raw.ensures c.in_err-past.was))

pub returns-then-not-is_key : goal.returns-then-not-is_key
unfolding key_of
returns-then-not-is_key c =
    let d = (holds_past held_text c.args.run.now _ c.args.at (characters c.args.raw.now)
    c.hold_raw.ensures c.in_ok-past.was) in
    let n = part_told (omega (arith, c.requires.room)) d is_key c.is_key.ensures
    c.if-not-is_key.true in
    record { size = d.extends.size; said = formed_no is_key (λ cs. cs) d.said n }

pub returns : goal.returns
unfolding key_of
returns c =
    let d = (holds_past held_text c.args.run.now _ c.args.at (characters c.args.raw.now)
    c.hold_raw.ensures c.in_ok-past.was) in
    let n = part_told (omega (arith, c.requires.room)) d is_key c.is_key.ensures
    c.if-not-is_key.false in
    record { thing = d.thing; said = formed_yes is_key (λ cs. cs) d.said n; extends = d.extends }
