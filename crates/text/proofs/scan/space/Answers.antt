-- What was passed is white space, and at the end the item is done: before a byte of another kind, or with the text.
use mathlib.Core.Path.{refl}
use mathlib.Core.List.{[], ◌∷◌}
use native.Mathlib.Omega.{arith}
use Rattle.text.specs.Machine.{ws, optional}
use Rattle.text.proofs.Laws.Reading.{seq, takes, passes, skips}
use Rattle.text.proofs.Laws.Plain.{blank_more}
use Rattle.text.proofs.scan.space.Goals as goal

pub returns-then-s-at : goal.returns-then-s-at
unfolding optional
returns-then-s-at c = skips ws [] (omega (arith, c.requires)) refl

pub returns-then-not-blank : goal.returns-then-not-blank
returns-then-not-blank c =
    passes ws [] (omega (arith, c.if-s-at.false)) (c.blank.ensures.is_not c.if-not-blank.true)

pub loop-i-init : goal.loop-i-init
loop-i-init c =
    let is = c.blank.ensures.is c.if-not-blank.false in
    seq (takes ws [] (ws ∷ []) (omega (arith, c.if-s-at.false)) is) c.spaces-i.ensures

pub returns-then-not-blank-2 : goal.returns-then-not-blank-2
returns-then-not-blank-2 c =
    seq c.loop-i.invariant (passes ws [] c.loop-i-test.true (c.blank-in-loop-i.ensures.is_not c.if-not-blank-2.true))

pub loop-i-preserved : goal.loop-i-preserved
loop-i-preserved c =
    blank_more c.loop-i.invariant c.loop-i-test.true (c.blank-in-loop-i.ensures.is c.if-not-blank-2.false)

pub returns : goal.returns
unfolding optional
returns c = seq c.loop-i.invariant (skips ws [] (omega arith) refl)
