-- The byte due next is from `low` to `high`, and `left` tails are owed behind it.
use mathlib.Core.Path.{refl}
use mathlib.Core.List.{[]}
use native.Mathlib.Omega.{arith}
use Rattle.text.specs.Machine.{range, optional}
use Rattle.text.proofs.Laws.Reading.{stay, seq, fall, takes, refuses, stops, peel, spent}
use Rattle.text.proofs.Laws.Moves.Bytes.{range_is, range_under, range_over}
use Rattle.text.proofs.quoted.tails.Goals as goal

pub loop-i-init : goal.loop-i-init
loop-i-init c = stay _ _ _ c.requires

pub returns-then-s-i : goal.returns-then-s-i
unfolding optional
returns-then-s-i c = fall c.loop-i.invariant (stops (range _ _) _ (omega (arith, c.loop-i.invariant.high)) refl)

pub returns-then-b-low : goal.returns-then-b-low
returns-then-b-low c =
    fall c.loop-i.invariant (refuses (range _ _) _ c.if-s-i.false (range_under _ _ _ c.if-b-low.true))

pub returns-then-high-b : goal.returns-then-high-b
returns-then-high-b c =
    fall c.loop-i.invariant (refuses (range _ _) _ c.if-s-i.false (range_over _ _ _ c.if-high-b.true))

pub returns-then-left-eq0 : goal.returns-then-left-eq0
returns-then-left-eq0 c =
    seq c.loop-i.invariant
    (seq (takes (range _ _) _ [] c.if-s-i.false (range_is _ _ _ c.if-b-low.false c.if-high-b.false))
    (spent (range 128 191) _ c.if-left-eq0.true (omega arith)))

pub loop-i-preserved : goal.loop-i-preserved
loop-i-preserved c =
    seq c.loop-i.invariant
    (seq (takes (range _ _) _ [] c.if-s-i.false (range_is _ _ _ c.if-b-low.false c.if-high-b.false))
    (peel (range 128 191) _ c.if-left-eq0.false (omega arith)))
