-- The rest of the string is owed at `i`; each turn takes one character and passes what is plain behind it.
use mathlib.Core.Path.{refl}
use mathlib.Core.List.{[], ◌∷◌}
use native.Mathlib.Omega.{arith}
use borrow.Author.Rules.{rules}
use Prim.Native.Nat.{◌≤◌}
use lib.ListN.{length}
use Rattle.chars.specs.Base.{At}
use Rattle.text.specs.Machine.{text, char, optional}
use Rattle.text.proofs.Laws.Reading.{stay, seq, frame, fall, fall_frame, takes_at, alike_at, stops}
use Rattle.text.proofs.Laws.Moves.Strings.{text_quote}
use Rattle.text.proofs.Laws.Moves.Owing.{text_one}
use Rattle.text.proofs.Laws.Places.{char_grows}
use Rattle.text.proofs.quoted.characters.Goals as goal

pub loop-b-init : goal.loop-b-init
loop-b-init c = stay _ _ _ c.requires

pub returns-in_default : goal.returns-in_default
unfolding optional
returns-in_default c =
    let e : length c.args.s.now ≤ c.loop-b.i = search rules in
    fall c.loop-b.invariant (stops text [] (omega (arith, e, c.loop-b.invariant.high)) refl)

pub returns-then-b-eq34 : goal.returns-then-b-eq34
returns-then-b-eq34 c =
    let p : At c.args.s.now c.loop-b.i c.in-Some.field-0.now = search rules in
    seq c.loop-b.invariant (takes_at text [] p [] (text_quote _ c.if-b-eq34.true))

pub returns-in_err-n : goal.returns-in_err-n
returns-in_err-n c =
    let p : At c.args.s.now c.loop-b.i c.in-Some.field-0.now = search rules in
    let one = alike_at (text ∷ []) (char ∷ text ∷ []) p (text_one _ c.if-b-eq34.false) in
    let stops = fall (seq c.loop-b.invariant one) (fall_frame (text ∷ []) c.in_err-n.ensures) in
    search rules

pub loop-b-smaller : goal.loop-b-smaller
loop-b-smaller c =
    omega (arith, char_grows c.in_ok-n.ensures, c.plain-i.ensures.low, c.plain-i.ensures.high)

pub loop-b-preserved : goal.loop-b-preserved
loop-b-preserved c =
    let p : At c.args.s.now c.loop-b.i c.in-Some.field-0.now = search rules in
    let one = alike_at (text ∷ []) (char ∷ text ∷ []) p (text_one _ c.if-b-eq34.false) in
    seq c.loop-b.invariant (seq one (seq (frame (text ∷ []) c.in_ok-n.ensures) c.plain-i.ensures))
