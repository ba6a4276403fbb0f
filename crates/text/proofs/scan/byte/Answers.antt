-- The byte due stands there, or the text breaks there.
use mathlib.Core.Path.{refl}
use mathlib.Core.List.{[]}
use native.Mathlib.Omega.{arith}
use borrow.Author.Rules.{rules}
use Prim.Native.Nat.{◌≤◌}
use lib.ListN.{length}
use Rattle.chars.specs.Base.{At}
use Rattle.text.specs.Machine.{byte, optional}
use Rattle.text.proofs.Laws.Reading.{takes_at, refuses_at, stops}
use Rattle.text.proofs.Laws.Moves.Bytes.{byte_is, byte_not}
use Rattle.text.proofs.scan.byte.Goals as goal

pub returns-in-Some : goal.returns-in-Some
returns-in-Some c =
    let p : At c.args.s.now c.args.at c.in-Some.field-0.now = search rules in
    takes_at (byte _) [] p [] (byte_is _ _ c.if-b-x.true)

pub returns-in_default : goal.returns-in_default
returns-in_default c =
    let p : At c.args.s.now c.args.at c.in-Some.field-0.now = search rules in
    refuses_at (byte _) [] p (byte_not _ _ c.if-b-x.false)

pub returns-in_default-2 : goal.returns-in_default-2
unfolding optional
returns-in_default-2 c =
    let e : length c.args.s.now ≤ c.args.at = search rules in
    stops (byte _) [] (omega (arith, e, c.requires)) refl
