-- A letter is taken by the escape itself, `u` owes four digits.
use mathlib.Core.Path.{refl}
use mathlib.Core.List.{[]}
use native.Mathlib.Omega.{arith}
use lib.ListN.{replicate}
use Rattle.text.specs.Machine.{hex, escape, optional}
use Rattle.text.proofs.Laws.Reading.{goes_seq, takes, refuses, stops}
use Rattle.text.proofs.Laws.Moves.Strings.{escape_letter, escape_hex, escape_not}
use Rattle.text.proofs.quoted.escaped.Goals as goal

pub returns-then-s-at : goal.returns-then-s-at
unfolding optional
returns-then-s-at c = stops escape [] (omega arith) refl

pub returns-in-34 : goal.returns-in-34
returns-in-34 c = takes escape [] [] c.if-s-at.false (escape_letter _ c.in-34.is)

pub returns-in-117 : goal.returns-in-117
returns-in-117 c =
    goes_seq c.four_hex.result
    (takes escape [] (replicate 4 hex) c.if-s-at.false (escape_hex _ c.in-117.is)) c.four_hex.ensures

pub returns-in_default : goal.returns-in_default
returns-in_default c = refuses escape [] c.if-s-at.false (escape_not _ c.in_default.in_default-own.rest.0.1 c.in_default.in_default-own.rest.1)
