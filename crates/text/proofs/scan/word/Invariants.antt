-- The bytes of w that are not read yet are still owed.
use mathlib.Core.List.{map}
use lib.ListN.{drop}
use Rattle.text.specs.Reading.{Leads}
use Rattle.text.specs.Machine.{byte}
use Rattle.text.proofs.scan.word.Given as goal

abbrev pub invariant-loop-x : goal.invariant-loop-x
invariant-loop-x l = Leads l.s (map byte l.w) l.at (map byte (drop l.x-index l.w)) l.i
