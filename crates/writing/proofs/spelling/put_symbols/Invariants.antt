-- Each turn adds the symbols that are plain and one that is not.
use Prim.Native.Nat.{◌-◌}
use lib.ListN.{length}
use Rattle.writing.specs.Spelling.{piece}
use Rattle.writing.proofs.Laws.Each.{Each}
use Rattle.writing.proofs.spelling.put_symbols.Given as goal

abbrev pub invariant-loop-i : goal.invariant-loop-i
invariant-loop-i l = Each (piece l.form) l.ys l.i l.initial.sink l.sink

abbrev pub decreases-loop-i : goal.decreases-loop-i
decreases-loop-i l = length l.ys - l.i
