-- So many digits are still owed as `left` says.
use lib.ListN.{replicate}
use Rattle.text.specs.Reading.{Leads}
use Rattle.text.specs.Machine.{hex}
use Rattle.text.proofs.quoted.four_hex.Given as goal

abbrev pub invariant-loop-left : goal.invariant-loop-left
invariant-loop-left l = Leads l.s (replicate 4 hex) l.at (replicate l.left hex) l.i

abbrev pub decreases-loop-left : goal.decreases-loop-left
decreases-loop-left l = l.left
