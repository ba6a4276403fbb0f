-- Each turn passes one row that has an entry left.
use Prim.Native.Nat.{◌+◌}
use Rattle.held.specs.Held.{held_row}
use Rattle.refined.specs.Keeping.{row_values}
use Rattle.refined.proofs.Laws.KeepingTests.{Lookings}
use Rattle.refined.proofs.Laws.KeepingTests.{rows_test}
use Rattle.refined.proofs.finishing.rows_some.Given as goal

abbrev pub invariant-loop-i : goal.invariant-loop-i
invariant-loop-i l = Lookings held_row row_values rows_test l.run l.room (l.at + 1) l.s l.n l.i l.p l.a
