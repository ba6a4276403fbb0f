-- An empty row is passed over.
use native.Mathlib.Omega.{arith}
use Rattle.refined.proofs.Laws.Keeping.{writ_size}
use Rattle.refined.proofs.Laws.KeepingEntries.{holding}
use Rattle.refined.proofs.Laws.KeepingLists.{reaches_none, reaches_held}
use Rattle.refined.proofs.finishing.put_next.Goals as goal

pub bounds-row-0 : goal.bounds-row-0
bounds-row-0 c = omega (arith, writ_size c.requires.0.writ)

pub returns-then-row-eq-EMPTY : goal.returns-then-row-eq-EMPTY
returns-then-row-eq-EMPTY c = λ y. reaches_none _ _ c.if-row-eq-EMPTY.true

pub put_kept-requires : goal.put_kept-requires
put_kept-requires c =
    (holding c.requires.0 c.if-row-eq-EMPTY.false).held

pub returns : goal.returns
returns c =
    λ y. reaches_held (holding y c.if-row-eq-EMPTY.false) c.put_between.ensures
    (c.put_kept.ensures (holding y c.if-row-eq-EMPTY.false).held)
