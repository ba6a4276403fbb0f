-- As many as were passed are plain where they were all counted.
use mathlib.Core.Path.{◌≡◌, subst}
use native.Mathlib.Omega.{arith}
use lib.Seq.{take_all}
use borrow.Author.Tests.{eqb-true}
use Rattle.writing.specs.Valid.{none}
use Rattle.writing.specs.Plain.{AllPlain}
use Rattle.writing.proofs.Laws.Plain.{all_one}
use Rattle.writing.proofs.plain.plain_eight.Goals as goal

pub loop-j-init : goal.loop-j-init
loop-j-init c = (omega arith, λ e. none)

pub loop-j-preserved : goal.loop-j-preserved
loop-j-preserved c = (
  omega (arith, c.count-n.ensures.0, c.loop-j.invariant.0),
  λ e. all_one c.args.ys.now c.loop-j.j (omega arith)
      (c.loop-j.invariant.1 (omega (arith, e, c.loop-j.invariant.0, c.count-n.ensures.0)))
      (c.count-n.ensures.1 (omega (arith, e, c.loop-j.invariant.0, c.count-n.ensures.0))),
)

pub returns : goal.returns
returns c = λ e.
    let n = eqb-true c.loop-j.n 8 e in
    let k : c.loop-j.j ≡ 8 = omega arith in
    subst AllPlain (take_all c.loop-j.j c.args.ys.now (omega arith)) (c.loop-j.invariant.1 (omega arith))
