-- As long as all were plain, the bytes passed stand for themselves.
use native.Mathlib.Omega.{arith}
use Rattle.chars.proofs.Laws.Tests.{each_true}
use Rattle.straight.proofs.Laws.Strings.{bare_none, bare_next}
use borrow.Author.Rules.{rules}
use Rattle.straight.proofs.strings.plain_eight.Goals as goal

pub loop-j-init : goal.loop-j-init
loop-j-init c = (search rules, λ e. bare_none c.args.s.now c.args.at)

pub loop-j-preserved : goal.loop-j-preserved
loop-j-preserved c = (
  omega arith,
  λ e.
      let b = each_true _ _ e in
      bare_next c.args.s.now c.args.at c.loop-j.j (omega (arith, c.requires)) (c.loop-j.invariant.1 b.0)
      (c.plain-all.ensures b.1),
)
