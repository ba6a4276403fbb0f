-- Each turn puts eight characters that were tested and for which there is room.
use mathlib.Core.Path.{◌≡◌, ◌∙◌, ap, subst}
use Prim.Native.Nat.{ℕ, ◌+◌, ◌-◌}
use native.Mathlib.Omega.{arith}
use lib.ListN.{take, drop}
use Rattle.writing.specs.Plain.{AllPlain}
use Rattle.writing.proofs.Laws.Plain.{put_start, put_size, put_then}
use Rattle.writing.proofs.plain.put_eights.Goals as goal

pub loop-n-init : goal.loop-n-init
loop-n-init c = put_start _ _

pub loop-n-preserved : goal.loop-n-preserved
loop-n-preserved c =
    let w = c.loop-n.invariant in
    let e : c.loop-n.n + 8 - c.loop-n.n ≡ 8 = omega arith in
    let p : AllPlain (take (c.loop-n.n + 8 - c.loop-n.n) (drop c.loop-n.n c.args.ys.now)) =
    c.plain_eight.ensures c.if-plain_eight.true in
    put_then w 8 e (omega arith) (omega (arith, put_size w))
    (subst (λ (k : ℕ). AllPlain (take k (drop c.loop-n.n c.args.ys.now))) e p)
    (c.put_eight.ensures ∙ ap (λ (k : ℕ). take k (drop c.loop-n.n c.args.ys.now)) e)
