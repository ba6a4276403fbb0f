-- Each turn stores one character.
use mathlib.Core.Path.{ap, ◌∙◌}
use mathlib.Core.List.{List, ◌++◌, append-nil}
use Prim.Native.Nat.{ℕ}
use native.Mathlib.Omega.{arith}
use lib.ListN.{take, drop_of_length-le}
use lib.Seq.{take_all}
use Rattle.writing.proofs.Laws.Plain.{all_at, put_start, put_next}
use Rattle.writing.proofs.plain.put_eight.Goals as goal

pub loop-j-init : goal.loop-j-init
loop-j-init c = put_start _ _

pub overflow_cast-out : goal.overflow_cast-out
overflow_cast-out c =
    let p = all_at c.loop-j.j c.requires.2 (omega arith) in record { fits = omega (arith, p.small) }

pub loop-j-preserved : goal.loop-j-preserved
loop-j-preserved c =
    put_next c.loop-j.invariant (omega arith) (omega (arith, c.loop-j.auto.out)) (all_at c.loop-j.j c.requires.2 (omega arith))

pub returns : goal.returns
returns c =
    let w = c.loop-j.invariant in
    w.is ∙ ap (λ (l : List ℕ). take c.loop-j.j c.args.ys.now ++ l) (drop_of_length-le c.args.out.now {i = c.loop-j.j} (omega arith))
    ∙ append-nil (take c.loop-j.j c.args.ys.now) ∙ take_all c.loop-j.j c.args.ys.now (omega arith)
