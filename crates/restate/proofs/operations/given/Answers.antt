-- They are a whole result.
use mathlib.Core.Path.{ap, ◌∙◌}
use mathlib.Core.List.{List}
use Prim.Native.Nat.{ℕ}
use lib.ListN.{length}
use Rattle.policy.specs.Reading.{known}
use Rattle.restate.proofs.Laws.Handing.{handed_short, handed_whole}
use Rattle.restate.proofs.operations.given.Goals as goal

pub returns-then-n-out : goal.returns-then-n-out
returns-then-n-out c = handed_short _ _ c.requires c.if-n-out.true

pub returns : goal.returns
returns c =
    let bs = c.args.bytes.now in
    ap (λ (l : List ℕ). (known (length bs), l)) c.copy.ensures ∙ handed_whole bs c.args.out.now c.requires c.if-n-out.false
