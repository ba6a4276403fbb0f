-- From the longest beginning on, each turn looks at one.
use mathlib.Core.Path.{sym, ◌∙◌}
use native.Mathlib.Omega.{arith}
use Rattle.candidates.proofs.Laws.Charging.{looking_start, looking_next, looking_found, looking_none}
use Rattle.candidates.proofs.charging.put_longest.Goals as goal

pub loop-n-init : goal.loop-n-init
loop-n-init c = looking_start _ _

pub returns-then-legal_beginning : goal.returns-then-legal_beginning
returns-then-legal_beginning c =
    looking_found _ _ c.loop-n.invariant (omega arith)
    (sym c.legal_beginning.ensures ∙ c.if-legal_beginning.true) c.put_text.ensures

pub loop-n-preserved : goal.loop-n-preserved
loop-n-preserved c =
    looking_next _ _ c.loop-n.invariant (omega arith)
    (sym c.legal_beginning.ensures ∙ c.if-legal_beginning.false)

pub returns : goal.returns
returns c = looking_none _ _ c.loop-n.invariant (omega arith) c.put_mark.ensures
