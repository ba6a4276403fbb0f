-- Each turn reads from the place where nothing was stored yet, and stores one symbol before it.
use mathlib.Core.Path.{sym, ◌∙◌}
use Rattle.syntax.proofs.Laws.Converting.{sofar_start}
use Rattle.syntax.proofs.Laws.Converting.{sofar_next, sofar_right, sofar_end}
use Rattle.syntax.proofs.symbols.escaped_symbols.Goals as goal

pub loop-i-init : goal.loop-i-init
loop-i-init c =
    sofar_start c.args.wild c.args.run.now (sym c.escapes_right.ensures ∙ c.if-not-escapes_right.false)

pub returns-in_err-c : goal.returns-in_err-c
returns-in_err-c c =
    absurd (sofar_right c.loop-i.invariant c.symbol_at.ensures
    c.in_err-c.was)

pub loop-i-preserved : goal.loop-i-preserved
loop-i-preserved c =
    sofar_next c.loop-i.invariant
    c.symbol_at.ensures c.in_ok-c.was

pub returns : goal.returns
returns c = sofar_end c.loop-i.invariant c.loop-i-test.false
