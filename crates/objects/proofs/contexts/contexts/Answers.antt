-- No entries are a zero; others lie behind their number, which is put in front of them.
use native.Mathlib.Omega.{arith}
use Rattle.objects.proofs.Laws.Contexts.{none_taken, contexts_taken}
use Rattle.objects.proofs.contexts.contexts.Goals as goal

pub returns-in-Some : goal.returns-in-Some
returns-in-Some c =
    none_taken (omega (arith, c.if-run-at.false)) (c.no_contexts.ensures.found _ c.in-Some.is)

pub returns : goal.returns
returns c =
    contexts_taken (omega (arith, c.if-run-at.false)) c.in_ok-past.ensures
    (omega (arith, c.if-count-gt-CONTEXTS.false))
