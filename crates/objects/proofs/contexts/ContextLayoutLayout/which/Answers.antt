-- Each letter has one word.
use native.Mathlib.Omega.{arith}
use Rattle.straight.specs.Marks.{all_bare}
use Rattle.objects.proofs.Laws.Gathering.{names_is}
use Rattle.objects.specs.Contexts.{contexts}
use borrow.Author.Rules.{rules}
use Rattle.objects.proofs.contexts.ContextLayoutLayout.which.Goals as goal

pub named-requires : goal.named-requires
unfolding all_bare
named-requires c = search rules

pub named-requires-in-86 : goal.named-requires-in-86
unfolding all_bare
named-requires-in-86 c = search rules

pub named-requires-in-84 : goal.named-requires-in-84
unfolding all_bare
named-requires-in-84 c = search rules

pub returns-in-78 : goal.returns-in-78
returns-in-78 c =
    names_is contexts.words c.args.s.now c.args.i 1 c.named.result c.is.result (omega arith)
    (omega arith) c.named.ensures c.is.ensures

pub returns-in-86 : goal.returns-in-86
returns-in-86 c =
    names_is contexts.words c.args.s.now c.args.i 2 c.named-in-86.result c.is-in-86.result (omega arith)
    (omega arith) c.named-in-86.ensures c.is-in-86.ensures

pub returns-in-84 : goal.returns-in-84
returns-in-84 c =
    names_is contexts.words c.args.s.now c.args.i 3 c.named-in-84.result c.is-in-84.result (omega arith)
    (omega arith) c.named-in-84.ensures c.is-in-84.ensures
