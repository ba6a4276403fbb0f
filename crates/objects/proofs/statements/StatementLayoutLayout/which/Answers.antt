-- Each letter has one word.
use native.Mathlib.Omega.{arith}
use Rattle.straight.specs.Marks.{all_bare}
use Rattle.objects.proofs.Laws.Gathering.{names_is}
use Rattle.objects.specs.Statements.{statements}
use borrow.Author.Rules.{rules}
use Rattle.objects.proofs.statements.StatementLayoutLayout.which.Goals as goal

pub named-requires : goal.named-requires
unfolding all_bare
named-requires c = search rules

pub named-requires-in-65 : goal.named-requires-in-65
unfolding all_bare
named-requires-in-65 c = search rules

pub named-requires-in-82 : goal.named-requires-in-82
unfolding all_bare
named-requires-in-82 c = search rules

pub named-requires-in-67 : goal.named-requires-in-67
unfolding all_bare
named-requires-in-67 c = search rules

pub named-requires-in-69 : goal.named-requires-in-69
unfolding all_bare
named-requires-in-69 c = search rules

pub returns-in-83 : goal.returns-in-83
returns-in-83 c =
    names_is statements.words c.args.s.now c.args.i 1 c.named.result c.is.result (omega arith)
    (omega arith) c.named.ensures c.is.ensures

pub returns-in-65 : goal.returns-in-65
returns-in-65 c =
    names_is statements.words c.args.s.now c.args.i 2 c.named-in-65.result c.is-in-65.result (omega arith)
    (omega arith) c.named-in-65.ensures c.is-in-65.ensures

pub returns-in-82 : goal.returns-in-82
returns-in-82 c =
    names_is statements.words c.args.s.now c.args.i 3 c.named-in-82.result c.is-in-82.result (omega arith)
    (omega arith) c.named-in-82.ensures c.is-in-82.ensures

pub returns-in-67 : goal.returns-in-67
returns-in-67 c =
    names_is statements.words c.args.s.now c.args.i 4 c.named-in-67.result c.is-in-67.result (omega arith)
    (omega arith) c.named-in-67.ensures c.is-in-67.ensures

pub returns-in-69 : goal.returns-in-69
returns-in-69 c =
    names_is statements.words c.args.s.now c.args.i 5 c.named-in-69.result c.is-in-69.result (omega arith)
    (omega arith) c.named-in-69.ensures c.is-in-69.ensures
