-- Each letter has one word.
use native.Mathlib.Omega.{arith}
use Rattle.straight.specs.Marks.{all_bare}
use Rattle.objects.specs.Records.{records}
use Rattle.objects.proofs.Laws.Gathering.{names_is}
use borrow.Author.Rules.{rules}
use Rattle.objects.proofs.records.RecordLayoutLayout.which.Goals as goal

pub named-requires : goal.named-requires
unfolding all_bare
named-requires c = search rules

pub named-requires-in-82 : goal.named-requires-in-82
unfolding all_bare
named-requires-in-82 c = search rules

pub named-requires-in-67 : goal.named-requires-in-67
unfolding all_bare
named-requires-in-67 c = search rules

pub returns-in-65 : goal.returns-in-65
returns-in-65 c =
    names_is records.words c.args.s.now c.args.i 1 c.named.result c.is.result (omega arith)
    (omega arith) c.named.ensures c.is.ensures

pub returns-in-82 : goal.returns-in-82
returns-in-82 c =
    names_is records.words c.args.s.now c.args.i 2 c.named-in-82.result c.is-in-82.result (omega arith)
    (omega arith) c.named-in-82.ensures c.is-in-82.ensures

pub returns-in-67 : goal.returns-in-67
returns-in-67 c =
    names_is records.words c.args.s.now c.args.i 3 c.named-in-67.result c.is-in-67.result (omega arith)
    (omega arith) c.named-in-67.ensures c.is-in-67.ensures
