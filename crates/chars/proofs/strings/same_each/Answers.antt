-- Each turn strikes one character off the text and one byte off w.
use mathlib.Core.Path.{sym, ◌∙◌}
use native.Mathlib.Omega.{arith}
use Rattle.chars.proofs.Laws.Strings.Runs.{reads_char, reads_none}
use Rattle.chars.proofs.Laws.Strings.Runs.{match_short, match_lone, match_other, match_next, match_end}
use Rattle.chars.proofs.strings.same_each.Goals as goal

pub returns-then-i-s : goal.returns-then-i-s
returns-then-i-s c = match_short c.loop-b.invariant.1 c.loop-b-test.true (omega arith)

pub returns-in_default : goal.returns-in_default
returns-in_default c = match_lone c.loop-b.invariant.1 (reads_none c.char_at.ensures c.in_default.is)

pub returns-then-c-from : goal.returns-then-c-from
returns-then-c-from c =
    match_other c.loop-b.invariant.1 c.loop-b-test.true (reads_char c.char_at.ensures c.in-Some.is)
    (λ e. c.if-c-from.true (e ∙ sym c.from.ensures))

pub loop-b-preserved : goal.loop-b-preserved
loop-b-preserved c =
    let t = reads_char c.char_at.ensures c.in-Some.is in
    (t.on.1, match_next c.loop-b.invariant.1 c.loop-b-test.true t (c.if-c-from.false ∙ c.from.ensures))

pub returns : goal.returns
returns c = match_end c.loop-b.invariant.1 c.loop-b.invariant.0 c.loop-b-test.false
