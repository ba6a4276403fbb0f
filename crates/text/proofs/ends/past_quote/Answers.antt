-- No quote that ends the string is passed, and one comes, since the string is whole.
use native.Mathlib.Omega.{arith}
use Rattle.text.proofs.Laws.Seeking.{quoting_high, nears_inside, pair_inside, nears_pair, nears_other, nears_quote}
use borrow.Author.Rules.{rules}
use Rattle.text.proofs.ends.past_quote.Goals as goal

pub unmarked_eights-i-requires : goal.unmarked_eights-i-requires
unmarked_eights-i-requires c = quoting_high c.requires

pub loop-at-init : goal.loop-at-init
loop-at-init c = c.unmarked_eights-i.ensures

pub bounds-s-i : goal.bounds-s-i
bounds-s-i c = nears_inside c.requires c.loop-at.invariant

pub overflow_add-result : goal.overflow_add-result
overflow_add-result c =
    let h = nears_inside c.requires c.loop-at.invariant in search rules

pub returns-then-b-eq34 : goal.returns-then-b-eq34
returns-then-b-eq34 c = nears_quote c.loop-at.invariant c.if-b-eq34.true

pub overflow_add-i : goal.overflow_add-i
overflow_add-i c =
    let h = pair_inside c.requires c.loop-at.invariant c.if-b-eq92.true in
    search rules

pub loop-at-smaller-then-b-eq92 : goal.loop-at-smaller-then-b-eq92
loop-at-smaller-then-b-eq92 c =
    let h = pair_inside c.requires c.loop-at.invariant c.if-b-eq92.true in
    omega arith

pub loop-at-preserved-then-b-eq92 : goal.loop-at-preserved-then-b-eq92
loop-at-preserved-then-b-eq92 c =
    nears_pair c.requires c.loop-at.invariant c.if-b-eq92.true

pub overflow_add-i-else-b-eq92 : goal.overflow_add-i-else-b-eq92
overflow_add-i-else-b-eq92 c =
    let h = nears_inside c.requires c.loop-at.invariant in search rules

pub loop-at-smaller : goal.loop-at-smaller
loop-at-smaller c =
    let h = nears_inside c.requires c.loop-at.invariant in omega arith

pub loop-at-preserved : goal.loop-at-preserved
loop-at-preserved c =
    nears_other c.loop-at.invariant (nears_inside c.requires c.loop-at.invariant)
    (record { no_quote = c.if-b-eq34.false; no_solidus = c.if-b-eq92.false })
