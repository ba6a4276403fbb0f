-- The statements and the edition stand one behind the other, and then the object ends.
use mathlib.Core.Path.{refl}
use Rattle.straight.specs.Marks.{all_bare}
use Rattle.straight.proofs.Laws.Reads.{quoted_inside, reads_inside}
use Rattle.objects.proofs.Laws.Policies.{statement_first_taken}
use Rattle.objects.proofs.Laws.Words.{ok_or_some}
use Rattle.objects.proofs.Laws.Left.{statement_reached, gets_inside, gets_behind, gets_ended}
use Rattle.std.proofs.Common.{rules}
use Rattle.objects.proofs.policies.statement_first.Goals as goal

pub first-requires : goal.first-requires
unfolding all_bare
first-requires c = search rules

pub returns-in_err-past : goal.returns-in_err-past
returns-in_err-past c =
    let r = statement_reached (c.first.ensures.found _ (ok_or_some _ _ c.ok_or.ensures.value c.in_ok-b.was)) in
    let h = gets_inside r c.args.run.now c.several.new.run _ c.in_err-past.ensures in search rules

pub next-requires : goal.next-requires
unfolding all_bare
next-requires c =
    let t = c.in_ok-past.ensures in
    (reads_inside t.reads, refl)

pub returns-in_err-a : goal.returns-in_err-a
returns-in_err-a c =
    let r = statement_reached (c.first.ensures.found _ (ok_or_some _ _ c.ok_or.ensures.value c.in_ok-b.was)) in
    let t = c.in_ok-past.ensures in
    let h = gets_behind r c.args.run.now c.several.new.run t in search rules

pub quote-requires : goal.quote-requires
unfolding all_bare
quote-requires c = search rules

pub returns-in_err-i : goal.returns-in_err-i
returns-in_err-i c =
    let r = statement_reached (c.first.ensures.found _ (ok_or_some _ _ c.ok_or.ensures.value c.in_ok-b.was)) in
    let t = c.in_ok-past.ensures in
    let h = gets_behind r c.args.run.now c.several.new.run t in search rules

pub ended-requires : goal.ended-requires
ended-requires c = quoted_inside (c.quote.ensures.found _ (ok_or_some _ _ c.ok_or-3.ensures.value c.in_ok-i.was))

pub returns : goal.returns
returns c =
    let f = c.first.ensures.found _ (ok_or_some _ _ c.ok_or.ensures.value c.in_ok-b.was) in
    let t = c.in_ok-past.ensures in
    let n = c.next.ensures.found _ (ok_or_some _ _ c.ok_or-2.ensures.value c.in_ok-a.was) in
    let q = c.quote.ensures.found _ (ok_or_some _ _ c.ok_or-3.ensures.value c.in_ok-i.was) in
    gets_ended (statement_reached f) c.args.run.now c.several.new.run t
    _ c.ended.result (λ e z. statement_first_taken f t n q z) c.ended.ensures
