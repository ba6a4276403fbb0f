-- The edition and the statements stand one behind the other, and then the object ends.
use mathlib.Core.Path.{refl}
use Rattle.straight.specs.Marks.{all_bare}
use Rattle.straight.proofs.Laws.Reads.{quoted_inside, reads_inside}
use Rattle.objects.proofs.Laws.Policies.{version_first_taken}
use Rattle.objects.proofs.Laws.Words.{ok_or_some}
use Rattle.objects.proofs.Laws.Left.{version_reached, gets_inside, gets_ended}
use Rattle.std.proofs.Common.{rules}
use Rattle.objects.proofs.policies.version_first.Goals as goal

pub first-requires : goal.first-requires
unfolding all_bare
first-requires c = search rules

pub quote-requires : goal.quote-requires
unfolding all_bare
quote-requires c = search rules

pub next-requires : goal.next-requires
unfolding all_bare
next-requires c = (quoted_inside (c.quote.ensures.found _ (ok_or_some _ _ c.ok_or-2.ensures.value c.in_ok-i.was)), refl)

pub returns-in_err-past : goal.returns-in_err-past
returns-in_err-past c =
    let r = version_reached (c.first.ensures.found _ (ok_or_some _ _ c.ok_or.ensures.value c.in_ok-a.was))
    (c.quote.ensures.found _ (ok_or_some _ _ c.ok_or-2.ensures.value c.in_ok-i.was))
    (c.next.ensures.found _ (ok_or_some _ _ c.ok_or-3.ensures.value c.in_ok-b.was)) in
    let h = gets_inside r c.args.run.now c.several.new.run _ c.in_err-past.ensures in search rules

pub ended-requires : goal.ended-requires
ended-requires c =
    reads_inside c.in_ok-past.ensures.reads

pub returns : goal.returns
returns c =
    let f = c.first.ensures.found _ (ok_or_some _ _ c.ok_or.ensures.value c.in_ok-a.was) in
    let q = c.quote.ensures.found _ (ok_or_some _ _ c.ok_or-2.ensures.value c.in_ok-i.was) in
    let n = c.next.ensures.found _ (ok_or_some _ _ c.ok_or-3.ensures.value c.in_ok-b.was) in
    let t = c.in_ok-past.ensures in
    gets_ended (version_reached f q n) c.args.run.now c.several.new.run t _
    c.ended.result (λ e z. version_first_taken f q n t z) c.ended.ensures
