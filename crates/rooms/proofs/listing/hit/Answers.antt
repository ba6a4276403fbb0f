-- The value is kept where the entry meets it.
use mathlib.Core.Path.{sym, ap, ◌∙◌}
use Rattle.held.specs.Held.{operator_number}
use Rattle.candidates.specs.Entries.{comparison}
use Rattle.candidates.specs.Places.{place_is}
use Rattle.rooms.proofs.Laws.ListingValues.{is_value, hit_value, hit_apart}
use Rattle.rooms.proofs.listing.hit.Goals as goal

pub returns-then-not-meets_at : goal.returns-then-not-meets_at
returns-then-not-meets_at c = λ x f l w.
    let t = is_value w c.in_ok-v.was in
    let m = c.meets_at.ensures (comparison (place_is c.args.place)) x t.value
    (c.number-operator.ensures ∙ ap operator_number c.comparison.ensures) l t.lies in
    hit_apart (place_is c.args.place) x t (sym m ∙ c.if-not-meets_at.true)

pub returns : goal.returns
returns c = λ x f l w.
    let t = is_value w c.in_ok-v.was in
    let m = c.meets_at.ensures (comparison (place_is c.args.place)) x t.value
    (c.number-operator.ensures ∙ ap operator_number c.comparison.ensures) l t.lies in
    hit_value (place_is c.args.place) x t (sym m ∙ c.if-not-meets_at.false)
