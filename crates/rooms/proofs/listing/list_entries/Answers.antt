-- Each turn notes one entry behind those before it; whichever entries lie at the place are the ones noted.
use mathlib.Core.Path.{refl}
use native.Mathlib.Omega.{arith}
use Rattle.held.specs.Held.{held_value}
use Rattle.held.proofs.Laws.Runs.{lies_first, lies_inside, lies_next}
use Rattle.candidates.specs.Places.{place_is}
use Rattle.rooms.proofs.Laws.ListingWalk.{list_ending, walk_start, walk_end}
use Rattle.rooms.proofs.Laws.ListingTurns.{entries_size, entry_lying, entry_noting, entry_next}
use Rattle.rooms.proofs.listing.list_entries.Goals as goal

pub bounds-run-at : goal.bounds-run-at
bounds-run-at c = lies_inside c.requires.1.lies

pub overflow_add-e : goal.overflow_add-e
overflow_add-e c = omega (arith, lies_inside c.requires.1.lies, c.requires.1.lies.bounded)

pub loop-i-init : goal.loop-i-init
loop-i-init c = λ a xs f e l w. walk_start xs (lies_first l) (lies_next l)

pub of-handling-requires : goal.of-handling-requires
of-handling-requires c = entry_lying c.loop-i.invariant c.requires c.loop-i-test.true

pub hit-value-requires : goal.hit-value-requires
hit-value-requires c = (entry_lying c.loop-i.invariant c.requires c.loop-i-test.true, c.requires.2)

pub bounds-dir-next : goal.bounds-dir-next
bounds-dir-next c = entry_noting c.loop-i.invariant c.requires c.loop-i-test.true

pub offset_bounds-dir-next : goal.offset_bounds-dir-next
offset_bounds-dir-next c = omega (arith, entry_noting c.loop-i.invariant c.requires c.loop-i-test.true)

pub overflow_add-next : goal.overflow_add-next
overflow_add-next c = omega (arith, entry_noting c.loop-i.invariant c.requires c.loop-i-test.true)

pub past_value-e-requires : goal.past_value-e-requires
past_value-e-requires c = entry_lying c.loop-i.invariant c.requires c.loop-i-test.true

pub loop-i-preserved : goal.loop-i-preserved
loop-i-preserved c =
    λ a xs f e l w.
    entry_next a (place_is c.args.place) xs f (c.loop-i.invariant a xs f e l w) c.loop-i-test.true _
    c.past_value-e.ensures (entry_noting c.loop-i.invariant c.requires c.loop-i-test.true)
    (λ x m. record {
      slot = record {
        handles = c.of-handling.ensures (record { effect = a; place = place_is c.args.place; entry = x }) e refl m;
        placed = refl;
        lies = m;
      };
      value = c.hit-value.ensures x f m w;
    })

pub shape_of-dir : goal.shape_of-dir
shape_of-dir c = entries_size c.loop-i.invariant c.requires

pub returns : goal.returns
returns c =
    λ a xs f e l w.
    list_ending held_value xs _ (walk_end (c.loop-i.invariant a xs f e l w) c.loop-i-test.false refl refl)
