-- Nothing is charged, or the value that lies there.
use mathlib.Core.Path.{ap, sym, ◌∙◌}
use Rattle.decision.specs.Decision.{Found}
use Rattle.rooms.specs.Rooms.{row_fed}
use Rattle.rooms.proofs.Laws.ListingValues.{is_value}
use Rattle.rooms.proofs.Laws.Walking.{right_value}
use Rattle.rooms.proofs.walking.feed_row.Goals as goal

pub charge_row-requires : goal.charge_row-requires
charge_row-requires c =
    let some = is_value c.requires.valued c.in-Some.is in
    record {
      slot = c.requires.slot;
      stands = c.requires.stands;
      value = some.value;
      lies = some.lies;
      right = right_value c.requires.right some.is;
      fits = c.requires.fits;
      size = c.requires.size;
    }

pub returns-in-Some : goal.returns-in-Some
returns-in-Some c =
    λ s f a v r g.
    let y = is_value v c.in-Some.is in
    c.charge_row.ensures s y.value a y.lies (right_value r y.is) g ∙ ap (λ (x : Found).
    row_fed s x c.args.row.now) (sym y.is)
