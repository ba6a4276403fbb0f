-- The key is looked for in the context entries, where there are some.
use Rattle.held.proofs.Laws.Parts.{context_lying, row_key_lying}
use Rattle.rooms.proofs.Laws.ListingValues.{asked_none, asking_lying, row_nothing, row_value, context_there}
use Rattle.rooms.proofs.listing.value_of.Goals as goal

pub returns-in_err-at : goal.returns-in_err-at
returns-in_err-at c = λ x cs l m. rw c.from_residual.ensures (asked_none x.key m c.in_err-at.was)

pub key_place-requires : goal.key_place-requires
key_place-requires c =
    (row_key_lying c.requires.0, asking_lying c.requires.1 c.in_ok-at.was)

pub returns-in_err-c : goal.returns-in_err-c
returns-in_err-c c =
    λ x cs l m. rw c.from_residual-in_err-c.ensures (row_nothing c.key_place.result c.key_place.ensures c.in_ok-at.was x cs l m c.in_err-c.was)

pub behind_label-requires : goal.behind_label-requires
behind_label-requires c =
    context_lying (context_there c.key_place.result c.key_place.ensures
    c.in_ok-at.was c.requires.0 c.requires.1 c.in_ok-c.was)

pub returns : goal.returns
returns c =
    λ x cs l m.
    row_value c.key_place.result c.key_place.ensures c.in_ok-at.was x cs l m c.in_ok-c.was
    c.behind_label.ensures
