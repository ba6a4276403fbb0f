-- The raw part lies between the opening quote and the closing one.
use native.Mathlib.Omega.{arith}
use Rattle.text.proofs.Laws.Places.{text_grows}
use Rattle.text.proofs.Laws.Contents.{stands_inside, text_done, text_raw}
use Rattle.text.proofs.Laws.Seeking.{found_done}
use Rattle.text.proofs.walk.quoted.Goals as goal

pub overflow_add-from : goal.overflow_add-from
overflow_add-from c = let h = stands_inside c.requires.is in omega arith

pub past_quote-requires : goal.past_quote-requires
past_quote-requires c = record { stop = c.requires.stop; is = text_done c.requires.is }

pub overflow_sub-result : goal.overflow_sub-result
overflow_sub-result c =
    let h = text_grows (text_done c.requires.is) in
    let z = c.past_quote.ensures c.requires.stop (text_done c.requires.is) in omega arith

pub returns : goal.returns
returns c =
    λ w e p. text_raw p _ (found_done (record { stop = e; is = text_done p }) c.past_quote.ensures)
