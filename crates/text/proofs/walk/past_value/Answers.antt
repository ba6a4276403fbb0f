-- A list or an object is closed where it ends, a string at its quote.
use mathlib.Core.Logic.{⊎_elim}
use native.Mathlib.Omega.{arith}
use Rattle.text.proofs.Laws.Contents.{stands_inside, opened_done}
use Rattle.text.proofs.Laws.Skipping.{list_closes, object_closes}
use Rattle.text.proofs.walk.past_value.Goals as goal

pub bounds-s-v : goal.bounds-s-v
bounds-s-v c = stands_inside c.requires.is

pub past_closed-requires : goal.past_closed-requires
past_closed-requires c =
    record { stop = c.requires.stop; closes = ⊎_elim (λ z. list_closes z c.requires.is) (λ z. object_closes z c.requires.is) c.in-91.is }

pub overflow_add-v : goal.overflow_add-v
overflow_add-v c = let h = stands_inside c.requires.is in omega arith

pub past_quote-requires : goal.past_quote-requires
past_quote-requires c =
    record { stop = c.requires.stop; is = opened_done c.in-34.is c.requires.is }

pub past_leaf-requires : goal.past_leaf-requires
past_leaf-requires c = c.requires

pub returns-in-91 : goal.returns-in-91
returns-in-91 c =
    λ t e p.
    c.past_closed.ensures e (⊎_elim (λ z. list_closes z p) (λ z. object_closes z p) c.in-91.is)

pub returns-in-34 : goal.returns-in-34
returns-in-34 c = λ t e p. c.past_quote.ensures e (opened_done c.in-34.is p)

pub returns-in_default : goal.returns-in_default
returns-in_default c = c.past_leaf.ensures
