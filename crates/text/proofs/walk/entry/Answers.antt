-- A name, a colon and a value stand there, and the twin tells where each ends.
use native.Mathlib.Omega.{arith}
use Rattle.text.proofs.Laws.Places.{text_grows}
use Rattle.text.proofs.Laws.Contents.Entries.{entry_inside, entry_headed, entry_quoting}
use Rattle.text.proofs.Laws.Seeking.{found_done}
use Rattle.text.proofs.walk.entry.Goals as goal

pub overflow_add-i : goal.overflow_add-i
overflow_add-i c = let h = entry_inside c.requires.is in omega arith

pub past_quote-q-requires : goal.past_quote-q-requires
past_quote-q-requires c = entry_quoting c.requires.is

pub space-c-requires : goal.space-c-requires
space-c-requires c = (found_done (entry_quoting c.requires.is) c.past_quote-q.ensures).high

pub overflow_add-c : goal.overflow_add-c
overflow_add-c c =
    let name = found_done (entry_quoting c.requires.is) c.past_quote-q.ensures in
    let h = ((entry_headed c.requires.is name).colon _ c.space-c.ensures).inside in omega arith

pub space-v-requires : goal.space-v-requires
space-v-requires c =
    let name = found_done (entry_quoting c.requires.is) c.past_quote-q.ensures in
    let h = ((entry_headed c.requires.is name).colon _ c.space-c.ensures).inside in omega arith

pub overflow_add-result : goal.overflow_add-result
overflow_add-result c = let h = entry_inside c.requires.is in omega arith

pub overflow_sub-result : goal.overflow_sub-result
overflow_sub-result c =
    let h = text_grows (found_done (entry_quoting c.requires.is) c.past_quote-q.ensures) in omega arith

pub returns : goal.returns
returns c =
    let name = found_done (entry_quoting c.requires.is) c.past_quote-q.ensures in
    λ ms e p. (entry_headed p name).leader _ _ c.space-c.ensures c.space-v.ensures
