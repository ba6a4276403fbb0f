-- The key and the values are held one behind the other, the operator's number is written last.
-- the call that holds the key, and where the function starts
use Prim.Native.Nat.{◌+◌, ◌<◌}
use native.Mathlib.Omega.{arith}
use lib.ListN.{length}
use Rattle.syntax.specs.Members.{characters_of, one_or_more}
use Rattle.syntax.specs.PolicyLayout.{value_of}
use Rattle.held.specs.Held.{held_text, held_list, held_value}
use Rattle.parts.specs.Spoken.{operator_is}
use Rattle.straight.proofs.Laws.Taking.{takes_past}
use Rattle.straight.proofs.Laws.Rows.{row_taken}
use Rattle.straight.proofs.rows.row.Goals as goal

pub returns : goal.returns
returns c =
    let o = operator_is c.args.o in
    row_taken ((let z : c.args.at < length c.args.run.now = omega (arith, c.if-run-at.false) in z)) ((takes_past held_text 0 c.args.s.now c.args.run.now c.string.new.run
    c.args.i (c.args.at + 1) characters_of c.string.ensures c.in_ok-key.was)) o _ c.is_key.ensures
    c.if-not-is_key.false
    (c.parted.ensures.found _ c.in_ok-v.was)
    (takes_past (held_list held_value) 1 c.args.s.now c.string.new.run
    c.entries.new.run c.in_ok-v.v c.in_ok-key.key.past
    (one_or_more (value_of o)) c.entries.ensures c.in_ok-h.was)
    c.number.ensures
