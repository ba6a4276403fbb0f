-- The decoder lays the characters behind the place of their number; there is room for as many as bytes.
use Prim.Native.Nat.{◌≤◌}
use native.Mathlib.Omega.{arith}
use Rattle.parts.proofs.Laws.Holding.{held_size, held_wrong, held_count, held_text_lem}
use borrow.Author.Rules.{rules}
use Rattle.parts.proofs.holding.hold_raw.Goals as goal

pub overflow_cast-run : goal.overflow_cast-run
overflow_cast-run c =
    let n = held_count c.args.run.now _ _
    c.args.at
    c.requires _
    c.decode-d.ensures _ c.in-Ok.is in
    let k : c.in-Ok.n ≤ 16384 = omega (
      arith,
      n.1,
      c.requires.room,
      c.requires.bounded,
    ) in search rules

pub overflow_add-result : goal.overflow_add-result
overflow_add-result c =
    let n = held_count c.args.run.now _ _
    c.args.at
    c.requires _
    c.decode-d.ensures _ c.in-Ok.is in
    let k : c.in-Ok.n ≤ 16384 = omega (
      arith,
      n.1,
      c.requires.room,
      c.requires.bounded,
    ) in search rules

pub returns-in-Ok : goal.returns-in-Ok
returns-in-Ok c = held_text_lem c.args.run.now _ _
    c.args.at
    c.requires _
    c.decode-d.ensures _ c.in-Ok.is

pub returns-in-Err : goal.returns-in-Err
returns-in-Err c =
    record {
      size = held_size c.args.run.now _ _ c.args.at c.requires _ c.decode-d.ensures;
      said = held_wrong c.args.run.now _ _ c.args.at c.requires _ c.decode-d.ensures _ c.in-Err.is;
    }
