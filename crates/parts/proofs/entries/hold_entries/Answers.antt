-- One entry or those of a list are held behind the place of their number, which is written last.
use Prim.Native.Nat.{◌≤◌}
use native.Mathlib.Omega.{arith}
use Rattle.held.specs.Held.{held_value}
use Rattle.parts.specs.Holding.{entry_of}
use Rattle.syntax.specs.Members.{one_or_more}
use Rattle.held.specs.Held.{held_list}
use Rattle.parts.proofs.Laws.Formed.{ends_past, ends_wrong}
use Rattle.parts.proofs.Laws.Formed.{lists_several, lists_wrong}
use Rattle.parts.proofs.Laws.Several.{is_list_lem, list_holdable, one_left, one_laid, list_left}
use Rattle.parts.proofs.Laws.Several.{list_none, list_laid, gathered_few, value_some, list_stands}
use borrow.Author.Rules.{rules}
use Rattle.parts.proofs.Laws.Formed.{none_ends}
use Rattle.parts.proofs.Laws.Kinds.{list_told}
use Rattle.parts.proofs.entries.hold_entries.Goals as goal

pub hold_entry-requires : goal.hold_entry-requires
hold_entry-requires c = record {
  what = c.requires.what;
  stop =
      c.requires.stop;
  is =
      c.requires.is;
  roomy = record {
    room = omega (arith, c.requires.roomy.room);
    bounded =
        c.requires.roomy.bounded;
  };
}

pub returns-in_err-h : goal.returns-in_err-h
returns-in_err-h c =
    λ t e p. none_ends (held_list held_value) c.args.run.now _ c.args.at (one_or_more (entry_of c.args.k) t) _ c.from_residual.ensures (one_left held_value (entry_of c.args.k) t
    ((list_told c.kind_at.ensures c.ne.ensures c.if-ne.true) t e p)
    (ends_wrong held_value c.args.run.now _ _ _ _ (c.hold_entry.ensures t e p)
    c.in_err-h.was))

pub returns-then-ne : goal.returns-then-ne
returns-then-ne c =
    λ t e p. (
      one_laid held_value (entry_of c.args.k) t
          ((list_told c.kind_at.ensures c.ne.ensures c.if-ne.true) t e p) (omega (arith, c.requires.roomy.room))
          (ends_past held_value c.args.run.now _ _ _ _ (c.hold_entry.ensures t e p)
          c.in_ok-h.was).0,
      (ends_past held_value c.args.run.now _ _ _ _ (c.hold_entry.ensures t e p)
          c.in_ok-h.was).1,
    )

pub hold_list-requires : goal.hold_list-requires
hold_list-requires c = list_holdable c.requires
    ((list_told c.kind_at.ensures c.ne.ensures c.if-ne.false) _ _
    c.requires.is)

pub returns-in_err-past : goal.returns-in_err-past
returns-in_err-past c =
    λ t e p. none_ends (held_list held_value) c.args.run.now _ c.args.at (one_or_more (entry_of c.args.k) t) _ c.from_residual-in_err-past.ensures (list_left held_value (entry_of c.args.k)
    (is_list_lem t ((list_told c.kind_at.ensures c.ne.ensures c.if-ne.false) t e p)).is
    (lists_wrong held_value c.args.run.now _ _ _ _
    (c.hold_list.ensures _ _ (list_stands p
    ((list_told c.kind_at.ensures c.ne.ensures c.if-ne.false) t e p))) c.in_err-past.was))

pub returns-then-count-eq0 : goal.returns-then-count-eq0
returns-then-count-eq0 c =
    λ t e p. list_none held_value (entry_of c.args.k)
    (is_list_lem t ((list_told c.kind_at.ensures c.ne.ensures c.if-ne.false) t e p)).is c.if-count-eq0.true
    (lists_several held_value c.args.run.now _ _ _ _
    (c.hold_list.ensures _ _ (list_stands p
    ((list_told c.kind_at.ensures c.ne.ensures c.if-ne.false) t e p))) c.in_ok-past.was).0

pub overflow_cast-run : goal.overflow_cast-run
overflow_cast-run c =
    let g = (lists_several held_value c.args.run.now _ _ _ _
    (c.hold_list.ensures _ _ (list_stands c.requires.is
    ((list_told c.kind_at.ensures c.ne.ensures c.if-ne.false) _ _ c.requires.is))) c.in_ok-past.was).0 in
    let few = gathered_few value_some (omega (arith, c.requires.roomy.room)) g in
    let k : c.in_ok-past.count ≤ 16384 = omega (arith, few, c.requires.roomy.bounded) in search rules

pub returns : goal.returns
returns c =
    λ t e p. (
      list_laid held_value (entry_of c.args.k)
          (is_list_lem t ((list_told c.kind_at.ensures c.ne.ensures c.if-ne.false) t e p)).is c.if-count-eq0.false
          (omega (arith, c.requires.roomy.room))
          (lists_several held_value c.args.run.now _ _ _ _
          (c.hold_list.ensures _ _ (list_stands p
          ((list_told c.kind_at.ensures c.ne.ensures c.if-ne.false) t e p))) c.in_ok-past.was).0,
      (lists_several held_value c.args.run.now _ _ _ _
          (c.hold_list.ensures _ _ (list_stands p
          ((list_told c.kind_at.ensures c.ne.ensures c.if-ne.false) t e p))) c.in_ok-past.was).1,
    )
