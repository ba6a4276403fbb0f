-- One statement or those of a list are held behind the place of their number, which is written last.
use Prim.Native.Nat.{◌≤◌}
use native.Mathlib.Omega.{arith}
use Rattle.syntax.specs.Members.{then, one_or_more, differing}
use Rattle.syntax.specs.PolicyLayout.{statement_of, same_sid}
use Rattle.held.specs.Held.{held_statement, held}
use Rattle.parts.proofs.Laws.Formed.{ends_past, ends_wrong, lists_several, lists_wrong}
use Rattle.parts.proofs.Laws.Several.{is_list_lem, list_holdable, gathered_few, statement_some}
use Rattle.parts.proofs.Laws.Several.{list_stands}
use Rattle.policy.proofs.Laws.StatementsPolicy.{single_left, single_laid, several_left, several_none}
use Rattle.policy.proofs.Laws.StatementsPolicy.{several_laid}
use borrow.Author.Rules.{rules}
use Rattle.parts.proofs.Laws.Kinds.{list_told}
use Rattle.parts.proofs.Laws.Formed.{none_ends}
use Rattle.policy.proofs.statements.hold_several.Goals as goal

pub kind_at-requires : goal.kind_at-requires
kind_at-requires c =
    record { what = c.requires.what; stop = c.requires.stop; is = c.requires.is }

pub hold_statement-requires : goal.hold_statement-requires
hold_statement-requires c =
    record {
      what = c.requires.what;
      stop = c.requires.stop;
      is = c.requires.is;
      roomy = record { room = omega (arith, c.requires.roomy.room); bounded = c.requires.roomy.bounded };
    }

pub returns-in_err-h : goal.returns-in_err-h
returns-in_err-h c =
    λ t e p.
    none_ends held c.args.run.now _ 0 (then (one_or_more statement_of t) (differing same_sid)) _ c.from_residual.ensures
    (let not = list_told c.kind_at.ensures c.ne.ensures c.if-ne.true in
    single_left t (not t e p) (ends_wrong held_statement c.args.run.now _ _ _ _ (c.hold_statement.ensures t e p) c.in_err-h.was))

pub bounds-run-0 : goal.bounds-run-0
bounds-run-0 c =
    let d = ends_past held_statement c.args.run.now _ _ _ _ (c.hold_statement.ensures _ _ c.requires.is) c.in_ok-h.was in
    omega (arith, d.0.extends.size, c.requires.roomy.room)

pub returns-then-ne : goal.returns-then-ne
returns-then-ne c =
    λ t e p.
    let not = list_told c.kind_at.ensures c.ne.ensures c.if-ne.true in
    let d = ends_past held_statement c.args.run.now _ _ _ _ (c.hold_statement.ensures t e p) c.in_ok-h.was in
    (single_laid t (not t e p) (omega (arith, c.requires.roomy.room)) d.0, d.1)

pub hold_statements-requires : goal.hold_statements-requires
hold_statements-requires c =
    let yes = list_told c.kind_at.ensures c.ne.ensures c.if-ne.false in
    list_holdable c.requires (yes _ _ c.requires.is)

pub returns-in_err-past : goal.returns-in_err-past
returns-in_err-past c =
    λ t e p.
    none_ends held c.args.run.now _ 0 (then (one_or_more statement_of t) (differing same_sid)) _ c.from_residual-in_err-past.ensures
    (let yes = list_told c.kind_at.ensures c.ne.ensures c.if-ne.false in
    let stands = list_stands p (yes t e p) in
    several_left (is_list_lem t (yes t e p)).is (lists_wrong held_statement c.args.run.now _ _ _ _ (c.hold_statements.ensures _ _ stands)
    c.in_err-past.was))

pub returns-then-count-eq0 : goal.returns-then-count-eq0
returns-then-count-eq0 c =
    λ t e p.
    let yes = list_told c.kind_at.ensures c.ne.ensures c.if-ne.false in
    let stands = list_stands p (yes t e p) in
    let gathered = lists_several held_statement c.args.run.now _ _ _ _ (c.hold_statements.ensures _ _ stands)
    c.in_ok-past.was in
    several_none (is_list_lem t (yes t e p)).is c.if-count-eq0.true gathered.0

pub overflow_cast-run : goal.overflow_cast-run
overflow_cast-run c =
    let yes = list_told c.kind_at.ensures c.ne.ensures c.if-ne.false in
    let stood = list_stands c.requires.is (yes _ _ c.requires.is) in
    let g = lists_several held_statement c.args.run.now _ _ _ _ (c.hold_statements.ensures _ _ stood) c.in_ok-past.was in
    let few = gathered_few statement_some (omega (arith, c.requires.roomy.room)) g.0 in
    let k : c.in_ok-past.count ≤ 16384 = omega (arith, few, c.requires.roomy.bounded) in
    search rules

pub bounds-run-0-2 : goal.bounds-run-0-2
bounds-run-0-2 c =
    let yes = list_told c.kind_at.ensures c.ne.ensures c.if-ne.false in
    let stood = list_stands c.requires.is (yes _ _ c.requires.is) in
    let g = lists_several held_statement c.args.run.now _ _ _ _ (c.hold_statements.ensures _ _ stood) c.in_ok-past.was in
    omega (arith, g.0.extends.size, c.requires.roomy.room)

pub returns : goal.returns
returns c =
    λ t e p.
    let yes = list_told c.kind_at.ensures c.ne.ensures c.if-ne.false in
    let stands = list_stands p (yes t e p) in
    let gathered = lists_several held_statement c.args.run.now _ _ _ _ (c.hold_statements.ensures _ _ stands)
    c.in_ok-past.was in (
      several_laid (is_list_lem t (yes t e p)).is c.if-count-eq0.false (omega (arith, c.requires.roomy.room)) gathered.0,
      gathered.1,
    )
