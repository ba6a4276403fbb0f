-- Each turn takes one member more or finds that it breaks the layout; behind the last both have to have come.
use mathlib.Core.Path.{refl, sym, ◌∙◌, subst}
use Prim.Native.Nat.{ℕ, ◌<◌}
use native.Mathlib.Omega.{arith}
use Rattle.text.specs.Contents.{Others, Leads}
use Rattle.text.specs.declared.walk.Member.{Member}
use Rattle.text.proofs.Laws.Contents.{stands_done}
use Rattle.text.proofs.Laws.Places.{value_grows}
use Rattle.parts.proofs.Laws.Walking.{left_of, left_falls}
use Rattle.policy.proofs.Laws.Partway.{partway_start, left_told, laid_told, version_missing}
use Rattle.policy.proofs.Laws.Partway.{statement_missing, partway_end}
use Rattle.policy.proofs.Laws.PartwayOn.{adds_so, adds_wrong, member, member_holdable, partway_wrong}
use Rattle.policy.proofs.Laws.PartwayOn.{partway_more}
use Rattle.parts.proofs.Laws.Formed.{none_holds}
use Rattle.parts.proofs.Laws.Slots.{turn_some, turn_none}
use Rattle.text.specs.Json.{object}
use Rattle.syntax.specs.PolicyLayout.{policy_of}
use Rattle.held.specs.Held.{held}
use Rattle.policy.specs.Statements.{unknown}
use Rattle.policy.proofs.Laws.PartwayOn.{positive}
use Rattle.policy.proofs.statements.hold_members.Goals as goal

pub first_member-m-requires : goal.first_member-m-requires
first_member-m-requires c =
    record { what = c.requires.what; stop = c.requires.stop; is = c.requires.is }

pub loop-m-init : goal.loop-m-init
loop-m-init c =
    partway_start c.requires c.first_member-m.result (c.first_member-m.ensures _ _ c.requires.is)

pub shape_of-run-then-version-eq0 : goal.shape_of-run-then-version-eq0
shape_of-run-then-version-eq0 c = c.loop-m.invariant.size

pub returns-then-version-eq0 : goal.returns-then-version-eq0
returns-then-version-eq0 c =
    left_told c.loop-m.invariant (version_missing c.loop-m.invariant _ c.in_default.is c.if-version-eq0.true)

pub shape_of-run-then-past-eq0 : goal.shape_of-run-then-past-eq0
shape_of-run-then-past-eq0 c = c.loop-m.invariant.size

pub returns-then-past-eq0 : goal.returns-then-past-eq0
returns-then-past-eq0 c =
    left_told c.loop-m.invariant (statement_missing c.loop-m.invariant _ c.in_default.is c.if-past-eq0.true)

pub shape_of-run-in_default : goal.shape_of-run-in_default
shape_of-run-in_default c = c.loop-m.invariant.size

pub returns-in_default : goal.returns-in_default
returns-in_default c =
    laid_told c.loop-m.invariant (partway_end c.loop-m.invariant _ c.in_default.is c.if-version-eq0.false c.if-past-eq0.false)

pub slice_bounds-which-count : goal.slice_bounds-which-count
slice_bounds-which-count c = omega (arith, (member c.loop-m.invariant _ _ _ c.in-Named.is).order)

pub slice_bounds-which-start : goal.slice_bounds-which-start
slice_bounds-which-start c = omega (arith, (member c.loop-m.invariant _ _ _ c.in-Named.is).order)

pub slice_bounds-which-end : goal.slice_bounds-which-end
slice_bounds-which-end c = omega (arith, (member c.loop-m.invariant _ _ _ c.in-Named.is).inside)

pub hold_member-requires : goal.hold_member-requires
hold_member-requires c =
    (let z = (turn_some _ c.which.ensures c.in_ok-k.was).1 in positive z, member_holdable c.loop-m.invariant _ _ _ c.in-Named.is)

pub shape_of-run-in_err-h : goal.shape_of-run-in_err-h
shape_of-run-in_err-h c =
    c.hold_member.auto.run ∙ c.loop-m.invariant.size

pub returns-in_err-h : goal.returns-in_err-h
returns-in_err-h c =
    λ ts e p. none_holds held c.args.run.now _ 0 (policy_of (object ts)) c.from_residual-in_err-h.ensures
    ((let l = member c.loop-m.invariant _ _ _ c.in-Named.is in
    let b = adds_wrong c.in_ok-k.k c.in-Named.value l.head l.stop
    c.loop-m.run c.hold_member.new.run c.loop-m.version c.loop-m.past
    (c.hold_member.ensures _ _ l.stands) c.in_err-h.was in
    left_told c.loop-m.invariant (partway_wrong c.loop-m.invariant _ _ _ c.in-Named.is _ (turn_some _ c.which.ensures c.in_ok-k.was).0 b.0 b.1)) ts e p)

pub next_member-m-requires : goal.next_member-m-requires
next_member-m-requires c = record {
  what = _;
  stop = _;
  is = (let l = member c.loop-m.invariant _ _ _ c.in-Named.is in
      subst (λ (i : ℕ). Others (c.args.s.now) l.tail i c.loop-m.invariant.walking.stop) (sym ((let l = member c.loop-m.invariant _ _ _ c.in-Named.is in
      adds_so c.in_ok-k.k c.in-Named.value l.head l.stop
      c.loop-m.run c.hold_member.new.run c.loop-m.version c.loop-m.past
      (c.hold_member.ensures _ _ l.stands) c.in_ok-h.was)).1) l.follows);
}

pub loop-m-smaller : goal.loop-m-smaller
loop-m-smaller c =
    let l = member c.loop-m.invariant _ _ _ c.in-Named.is in
    let d = stands_done l.stands in
    subst (λ (q : Member). left_of (c.args.s.now) c.next_member-m.result
    < left_of (c.args.s.now) q) (sym c.in-Named.is)
    (left_falls _ _ _ _ _ _ _ c.next_member-m.result (value_grows d) d.high ((let l = member c.loop-m.invariant _ _ _ c.in-Named.is in
    subst (λ (i : ℕ). Leads (c.args.s.now) i l.tail c.loop-m.invariant.walking.stop c.next_member-m.result)
    ((let l = member c.loop-m.invariant _ _ _ c.in-Named.is in
    adds_so c.in_ok-k.k c.in-Named.value l.head l.stop
    c.loop-m.run c.hold_member.new.run c.loop-m.version c.loop-m.past
    (c.hold_member.ensures _ _ l.stands) c.in_ok-h.was)).1 (c.next_member-m.ensures _ _ ((let l = member c.loop-m.invariant _ _ _ c.in-Named.is in
    subst (λ (i : ℕ). Others (c.args.s.now) l.tail i c.loop-m.invariant.walking.stop) (sym ((let l = member c.loop-m.invariant _ _ _ c.in-Named.is in
    adds_so c.in_ok-k.k c.in-Named.value l.head l.stop
    c.loop-m.run c.hold_member.new.run c.loop-m.version c.loop-m.past
    (c.hold_member.ensures _ _ l.stands) c.in_ok-h.was)).1) l.follows))))))

pub loop-m-preserved : goal.loop-m-preserved
loop-m-preserved c =
    partway_more c.loop-m.invariant _ _ _ c.in-Named.is _
    (turn_some _ c.which.ensures c.in_ok-k.was).0 c.next_member-m.result ((let l = member c.loop-m.invariant _ _ _ c.in-Named.is in
    subst (λ (i : ℕ). Leads (c.args.s.now) i l.tail c.loop-m.invariant.walking.stop c.next_member-m.result)
    ((let l = member c.loop-m.invariant _ _ _ c.in-Named.is in
    adds_so c.in_ok-k.k c.in-Named.value l.head l.stop
    c.loop-m.run c.hold_member.new.run c.loop-m.version c.loop-m.past
    (c.hold_member.ensures _ _ l.stands) c.in_ok-h.was)).1 (c.next_member-m.ensures _ _ ((let l = member c.loop-m.invariant _ _ _ c.in-Named.is in
    subst (λ (i : ℕ). Others (c.args.s.now) l.tail i c.loop-m.invariant.walking.stop) (sym ((let l = member c.loop-m.invariant _ _ _ c.in-Named.is in
    adds_so c.in_ok-k.k c.in-Named.value l.head l.stop
    c.loop-m.run c.hold_member.new.run c.loop-m.version c.loop-m.past
    (c.hold_member.ensures _ _ l.stands) c.in_ok-h.was)).1) l.follows))))) ((let l = member c.loop-m.invariant _ _ _ c.in-Named.is in
    adds_so c.in_ok-k.k c.in-Named.value l.head l.stop
    c.loop-m.run c.hold_member.new.run c.loop-m.version c.loop-m.past
    (c.hold_member.ensures _ _ l.stands) c.in_ok-h.was)).0

pub returns-in_err-k : goal.returns-in_err-k
returns-in_err-k c =
    λ ts e p. none_holds held c.args.run.now _ 0 (policy_of (object ts)) c.from_residual.ensures
    ((left_told c.loop-m.invariant (partway_wrong c.loop-m.invariant _ _ _ c.in-Named.is 0
    (turn_none _ c.which.ensures c.in_err-k.was) refl (unknown refl))) ts e p)
