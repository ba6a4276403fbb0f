-- Each turn fills one slot or ends the walk; whatever object stands at the place is the one walked over.
use mathlib.Core.Path.{sym, subst}
use Prim.Native.Nat.{ℕ, ◌≤◌, ◌<◌}
use native.Mathlib.Omega.{arith}
use Rattle.text.specs.Contents.{Others, Leads}
use Rattle.text.specs.declared.walk.Member.{Member}
use Rattle.text.proofs.Laws.Contents.{stands_done}
use Rattle.text.proofs.Laws.Places.{value_grows}
use Rattle.parts.specs.Slots.{words_of}
use Rattle.parts.proofs.Laws.Walking.{walking_start, walking_told, walking_end, left_of, left_falls}
use Rattle.parts.proofs.Laws.Walking.{layout_distinct, layout_few}
use Rattle.parts.proofs.Laws.WalkingOn.{leader, turn, walking_unknown, walking_repeated, walking_more}
use Rattle.parts.proofs.Laws.Slots.{turn_some, turn_none}
use borrow.Author.Rules.{rules}
use Rattle.parts.proofs.members.slots.Goals as goal

pub loop-m-init : goal.loop-m-init
loop-m-init c =
    walking_start (words_of c.args.layout) c.first_member-m.result c.requires.is
    (c.first_member-m.ensures _ _ c.requires.is)

pub returns-in_default : goal.returns-in_default
returns-in_default c =
    let z = turn_none _ c.which.ensures c.in_default.is in
    walking_told c.loop-m.invariant _ (walking_unknown c.loop-m.invariant c.in-Named.name c.in-Named.end c.in-Named.value c.in-Named.is z)

pub offset_bounds-places-k : goal.offset_bounds-places-k
offset_bounds-places-k c =
    let k = turn_some _ c.which.ensures c.in-Some.is in
    let l = leader c.loop-m.invariant c.in-Named.name c.in-Named.end c.in-Named.value c.in-Named.is in
    let few = layout_few c.args.layout in
    let t = turn c.loop-m.invariant c.in-Named.name c.in-Named.end c.in-Named.value c.in-Named.is few c.in-Some.k k.0 k.1 in
    let h : c.in-Some.k ≤ 5 = omega (arith, t.to) in
    search rules

pub bounds-places-k : goal.bounds-places-k
bounds-places-k c =
    let k = turn_some _ c.which.ensures c.in-Some.is in
    let l = leader c.loop-m.invariant c.in-Named.name c.in-Named.end c.in-Named.value c.in-Named.is in
    let few = layout_few c.args.layout in
    let t = turn c.loop-m.invariant c.in-Named.name c.in-Named.end c.in-Named.value c.in-Named.is few c.in-Some.k k.0 k.1 in
    omega (arith, t.to, c.loop-m.invariant.size)

pub returns-then-places-k-ne0 : goal.returns-then-places-k-ne0
returns-then-places-k-ne0 c =
    let k = turn_some _ c.which.ensures c.in-Some.is in
    let few = layout_few c.args.layout in
    walking_told c.loop-m.invariant _ (walking_repeated c.loop-m.invariant c.in-Named.name c.in-Named.end c.in-Named.value c.in-Named.is few
    c.in-Some.k k.0 k.1 (omega arith))

pub offset_bounds-places-k-in-Named : goal.offset_bounds-places-k-in-Named
offset_bounds-places-k-in-Named c =
    let k = turn_some _ c.which.ensures c.in-Some.is in
    let l = leader c.loop-m.invariant c.in-Named.name c.in-Named.end c.in-Named.value c.in-Named.is in
    let few = layout_few c.args.layout in
    let t = turn c.loop-m.invariant c.in-Named.name c.in-Named.end c.in-Named.value c.in-Named.is few c.in-Some.k k.0 k.1 in
    let h : c.in-Some.k ≤ 5 = omega (arith, t.to) in
    search rules

pub bounds-places-k-in-Named : goal.bounds-places-k-in-Named
bounds-places-k-in-Named c =
    let k = turn_some _ c.which.ensures c.in-Some.is in
    let l = leader c.loop-m.invariant c.in-Named.name c.in-Named.end c.in-Named.value c.in-Named.is in
    let few = layout_few c.args.layout in
    let t = turn c.loop-m.invariant c.in-Named.name c.in-Named.end c.in-Named.value c.in-Named.is few c.in-Some.k k.0 k.1 in
    omega (arith, t.to, c.loop-m.invariant.size)

pub past_value-e-requires : goal.past_value-e-requires
past_value-e-requires c =
    let l = leader c.loop-m.invariant c.in-Named.name c.in-Named.end c.in-Named.value c.in-Named.is in
    record { what = l.head; stop = l.stop; is = l.stands }

pub next_member-m-requires : goal.next_member-m-requires
next_member-m-requires c =
    let l = leader c.loop-m.invariant c.in-Named.name c.in-Named.end c.in-Named.value c.in-Named.is in
    let end = c.past_value-e.ensures _ _ l.stands in
    let others = subst (λ (i : ℕ). Others c.args.s.now l.tail i c.loop-m.invariant.stop) (sym end) l.follows in
    record { what = l.tail; stop = c.loop-m.invariant.stop; is = others }

pub loop-m-smaller : goal.loop-m-smaller
loop-m-smaller c =
    let l = leader c.loop-m.invariant c.in-Named.name c.in-Named.end c.in-Named.value c.in-Named.is in
    let end = c.past_value-e.ensures _ _ l.stands in
    let others = subst (λ (i : ℕ). Others c.args.s.now l.tail i c.loop-m.invariant.stop) (sym end) l.follows in
    let leads = subst (λ (i : ℕ). Leads c.args.s.now i l.tail c.loop-m.invariant.stop c.next_member-m.result) end
    (c.next_member-m.ensures _ _ others) in
    let d = stands_done l.stands in
    subst (λ (q : Member). left_of c.args.s.now c.next_member-m.result < left_of c.args.s.now q) (sym c.in-Named.is)
    (left_falls _ _ _ _ _ _ _ c.next_member-m.result (value_grows d) d.high leads)

pub loop-m-preserved : goal.loop-m-preserved
loop-m-preserved c =
    let k = turn_some _ c.which.ensures c.in-Some.is in
    let l = leader c.loop-m.invariant c.in-Named.name c.in-Named.end c.in-Named.value c.in-Named.is in
    let end = c.past_value-e.ensures _ _ l.stands in
    let others = subst (λ (i : ℕ). Others c.args.s.now l.tail i c.loop-m.invariant.stop) (sym end) l.follows in
    let leads = subst (λ (i : ℕ). Leads c.args.s.now i l.tail c.loop-m.invariant.stop c.next_member-m.result) end
    (c.next_member-m.ensures _ _ others) in
    let few = layout_few c.args.layout in
    walking_more c.loop-m.invariant c.in-Named.name c.in-Named.end c.in-Named.value c.in-Named.is few
    c.in-Some.k k.0 k.1
    (omega arith) (layout_distinct c.args.layout) _ leads

pub returns-in-Past : goal.returns-in-Past
returns-in-Past c =
    walking_told c.loop-m.invariant _ (walking_end c.loop-m.invariant _ c.in-Past.is)
