-- The list's first element is held; it is the only one if nothing stands behind it.
-- the list and its first element
use mathlib.Core.Path.{refl, ◌∙◌}
use native.Mathlib.Omega.{arith}
use Rattle.syntax.specs.Members.{characters_of}
use Rattle.held.specs.Held.{held_text}
use Rattle.syntax.specs.RecordLayout.{only_one}
use Rattle.parts.proofs.Laws.Room.{roomy_less}
use Rattle.parts.proofs.Laws.Formed.{ends_past, ends_wrong}
use Rattle.parts.proofs.Laws.Requests.Sole.{only_not, is_list_lem, list_stands, only_empty, list_begun}
use Rattle.parts.proofs.Laws.Requests.Sole.{begun_rest, begun_cost, begun_wrong, begun_more, begun_sole}
use Rattle.parts.proofs.Laws.Formed.{none_ends}
use Rattle.parts.proofs.Laws.Kinds.{list_told}
use Rattle.parts.proofs.sole.hold_sole.Goals as goal

pub returns-then-ne : goal.returns-then-ne
returns-then-ne c =
    λ t e p. record {
      size = refl;
      said = only_not characters_of t (list_told c.kind_at.ensures c.ne.ensures
          c.if-ne.true t e p);
    }

pub first_element-requires : goal.first_element-requires
first_element-requires c =
    let l = list_told c.kind_at.ensures c.ne.ensures c.if-ne.false _ _ c.requires.is in
    record { what = _; stop = _; is = list_stands c.requires.is (is_list_lem _ l) }

pub returns-in_default : goal.returns-in_default
returns-in_default c =
    λ t e p. record {
      size = refl;
      said = only_empty t p (list_told c.kind_at.ensures c.ne.ensures c.if-ne.false t e p) _
          c.first_element.ensures characters_of c.in_default.is;
    }

pub hold_string-requires : goal.hold_string-requires
hold_string-requires c =
    let b = (list_begun _ c.requires.is (list_told c.kind_at.ensures c.ne.ensures c.if-ne.false _ _ c.requires.is) _
    c.first_element.ensures c.in-At.is) in
    record {
      what = b.head;
      stop = b.stop;
      is = b.at;
      roomy = roomy_less c.requires.roomy refl (omega (arith, begun_cost b));
    }

pub returns-in_err-past : goal.returns-in_err-past
returns-in_err-past c =
    λ t e p. let b = (list_begun t p (list_told c.kind_at.ensures c.ne.ensures c.if-ne.false t e p) _
    c.first_element.ensures c.in-At.is) in
    let w = ends_wrong held_text c.args.run.now c.hold_string.new.run c.args.at
    (characters_of b.head) b.stop (c.hold_string.ensures _ _ b.at) c.in_err-past.was in
    none_ends held_text c.args.run.now _ c.args.at (only_one characters_of t) _ c.from_residual.ensures
    (record { size = w.size; said = begun_wrong b characters_of w.said })

pub next_element-requires : goal.next_element-requires
next_element-requires c =
    let b = (list_begun _ c.requires.is (list_told c.kind_at.ensures c.ne.ensures c.if-ne.false _ _ c.requires.is) _
    c.first_element.ensures c.in-At.is) in
    record {
      what = b.tail;
      stop = _;
      is = begun_rest b ((let b = (list_begun _ c.requires.is (list_told c.kind_at.ensures c.ne.ensures c.if-ne.false _ _ c.requires.is) _
          c.first_element.ensures c.in-At.is) in
          ends_past held_text c.args.run.now c.hold_string.new.run c.args.at
          (characters_of b.head) b.stop (c.hold_string.ensures _ _ b.at) c.in_ok-past.was)).1;
    }

pub returns-in_default-next_element : goal.returns-in_default-next_element
returns-in_default-next_element c =
    λ t e p. let b = (list_begun t p (list_told c.kind_at.ensures c.ne.ensures c.if-ne.false t e p) _
    c.first_element.ensures c.in-At.is) in
    let d = (let b = (list_begun t p (list_told c.kind_at.ensures c.ne.ensures c.if-ne.false t e p) _
    c.first_element.ensures c.in-At.is) in
    ends_past held_text c.args.run.now c.hold_string.new.run c.args.at
    (characters_of b.head) b.stop (c.hold_string.ensures _ _ b.at) c.in_ok-past.was) in
    record {
      size = d.0.extends.size;
      said = begun_more b characters_of _ _ (c.next_element.ensures _ _ (begun_rest b d.1)) c.in_default-next_element.is;
    }

pub returns : goal.returns
returns c =
    λ t e p. let b = (list_begun t p (list_told c.kind_at.ensures c.ne.ensures c.if-ne.false t e p) _
    c.first_element.ensures c.in-At.is) in
    let d = (let b = (list_begun t p (list_told c.kind_at.ensures c.ne.ensures c.if-ne.false t e p) _
    c.first_element.ensures c.in-At.is) in
    ends_past held_text c.args.run.now c.hold_string.new.run c.args.at
    (characters_of b.head) b.stop (c.hold_string.ensures _ _ b.at) c.in_ok-past.was) in
    let z = begun_sole b characters_of _ _ (c.next_element.ensures _ _ (begun_rest b d.1)) c.in-Past.is in (
      record { thing = d.0.thing; said = z.0 ∙ d.0.said; extends = d.0.extends },
      z.1,
    )
