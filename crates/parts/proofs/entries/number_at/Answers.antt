-- A JSON number is read where it is spelt, a string by its characters, held behind the place for this.
use mathlib.Core.Path.{◌≡◌, refl, sym, ap, ◌∙◌}
use Prim.Native.Nat.{ℕ}
use Rattle.chars.specs.Base.{part}
use native.Mathlib.Omega.{arith}
use Rattle.syntax.specs.Forms.{number_in}
use Rattle.syntax.specs.Members.{characters_of}
use Rattle.syntax.specs.Told.{told_number}
use Rattle.held.specs.Held.{held_text}
use Rattle.parts.proofs.Laws.Formed.{holds_past, holds_wrong, past_first, past_within, part_is, then_wrong}
use Rattle.parts.proofs.Laws.Formed.{then_read}
use Rattle.parts.proofs.Laws.Extends.{extends_kept}
use Rattle.parts.proofs.Laws.Halves.{number_spelling, number_characters, not_read}
use Rattle.parts.proofs.Laws.Kinds.{number_told}
use Rattle.parts.proofs.entries.number_at.Goals as goal

pub slice_bounds-number_spelt-count : goal.slice_bounds-number_spelt-count
slice_bounds-number_spelt-count c = let w = (number_spelling _ _ _ _ c.requires.is
    (number_told c.kind_at.ensures c.eq.ensures c.if-eq.true _ _ c.requires.is)) in omega (
      arith,
      w.order,
      c.past_value-e.ensures _ _
          c.requires.is,
    )

pub slice_bounds-number_spelt-start : goal.slice_bounds-number_spelt-start
slice_bounds-number_spelt-start c = let w =
    (number_spelling _ _ _ _ c.requires.is
    (number_told c.kind_at.ensures c.eq.ensures c.if-eq.true _ _ c.requires.is)) in omega (
      arith,
      w.order,
      c.past_value-e.ensures _ _
          c.requires.is,
    )

pub slice_bounds-number_spelt-end : goal.slice_bounds-number_spelt-end
slice_bounds-number_spelt-end c = let w = (number_spelling _ _ _ _ c.requires.is
    (number_told c.kind_at.ensures c.eq.ensures c.if-eq.true _ _ c.requires.is)) in omega (
      arith,
      w.inside,
      c.past_value-e.ensures _ _
          c.requires.is,
    )

pub returns-then-eq : goal.returns-then-eq
returns-then-eq c =
    λ t e p. let w = number_spelling _ t _ e p
    (number_told c.kind_at.ensures c.eq.ensures c.if-eq.true t e p) in
    let k : c.past_value-e.result ≡ e = c.past_value-e.ensures t e p in
    record {
      size = refl;
      said = c.number_spelt.ensures ∙ ap
          (λ (j : ℕ). number_in (part c.args.s.now
          c.args.v j)) k ∙ sym w.is;
      kept = λ n i. record { size = refl; is = refl };
    }

pub returns-in_err-past : goal.returns-in_err-past
returns-in_err-past c =
    λ t e p. let w = holds_wrong held_text
    c.args.run.now _
    c.args.at
    (characters_of t) (c.hold_text.ensures t e p) c.in_err-past.was
    in
    let k = number_characters t
    (number_told c.kind_at.ensures c.eq.ensures c.if-eq.false t e p) in
    let z = k ∙ then_wrong number_in w.said in
    record { size = w.size; said = ap told_number c.from_residual.ensures ∙ sym z; kept = λ n i. absurd (not_read (sym z ∙ i)) }

pub slice_bounds-number_in-count : goal.slice_bounds-number_in-count
slice_bounds-number_in-count c =
    past_first (omega (arith, c.requires.roomy.room))
    (holds_past held_text c.args.run.now _ c.args.at _
    (c.hold_text.ensures _ _ c.requires.is) c.in_ok-past.was)

pub slice_bounds-number_in-start : goal.slice_bounds-number_in-start
slice_bounds-number_in-start c =
    past_first (omega (arith, c.requires.roomy.room))
    (holds_past held_text c.args.run.now _ c.args.at _
    (c.hold_text.ensures _ _ c.requires.is) c.in_ok-past.was)

pub slice_bounds-number_in-end : goal.slice_bounds-number_in-end
slice_bounds-number_in-end c =
    past_within (omega (arith, c.requires.roomy.room))
    (holds_past held_text c.args.run.now _ c.args.at _
    (c.hold_text.ensures _ _ c.requires.is) c.in_ok-past.was)

pub returns : goal.returns
returns c =
    λ t e p.
    let d = (holds_past held_text c.args.run.now _ c.args.at (characters_of t)
    (c.hold_text.ensures t e p) c.in_ok-past.was) in
    let k = number_characters t (number_told c.kind_at.ensures c.eq.ensures c.if-eq.false t e p) in
    record {
      size = d.extends.size;
      said = c.number_in.ensures ∙ ap number_in
          (part_is (omega (arith, c.requires.roomy.room)) d) ∙ sym (k ∙ then_read number_in d.said);
      kept = λ n i.
          extends_kept d.extends (omega (arith, c.requires.roomy.room));
    }
