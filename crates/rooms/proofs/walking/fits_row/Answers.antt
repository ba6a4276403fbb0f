-- By how the slot's row is handled.
use mathlib.Core.Path.{ap, ◌∙◌}
use mathlib.Core.List.{List}
use Prim.Native.Nat.{ℕ}
use native.Mathlib.Omega.{arith}
use lib.Dec.{leb}
use Rattle.candidates.specs.Kinds.{bounds}
use Rattle.candidates.specs.Entries.{comparison, wild_kind}
use Rattle.candidates.specs.Rows.{is_row}
use Rattle.rooms.proofs.Laws.Handling.{as_denied, as_alone, as_wild, as_bound, bound_lies, wild_texted}
use Rattle.rooms.proofs.Laws.Handling.{fits_denied, fits_allowed, fits_at}
use Rattle.rooms.proofs.walking.fits_row.Goals as goal

pub returns-in-Nothing : goal.returns-in-Nothing
returns-in-Nothing c =
    λ s a. c.is_zero.ensures ∙ fits_denied s _ (as_denied a c.in-Nothing.is)

pub returns-in-Itself : goal.returns-in-Itself
returns-in-Itself c =
    λ s a.
    let w = as_alone a c.in-Itself.is in
    c.fits_only.ensures w.test ∙ fits_allowed s _ w.allows w.kind

pub number_at-requires : goal.number_at-requires
number_at-requires c =
    record {
      thing = (as_bound c.requires.0.stands c.in-Number.is).most;
      lies = bound_lies c.requires.0.stands (as_bound c.requires.0.stands c.in-Number.is);
    }

pub returns-in-Number : goal.returns-in-Number
returns-in-Number c =
    λ s a.
    let b = as_bound a c.in-Number.is in
    c.fits_bound.ensures ∙ ap (λ (n : ℕ). is_row (bounds leb n) c.args.row.now) (c.number_at.ensures b.most (bound_lies a b)) ∙ fits_allowed s _ b.allows b.kind

pub bounds-run-note : goal.bounds-run-note
bounds-run-note c =
    let symbols = wild_texted c.requires.0.stands (as_wild c.requires.0.stands c.in-Wild.is) in
    symbols.inside

pub overflow_add-to : goal.overflow_add-to
overflow_add-to c =
    let symbols = wild_texted c.requires.0.stands (as_wild c.requires.0.stands c.in-Wild.is) in
    omega (arith, symbols.ends, symbols.bounded)

pub slice_bounds-fits_wild-end : goal.slice_bounds-fits_wild-end
slice_bounds-fits_wild-end c =
    let symbols = wild_texted c.requires.0.stands (as_wild c.requires.0.stands c.in-Wild.is) in
    symbols.ends

pub returns-in-Wild : goal.returns-in-Wild
returns-in-Wild c =
    λ s a.
    let w = as_wild a c.in-Wild.is in
    fits_at _ _ a.placed (c.fits_wild.ensures (ap comparison a.placed ∙ w.like))
    ∙ ap (λ (ys : List ℕ). is_row (wild_kind s.place ys) c.args.row.now) (wild_texted a w).is
    ∙ fits_allowed s _ w.allows w.kind
