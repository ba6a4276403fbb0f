-- The first row is kept aside, and the longest legal beginning of what both share is put in its place.
use mathlib.Core.Path.{sym, ap, ◌∙◌}
use mathlib.Core.List.{List}
use Prim.Native.Nat.{ℕ, ◌+◌, ◌-◌}
use native.Mathlib.Omega.{arith}
use Rattle.candidates.specs.Candidates.{holds}
use Rattle.candidates.specs.Beginnings.{longest}
use Rattle.candidates.specs.Entries.{legal_beginning}
use Rattle.candidates.specs.Places.{place_is}
use Rattle.candidates.specs.Rows.{row}
use Rattle.candidates.proofs.Laws.Joining.{standing, stands, shared_most, part_few, shared_is}
use Rattle.candidates.proofs.joining.put_shared.Goals as goal

pub copy_from_slice-requires : goal.copy_from_slice-requires
copy_from_slice-requires c = sym (stands c.requires.0).size

pub overflow_cast-e : goal.overflow_cast-e
overflow_cast-e c =
    omega (
      arith,
      (standing c.requires.0.content c.requires.0.textual
          (c.copy_from_slice.ensures.after ∙ c.requires.0.is)).told,
    )

pub overflow_add-e : goal.overflow_add-e
overflow_add-e c =
    omega (
      arith,
      (standing c.requires.0.content c.requires.0.textual
          (c.copy_from_slice.ensures.after ∙ c.requires.0.is)).told,
    )

pub bounds-other-1 : goal.bounds-other-1
bounds-other-1 c =
    omega (arith, (stands c.requires.1).size)

pub overflow_cast-f : goal.overflow_cast-f
overflow_cast-f c = omega (arith, (stands c.requires.1).told)

pub overflow_add-f : goal.overflow_add-f
overflow_add-f c = omega (arith, (stands c.requires.1).told)

pub slice_bounds-shared-end : goal.slice_bounds-shared-end
slice_bounds-shared-end c =
    omega (
      arith,
      (standing c.requires.0.content c.requires.0.textual
          (c.copy_from_slice.ensures.after ∙ c.requires.0.is)).told,
    )

pub slice_bounds-shared-end-2 : goal.slice_bounds-shared-end-2
slice_bounds-shared-end-2 c =
    omega (arith, (stands c.requires.1).told, (stands c.requires.1).size)

pub overflow_add-n : goal.overflow_add-n
overflow_add-n c =
    omega (
      arith,
      shared_most (standing c.requires.0.content c.requires.0.textual
          (c.copy_from_slice.ensures.after ∙ c.requires.0.is)) (stands c.requires.1) c.shared-n.ensures,
    )

pub slice_bounds-put_longest-end : goal.slice_bounds-put_longest-end
slice_bounds-put_longest-end c =
    omega (
      arith,
      shared_most (standing c.requires.0.content c.requires.0.textual
          (c.copy_from_slice.ensures.after ∙ c.requires.0.is)) (stands c.requires.1) c.shared-n.ensures,
    )

pub put_longest-requires : goal.put_longest-requires
put_longest-requires c = (
  (stands c.requires.0).size,
  part_few (standing c.requires.0.content c.requires.0.textual
      (c.copy_from_slice.ensures.after ∙ c.requires.0.is)) (c.shared-n.result + 2 - 2),
)

pub returns : goal.returns
returns c =
    λ x y tx ty f g. c.put_longest.ensures ∙ ap
    (λ (l : List ℕ). row (holds (longest (legal_beginning (place_is c.args.place) c.args.b.now) l)))
    (shared_is x y (standing x tx (c.copy_from_slice.ensures.after ∙ f)) (standing y ty g) c.shared-n.ensures)
