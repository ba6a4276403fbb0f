-- The text is copied, its star put behind it, and its length is one more.
use native.Mathlib.Omega.{arith}
use mathlib.Core.Path.{ap}
use lib.ListN.{length}
use Rattle.refined.proofs.Laws.Keeping.{begun_size, begun_told, begun_part, star_inside, star_row}
use Rattle.refined.proofs.finishing.put_star.Goals as goal

pub bounds-row-1 : goal.bounds-row-1
bounds-row-1 c = omega (arith, begun_size c.requires.0)

pub overflow_cast-to : goal.overflow_cast-to
overflow_cast-to c = omega (arith, begun_told c.requires.0, c.requires.0.short)

pub overflow_add-to : goal.overflow_add-to
overflow_add-to c = omega (arith, begun_told c.requires.0, c.requires.0.short)

pub slice_bounds-put_text-end : goal.slice_bounds-put_text-end
slice_bounds-put_text-end c =
    omega (arith, begun_told c.requires.0, c.requires.0.short, begun_size c.requires.0)

pub put_text-requires : goal.put_text-requires
put_text-requires c =
    (c.requires.1, omega (arith, c.requires.0.short, ap length (begun_part c.requires.0)))

pub offset_bounds-held-to : goal.offset_bounds-held-to
offset_bounds-held-to c =
    omega (arith, begun_told c.requires.0, c.requires.0.short)

pub bounds-held-to : goal.bounds-held-to
bounds-held-to c =
    omega (arith, begun_told c.requires.0, c.requires.0.short, c.requires.1)

pub overflow_add-held : goal.overflow_add-held
overflow_add-held c =
    omega (arith, begun_told c.requires.0, c.requires.0.short)

pub bounds-held-1 : goal.bounds-held-1
bounds-held-1 c =
    star_inside c.requires.0 c.put_text.ensures

pub returns : goal.returns
returns c = λ y. star_row y c.put_text.ensures
