-- Each turn adds the symbols that are plain and one that is not.
use mathlib.Core.Path.{refl, sym, ◌∙◌}
use native.Mathlib.Omega.{arith}
use Rattle.writing.proofs.Laws.Each.{each_start, each_next, each_plain, each_end, piece_plain, pieces_each}
use Rattle.writing.proofs.Laws.Showing.{adds_still}
use Rattle.writing.proofs.spelling.put_symbols.Goals as goal

pub returns-then-is_over : goal.returns-then-is_over
returns-then-is_over c = adds_still _ (sym c.is_over.ensures ∙ c.if-is_over.true)

pub loop-i-init : goal.loop-i-init
loop-i-init c = each_start _ _ _

pub loop-i-preserved : goal.loop-i-preserved
loop-i-preserved c =
    let w = each_plain _ c.loop-i.invariant (piece_plain _) refl c.put_plain-i.ensures in
    each_next _ w (omega (arith, w.inside, c.if-i-ys.false)) c.put_symbol.ensures

pub returns-then-i-ys : goal.returns-then-i-ys
returns-then-i-ys c =
    each_end _ (each_plain _ c.loop-i.invariant (piece_plain _) refl c.put_plain-i.ensures) (omega (arith, c.if-i-ys.true))
    (pieces_each _ _)

pub returns : goal.returns
returns c = each_end _ c.loop-i.invariant c.loop-i-test.false (pieces_each _ _)
