-- Each turn puts one character behind those that are put.
use mathlib.Core.Path.{sym, ◌∙◌}
use native.Mathlib.Omega.{arith}
use borrow.Author.Tests.{leb-true, leb-false}
use Rattle.chars.proofs.Laws.Putting.{put_none}
use Rattle.chars.proofs.Laws.Written.Runs.{sofar_start, sofar_room, sofar_next, sofar_end}
use Rattle.chars.proofs.written.write_text.Goals as goal

pub returns-then-not-fits : goal.returns-then-not-fits
returns-then-not-fits c =
    let over = leb-false _ _ (sym c.fits.ensures ∙ c.if-not-fits.true) in sym (put_none _ _ _ (omega (arith, over)))

pub loop-c-init : goal.loop-c-init
loop-c-init c = sofar_start _ _ (leb-true _ _ (sym c.fits.ensures ∙ c.if-not-fits.false))

pub put_form-at-requires : goal.put_form-at-requires
put_form-at-requires c = sofar_room c.loop-c.invariant c.loop-c-test.true

pub loop-c-preserved : goal.loop-c-preserved
loop-c-preserved c = sofar_next c.loop-c.invariant c.loop-c-test.true c.put_form-at.ensures

pub returns : goal.returns
returns c = sofar_end c.loop-c.invariant c.loop-c-test.false
