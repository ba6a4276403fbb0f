-- The digits passed made n, and it is small enough for one more.
use native.Mathlib.Omega.{arith}
use mathlib.Core.Path.{◌≡◌, ap, sym, ◌∙◌}
use lib.ListN.{length}
use Rattle.std.proofs.Common.{rules}
use Rattle.syntax.specs.Told.{told_number, with_digit}
use Rattle.syntax.proofs.Laws.Numbers.{number_none, number_zero, number_leading, counted_start}
use Rattle.syntax.proofs.Laws.Numbers.{counted_next, counted_stop, counted_end, digit_small}
use Rattle.syntax.proofs.numbers.number_of.Goals as goal

pub returns-then-is_empty : goal.returns-then-is_empty
returns-then-is_empty g c =
    λ cs p. let none : length c.args.digits.now ≡ 0 = search rules in sym (number_none cs (sym p.many ∙ none))

pub returns-then-digits-eq1 : goal.returns-then-digits-eq1
returns-then-digits-eq1 g c =
    λ cs p.
    let zero : c.into.result ≡ 48 = omega arith in
    sym (number_zero cs (sym p.many ∙ c.if-digits-eq1.true)
    (sym (p.only 0 _ _ (omega arith) c.index-digits-0.is c.into.ensures) ∙ zero))

pub returns-else-digits-eq1 : goal.returns-else-digits-eq1
returns-else-digits-eq1 g c =
    λ cs p.
    let some : length c.args.digits.now ≡ 0 → ⊥ = search rules in
    let zero : c.into.result ≡ 48 = omega arith in
    sym (number_leading cs (λ e. some (p.many ∙ e)) (λ e. c.if-digits-eq1.false (p.many ∙ e))
    (sym (p.only 0 _ _ (omega (arith, some)) c.index-digits-0.is c.into.ensures) ∙ zero))

pub loop-d-init : goal.loop-d-init
loop-d-init g c = (
  omega arith,
  λ cs p.
      let some : length c.args.digits.now ≡ 0 → ⊥ = search rules in
      counted_start cs (λ e. some (p.many ∙ e))
      (λ e.
      let zero : c.into.result ≡ 48 = p.only 0 _ _ (omega (arith, some)) c.index-digits-0.is c.into.ensures ∙ e in
      omega (arith, zero)),
)

pub returns-in_err-n : goal.returns-in_err-n
returns-in_err-n g c =
    λ cs p.
    ap told_number c.from_residual.ensures
    ∙ counted_stop (c.loop-d.invariant.1 cs p) (omega (arith, c.loop-d-test.true, p.many))
    (ap told_number (sym c.in_err-n.was) ∙ c.with_digit.ensures ∙ ap (with_digit c.loop-d.n)
    (p.only _ _ _ c.loop-d-test.true c.d-item.is c.into-in-loop-d.ensures))

pub loop-d-preserved : goal.loop-d-preserved
loop-d-preserved g c = (
  digit_small _ _ (sym (ap told_number (sym c.in_ok-n.was) ∙ c.with_digit.ensures)),
  λ cs p.
      counted_next (c.loop-d.invariant.1 cs p) (omega (arith, c.loop-d-test.true, p.many))
      (ap told_number (sym c.in_ok-n.was) ∙ c.with_digit.ensures ∙ ap (with_digit c.loop-d.n)
      (p.only _ _ _ c.loop-d-test.true c.d-item.is c.into-in-loop-d.ensures)),
)

pub returns : goal.returns
returns g c = λ cs p. counted_end (c.loop-d.invariant.1 cs p) (omega (arith, c.loop-d-test.false, p.many))
