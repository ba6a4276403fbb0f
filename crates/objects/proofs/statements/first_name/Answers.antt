-- Behind the brace and white space a quote stands.
use native.Mathlib.Omega.{arith}
use Rattle.objects.proofs.statements.first_name.Goals as goal

pub returns : goal.returns
returns c =
    record {
      opened = c.opened.ensures.found _ c.in_ok-i.was;
      quote = record { inside = omega (arith, c.if-s-i.false); is = c.if-s-i-ne34.false };
    }
