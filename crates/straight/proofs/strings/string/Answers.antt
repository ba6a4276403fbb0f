-- Where all bytes up to the closing quote stand for themselves they are put already, behind the place of their number.
-- where the function starts
use native.Mathlib.Omega.{arith}
use Rattle.chars.specs.Base.{At}
use Rattle.syntax.specs.Members.{characters_of}
use Rattle.held.specs.Held.{held_text}
use Rattle.straight.proofs.Laws.Strings.{puts_kept, takes_after, bare_taken}
use Rattle.straight.proofs.strings.string.Goals as goal

pub returns-then-s-e-ne34 : goal.returns-then-s-e-ne34
returns-then-s-e-ne34 c =
    takes_after held_text characters_of 0 c.args.s.now _ c.args.v c.args.at c.any_string.result
    (puts_kept c.put_plain-n.ensures (c.if-run-at.false)) c.any_string.ensures

pub returns : goal.returns
returns c =
    bare_taken ((let z : At c.args.s.now c.args.v 34 = record {
      inside = omega (arith, c.if-s-v.false);
      is = c.if-s-v-ne34.false;
    } in z)) (c.if-run-at.false) c.put_plain-n.ensures
    (record { inside = c.if-s-e.false; is = c.if-s-e-ne34.false })
