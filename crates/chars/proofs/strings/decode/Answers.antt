-- Each turn lays the plain bytes and one character more over the run, and goes on behind them.
use mathlib.Core.Path.{◌≡◌}
use native.Mathlib.Omega.{arith}
use borrow.Author.Rules.{rules}
use Rattle.std.specs.Prelude.{Err}
use Rattle.chars.specs.declared.strings.DecodeError.TheVariants.{Lone}
use Rattle.chars.proofs.Laws.Strings.Runs.{reads_char, reads_none, sofar_start, sofar_on, sofar_char}
use Rattle.chars.proofs.Laws.Strings.Runs.{sofar_lone, sofar_count, sofar_short}
use Rattle.chars.proofs.strings.decode.Goals as goal

pub loop-end-init : goal.loop-end-init
loop-end-init c = (omega arith, sofar_start _ _)

pub returns-in_err-c : goal.returns-in_err-c
returns-in_err-c c =
    let none = c.in_err-c.ensures in
    let was : c.from_residual.result ≡ Err Lone = search rules in
    rw was (sofar_lone (sofar_on c.loop-end.invariant.1 c.put_plain-end.ensures) (reads_none c.char_at.ensures none.ok_part))

pub loop-end-preserved : goal.loop-end-preserved
loop-end-preserved c =
    let some = c.in_ok-c.ensures in
    let t = reads_char c.char_at.ensures some.ok_part in
    (t.on.1, sofar_char (sofar_on c.loop-end.invariant.1 c.put_plain-end.ensures) t c.put.ensures)

pub returns-then-n-out : goal.returns-then-n-out
returns-then-n-out c =
    sofar_count (sofar_on c.loop-end.invariant.1 c.put_plain-end.ensures) (omega arith) c.if-n-out.true

pub returns-else-n-out : goal.returns-else-n-out
returns-else-n-out c =
    sofar_short (sofar_on c.loop-end.invariant.1 c.put_plain-end.ensures) (omega arith) c.if-n-out.false
