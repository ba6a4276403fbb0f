-- The object stands between white space, up to the end of the text; or it is given up, and with it the text.
use Rattle.std.proofs.Common.{rules}
use native.Mathlib.Omega.{arith}
use Rattle.straight.proofs.Laws.Marks.{space_reads}
use Rattle.straight.proofs.Laws.Reads.{reads_inside}
use Rattle.objects.proofs.Laws.Words.{text_taken}
use Rattle.objects.proofs.Laws.Left.{leaves_text, finds_left}
use Rattle.objects.proofs.policies.policy.Goals as goal

pub space-requires : goal.space-requires
space-requires c =
    reads_inside c.in_ok-past.ensures.reads

pub returns-then-space-s : goal.returns-then-space-s
returns-then-space-s c =
    let t = c.in_ok-past.ensures in
    (t.laid.extends.size, leaves_text c.args.s.now)

pub returns : goal.returns
returns c =
    let t = c.in_ok-past.ensures in
    text_taken (omega arith) (space_reads c.space-v.ensures) t
    (space_reads c.space.ensures) (omega (arith, c.space.ensures.high, c.if-space-s.false))

pub returns-in_err-past : goal.returns-in_err-past
returns-in_err-past c =
    let h = finds_left c.space-v.ensures c.args.run.now c.object.new.run _ c.in_err-past.ensures in search rules
