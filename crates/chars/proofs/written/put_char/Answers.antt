-- The form is put exactly if it fits.
use mathlib.Core.Path.{sym}
use native.Mathlib.Omega.{arith}
use Rattle.chars.specs.Written.{written}
use Rattle.chars.proofs.Laws.Putting.{put_none, puts_put}
use Rattle.chars.proofs.written.put_char.Goals as goal

pub returns-in_err-room : goal.returns-in_err-room
returns-in_err-room c =
    let before = c.in_err-room.ensures in
    rw c.from_residual.ensures (sym (put_none _ _ (written c.args.c) (omega (arith, before))))

pub returns-then-room-width : goal.returns-then-room-width
returns-then-room-width c = sym (put_none _ _ (written c.args.c) (omega (arith, c.width.ensures)))

pub returns : goal.returns
returns c = puts_put (omega (arith, c.width.ensures)) c.put_form.ensures
