-- The second escape is put behind the first.
use native.Mathlib.Omega.{arith}
use Rattle.chars.specs.Written.{coded}
use Rattle.chars.proofs.Laws.Putting.{puts_append, puts_as, puts_room}
use Rattle.chars.proofs.Laws.Written.Forms.{written_pair}
use Rattle.chars.proofs.written.put_pair.Goals as goal

pub put_code-requires : goal.put_code-requires
unfolding coded
put_code-requires c =
    puts_room 6 c.put_code-next.ensures
    (omega (arith, c.requires.1))

pub returns : goal.returns
returns c =
    puts_as (written_pair _ c.requires.0)
    (puts_append c.put_code-next.ensures c.put_code.ensures)
