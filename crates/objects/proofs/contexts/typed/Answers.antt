-- A text of the type string is its value where it lies; a number's halves are laid behind all parts.
use native.Mathlib.Omega.{arith}
use Rattle.objects.proofs.Laws.Contexts.{text_valued, number_little, number_valued}
use Rattle.objects.proofs.contexts.typed.Goals as goal

pub returns-else-to-first-gt-ENTRY : goal.returns-else-to-first-gt-ENTRY
returns-else-to-first-gt-ENTRY c =
    text_valued c.requires _ c.in-Text.is (omega (arith, c.if-to-first-gt-ENTRY.false))

pub put_number-q-requires : goal.put_number-q-requires
put_number-q-requires c = (
  record { room = omega (arith, c.requires.high, c.if-run-p-lt2.false); bounded = c.requires.bounded },
  number_little c.requires _ c.number_in.ensures _ c.in-Number.is _ c.in_ok-n-in-Number.was,
)

pub returns-else-run-p-lt2 : goal.returns-else-run-p-lt2
returns-else-run-p-lt2 c =
    number_valued c.requires _ c.number_in.ensures _ c.in-Number.is _ c.in_ok-n-in-Number.was c.put_number-q.ensures
