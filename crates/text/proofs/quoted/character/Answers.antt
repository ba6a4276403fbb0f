-- One law for each kind of byte of ASCII; what is owed behind a reverse solidus is what the call reads.
use mathlib.Core.Path.{◌∙◌}
use mathlib.Core.List.{[]}
use native.Mathlib.Omega.{arith}
use Rattle.text.specs.Machine.{char}
use Rattle.text.proofs.Laws.Reading.{goes_seq, takes_at, refuses_at}
use Rattle.text.proofs.Laws.Moves.Strings.{char_escape, char_plain, char_low, high_tail}
use Rattle.text.proofs.quoted.character.Goals as goal

pub returns-in-92 : goal.returns-in-92
returns-in-92 c =
    let e = char_escape _ c.in-92.is in
    goes_seq c.escaped.result (takes_at char [] c.requires _ e) c.escaped.ensures

pub returns-in-32-to-127 : goal.returns-in-32-to-127
returns-in-32-to-127 c = takes_at char [] c.requires [] (char_plain _ (λ e. omega arith) (omega arith) (omega arith))

pub returns-in_default : goal.returns-in_default
returns-in_default c = refuses_at char [] c.requires (char_low _ (omega arith) ∙ high_tail _ (omega arith))
