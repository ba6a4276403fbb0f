-- A plain string ends at its quote; what is plain of any other leads to the rest.
use mathlib.Core.List.{[]}
use borrow.Author.Rules.{rules}
use Rattle.chars.specs.Base.{At}
use Rattle.text.proofs.Laws.Reading.{seq, goes_seq, takes_at}
use Rattle.text.proofs.Laws.Moves.Strings.{text_quote}
use Rattle.text.specs.Machine.{text}
use Rattle.text.proofs.quoted.string.Goals as goal

pub returns-in-Some-eq34 : goal.returns-in-Some-eq34
returns-in-Some-eq34 c =
    let p : At c.args.s.now c.plain-i.result c.in-Some-eq34.field-0.now = search rules in
    seq c.plain-i.ensures (takes_at text [] p [] (text_quote _ c.in-Some-eq34.field-0-test))

pub returns-in_default : goal.returns-in_default
returns-in_default c = goes_seq c.characters.result c.plain-i.ensures c.characters.ensures
