-- By whether it is escaped.
use mathlib.Core.Path.{sym, ap, ◌∙◌}
use Rattle.chars.specs.Written.{written}
use Rattle.writing.proofs.Laws.Showing.{adds_as, adds_then}
use Rattle.writing.proofs.Laws.Pieces.{spelling_bare, spelling_escaped}
use Rattle.writing.proofs.spelling.put_spelled.Goals as goal

pub returns-then-not-is_escaped : goal.returns-then-not-is_escaped
returns-then-not-is_escaped c =
    adds_as (ap written c.bare.ensures ∙ spelling_bare c.args.wild c.args.y (sym c.is_escaped.ensures ∙ c.if-not-is_escaped.true))
    c.put_char.ensures

pub returns : goal.returns
returns c =
    adds_as (spelling_escaped c.args.wild c.args.y (sym c.is_escaped.ensures ∙ c.if-not-is_escaped.false))
    (adds_then c.put_bytes.ensures (adds_then c.put_char-2.ensures c.put.ensures))
