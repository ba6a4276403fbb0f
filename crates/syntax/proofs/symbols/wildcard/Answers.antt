-- Two characters are computed, any other is itself.
use Rattle.syntax.proofs.Laws.Characters.{wildcard_none}
use Rattle.syntax.specs.Forms.{wildcard}
use mathlib.Core.Path.{ap, sym}
use Rattle.syntax.proofs.symbols.wildcard.Goals as goal

pub returns-in-42 : goal.returns-in-42
unfolding wildcard
returns-in-42 c = ap wildcard (sym c.in-42.is)

pub returns-in-63 : goal.returns-in-63
unfolding wildcard
returns-in-63 c = ap wildcard (sym c.in-63.is)

pub returns-in_default : goal.returns-in_default
returns-in_default c = wildcard_none c.args.c c.in_default.in_default-own.rest.0.1 c.in_default.in_default-own.rest.1
