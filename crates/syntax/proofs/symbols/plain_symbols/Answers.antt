-- Each character is its own symbol, or a wildcard.
use Rattle.syntax.proofs.Laws.Converting.{plain_wild, plain_still}
use Rattle.syntax.proofs.symbols.plain_symbols.Goals as goal

pub returns-then-wild : goal.returns-then-wild
returns-then-wild c = plain_wild c.args.run.now c.requires c.if-wild.true c.wildcards.ensures

pub returns-else-wild : goal.returns-else-wild
returns-else-wild c = plain_still c.args.run.now c.requires c.if-wild.false
