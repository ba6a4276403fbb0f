-- The text is held, its escapes are resolved where it lies, and the number of its symbols is written last.
-- the call, and where the function starts
use native.Mathlib.Omega.{arith}
use Rattle.syntax.specs.Members.{characters_of}
use Rattle.held.specs.Held.{held_text}
use Rattle.straight.proofs.Laws.Taking.{takes_past}
use Rattle.straight.proofs.Laws.Texts.{symbols_room, symbols_bound, symbols_whole}
use Rattle.straight.proofs.Laws.Texts.{symbols_taken}
use borrow.Author.Rules.{rules}
use Rattle.straight.proofs.entries.escaped.Goals as goal

pub overflow_cast-run : goal.overflow_cast-run
overflow_cast-run c =
    let few = symbols_bound c.requires ((takes_past held_text 0 c.args.s.now c.args.run.now c.string.new.run
    c.args.v c.args.at characters_of c.string.ensures c.in_ok-past.was)) c.args.wild _ _ _
    c.symbols.ensures c.in_ok-n.was in
    search rules

pub bounds-run-at : goal.bounds-run-at
bounds-run-at c =
    omega (
      arith,
      symbols_room c.requires ((takes_past held_text 0 c.args.s.now c.args.run.now c.string.new.run
          c.args.v c.args.at characters_of c.string.ensures c.in_ok-past.was)) c.args.wild _ _ _
          c.symbols.ensures c.in_ok-n.was,
      symbols_whole c.requires ((takes_past held_text 0 c.args.s.now c.args.run.now c.string.new.run
          c.args.v c.args.at characters_of c.string.ensures c.in_ok-past.was)) c.args.wild _ _ _
          c.symbols.ensures c.in_ok-n.was,
    )

pub overflow_add-result : goal.overflow_add-result
overflow_add-result c =
    let few = symbols_bound c.requires ((takes_past held_text 0 c.args.s.now c.args.run.now c.string.new.run
    c.args.v c.args.at characters_of c.string.ensures c.in_ok-past.was)) c.args.wild _ _ _
    c.symbols.ensures c.in_ok-n.was in
    search rules

pub returns : goal.returns
returns c =
    symbols_taken c.requires ((takes_past held_text 0 c.args.s.now c.args.run.now c.string.new.run
    c.args.v c.args.at characters_of c.string.ensures c.in_ok-past.was)) c.args.wild _ _ _
    c.symbols.ensures c.in_ok-n.was
