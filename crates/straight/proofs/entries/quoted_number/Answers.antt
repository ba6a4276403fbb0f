-- The text is held, and the number that it spells is put in its place.
-- the call, and where the function starts
use native.Mathlib.Omega.{arith}
use Rattle.syntax.specs.Members.{characters_of}
use Rattle.held.specs.Held.{held_text}
use Rattle.straight.proofs.Laws.Taking.{takes_past}
use Rattle.straight.proofs.Laws.Entries.{number_bound, number_taken}
use Rattle.straight.proofs.entries.quoted_number.Goals as goal

pub put_number-requires : goal.put_number-requires
put_number-requires c = (
  record {
    room = omega (
      arith,
      c.if-run-at-lt2.false,
      ((takes_past held_text 0 c.args.s.now c.args.run.now c.string.new.run
          c.args.v c.args.at characters_of c.string.ensures c.in_ok-past.was)).laid.extends.size,
      c.requires.room,
    );
    bounded = omega (
      arith,
      c.requires.bounded,
      ((takes_past held_text 0 c.args.s.now c.args.run.now c.string.new.run
          c.args.v c.args.at characters_of c.string.ensures c.in_ok-past.was)).laid.extends.size,
    );
  },
  number_bound c.requires ((takes_past held_text 0 c.args.s.now c.args.run.now c.string.new.run
      c.args.v c.args.at characters_of c.string.ensures c.in_ok-past.was)) c.number_in.ensures c.in_ok-n.was,
)

pub returns : goal.returns
returns c =
    number_taken c.requires ((takes_past held_text 0 c.args.s.now c.args.run.now c.string.new.run
    c.args.v c.args.at characters_of c.string.ensures c.in_ok-past.was)) c.number_in.ensures c.in_ok-n.was
    c.put_number.ensures
