-- Each turn takes one entry behind those before it, and the mark behind it tells whether another comes.
use Rattle.held.specs.Held.{held_value}
use Rattle.parts.specs.Holding.{entry_of}
use Rattle.straight.proofs.Laws.Taking.{takes_past}
use Rattle.straight.proofs.Laws.Going.{going_less}
use Rattle.straight.proofs.Laws.Lists.{elements_of, element_passed}
use Rattle.straight.proofs.Laws.Entries.{listing_start, listing_more, listing_end}
use Rattle.straight.proofs.entries.listed.Goals as goal

pub loop-h-init : goal.loop-h-init
loop-h-init c =
    listing_start held_value (entry_of c.args.k) 0
    (c.opened.ensures.found _ c.in_ok-i.was)

pub parted-requires : goal.parted-requires
parted-requires c = ((element_passed held_value (entry_of c.args.k) 0
    (takes_past held_value 0 c.args.s.now c.loop-h.run c.entry.new.run
    c.loop-h.i c.loop-h.past (entry_of c.args.k) c.entry.ensures c.in_ok-h.was))).inside

pub closed-requires : goal.closed-requires
closed-requires c = ((element_passed held_value (entry_of c.args.k) 0
    (takes_past held_value 0 c.args.s.now c.loop-h.run c.entry.new.run
    c.loop-h.i c.loop-h.past (entry_of c.args.k) c.entry.ensures c.in_ok-h.was))).inside

pub returns-in_default : goal.returns-in_default
returns-in_default c =
    listing_end held_value (entry_of c.args.k) 0 c.loop-h.invariant ((element_passed held_value (entry_of c.args.k) 0
    (takes_past held_value 0 c.args.s.now c.loop-h.run c.entry.new.run
    c.loop-h.i c.loop-h.past (entry_of c.args.k) c.entry.ensures c.in_ok-h.was)))
    (c.closed.ensures.found _ c.in_ok-end.was)

pub loop-h-smaller : goal.loop-h-smaller
loop-h-smaller c =
    going_less ((elements_of held_value (entry_of c.args.k) 0)) _ c.loop-h.invariant.going ((element_passed held_value (entry_of c.args.k) 0
    (takes_past held_value 0 c.args.s.now c.loop-h.run c.entry.new.run
    c.loop-h.i c.loop-h.past (entry_of c.args.k) c.entry.ensures c.in_ok-h.was)))
    (c.parted.ensures.found _ c.in-Some.is)

pub loop-h-preserved : goal.loop-h-preserved
loop-h-preserved c =
    listing_more held_value (entry_of c.args.k) 0 c.loop-h.invariant ((element_passed held_value (entry_of c.args.k) 0
    (takes_past held_value 0 c.args.s.now c.loop-h.run c.entry.new.run
    c.loop-h.i c.loop-h.past (entry_of c.args.k) c.entry.ensures c.in_ok-h.was)))
    (c.parted.ensures.found _ c.in-Some.is)
