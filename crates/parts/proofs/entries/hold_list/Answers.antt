-- Each turn holds one element behind those before it, or ends the walk.
use Rattle.held.specs.Held.{held_value}
use Rattle.syntax.specs.Members.{each}
use Rattle.parts.specs.Holding.{entry_of}
use Rattle.parts.proofs.Laws.Formed.{ends_past, ends_wrong, none_lists}
use Rattle.parts.proofs.Laws.Fits.{entry_fits}
use Rattle.parts.proofs.Laws.Gathering.{gathering_start, gathered_told, left_told}
use Rattle.parts.proofs.Laws.Gathering.{gathering_end, gathering_past, next, next_holdable, next_resting}
use Rattle.parts.proofs.Laws.Gathering.{next_wrong, gathering_more, gathering_less}
use Rattle.parts.proofs.entries.hold_list.Goals as goal

pub loop-m-init : goal.loop-m-init
loop-m-init c =
    gathering_start held_value (entry_of c.args.k) (entry_fits c.args.k) c.requires _
    (c.first_element-m.ensures _ _ c.requires.is)

pub hold_entry-requires : goal.hold_entry-requires
hold_entry-requires c =
    next_holdable held_value (entry_of c.args.k) (entry_fits c.args.k) c.loop-m.invariant _ c.in-At.is

pub returns-in_err-h-in-At : goal.returns-in_err-h-in-At
returns-in_err-h-in-At c =
    λ ts e p. none_lists held_value _ _ _ (each (entry_of c.args.k) ts) e c.from_residual.ensures
    (left_told held_value (entry_of c.args.k) (entry_fits c.args.k) c.loop-m.invariant
    (next_wrong held_value (entry_of c.args.k) (entry_fits c.args.k) c.loop-m.invariant _ c.in-At.is
    (ends_wrong held_value _ _ _ _ _ (c.hold_entry.ensures _ _
    (next held_value (entry_of c.args.k) (entry_fits c.args.k) c.loop-m.invariant _ c.in-At.is).stands)
    c.in_err-h-in-At.was)) ts e p)

pub next_element-m-requires : goal.next_element-m-requires
next_element-m-requires c =
    next_resting held_value (entry_of c.args.k) (entry_fits c.args.k) c.loop-m.invariant _ c.in-At.is
    (ends_past held_value _ _ _ _ _ (c.hold_entry.ensures _ _
    (next held_value (entry_of c.args.k) (entry_fits c.args.k) c.loop-m.invariant _ c.in-At.is).stands)
    c.in_ok-h-in-At.was).1

pub loop-m-smaller : goal.loop-m-smaller
loop-m-smaller c =
    gathering_less held_value (entry_of c.args.k) (entry_fits c.args.k) c.loop-m.invariant _ c.in-At.is _ _
    (ends_past held_value _ _ _ _ _ (c.hold_entry.ensures _ _
    (next held_value (entry_of c.args.k) (entry_fits c.args.k) c.loop-m.invariant _ c.in-At.is).stands)
    c.in_ok-h-in-At.was).1 c.next_element-m.ensures

pub loop-m-preserved : goal.loop-m-preserved
loop-m-preserved c =
    let d = ends_past held_value _ _ _ _ _ (c.hold_entry.ensures _ _
    (next held_value (entry_of c.args.k) (entry_fits c.args.k) c.loop-m.invariant _ c.in-At.is).stands)
    c.in_ok-h-in-At.was in
    gathering_more held_value (entry_of c.args.k) (entry_fits c.args.k) c.loop-m.invariant _ c.in-At.is d.0 _ _ d.1
    c.next_element-m.ensures

pub returns-in-Past : goal.returns-in-Past
returns-in-Past c =
    λ ts e p. (
      gathered_told held_value (entry_of c.args.k) (entry_fits c.args.k) c.loop-m.invariant
          (gathering_end held_value (entry_of c.args.k) (entry_fits c.args.k) c.loop-m.invariant _ c.in-Past.is) ts e p,
      gathering_past held_value (entry_of c.args.k) (entry_fits c.args.k) c.loop-m.invariant _ c.in-Past.is ts e p,
    )
