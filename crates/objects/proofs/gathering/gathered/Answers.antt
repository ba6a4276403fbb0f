-- Each turn passes one member; what it held is noted by its word.
use native.Mathlib.Omega.{arith}
use Rattle.objects.proofs.Laws.Gathering.{gathering_start, gathering_end_inside, gathering_less, gathering_more}
use Rattle.objects.proofs.Laws.Gathering.{gathering_end}
use Rattle.objects.proofs.Laws.Leaving.{came_start, came_more}
use Rattle.objects.proofs.gathering.gathered.Goals as goal

pub loop-turn-init : goal.loop-turn-init
loop-turn-init g c =
    (gathering_start _ c.requires.1.0 (omega (arith, c.requires.1.1.room)), came_start _ c.requires.1.0)

pub parted-requires : goal.parted-requires
parted-requires g c =
    gathering_end_inside c.requires.0 c.loop-turn.invariant.0 c.in-Some.ensures.0 c.in-Some.ensures.1
    c.if-spans-turn-ne0.false c.in-Some-part.ensures

pub closed-requires : goal.closed-requires
closed-requires g c =
    gathering_end_inside c.requires.0 c.loop-turn.invariant.0 c.in-Some.ensures.0 c.in-Some.ensures.1
    c.if-spans-turn-ne0.false c.in-Some-part.ensures

pub returns-in_default-parted : goal.returns-in_default-parted
returns-in_default-parted g c =
    gathering_end c.requires.0 c.loop-turn.invariant.0 c.in-Some.ensures.0 c.in-Some.ensures.1
    c.if-spans-turn-ne0.false c.in-Some-part.ensures (c.closed.ensures.found _ c.in-Some-closed.is)

pub loop-turn-smaller : goal.loop-turn-smaller
loop-turn-smaller g c =
    gathering_less c.requires.0 c.loop-turn.invariant.0 c.in-Some.ensures.0 c.in-Some.ensures.1
    c.if-spans-turn-ne0.false c.in-Some-part.ensures (c.parted.ensures.found _ c.in-Some-parted.is)

pub loop-turn-preserved : goal.loop-turn-preserved
loop-turn-preserved g c =
    let comma = c.parted.ensures.found _ c.in-Some-parted.is in
    let part = c.in-Some-part.ensures in (
      gathering_more c.requires.0 c.loop-turn.invariant.0 c.in-Some.ensures.0 c.in-Some.ensures.1
          c.if-spans-turn-ne0.false part comma,
      came_more c.loop-turn.invariant.1 c.in-Some.ensures.1 part.reads part.shallow comma,
    )
