-- The result is inside its room, and the line has one byte more.
use Rattle.std.proofs.Common.{refl, arith, ℕ, length-append}
use Rattle.refine.proofs.Laws.Held.{finishes_within}
use Rattle.muckposy.proofs.feeding.Feeder.finish.Goals as goal

pub say_line-requires : goal.say_line-requires
say_line-requires g c =
    let of = c.self.invariant.holding.held_sound in
    omega (arith, length-append {A = ℕ}, finishes_within (c.in-Ok.ensures of.policy of.lies of.sound) _ refl)
