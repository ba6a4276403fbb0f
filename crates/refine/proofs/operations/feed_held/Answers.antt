-- The room is refused; or the record is looked at.
-- a room that was found to be the policy's is so
use mathlib.Core.Path.{◌≡◌, sym, ◌∙◌}
use mathlib.Core.Bool.{Bool, true}
use mathlib.Core.List.{List}
use Prim.Native.Nat.{ℕ}
use borrow.Author.Rules.{rules}
use Rattle.syntax.specs.Policy.{Policy}
use Rattle.held.specs.Held.{held}
use Rattle.held.specs.Lying.{Lies}
use Rattle.refine.specs.Operations.{is_room, holds_for}
use Rattle.refine.specs.Sound.{Sound, HeldSound, Holding, no_content}
use Rattle.refine.proofs.operations.feed_held.Goals as goal

holding : {run room : List ℕ} {r : Bool} → HeldSound run → is_room room ≡ true
    → ((p : Policy) → Lies run 0 (held p) → Sound p → r ≡ holds_for p room) → r ≡ true → Holding run room
holding sound size told is =
    record {
      held_sound = sound;
      size = size;
      content = sym (told sound.policy sound.lies sound.sound) ∙ is;
    }

pub returns-then-not-holds_room : goal.returns-then-not-holds_room
returns-then-not-holds_room c =
    λ p l s. no_content
    (sym (c.holds_room.ensures p l s) ∙ c.if-not-holds_room.true)

pub with_request-requires : goal.with_request-requires
with_request-requires c =
    let h = holding c.requires.0 c.requires.1 c.holds_room.ensures c.if-not-holds_room.false in search rules
