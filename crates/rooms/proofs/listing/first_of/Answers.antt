-- The one there was; or this one, where it holds.
use mathlib.Core.Path.{◌≡◌, sym, ap, ◌∙◌}
use mathlib.Core.Bool.{Bool}
use Prim.Native.Nat.{ℕ}
use Rattle.chars.specs.Base.{pick}
use Rattle.decision.specs.Deciding.{or_else}
use Rattle.decision.proofs.Laws.DecidingOrder.{or_first, or_kept}
use Rattle.rooms.proofs.listing.first_of.Goals as goal

picked : {t u : Bool} (a k : ℕ) → a ≡ 0 → t ≡ u → pick u k 0 ≡ or_else a (pick t k 0)
picked {t} a k e f = ap (λ (b : Bool). pick b k 0) (sym f) ∙ or_first a (pick t k 0) e

pub returns-then-allowed-ne0 : goal.returns-then-allowed-ne0
returns-then-allowed-ne0 c = or_kept _ _ c.if-allowed-ne0.true

pub returns-then-holds : goal.returns-then-holds
returns-then-holds c = picked _ _ c.if-allowed-ne0.false c.if-holds.true

pub returns : goal.returns
returns c = picked _ c.args.k c.if-allowed-ne0.false c.if-holds.false
