-- Answers that are known: what a walk promises where it went on, and where it gave up.
--   extends_roomy, set_roomy, run_roomy   room in the run
--   retaken                               the same value held in another way
use mathlib.Core.Path.{◌≡◌, sym, subst}
use mathlib.Core.List.{List}
use Prim.Native.Nat.{ℕ, ◌≤◌}
use native.Mathlib.Omega.{arith}
use lib.ListN.{length, set, length-set}
use Rattle.text.specs.Json.{Json}
use Rattle.syntax.specs.Limits.{run_numbers}
use Rattle.syntax.specs.Forms.{Reading}
use Rattle.parts.specs.Room.{Roomy}
use Rattle.parts.specs.Holding.{Extends, Laid}
use Rattle.parts.specs.declared.holding.Ended.{Ended}
use Rattle.std.specs.Prelude.{Option, Some, None}
use Rattle.parts.specs.declared.holding.Listed.{Listed}
use Rattle.parts.proofs.Laws.Extends.{extends_within}
use Rattle.straight.specs.Taking.{Taken, Takes, TakenSeveral, TakesSeveral, TakenMember, TakesMember}

module _ {A : Type 0} (h : A → List ℕ) (n : ℕ) (s run run' : List ℕ) (v at : ℕ) where
  module _ (f : Json → Reading A) where
    pub takes_past : {r : Option Ended} {y : Ended} → Takes h f n s run run' v at r → r ≡ Some y
        → Taken h f n s run run' v at y.past y.end
    takes_past t k = subst (Takes h f n s run run' v at) k t

    pub takes_wrong : {r : Option Ended} → Takes h f n s run run' v at r → r ≡ None → length run' ≡ length run
    takes_wrong t k = subst (Takes h f n s run run' v at) k t

    -- nothing was taken
    pub none_takes : {r : Option Ended} → r ≡ None → length run' ≡ length run → Takes h f n s run run' v at r
    none_takes k t = subst (Takes h f n s run run' v at) (sym k) t

  module _ (f : Json → Reading (List A)) where
    pub several_past : {r : Option Listed} {y : Listed} → TakesSeveral h f n s run run' v at r → r ≡ Some y
        → TakenSeveral h f n s run run' v at y.past y.end y.count
    several_past t k = subst (TakesSeveral h f n s run run' v at) k t

    pub none_several : {r : Option Listed} → r ≡ None → length run' ≡ length run → TakesSeveral h f n s run run' v at r
    none_several k t = subst (TakesSeveral h f n s run run' v at) (sym k) t

  module _ (f : List ℕ → Json → Reading A) where
    pub member_past : {r : Option Ended} {y : Ended} → TakesMember h f n s run run' v at r → r ≡ Some y
        → TakenMember h f n s run run' v at y.past y.end
    member_past t k = subst (TakesMember h f n s run run' v at) k t

    pub none_member : {r : Option Ended} → r ≡ None → length run' ≡ length run → TakesMember h f n s run run' v at r
    none_member k t = subst (TakesMember h f n s run run' v at) (sym k) t

-- ---- room

-- what was held ends inside the run, so that more may be held behind it
pub extends_roomy : {run run' xs : List ℕ} {at p : ℕ} → Roomy run at 0 → Extends run run' at xs p → Roomy run' p 0
extends_roomy r x =
    record {
      room = omega (arith, extends_within x (omega (arith, r.room)));
      bounded = omega (arith, r.bounded, x.size);
    }

-- a number put in a run leaves its room
pub set_roomy : {run : List ℕ} {to : ℕ} (at k : ℕ) → Roomy run to 0 → Roomy (set run at k) to 0
set_roomy {run} at k r =
    record {
      room = omega (arith, r.room, length-set run at k);
      bounded = omega (arith, r.bounded, length-set run at k);
    }

-- all of a run is room
pub run_roomy : {run : List ℕ} → length run ≤ run_numbers → Roomy run 0 0
run_roomy few = record { room = omega arith; bounded = few }

-- ---- the same value

-- held in another way
pub retaken :
    {A B : Type 0} {h : A → List ℕ} {k : B → List ℕ} {f : Json → Reading A} {g : Json → Reading B} {n : ℕ}
    {s run run' run₁ run₂ : List ℕ} {v at p p' e : ℕ} (t : Taken h f n s run run' v at p e)
    → Laid k run₁ run₂ at (g t.tree) p' → Taken k g n s run₁ run₂ v at p' e
retaken t d = record { tree = t.tree; reads = t.reads; shallow = t.shallow; laid = d }
