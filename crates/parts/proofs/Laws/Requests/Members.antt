-- A member that may be absent: where its value stands; what the tests of kinds and the answers tell of a value.
use mathlib.Core.Path.{◌≡◌, refl, sym, ap, subst}
use mathlib.Core.List.{List}
use Prim.Native.Nat.{ℕ}
use native.Mathlib.Omega.{arith}
use Rattle.text.specs.Json.{Json}
use Rattle.text.specs.Contents.{Stands}
use Rattle.syntax.specs.Forms.{Reading, wrong}
use Rattle.syntax.specs.Members.{Slot, none, one}
use Rattle.parts.specs.Slots.{Placed, absent, stands}
use Rattle.parts.specs.Room.{cost_of, Holdable, HoldableSlot}
use Rattle.parts.specs.Holding.{Left, Holds}
use Rattle.std.specs.Prelude.{Option, None}
use Rattle.parts.proofs.Laws.Room.{roomy_less}
use Rattle.parts.proofs.Laws.Formed.{holds_wrong}

pub placed_absent : {s : List ℕ} {v : ℕ} {x : Slot} → Placed s v x → v ≡ 0 → x ≡ none
placed_absent absent e = refl
placed_absent (stands h p) e = absurd (omega arith)

pub record Found (s : List ℕ) (v : ℕ) (x : Slot) : Type 0 where
  pub what : Json
  pub stop : ℕ
  pub is : x ≡ one what
  pub at : Stands s what v stop

pub placed_found : {s : List ℕ} {v : ℕ} {x : Slot} → Placed s v x → (v ≡ 0 → ⊥) → Found s v x
placed_found absent h = absurd (h refl)
placed_found (stands {e = e} {t = t} g p) h = record { what = t; stop = e; is = refl; at = p }

-- a member that is there can be held where it stands
pub slot_holdable : {s : List ℕ} {v : ℕ} {run : List ℕ} {at n : ℕ} → HoldableSlot s v run at n → (v ≡ 0 → ⊥)
    → Holdable s v run at n
slot_holdable p h =
    let f = placed_found p.is h in
    record {
      what = f.what;
      stop = f.stop;
      is = f.at;
      roomy = roomy_less p.roomy refl (omega (arith, ap cost_of f.is));
    }

-- where the answer is None, what was to be held and what is read of it are wrong
pub refused :
    {A B : Type 0} (h : A → List ℕ) (run run' : List ℕ) (at : ℕ) (x : Reading A) (y : Reading B) {r : Option ℕ}
    → Holds h run run' at x r → r ≡ None → (x ≡ wrong → y ≡ wrong) → Left run run' y
refused h run run' at x y f e g =
    let l = holds_wrong h run run' at x f e in
    record { size = l.size; said = g l.said }

pub holds_as :
    {A : Type 0} (h : A → List ℕ) (run run' : List ℕ) (at : ℕ) (x y : Reading A) (r : Option ℕ)
    → Holds h run run' at x r → y ≡ x → Holds h run run' at y r
holds_as h run run' at x y r f e = subst (λ z. Holds h run run' at z r) (sym e) f
