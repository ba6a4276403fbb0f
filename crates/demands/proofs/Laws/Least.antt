-- Each row of a room that comes of a log holds the least candidate of what was charged to its entry.
use mathlib.Core.Path.{◌≡◌, sym, ◌∙◌, subst}
use mathlib.Core.Bool.{true}
use Prim.Native.Nat.{ℕ}
use native.Mathlib.Omega.{arith}
use Rattle.syntax.specs.Policy.{Value}
use Rattle.candidates.specs.Candidates.{Candidate, Content, empty, holds, Kind, Lawful, Covers, Under, Holds}
use Rattle.candidates.specs.Candidates as C
use Rattle.rooms.specs.Rooms.{slot_kind}
use Rattle.candidates.proofs.Laws.Entries.{lawful}
use Rattle.demands.specs.Charges.{Charged, HeldLeast, NoNarrower}
use Rattle.demands.proofs.Laws.Rooms.{rows_at}
use Rattle.demands.proofs.Laws.Logs.{comes_holds}

pub held_least : HeldLeast
held_least policy p log room known_p comes k s i =
    (rows_at (Charged p log) room k s (comes_holds known_p comes).rows i).right

-- what covers the values, and no more than their least candidate does, is that candidate
no_less : (k : Kind) → Lawful k → (S : Value → Type 0) (r : Content) (c d : Candidate) → Holds k S r → r ≡ holds c
    → k.is d ≡ true → ((v : Value) → S v → Covers k d v) → Under k d c → d ≡ c
no_less k w S r c d (C.nothing n) e i h u = let y : ◌≡◌ {A = ℕ} 0 1 = cc in absurd (omega arith)
no_less k w S r c d (C.least {c = b} x l) e i h u =
    let f : b ≡ c = cc in
    w.same d b i l.among (λ v y. subst_under v (u v y) f) (l.least d i h) ∙ f
  where
    subst_under : (v : Value) → Covers k c v → b ≡ c → Covers k b v
    subst_under v y f = subst (λ (a : Candidate). Covers k a v) (sym f) y

pub no_narrower : NoNarrower
no_narrower policy p log room known_p comes k s i c d e j h u =
    no_less (slot_kind s) (lawful s.place s.entry) (Charged p log k) _ c d
    (held_least policy p log room known_p comes k s i) e j h u
