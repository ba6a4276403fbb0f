-- Filling: parts that are known to lie in a run, and what stands for a member that is absent.
--   Ready h x run m k     what x reads lies in the run, as h holds it, as the part of turn k
--   Filled xs ..          the part of turn k is there, or the numbers xs stand for an absent one
--   Fills xs ..           likewise; or there is no room
use Rattle.std.specs.Prelude.{◌≡◌, List, ℕ, ◌+◌, ◌≤◌, length, set, Option, Some, None}
use Rattle.text.specs.Json.{Json}
use Rattle.syntax.specs.Forms.{Reading, read}
use Rattle.syntax.specs.Members.{then}
use Rattle.parts.specs.Holding.{Extends, Kept}
use Rattle.objects.specs.Spans.{from_of, to_of, behind}

-- the numbers of what f reads, as h holds it
abbrev pub numbers : {A : Type 0} → (A → List ℕ) → (Json → Reading A) → Json → Reading (List ℕ)
numbers h f t = then (f t) (λ x. read (h x))

pub record Ready {A : Type 0} (h : A → List ℕ) (x : Reading A) (run m : List ℕ) (k : ℕ) : Type 0 where
  pub thing : A
  pub said : x ≡ read thing
  pub lies : Extends run run (from_of m k) (h thing) (to_of m k)
  pub inside : to_of m k ≤ behind m

-- the part of turn k lies from one place up to another, and all parts end before a third
abbrev pub noted : List ℕ → ℕ → ℕ → ℕ → ℕ → List ℕ
noted m k from to past = set (set (set m (k + k) from) (k + k + 1) to) 1 past

pub data Filled (xs run run' m m' : List ℕ) (k : ℕ) : Type 0 where
  there : (to_of m k ≡ 0 → ⊥) → m' ≡ m → run' ≡ run → Filled xs run run' m m' k
  absent : {from past : ℕ} → to_of m k ≡ 0 → m' ≡ noted m k from (from + length xs) past → behind m ≤ past
      → from + length xs ≤ past → past ≤ length run' → Extends run' run' from xs (from + length xs)
      → Kept run run' (behind m) → Filled xs run run' m m' k

abbrev pub Fills : List ℕ → List ℕ → List ℕ → List ℕ → ℕ → Option (List ℕ) → Type 0
Fills xs run run' m k (Some m') = Filled xs run run' m m' k
Fills xs run run' m k None = length run' ≡ length run
