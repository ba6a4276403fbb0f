-- Taking: a value judged and held in one walk over it. Where the walk succeeds, the grammar reads the bytes that it
-- passed, and what they say lies in the run. Where it gives up nothing is said but that the run kept its length: the
-- text is then read in another way.
--   Takes h f n s run run' v at r      a value of at most n levels at v, of which f's reading is held by h
--   TakesSeveral ..                    likewise several things, with their count
--   TakesMember ..                     a member from the opening quote of its name on, read by f from its raw name
--                                      and value
use Rattle.std.specs.Prelude.{◌≡◌, List, ℕ, ◌+◌, ◌≤◌, length, true, Option, Some, None}
use Rattle.chars.specs.Base.{part}
use Rattle.text.specs.Json.{Json, Members, named, depth, a_value, members, more, Reads}
use Rattle.syntax.specs.Forms.{Reading}
use Rattle.parts.specs.Holding.{Extends, Laid, Gathered}
use Rattle.parts.specs.declared.holding.Ended.{Ended}
use Rattle.parts.specs.declared.holding.Listed.{Listed}
use Rattle.straight.specs.Marks.{all_bare}

pub record Taken {A : Type 0} (h : A → List ℕ) (f : Json → Reading A) (n : ℕ) (s run run' : List ℕ) (v at p e : ℕ)
    : Type 0 where
  pub tree : Json
  pub reads : Reads s (a_value tree) v e
  pub shallow : depth tree ≤ n
  pub laid : Laid h run run' at (f tree) p

abbrev pub Takes : {A : Type 0} → (A → List ℕ) → (Json → Reading A) → ℕ → List ℕ → List ℕ → List ℕ → ℕ → ℕ
    → Option Ended → Type 0
Takes h f n s run run' v at (Some r) = Taken h f n s run run' v at r.past r.end
Takes h f n s run run' v at None = length run' ≡ length run

pub record TakenSeveral {A : Type 0} (h : A → List ℕ) (f : Json → Reading (List A)) (n : ℕ) (s run run' : List ℕ)
    (v at p e k : ℕ) : Type 0 where
  pub tree : Json
  pub reads : Reads s (a_value tree) v e
  pub shallow : depth tree ≤ n
  pub gathered : Gathered h run run' at (f tree) p k

abbrev pub TakesSeveral : {A : Type 0} → (A → List ℕ) → (Json → Reading (List A)) → ℕ → List ℕ → List ℕ → List ℕ → ℕ
    → ℕ → Option Listed → Type 0
TakesSeveral h f n s run run' v at (Some r) = TakenSeveral h f n s run run' v at r.past r.end r.count
TakesSeveral h f n s run run' v at None = length run' ≡ length run

-- whatever follows the member, its object's members begin with it
pub record TakenMember {A : Type 0} (h : A → List ℕ) (f : List ℕ → Json → Reading A) (n : ℕ) (s run run' : List ℕ)
    (i at p e : ℕ) : Type 0 where
  pub raw : List ℕ
  pub tree : Json
  pub reads : (ms : Members) (z : ℕ) → Reads s (more ms) e z → Reads s (members (named raw tree ms)) i z
  pub later : i ≤ e
  pub inside : e ≤ length s
  pub shallow : depth tree ≤ n
  pub laid : Laid h run run' at (f raw tree) p

abbrev pub TakesMember : {A : Type 0} → (A → List ℕ) → (List ℕ → Json → Reading A) → ℕ → List ℕ → List ℕ → List ℕ → ℕ
    → ℕ → Option Ended → Type 0
TakesMember h f n s run run' i at (Some r) = TakenMember h f n s run run' i at r.past r.end
TakesMember h f n s run run' i at None = length run' ≡ length run

-- bytes that stand for themselves, put one by one
pub record Puts (s run run' : List ℕ) (at to n : ℕ) : Type 0 where
  pub inside : at + n ≤ length s
  pub bare : all_bare (part s at (at + n)) ≡ true
  pub extends : Extends run run' to (part s at (at + n)) (to + n)
