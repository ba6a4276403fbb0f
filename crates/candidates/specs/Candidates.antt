-- Candidates: document 01, "Charging and candidates", behind one interface; a row of a room is empty or holds one.
--   Kind           what refining asks of an entry: its candidates, what each covers, and the least ones
--   Under k a b    what a covers, b covers; Below, of rows
--   Least k S c    c is the least candidate that covers the values S
--   Lawful k       what every kind must keep to; demand 3 rests on nothing else of it
--   joined k a b   Join, of two rows' contents;  charged k r v   a row's content r once v is charged too
--   held k vs      what an empty row comes to hold of the values vs, charged in their order
--   Holds k S r    r is right for the values S: empty if there are none, else their least candidate
-- Differs from 01: nowhere.  Pinned by: Laws/Contents, Laws/Covered.
use Rattle.std.specs.Prelude.{◌≡◌, Bool, true, ◌⊎◌, ℕ}
use mathlib.Core.List.{List, [], ◌∷◌, Memᴰ}
use Rattle.syntax.specs.Policy.{Value}

-- the entry as it is; one text; a text and then *; the numbers not beyond one
pub data Candidate : Type 0 where
  itself : Candidate
  single : List ℕ → Candidate
  under : List ℕ → Candidate
  up_to : ℕ → Candidate

pub data Content : Type 0 where
  empty : Content
  holds : Candidate → Content

pub record Kind : Type 0 where
  -- is it a candidate of the entry?
  pub is : Candidate → Bool
  pub covers : Candidate → Value → Bool
  -- the entry, as a candidate
  pub whole : Candidate
  -- of one value, and of what two candidates cover
  pub least : Value → Candidate
  pub join : Candidate → Candidate → Candidate

abbrev pub Covers : Kind → Candidate → Value → Type 0
Covers k c v = k.covers c v ≡ true

abbrev pub Under : Kind → Candidate → Candidate → Type 0
Under k a b = (v : Value) → Covers k a v → Covers k b v

pub record Least (k : Kind) (S : Value → Type 0) (c : Candidate) : Type 0 where
  pub among : k.is c ≡ true
  pub all : (v : Value) → S v → Covers k c v
  pub least : (d : Candidate) → k.is d ≡ true → ((v : Value) → S v → Covers k d v) → Under k c d

pub record Lawful (k : Kind) : Type 0 where
  -- the entry is a candidate, and none covers more
  pub whole : k.is k.whole ≡ true
  pub inside : (c : Candidate) → k.is c ≡ true → Under k c k.whole
  pub least : (v : Value) → Covers k k.whole v → Least k (λ w. w ≡ v) (k.least v)
  pub join : (a b : Candidate) → k.is a ≡ true → k.is b ≡ true
      → Least k (λ v. Covers k a v ⊎ Covers k b v) (k.join a b)
  -- candidates that cover the same are one
  pub same : (a b : Candidate) → k.is a ≡ true → k.is b ≡ true → Under k a b → Under k b a → a ≡ b

-- ---- rows

-- the least candidate that covers both
abbrev pub joined : Kind → Content → Content → Content
joined k empty b = b
joined k (holds a) empty = holds a
joined k (holds a) (holds b) = holds (k.join a b)

abbrev pub charged : Kind → Content → Value → Content
charged k r v = joined k r (holds (k.least v))

-- the values charged to a row that holds r
unfoldable pub held_from : Kind → Content → List Value → Content
held_from k r [] = r
held_from k r (v ∷ vs) = held_from k (charged k r v) vs

abbrev pub held : Kind → List Value → Content
held k vs = held_from k empty vs

-- empty, or a candidate of the entry
abbrev pub is_content : Kind → Content → Bool
is_content k empty = true
is_content k (holds c) = k.is c

-- ---- what rows cover

-- an empty one nothing
abbrev pub Covered : Kind → Content → Value → Type 0
Covered k empty v = ⊥
Covered k (holds c) v = Covers k c v

abbrev pub Below : Kind → Content → Content → Type 0
Below k a b = (v : Value) → Covered k a v → Covered k b v

-- a value is among those of a list; each of them is one that the entry matches
abbrev pub Among : List Value → Value → Type 0
Among vs v = Memᴰ v vs

abbrev pub Matched : Kind → List Value → Type 0
Matched k vs = (v : Value) → Among vs v → Covers k k.whole v

-- two sets of values are the same
pub record Alike (S R : Value → Type 0) : Type 0 where
  pub to : (v : Value) → S v → R v
  pub from : (v : Value) → R v → S v

pub data Holds (k : Kind) (S : Value → Type 0) : Content → Type 0 where
  nothing : ((v : Value) → S v → ⊥) → Holds k S empty
  least : {c : Candidate} {v : Value} → S v → Least k S c → Holds k S (holds c)
