-- Valid policies: what the policy layout asks of a policy, said of the policy itself and not of a text.
--   Symbols ys     the characters and wildcards of an entry: scalar values, `star` and `any`
--   Valid p        at least one of each list, entries of their forms, no two Sids equal, no operator twice and no key
--                  twice in one
-- Limits are no part of it.  Pinned by: Laws/Tree (such a policy is what its written form says).
use Rattle.std.specs.Prelude.{◌≡◌, true, List, [], ◌∷◌, map, ℕ, ◌≤◌}
use Rattle.chars.specs.Written.{Scalar, Scalars}
use Rattle.syntax.specs.Limits.{greatest}
use Rattle.syntax.specs.Policy.{star, any, Operator, StringEquals, StringLike, NumericLessThanEquals, Value, text}
use Rattle.syntax.specs.Policy.{number, Row, Statement, Policy}
use Rattle.syntax.specs.Forms.{is_action, wildcard, is_resource, is_sid, is_key}
use Rattle.syntax.specs.Members.{differ}
use Rattle.syntax.specs.PolicyLayout.{Group, same_row, same_group, same_sid}
use Rattle.writing.specs.WrittenForm.{grouped}

-- each of the things is as P says
pub data Each (A : Type 0) (P : A → Type 0) : List A → Type 0 where
  none : Each A P []
  more : {x : A} {xs : List A} → P x → Each A P xs → Each A P (x ∷ xs)

-- and there is at least one
pub data Some (A : Type 0) (P : A → Type 0) : List A → Type 0 where
  first : {x : A} {xs : List A} → P x → Each A P xs → Some A P (x ∷ xs)

pub data Symbol : ℕ → Type 0 where
  plain : {y : ℕ} → Scalar y → Symbol y
  run : Symbol star
  one : Symbol any

abbrev pub Symbols : List ℕ → Type 0
Symbols ys = Each ℕ Symbol ys

-- an entry of Action: the wildcards of a right one
pub record ValidAction (ys : List ℕ) : Type 0 where
  pub chars : List ℕ
  pub is : ys ≡ map wildcard chars
  pub right : is_action chars ≡ true

pub record ValidResource (ys : List ℕ) : Type 0 where
  pub symbols : Symbols ys
  pub right : is_resource ys ≡ true

pub data ValidValue : Operator → Value → Type 0 where
  equals : {ys : List ℕ} → Scalars ys → ValidValue StringEquals (text ys)
  like : {ys : List ℕ} → Symbols ys → ValidValue StringLike (text ys)
  at_most : {n : ℕ} → n ≤ greatest → ValidValue NumericLessThanEquals (number n)

pub record ValidRow (r : Row) : Type 0 where
  pub key : is_key r.key ≡ true
  pub entries : Some Value (ValidValue r.operator) r.entries

-- the rows of a statement; in a run of one operator no key is repeated, and there is one run of each
pub record ValidRows (rs : List Row) : Type 0 where
  pub each : Each Row ValidRow rs
  pub keys : Each Group (λ g. differ same_row g.rows ≡ true) (grouped rs)
  pub operators : differ same_group (grouped rs) ≡ true

-- a Sid of no characters is none
pub data ValidSid : List ℕ → Type 0 where
  absent : ValidSid []
  sid : {cs : List ℕ} → is_sid cs ≡ true → ValidSid cs

pub record ValidStatement (s : Statement) : Type 0 where
  pub sid : ValidSid s.sid
  pub actions : Some (List ℕ) ValidAction s.actions
  pub resources : Some (List ℕ) ValidResource s.resources
  pub rows : ValidRows s.rows

pub record Valid (p : Policy) : Type 0 where
  pub statements : Some Statement ValidStatement p
  pub sids : differ same_sid p ≡ true
