-- Policies and requests as plain data: document 01, "Policy layout" and "Record layout".
--   A text is a list of characters by their numbers; where an entry may have wildcards, `star` and `any` are * and ?.
--   Entries, rows and statements are in reading order.
use Rattle.std.specs.Prelude.{List, ℕ}

-- numbers above every character's
abbrev pub star : ℕ
star = 1114112

abbrev pub any : ℕ
any = 1114113

pub data Effect : Type 0 where
  Allow Deny : Effect

pub data Operator : Type 0 where
  StringEquals StringLike NumericLessThanEquals : Operator

-- an entry of a condition row
pub data Value : Type 0 where
  text : List ℕ → Value
  number : ℕ → Value

-- a condition row: the key as it was read
pub record Row : Type 0 where
  pub operator : Operator
  pub key : List ℕ
  pub entries : List Value

-- a Sid of no characters is none
pub record Statement : Type 0 where
  pub sid : List ℕ
  pub effect : Effect
  pub actions : List (List ℕ)
  pub resources : List (List ℕ)
  pub rows : List Row

abbrev pub Policy : Type 0
Policy = List Statement

-- a context entry of a record: its key as it was read, and a value of its type
pub record Context : Type 0 where
  pub key : List ℕ
  pub value : Value

pub record Request : Type 0 where
  pub action : List ℕ
  pub resource : List ℕ
  pub context : List Context
