-- Keeping: what the writer of a refined policy goes by.
--   from room i        the numbers of a room from the row of the i-th entry on
--   Writ x xs          the row xs holds a candidate that the entry x can be written as, or nothing
--   WritRows xs ns     the numbers ns are such rows of the entries xs, and more
--   WritPolicy p ns    the same of a policy's Allow entries
--   Ranged ..          a thing lies there, and there are rows for its entries;  Kept ..   which can be written
--   left s ns          the statement that is written for s, if one is (is_left)
use Rattle.std.specs.Prelude.{◌≡◌, Bool, true, List, [], ◌∷◌, ◌++◌, map, ℕ, ◌+◌, ◌*◌, ◌/◌, ◌≤◌, ◌<◌, length, take, drop}
use Rattle.chars.specs.Base.{pick}
use Rattle.syntax.specs.Policy.{Allow, Deny, Value, text, number, Row, Statement, Policy}
use Rattle.held.specs.Held.{mark, held_value, held_statement, held}
use Rattle.held.specs.Lying.{Lies}
use Rattle.decision.specs.Decision.{same_effect}
use Rattle.writing.specs.declared.sink.Sink.{Sink}
use Rattle.writing.specs.Showing.{Adds}
use Rattle.writing.specs.Bytes.{listed}
use Rattle.candidates.specs.Candidates.{Candidate, itself, single, under, up_to, Content, empty, holds}
use Rattle.candidates.specs.Rows.{row_numbers, text_characters, row}
use Rattle.refined.specs.Finishing.{kept, kept_statement, is_whole}

abbrev pub from : List ℕ → ℕ → List ℕ
from room i = drop (row_numbers * i) room

-- ---- rows that can be written

pub data Writable : Value → Content → Type 0 where
  nothing : {x : Value} → Writable x empty
  whole : {x : Value} → Writable x (holds itself)
  one : {ys t : List ℕ} → length t ≤ text_characters → Writable (text ys) (holds (single t))
  begun : {ys q : List ℕ} → length q < text_characters → Writable (text ys) (holds (under q))
  at_most : {m n : ℕ} → n / 4294967296 < mark → Writable (number m) (holds (up_to n))

pub record Writ (x : Value) (xs : List ℕ) : Type 0 where
  pub content : Content
  pub writable : Writable x content
  pub is : xs ≡ row content

pub data WritRows : List Value → List ℕ → Type 0 where
  no_rows : {ns : List ℕ} → WritRows [] ns
  a_row : {x : Value} {xs : List Value} {ns : List ℕ} → Writ x (take row_numbers ns) → WritRows xs (drop row_numbers ns)
      → WritRows (x ∷ xs) ns

-- ---- the entries of rows and statements, in reading order

unfoldable pub row_values : List Row → List Value
row_values [] = []
row_values (r ∷ rs) = r.entries ++ row_values rs

unfoldable pub statement_values : Statement → List Value
statement_values s = map text s.actions ++ (map text s.resources ++ row_values s.rows)

unfoldable pub policy_values : Policy → List Value
policy_values [] = []
policy_values (s ∷ p) = statement_values s ++ policy_values p

-- of Allow statements
pub data WritPolicy : Policy → List ℕ → Type 0 where
  no_statements : {ns : List ℕ} → WritPolicy [] ns
  an_allow : {s : Statement} {p : Policy} {ns : List ℕ} → s.effect ≡ Allow → WritRows (statement_values s) ns
      → WritPolicy p (drop (row_numbers * length (statement_values s)) ns) → WritPolicy (s ∷ p) ns
  a_deny : {s : Statement} {p : Policy} {ns : List ℕ} → s.effect ≡ Deny
      → WritPolicy p (drop (row_numbers * length (statement_values s)) ns) → WritPolicy (s ∷ p) ns

-- ---- what a call needs

pub record Ranged {A : Type 0} (h : A → List ℕ) (values : A → List Value) (run : List ℕ) (p : ℕ) (room : List ℕ) (i : ℕ)
    : Type 0 where
  pub thing : A
  pub lies : Lies run p (h thing)
  pub enough : row_numbers * (i + length (values thing)) ≤ length room

-- the rows from the i-th on are rows of the entries xs that can be written
pub record Ready (room : List ℕ) (i : ℕ) (xs : List Value) : Type 0 where
  pub enough : row_numbers * (i + length xs) ≤ length room
  pub writ : WritRows xs (from room i)

-- a thing lies there, and the rows of its entries are ready
pub record Kept {A : Type 0} (h : A → List ℕ) (values : A → List Value) (run : List ℕ) (p : ℕ) (room : List ℕ) (i : ℕ)
    : Type 0 where
  pub thing : A
  pub lies : Lies run p (h thing)
  pub ready : Ready room i (values thing)

-- an entry lies there, and xs is its row
pub record KeptEntry (run : List ℕ) (e : ℕ) (xs : List ℕ) : Type 0 where
  pub entry : Value
  pub lies : Lies run e (held_value entry)
  pub writ : Writ entry xs

-- and it holds something
pub record HeldEntry (run : List ℕ) (e : ℕ) (xs : List ℕ) : Type 0 where
  pub entry : Value
  pub candidate : Candidate
  pub lies : Lies run e (held_value entry)
  pub writable : Writable entry (holds candidate)
  pub is : xs ≡ row (holds candidate)

-- a row holds a beginning, and a star fits behind it
pub record Begun (xs : List ℕ) : Type 0 where
  pub text : List ℕ
  pub short : length text < text_characters
  pub is : xs ≡ row (holds (under text))

-- a row holds a number that a held run can have
pub record Bounded (xs : List ℕ) : Type 0 where
  pub number : ℕ
  pub short : number / 4294967296 < mark
  pub is : xs ≡ row (holds (up_to number))

-- a statement lies there; only an Allow's rows are read
pub record KeptStatement (run : List ℕ) (p : ℕ) (room : List ℕ) (i : ℕ) : Type 0 where
  pub thing : Statement
  pub lies : Lies run p (held_statement thing)
  pub enough : row_numbers * (i + length (statement_values thing)) ≤ length room
  pub writ : thing.effect ≡ Allow → WritRows (statement_values thing) (from room i)

-- a policy lies at the beginning, and the room has its rows
pub record KeptPolicy (run room : List ℕ) : Type 0 where
  pub policy : Policy
  pub lies : Lies run 0 (held policy)
  pub enough : row_numbers * length (policy_values policy) ≤ length room
  pub writ : WritPolicy policy room

-- ---- what is written

abbrev pub entries_of : List Value → List Value
entries_of xs = xs

abbrev pub row_entries_of : Row → List Value
row_entries_of r = r.entries

abbrev pub kept_row : Row → List ℕ → Row
kept_row r ns = record { operator = r.operator; key = r.key; entries = kept r.entries ns }

abbrev pub left : Statement → List ℕ → Statement
left s ns = pick (same_effect s.effect Allow) (kept_statement s ns) s

abbrev pub is_left : Statement → List ℕ → Bool
is_left s ns = pick (same_effect s.effect Allow) (is_whole (kept_statement s ns)) true

-- those of xs, as f has them, are added behind k others, and are n in all
pub record Reaches {A : Type 0} (f : A → List ℕ) (xs : List A) (k n : ℕ) (u v : Sink) : Type 0 where
  pub adds : Adds (listed f k xs) u v
  pub count : n ≡ k + length xs
