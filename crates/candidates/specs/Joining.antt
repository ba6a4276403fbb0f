-- Joining: rows that hold texts, and rows that hold numbers, for the code that joins them.
--   Textual c         a content without a number, its text of a row's size;  content_text c   its text, none for an
--                     entry
--   Texted xs         the numbers xs are the row of such a content;  Numeric c, Numbered xs   the same of numbers
use Rattle.std.specs.Prelude.{◌≡◌, List, [], ℕ, ◌≤◌, length}
use Rattle.candidates.specs.Candidates.{itself, single, under, up_to, Content, empty, holds}
use Rattle.candidates.specs.Kinds.{text_of}
use Rattle.candidates.specs.Rows.{text_characters, row}

pub data Textual : Content → Type 0 where
  no_text : Textual empty
  whole_text : Textual (holds itself)
  single_text : {t : List ℕ} → length t ≤ text_characters → Textual (holds (single t))
  begun_text : {q : List ℕ} → length q ≤ text_characters → Textual (holds (under q))

abbrev pub content_text : Content → List ℕ
content_text empty = []
content_text (holds c) = text_of c

pub record Texted (xs : List ℕ) : Type 0 where
  pub content : Content
  pub textual : Textual content
  pub is : xs ≡ row content

-- ---- numbers

-- a content that is a number's
pub data Numeric : Content → Type 0 where
  no_number : Numeric empty
  one_number : {n : ℕ} → Numeric (holds (up_to n))

pub record Numbered (xs : List ℕ) : Type 0 where
  pub content : Content
  pub numeric : Numeric content
  pub is : xs ≡ row content
