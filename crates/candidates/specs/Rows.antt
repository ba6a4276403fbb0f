-- Rows: the 256 numbers of a row, for each content one encoding; document 01 leaves it to the builder.
--   padded xs       the numbers xs, and zeros up to a row's length; of none it is the empty row
--   row c           what stands first tells the content: 0 empty, 1 the entry itself, 2 a single text, 3 a beginning,
--                   4 a number; a text stands behind its length, a number is parted in halves
--   content_of xs    the content of the numbers xs, if they are a row
--   is_row k xs      xs is a row that an entry of kind k can have: empty, or a candidate, in the one encoding
-- Pinned by: Laws/Encoding (`row` is one to one, and `is_row` is exactly that).
use Rattle.std.specs.Prelude.{Bool, true, false, List, [], ◌∷◌, ◌++◌, ℕ, ◌+◌, ◌-◌, ◌*◌, ◌/◌, ◌%◌, eqb, length, get_or, take, drop, replicate}
use Rattle.chars.specs.Base.{pick}
use Rattle.syntax.specs.Forms.{both, same}
use Rattle.candidates.specs.Candidates.{itself, single, under, up_to, Content, empty, holds, Kind}
use Rattle.candidates.specs.Candidates.{is_content}

abbrev pub row_numbers : ℕ
row_numbers = 256

-- a mark and a length stand before a text
abbrev pub text_characters : ℕ
text_characters = 254

unfoldable pub padded : List ℕ → List ℕ
padded xs = xs ++ replicate (row_numbers - length xs) 0

abbrev pub text_row : ℕ → List ℕ → List ℕ
text_row k cs = padded (k ∷ length cs ∷ cs)

abbrev pub number_row : ℕ → ℕ → List ℕ
number_row k n = padded (k ∷ n / 4294967296 ∷ n % 4294967296 ∷ [])

unfoldable pub is_zero : List ℕ → Bool
is_zero [] = true
is_zero (x ∷ xs) = pick (eqb x 0) (is_zero xs) false

unfoldable pub row : Content → List ℕ
row empty = padded []
row (holds itself) = padded (1 ∷ [])
row (holds (single t)) = text_row 2 t
row (holds (under q)) = text_row 3 q
row (holds (up_to n)) = number_row 4 n

-- ---- and back

abbrev pub text_in : List ℕ → List ℕ
text_in xs = take (get_or xs 1 0) (drop 2 xs)

abbrev pub number_in : List ℕ → ℕ
number_in xs = get_or xs 1 0 * 4294967296 + get_or xs 2 0

unfoldable pub content_of : List ℕ → Content
content_of xs =
    pick (eqb (get_or xs 0 0) 0) empty
    (pick (eqb (get_or xs 0 0) 1) (holds itself)
    (pick (eqb (get_or xs 0 0) 2) (holds (single (text_in xs)))
    (pick (eqb (get_or xs 0 0) 3) (holds (under (text_in xs)))
    (holds (up_to (number_in xs))))))

unfoldable pub is_row : Kind → List ℕ → Bool
is_row k xs = both (is_content k (content_of xs)) (same (row (content_of xs)) xs)
