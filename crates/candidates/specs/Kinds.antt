-- Kinds of entries: document 01, "Charging and candidates", what a row holds.
--   texts m one wide  an entry that matches the values m: itself, the single texts it matches that `one` lets pass, and
--                     the beginnings that `wide` lets pass, each with *; held is the longest shared one that passes
--   only m            the same with no other candidate than the entry itself
--   bounds le n       the numbers not beyond n in an order; held is the furthest
-- Differs from 01: nowhere.  Pinned by: Laws/Texts, Laws/Bounds (what each needs of m, one, wide and le to be lawful).
use Rattle.std.specs.Prelude.{Bool, true, false, List, [], ℕ}
use Rattle.chars.specs.Base.{pick}
use Rattle.syntax.specs.Policy.{Value, text, number}
use Rattle.syntax.specs.Forms.{both, same}
use Rattle.candidates.specs.Candidates.{Candidate, itself, single, under, up_to, Kind}
use Rattle.candidates.specs.Beginnings.{begins, shared, longest}

-- a test on texts, or on numbers, of a value
abbrev pub of_text : (List ℕ → Bool) → Value → Bool
of_text f (text t) = f t
of_text f (number n) = false

abbrev pub of_number : (ℕ → Bool) → Value → Bool
of_number f (text t) = false
of_number f (number n) = f n

-- ---- texts

-- which candidates there are
abbrev pub is_of_texts : (Value → Bool) → (List ℕ → Bool) → (List ℕ → Bool) → Candidate → Bool
is_of_texts m one wide itself = true
is_of_texts m one wide (single t) = both (m (text t)) (one t)
is_of_texts m one wide (under q) = wide q
is_of_texts m one wide (up_to n) = false

-- what each covers
abbrev pub texts_cover : (Value → Bool) → Candidate → Value → Bool
texts_cover m itself v = m v
texts_cover m (single t) v = of_text (same t) v
texts_cover m (under q) v = of_text (begins q) v
texts_cover m (up_to n) v = false

-- what one value generalises to
abbrev pub least_of_text : (List ℕ → Bool) → (List ℕ → Bool) → Value → Candidate
least_of_text one wide (text t) = pick (one t) (single t) (longest wide t)
least_of_text one wide (number n) = itself

-- the text with which all begin that a candidate covers; of the entry itself no more is known than the empty one
abbrev pub text_of : Candidate → List ℕ
text_of itself = []
text_of (single t) = t
text_of (under q) = q
text_of (up_to n) = []

abbrev pub is_single : Candidate → Bool
is_single itself = false
is_single (single t) = true
is_single (under q) = false
is_single (up_to n) = false

-- two singles of one text
abbrev pub one_text : Candidate → Candidate → Bool
one_text a b = both (is_single a) (both (is_single b) (same (text_of a) (text_of b)))

-- that single, or the longest shared beginning that passes, or the entry itself
abbrev pub join_of_texts : (List ℕ → Bool) → Candidate → Candidate → Candidate
join_of_texts wide a b = pick (one_text a b) a (longest wide (shared (text_of a) (text_of b)))

abbrev pub texts : (Value → Bool) → (List ℕ → Bool) → (List ℕ → Bool) → Kind
texts m one wide =
    record {
      is = is_of_texts m one wide;
      covers = texts_cover m;
      whole = itself;
      least = least_of_text one wide;
      join = join_of_texts wide;
    }

abbrev pub never : List ℕ → Bool
never t = false

abbrev pub only : (Value → Bool) → Kind
only m = texts m never never

-- ---- numbers

abbrev pub is_bound : (ℕ → ℕ → Bool) → ℕ → Candidate → Bool
is_bound le n itself = false
is_bound le n (single t) = false
is_bound le n (under q) = false
is_bound le n (up_to m) = le m n

abbrev pub bound_covers : (ℕ → ℕ → Bool) → Candidate → Value → Bool
bound_covers le itself v = false
bound_covers le (single t) v = false
bound_covers le (under q) v = false
bound_covers le (up_to n) v = of_number (λ m. le m n) v

abbrev pub number_of : Candidate → ℕ
number_of itself = 0
number_of (single t) = 0
number_of (under q) = 0
number_of (up_to n) = n

abbrev pub least_bound : Value → Candidate
least_bound (text t) = itself
least_bound (number n) = up_to n

-- the further of the two
abbrev pub join_bounds : (ℕ → ℕ → Bool) → Candidate → Candidate → Candidate
join_bounds le a b = up_to (pick (le (number_of a) (number_of b)) (number_of b) (number_of a))

abbrev pub bounds : (ℕ → ℕ → Bool) → ℕ → Kind
bounds le n =
    record {
      is = is_bound le n;
      covers = bound_covers le;
      whole = up_to n;
      least = least_bound;
      join = join_bounds le;
    }
