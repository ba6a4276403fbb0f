-- Entries: document 01, "Charging and candidates", from an entry as it stands in its list to its kind.
--   meets_at p x v    the entry x, standing at p, matches the value v, in the decision's words
--   refined x c      the entry that the candidate c of x is written as
--   is_legal p ys     at p, ys has an entry's form and keeps to its limit of characters
--   kind_of p x       the four lines of "Candidates of an Allow entry"
-- A single text and a beginning are of characters that stand for themselves in the list: an Action has no plain * or ?.
-- An entry that no valid policy has at p (a number under StringLike) has itself alone as candidate.
-- Differs from 01: nowhere.  Pinned by: Laws/Entries, Laws/Refined, Laws/Trials.
use Rattle.std.specs.Prelude.{Bool, true, false, List, [], ◌∷◌, ◌++◌, map, ℕ, suc, ◌-◌, eqb, leb, ltb, length, get_or, take}
use Rattle.chars.specs.Base.{pick, within, one_of}
use Rattle.syntax.specs.Limits.{entry_characters}
use Rattle.syntax.specs.Policy.{star, any, Operator, StringEquals, StringLike, NumericLessThanEquals}
use Rattle.syntax.specs.Policy.{Value, text, number}
use Rattle.syntax.specs.Forms.{both, either, all, is_action, is_resource}
use Rattle.decision.specs.Decision.{meets}
use Rattle.writing.specs.WrittenForm.{bare}
use Rattle.candidates.specs.Candidates.{Candidate, itself, single, under, up_to, Kind}
use Rattle.candidates.specs.Beginnings.{begins}
use Rattle.candidates.specs.Kinds.{texts, only, never, bounds}

-- the list that an entry stands in
pub data Place : Type 0 where
  in_action in_resource : Place
  in_row : Operator → Place

-- how it is compared there
abbrev pub comparison : Place → Operator
comparison in_action = StringLike
comparison in_resource = StringLike
comparison (in_row o) = o

abbrev pub meets_at : Place → Value → Value → Bool
meets_at p x v = meets (comparison p) x v

-- ---- wildcards

unfoldable pub wildcards : List ℕ → ℕ
wildcards [] = 0
wildcards (y ∷ ys) = pick (either (eqb y star) (eqb y any)) (suc (wildcards ys)) (wildcards ys)

-- the last symbol, and those before it
abbrev pub last_of : List ℕ → ℕ
last_of ys = get_or ys (length ys - 1) 0

abbrev pub before : List ℕ → List ℕ
before ys = take (length ys - 1) ys

-- ---- what is legal

abbrev pub refined : Value → Candidate → Value
refined x itself = x
refined x (single t) = text t
refined x (under q) = text (q ++ (star ∷ []))
refined x (up_to n) = number n

-- the form that the layout asks for; an Action's is said of the characters that it is written with
abbrev pub has_form : Place → List ℕ → Bool
has_form in_action ys = is_action (map bare ys)
has_form in_resource ys = is_resource ys
has_form (in_row o) ys = true

abbrev pub is_legal : Place → List ℕ → Bool
is_legal p ys = both (has_form p ys) (leb (length ys) entry_characters)

-- a character; one that stands for itself
unfoldable pub is_scalar : ℕ → Bool
is_scalar c = either (leb c 55295) (within 57344 1114111 c)

abbrev pub is_plain : Place → ℕ → Bool
is_plain in_action c = pick (one_of (42 ∷ 63 ∷ []) c) false (is_scalar c)
is_plain in_resource c = is_scalar c
is_plain (in_row o) c = is_scalar c

-- a single text
unfoldable pub legal_text : Place → List ℕ → Bool
legal_text p t = both (all (is_plain p) t) (is_legal p t)

-- the text b made longer, and then *
unfoldable pub legal_beginning : Place → List ℕ → List ℕ → Bool
legal_beginning p b q =
    both (both (begins b q) (ltb (length b) (length q))) (both (all (is_plain p) q) (is_legal p (q ++ (star ∷ []))))

-- ---- kinds

-- no wildcard: itself; one wildcard, a final *: any single text, its text made longer and then *, itself; any other:
-- any single text, itself
unfoldable pub wild_kind : Place → List ℕ → Kind
wild_kind p ys =
    pick (eqb (wildcards ys) 0) (only (meets_at p (text ys)))
    (pick (both (eqb (wildcards ys) 1) (eqb (last_of ys) star))
    (texts (meets_at p (text ys)) (legal_text p) (legal_beginning p (before ys)))
    (texts (meets_at p (text ys)) (legal_text p) never))

-- by how it is compared, the entry being of that type
abbrev pub kind_by : Operator → Place → Value → Kind
kind_by StringEquals p x = only (meets_at p x)
kind_by StringLike p (text ys) = wild_kind p ys
kind_by StringLike p (number n) = only (meets_at p (number n))
kind_by NumericLessThanEquals p (text ys) = only (meets_at p (text ys))
kind_by NumericLessThanEquals p (number n) = bounds leb n

abbrev pub kind_of : Place → Value → Kind
kind_of p x = kind_by (comparison p) p x
