-- The rooms that the named logs leave, row by row, and what their numbers tell.
--   left_a ..                a room that a log leaves, as its rows and the zeros behind them
--   not_empty, not_single    such a room is not the empty one, and not the one that holds the whole entry
use mathlib.Core.Path.{◌≡◌, refl, sym, ap, ◌∙◌}
use mathlib.Core.List.{List, [], ◌∷◌, ◌++◌}
use Prim.Native.Nat.{ℕ, ◌-◌}
use native.Mathlib.Omega.{arith}
use lib.ListN.{get_or}
use Rattle.candidates.specs.Candidates.{Candidate, itself, single, under, up_to, holds}
use Rattle.candidates.specs.Rows.{row_numbers, padded, row, content_of}
use Rattle.rooms.specs.Rooms.{slots, charges, fed}
use Rattle.candidates.proofs.Laws.Rows.{zeros}
use Rattle.rooms.proofs.Laws.Empty.{zeros_parted}
use Rattle.refine.specs.Operations.{room_numbers}
use Rattle.demands.specs.Logs.{empty_room}
use Rattle.rooms.specs.Rooms.{row_at}
use Rattle.demands.specs.Trials.{bucket, s3_get, get_object}
use Rattle.demands.specs.Imitations.{capped, wide_text, capped_text, asks_a, asks_b, asks_star, asks_acute, asks_grave}
use Rattle.demands.specs.Imitations.{asks_seven, Leaves}
use Rattle.demands.proofs.Laws.ImitationRooms.{one_left, two_left}
use Rattle.demands.proofs.Laws.ImitationInputs.{gets_seven, says, no_rows, two_rows, rows, four_rows}
use Rattle.demands.proofs.Laws.ImitationInputs.{exactly, feeding, fed_seven}

-- ---- an empty room

pub behind : List ℕ
behind = zeros (room_numbers - row_numbers - row_numbers)

empty_two : empty_room ≡ no_rows behind
unfolding empty_room behind
empty_two =
    zeros_parted room_numbers (omega arith)
    ∙ ap (λ (l : List ℕ). zeros row_numbers ++ l) (zeros_parted (room_numbers - row_numbers) (omega arith))

pub further : List ℕ
further = zeros (room_numbers - row_numbers - row_numbers - row_numbers - row_numbers)

behind_two : behind ≡ no_rows further
unfolding behind further
behind_two =
    zeros_parted (room_numbers - row_numbers - row_numbers) (omega arith)
    ∙ ap (λ (l : List ℕ). zeros row_numbers ++ l)
    (zeros_parted (room_numbers - row_numbers - row_numbers - row_numbers) (omega arith))

-- ---- rooms that a record left

module _ {room : List ℕ} where
  pub left_a : Leaves wide_text (asks_a ∷ []) room → room ≡ two_rows (exactly (97 ∷ [])) behind
  left_a w =
      one_left says.says_wide says.says_a w
      ∙ ap (feeding (97 ∷ [])) empty_two ∙ (rows behind).fed_a

  pub left_b : Leaves wide_text (asks_b ∷ []) room → room ≡ two_rows (exactly (98 ∷ [])) behind
  left_b w =
      one_left says.says_wide says.says_b w
      ∙ ap (feeding (98 ∷ [])) empty_two ∙ (rows behind).fed_b

  pub left_star : Leaves wide_text (asks_star ∷ []) room → room ≡ two_rows (exactly (97 ∷ 42 ∷ 98 ∷ [])) behind
  left_star w =
      one_left says.says_wide says.says_star w
      ∙ ap (feeding (97 ∷ 42 ∷ 98 ∷ [])) empty_two ∙ (rows behind).fed_star

  pub left_both : Leaves wide_text (asks_acute ∷ asks_grave ∷ []) room
      → room ≡ two_rows (under (bucket ++ (110 ∷ []))) behind
  left_both w =
      let grave = feeding (110 ∷ 232 ∷ []) in
      two_left says.says_wide says.says_acute says.says_grave w
      ∙ ap (λ (l : List ℕ). grave (feeding (110 ∷ 233 ∷ []) l)) empty_two
      ∙ ap grave (rows behind).fed_acute ∙ (rows behind).then_grave

  pub left_seven : Leaves capped_text (asks_seven ∷ []) room → room ≡ four_rows further
  left_seven w =
      one_left says.says_capped says.says_seven w
      ∙ ap (fed (slots capped) (charges capped gets_seven))
      (empty_two ∙ ap no_rows behind_two) ∙ fed_seven further

-- ---- what the first numbers of rows tell

first_row : (c : Candidate) (rest : List ℕ) → get_or (two_rows c rest) 0 0 ≡ 2
unfolding row padded
first_row c rest = refl

no_first : (rest : List ℕ) → get_or (no_rows rest) 0 0 ≡ 0
no_first rest = refl

single_row : (w rest : List ℕ) → get_or (two_rows (single w) rest) 256 0 ≡ 2
unfolding row padded get_object s3_get
single_row w rest = refl

whole_row : (rest : List ℕ) → get_or (two_rows itself rest) 256 0 ≡ 1
unfolding row padded get_object s3_get
whole_row rest = refl

-- an empty room holds nothing
pub not_empty : (c : Candidate) → empty_room ≡ two_rows c behind → ⊥
not_empty c e =
    let n = ap (λ (l : List ℕ). get_or l 0 0) (sym empty_two ∙ e) in
    omega (arith, n, no_first behind, first_row c behind)

-- a room whose second row holds one text, and the same room with the whole entry there
pub not_single : (w : List ℕ) {A : Type 0} → two_rows (single w) behind ≡ two_rows itself behind → A
not_single w e =
    let n = ap (λ (l : List ℕ). get_or l 256 0) e in
    absurd (omega (arith, n, single_row w behind, whole_row behind))

pub second_content : (rest : List ℕ)
    → content_of (row_at 1 (two_rows (under (bucket ++ (110 ∷ []))) rest)) ≡ holds (under (bucket ++ (110 ∷ [])))
unfolding row padded content_of get_object s3_get bucket
second_content rest = refl

pub second_size : (rest : List ℕ) → get_or (row_at 1 (two_rows (under (bucket ++ (110 ∷ []))) rest)) 1 0 ≡ 14
unfolding row padded get_object s3_get bucket
second_size rest = refl

pub cut_size : get_or (row (holds (under (bucket ++ (110 ∷ 195 ∷ []))))) 1 0 ≡ 15
unfolding row padded bucket
cut_size = refl

pub third_content : (rest : List ℕ) → content_of (row_at 2 (four_rows rest)) ≡ holds (up_to 7)
unfolding row padded content_of get_object s3_get bucket
third_content rest = refl

pub fourth_content : (rest : List ℕ) → content_of (row_at 3 (four_rows rest)) ≡ holds (up_to 7)
unfolding row padded content_of get_object s3_get bucket
fourth_content rest = refl

pub fourth_mark : (rest : List ℕ) → get_or (row_at 3 (four_rows rest)) 0 0 ≡ 4
unfolding row padded get_object s3_get bucket
fourth_mark rest = refl
