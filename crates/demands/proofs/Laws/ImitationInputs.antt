-- The inputs of the imitations, computed: what their texts say, and what the operations' definitions make of them.
--   says             each text is known
--   rows             of the policy `wide`, which has two rows: what is fed, joined and refined, whatever lies behind
--   fed_seven        of `capped`, which has four
--   decisions, bytes what is decided, and what bytes stand where in what is written
use mathlib.Core.Path.{◌≡◌, refl}
use mathlib.Core.List.{List, [], ◌∷◌, ◌++◌}
use Prim.Native.Nat.{ℕ}
use lib.ListN.{length, get_or}
use Rattle.chars.specs.Base.{one_of}
use Rattle.chars.specs.Decoding.{sequence_of, read_of, units_behind, meaning, text_of, equal}
use Rattle.chars.specs.Decoding.{same_text}
use Rattle.chars.specs.Written.{coded, written, written_text}
use Rattle.text.specs.Json.{no_members, named, depth}
use Rattle.text.specs.Printing.{printed}
use Rattle.syntax.specs.Policy.{Allow, number, Policy, Request}
use Rattle.syntax.specs.Forms.{all, same, is_alphanumeric, is_vendor_char, is_name_char, is_name, is_vendor_tail, is_vendor}
use Rattle.syntax.specs.Forms.{is_action, wildcard, colons, begins_arn, is_arn, is_resource, is_key_char, is_key, ahead}
use Rattle.syntax.specs.Forms.{symbols_behind, digits_from, number_in, lower, same_key}
use Rattle.syntax.specs.Members.{characters, is_word, slot, is_among, known, each, some, one_or_more, members, has_like}
use Rattle.syntax.specs.Members.{differ}
use Rattle.syntax.specs.PolicyLayout.{action_of, resource_of, number_of_json, value_of, key_of, row_of, rows_of, operator_of}
use Rattle.syntax.specs.PolicyLayout.{group_of, rows_in, operators_in, condition_of, effect_of, sid_of, statement_in}
use Rattle.syntax.specs.PolicyLayout.{statement_of, policy_in, policy_of}
use Rattle.syntax.specs.Words.{context_entries_word}
use Rattle.syntax.specs.RecordLayout.{only_one, short, is_plain, action_name_of, resource_arn_of, key_name_of, typed_of}
use Rattle.syntax.specs.RecordLayout.{context_of, contexts_of, request_of}
use Rattle.held.specs.Held.{any_of, row_over, rows_over, statement_over, total_of, statement_entries, over_limit}
use Rattle.policy.specs.Reading.{policy_rules, record_rules, Says}
use Rattle.policy.specs.Reading as R
use Rattle.decision.specs.Matching.{some_ending, first, matches}
use Rattle.decision.specs.Decision.{value_at, row_result, rows_from, part_of, first_of, decide}
use Rattle.decision.specs.declared.deciding.Decision.TheVariants.{Denied, Allowed}
use Rattle.writing.specs.WrittenForm.{bare, is_escaped, spelling, spelled, digits_up_to, values_of, action_tree}
use Rattle.writing.specs.WrittenForm.{resource_tree, value_tree, grouped, rows_tree, groups_tree, statement_tree}
use Rattle.writing.specs.WrittenForm.{tree_of, written_policy}
use Rattle.candidates.specs.Candidates.{Candidate, itself, single, under, up_to, holds}
use Rattle.candidates.specs.Beginnings.{begins, shared, longest_up_to}
use Rattle.candidates.specs.Entries.{wildcards, is_scalar, legal_text, legal_beginning, wild_kind}
use Rattle.candidates.specs.Rows.{row_numbers, padded, row, content_of}
use Rattle.rooms.specs.Rooms.{row_slots, statement_slots, slots, row_hits, statement_hits, statement_charges, allowed_charges}
use Rattle.rooms.specs.Rooms.{charges, fed, met}
use Rattle.candidates.proofs.Laws.Rows.{zeros}
use Rattle.refined.specs.Finishing.{kept, kept_rows, all_some, kept_statement, refined_policy}
use Rattle.demands.specs.Trials.{bucket, s3_get, get_object}
use Rattle.demands.specs.Imitations.{s3_all, wide, guarded, capped, starred, wide_text, guarded_text, capped_text}
use Rattle.demands.specs.Imitations.{sole, record_tree, seven, asks, asks_a, asks_b, asks_star, asks_acute}
use Rattle.demands.specs.Imitations.{asks_grave, asks_seven}
use Rattle.demands.proofs.Laws.ImitationTexts.{fair_text, fair, printed_says}

-- ---- what the texts say

-- s3:GetObject on arn:aws:s3::: and the characters w
abbrev pub gets : List ℕ → Request
gets w = record { action = get_object; resource = bucket ++ w; context = [] }

abbrev pub gets_seven : Request
gets_seven =
    record {
      action = get_object;
      resource = bucket ++ (97 ∷ []);
      context = record { key = 107 ∷ []; value = number 7 } ∷ [];
    }

pub record AllSay : Type 0 where
  pub says_wide : Says policy_rules wide_text (R.known wide)
  pub says_guarded : Says policy_rules guarded_text (R.known guarded)
  pub says_capped : Says policy_rules capped_text (R.known capped)
  pub says_a : Says record_rules asks_a (R.known (gets (97 ∷ [])))
  pub says_b : Says record_rules asks_b (R.known (gets (98 ∷ [])))
  pub says_star : Says record_rules asks_star (R.known (gets (97 ∷ 42 ∷ 98 ∷ [])))
  pub says_acute : Says record_rules asks_acute (R.known (gets (110 ∷ 233 ∷ [])))
  pub says_grave : Says record_rules asks_grave (R.known (gets (110 ∷ 232 ∷ [])))
  pub says_seven : Says record_rules asks_seven (R.known gets_seven)

pub says : AllSay
unfolding s3_all wide guarded capped wide_text guarded_text capped_text record_tree seven asks asks_a asks_b asks_star
    asks_acute asks_grave asks_seven bucket s3_get get_object written_policy tree_of statement_tree action_tree resource_tree
    value_tree values_of grouped rows_tree groups_tree spelled spelling is_escaped bare digits_up_to printed written_text
    written coded one_of fair fair_text depth policy_of policy_in statement_of statement_in sid_of effect_of condition_of
    operators_in rows_in group_of operator_of rows_of row_of key_of value_of number_of_json action_of resource_of is_word slot
    is_among known each some one_or_more members has_like differ characters same_text text_of meaning units_behind read_of
    sequence_of equal all same is_alphanumeric is_vendor_char is_name_char is_name is_vendor_tail is_vendor is_action wildcard
    colons begins_arn is_arn is_resource is_key_char is_key symbols_behind ahead digits_from number_in lower same_key only_one
    short is_plain action_name_of resource_arn_of key_name_of typed_of context_of contexts_of request_of any_of row_over rows_over
    statement_over total_of statement_entries over_limit
says =
    record {
      says_wide = printed_says policy_rules (tree_of wide) (R.known wide) refl refl;
      says_guarded = printed_says policy_rules (tree_of guarded) (R.known guarded) refl refl;
      says_capped = printed_says policy_rules (tree_of capped) (R.known capped) refl refl;
      says_a = printed_says record_rules (record_tree (97 ∷ []) no_members) (R.known (gets (97 ∷ []))) refl refl;
      says_b = printed_says record_rules (record_tree (98 ∷ []) no_members) (R.known (gets (98 ∷ []))) refl refl;
      says_star = printed_says record_rules (record_tree (97 ∷ 42 ∷ 98 ∷ []) no_members)
          (R.known (gets (97 ∷ 42 ∷ 98 ∷ []))) refl refl;
      says_acute = printed_says record_rules (record_tree (110 ∷ 195 ∷ 169 ∷ []) no_members)
          (R.known (gets (110 ∷ 233 ∷ []))) refl refl;
      says_grave = printed_says record_rules (record_tree (110 ∷ 195 ∷ 168 ∷ []) no_members)
          (R.known (gets (110 ∷ 232 ∷ []))) refl refl;
      says_seven = printed_says record_rules
          (record_tree (97 ∷ []) (named context_entries_word (sole seven) no_members)) (R.known gets_seven) refl refl;
    }

-- ---- two rows

-- what a room of `wide` begins with: nothing, or two candidates
abbrev pub no_rows : List ℕ → List ℕ
no_rows rest = zeros row_numbers ++ (zeros row_numbers ++ rest)

abbrev pub two_rows : Candidate → List ℕ → List ℕ
two_rows c rest = row (holds (single get_object)) ++ (row (holds c) ++ rest)

-- the text arn:aws:s3::: and w
abbrev pub exactly : List ℕ → Candidate
exactly w = single (bucket ++ w)

-- what feeding `gets w` makes of a room
abbrev pub feeding : List ℕ → List ℕ → List ℕ
feeding w room = fed (slots wide) (charges wide (gets w)) room

-- s3:GetObject on arn:aws:s3::: and w
abbrev pub narrowed : List ℕ → Policy
narrowed w =
    record { sid = []; effect = Allow; actions = get_object ∷ []; resources = (bucket ++ w) ∷ []; rows = [] } ∷ []

pub record Rows (rest : List ℕ) : Type 0 where
  pub fed_a : feeding (97 ∷ []) (no_rows rest) ≡ two_rows (exactly (97 ∷ [])) rest
  pub fed_b : feeding (98 ∷ []) (no_rows rest) ≡ two_rows (exactly (98 ∷ [])) rest
  pub fed_star : feeding (97 ∷ 42 ∷ 98 ∷ []) (no_rows rest) ≡ two_rows (exactly (97 ∷ 42 ∷ 98 ∷ [])) rest
  pub fed_acute : feeding (110 ∷ 233 ∷ []) (no_rows rest) ≡ two_rows (exactly (110 ∷ 233 ∷ [])) rest
  -- a second record, and two rooms joined
  pub then_grave : feeding (110 ∷ 232 ∷ []) (two_rows (exactly (110 ∷ 233 ∷ [])) rest)
      ≡ two_rows (under (bucket ++ (110 ∷ []))) rest
  pub then_b : feeding (98 ∷ []) (two_rows (exactly (97 ∷ [])) rest) ≡ two_rows itself rest
  pub met_ab : met (slots wide) (two_rows (exactly (97 ∷ [])) rest) (two_rows (exactly (98 ∷ [])) rest)
      ≡ two_rows itself rest
  -- what is written
  pub refined_a : refined_policy wide (two_rows (exactly (97 ∷ [])) rest) ≡ narrowed (97 ∷ [])
  pub refined_b : refined_policy wide (two_rows (exactly (98 ∷ [])) rest) ≡ narrowed (98 ∷ [])
  pub refined_star : refined_policy wide (two_rows (exactly (97 ∷ 42 ∷ 98 ∷ [])) rest)
      ≡ narrowed (97 ∷ 42 ∷ 98 ∷ [])

pub rows : (rest : List ℕ) → Rows rest
unfolding s3_all wide bucket s3_get get_object one_of all same is_alphanumeric is_vendor_char is_name_char is_name is_vendor_tail
    is_vendor is_action colons begins_arn is_arn is_resource any_of some_ending first matches value_at row_result rows_from
    part_of first_of decide bare begins shared longest_up_to wildcards is_scalar legal_text legal_beginning wild_kind padded
    row content_of row_slots statement_slots slots row_hits statement_hits statement_charges allowed_charges charges fed met
    kept kept_rows all_some kept_statement refined_policy
rows rest =
    record {
      fed_a = refl;
      fed_b = refl;
      fed_star = refl;
      fed_acute = refl;
      then_grave = refl;
      then_b = refl;
      met_ab = refl;
      refined_a = refl;
      refined_b = refl;
      refined_star = refl;
    }

-- ---- four rows

abbrev pub four_rows : List ℕ → List ℕ
four_rows rest = two_rows (exactly (97 ∷ [])) (row (holds (up_to 7)) ++ (row (holds (up_to 7)) ++ rest))

pub fed_seven : (rest : List ℕ) → fed (slots capped) (charges capped gets_seven) (no_rows (no_rows rest)) ≡ four_rows rest
unfolding s3_all capped bucket s3_get get_object one_of all same is_alphanumeric is_vendor_char is_name_char is_name is_vendor_tail
    is_vendor is_action colons begins_arn is_arn is_resource lower same_key any_of some_ending first matches value_at row_result
    rows_from part_of first_of decide bare begins shared longest_up_to wildcards is_scalar legal_text legal_beginning wild_kind
    padded row content_of row_slots statement_slots slots row_hits statement_hits statement_charges allowed_charges charges
    fed
fed_seven rest = refl

-- ---- decisions

pub record Decisions : Type 0 where
  pub allows_a : decide guarded (gets (97 ∷ [])) ≡ Allowed 1
  pub denies_b : decide guarded (gets (98 ∷ [])) ≡ Denied 2

pub decisions : Decisions
unfolding s3_all guarded bucket s3_get get_object any_of some_ending first matches rows_from part_of first_of decide
decisions = record { allows_a = refl; denies_b = refl }

-- ---- bytes

pub record Written : Type 0 where
  pub long_wide : length wide_text ≡ 105
  pub long_a : length (written_policy (narrowed (97 ∷ []))) ≡ 113
  pub long_b : length (written_policy (narrowed (98 ∷ []))) ≡ 113
  pub long_star : length (written_policy (narrowed (97 ∷ 42 ∷ 98 ∷ []))) ≡ 118
  pub long_starred : length (written_policy starred) ≡ 115
  -- G of s3:GetObject, where the original has *
  pub wide_at : get_or wide_text 69 0 ≡ 42
  pub a_at : get_or (written_policy (narrowed (97 ∷ []))) 69 0 ≡ 71
  -- the last character of the resource
  pub a_last : get_or (written_policy (narrowed (97 ∷ []))) 107 0 ≡ 97
  pub b_last : get_or (written_policy (narrowed (98 ∷ []))) 107 0 ≡ 98
  -- the $ of ${*}, and the bare *
  pub star_at : get_or (written_policy (narrowed (97 ∷ 42 ∷ 98 ∷ []))) 108 0 ≡ 36
  pub starred_at : get_or (written_policy starred) 108 0 ≡ 42

pub bytes : Written
unfolding s3_all wide_text wide starred bucket s3_get get_object written_policy tree_of statement_tree action_tree resource_tree
    values_of spelled spelling is_escaped bare printed written_text written one_of
bytes =
    record {
      long_wide = refl;
      long_a = refl;
      long_b = refl;
      long_star = refl;
      long_starred = refl;
      wide_at = refl;
      a_at = refl;
      a_last = refl;
      b_last = refl;
      star_at = refl;
      starred_at = refl;
    }
