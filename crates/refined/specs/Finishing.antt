-- Finishing: document 01, "Charging and candidates", what Finish writes: the policy with each Allow entry refined to
-- what its row holds.
--   kept xs ns             the entries whose rows hold something, refined; ns are the numbers of their rows and of
--                          those behind
--   refined_policy p room   empty Allow entries are dropped, an Allow statement is written if every one of its lists has
--                          an entry left, a Deny statement whole; nothing is merged or reordered
--   has_allow p             an Allow statement is written; where none is, 10 is given
-- Differs from 01: nowhere.
use Rattle.std.specs.Prelude.{Bool, true, false, List, [], ◌∷◌, map, ℕ, ◌*◌, length, take, drop}
use Rattle.chars.specs.Base.{pick}
use Rattle.syntax.specs.Forms.{both}
use Rattle.held.specs.Held.{any_of}
use Rattle.syntax.specs.Policy.{Allow, Value, text, number, Row, Statement, Policy}
use Rattle.decision.specs.Decision.{same_effect}
use Rattle.candidates.specs.Candidates.{Content, empty, holds}
use Rattle.candidates.specs.Entries.{refined}
use Rattle.candidates.specs.Rows.{row_numbers, content_of}
use Rattle.rooms.specs.Rooms.{statement_slots}

-- ---- lists

abbrev pub kept_by : Content → Value → List Value → List Value
kept_by empty x xs = xs
kept_by (holds c) x xs = refined x c ∷ xs

unfoldable pub kept : List Value → List ℕ → List Value
kept [] ns = []
kept (x ∷ xs) ns = kept_by (content_of (take row_numbers ns)) x (kept xs (drop row_numbers ns))

-- the rows behind those of some entries
abbrev pub behind : {A : Type 0} → List A → List ℕ → List ℕ
behind xs ns = drop (row_numbers * length xs) ns

-- the entries of Action and Resource are texts
abbrev pub text_of : Value → List ℕ
text_of (text ys) = ys
text_of (number n) = []

abbrev pub kept_texts : List (List ℕ) → List ℕ → List (List ℕ)
kept_texts xs ns = map text_of (kept (map text xs) ns)

unfoldable pub kept_rows : List Row → List ℕ → List Row
kept_rows [] ns = []
kept_rows (r ∷ rs) ns =
    record { operator = r.operator; key = r.key; entries = kept r.entries ns } ∷ kept_rows rs
    (behind r.entries ns)

-- ---- statements

abbrev pub has_some : {A : Type 0} → List A → Bool
has_some [] = false
has_some (x ∷ xs) = true

unfoldable pub all_some : List Row → Bool
all_some [] = true
all_some (r ∷ rs) = both (has_some r.entries) (all_some rs)

abbrev pub is_whole : Statement → Bool
is_whole s = both (has_some s.actions) (both (has_some s.resources) (all_some s.rows))

unfoldable pub kept_statement : Statement → List ℕ → Statement
kept_statement s ns =
    record {
      sid = s.sid;
      effect = s.effect;
      actions = kept_texts s.actions ns;
      resources = kept_texts s.resources (behind s.actions ns);
      rows = kept_rows s.rows (behind s.resources (behind s.actions ns));
    }

-- before the statements that are left
abbrev pub left_by : Statement → List ℕ → Policy → Policy
left_by s ns rest =
    pick (same_effect s.effect Allow)
    (pick (is_whole (kept_statement s ns)) (kept_statement s ns ∷ rest) rest)
    (s ∷ rest)

unfoldable pub refined_policy : Policy → List ℕ → Policy
refined_policy [] ns = []
refined_policy (s ∷ p) ns = left_by s ns (refined_policy p (behind (statement_slots s) ns))

abbrev pub has_allow : Policy → Bool
has_allow p = any_of (λ s. same_effect s.effect Allow) p
