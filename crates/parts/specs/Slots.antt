-- Slots: what one walk over an object's members tells a layout.
--   words_of l             the names that a layout knows, in their turn
--   which_of ns w          the turn of a raw name among words, from 1; 0 for none
--   as_turn k              the same, if it is one
--   Slotted s ns ms e r   places by turn: at 0 the object's end e, or 0 where a name is unknown or repeated; at k where
--                         word k's value stands
use Rattle.std.specs.Prelude.{◌≡◌, true, false, ◌⊎◌, List, [], ◌∷◌, ℕ, zero, suc, ◌-◌, ◌≤◌, ◌<◌, length, get_or, Option, Some, None}
use Rattle.std.specs.Borrow.{Bor}
use Rattle.chars.specs.Base.{pick}
use Rattle.text.specs.Json.{Json, Members}
use Rattle.chars.specs.Decoding.{text_of, same_text}
use Rattle.text.specs.Contents.{Stands}
use Rattle.syntax.specs.Words.{version_word, statement_word, sid_word, effect_word, action_word, resource_word}
use Rattle.syntax.specs.Words.{condition_word}
use Rattle.syntax.specs.Words.{action_names_word, resource_arns_word, context_entries_word, context_key_name_word}
use Rattle.syntax.specs.Words.{context_key_type_word, context_key_values_word}
use Rattle.syntax.specs.Members.{Slot, none, one, many, slot, known}
use Rattle.parts.specs.declared.members.Layout.{Layout}
use Rattle.parts.specs.declared.members.Layout.TheVariants as L

abbrev pub words_of : Layout → List (List ℕ)
words_of L.Policy = version_word ∷ statement_word ∷ []
words_of L.Statement = sid_word ∷ effect_word ∷ action_word ∷ resource_word ∷ condition_word ∷ []
words_of L.Record = action_names_word ∷ resource_arns_word ∷ context_entries_word ∷ []
words_of L.Context = context_key_name_word ∷ context_key_type_word ∷ context_key_values_word ∷ []

-- one turn later, if it is one
abbrev pub later : ℕ → ℕ
later zero = 0
later (suc k) = suc (suc k)

unfoldable pub which_of : List (List ℕ) → List ℕ → ℕ
which_of [] w = 0
which_of (n ∷ ns) w = pick (same_text (text_of w) n) 1 (later (which_of ns w))

-- a turn, if it is one
abbrev pub as_turn : ℕ → Option ℕ
as_turn zero = None
as_turn (suc k) = Some (suc k)

-- words that are lent
abbrev pub spelt : List (Bor (List ℕ)) → List (List ℕ)
spelt [] = []
spelt (w ∷ ws) = w.now ∷ spelt ws

-- the word of a turn
abbrev pub word_at : List (List ℕ) → ℕ → List ℕ
word_at ns k = get_or ns (k - 1) []

-- 0 for an absent member, else where its value stands
pub data Placed (s : List ℕ) : ℕ → Slot → Type 0 where
  absent : Placed s 0 none
  stands : {p e : ℕ} {t : Json} → 0 < p → Stands s t p e → Placed s p (one t)

-- a turn of the words
pub record Turn (ns : List (List ℕ)) (k : ℕ) : Type 0 where
  pub from : 0 < k
  pub to : k ≤ length ns

-- some word is that of several members
pub record Repeated (ns : List (List ℕ)) (ms : Members) : Type 0 where
  pub turn : ℕ
  pub among : Turn ns turn
  pub many_times : slot (word_at ns turn) ms ≡ many

pub record Slotted (s : List ℕ) (ns : List (List ℕ)) (ms : Members) (e : ℕ) (r : List ℕ) : Type 0 where
  pub right : (get_or r 0 0 ≡ 0 → ⊥) → (get_or r 0 0 ≡ e) × ((known ns ms ≡ true) × ((k : ℕ) → Turn ns k
      → Placed s (get_or r k 0) (slot (word_at ns k) ms)))
  pub not_right : get_or r 0 0 ≡ 0 → (known ns ms ≡ false) ⊎ Repeated ns ms
