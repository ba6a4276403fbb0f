-- Statements of the written form read back: what stands under each name is found by computation.
use mathlib.Core.Path.{◌≡◌, refl}
use mathlib.Core.Bool.{true}
use mathlib.Core.List.{List, [], ◌∷◌}
use Prim.Native.Nat.{ℕ}
use Rattle.text.specs.Json.{Json, string, object, Members, named}
use Rattle.chars.specs.Decoding.{read_of, sequence_of, units_behind, meaning, text_of, equal, same_text}
use Rattle.syntax.specs.Policy.{Effect, Allow, Deny, Row, Statement}
use Rattle.syntax.specs.Forms.{read, is_sid}
use Rattle.syntax.specs.Words.{sid_word, effect_word, action_word, resource_word, condition_word}
use Rattle.syntax.specs.Members.{is_word, Slot, none, one, slot, is_among, known, optional}
use Rattle.syntax.specs.PolicyLayout.{action_of, resource_of, condition_of, effect_of, sid_of, statement_in}
use Rattle.syntax.specs.PolicyLayout.{statement_of}
use Rattle.writing.specs.WrittenForm.{string_of, list_of, action_tree, resource_tree, grouped, groups_tree, effect_name}
use Rattle.writing.specs.WrittenForm.{sid_member, condition_member, statement_tree}
use Rattle.writing.specs.Valid.{ValidAction, ValidResource, ValidRows, ValidSid, absent, sid, ValidStatement}
use Rattle.writing.proofs.Laws.TreeEntries.{list_tree, action_tree_lem, resource_tree_lem, sid_tree}
use Rattle.writing.proofs.Laws.TreeRows.{condition_tree}

effect_tree : (e : Effect) → effect_of (string (effect_name e)) ≡ read e
unfolding effect_of is_word same_text text_of meaning units_behind read_of sequence_of equal
effect_tree Allow = refl
effect_tree Deny = refl

-- ---- what stands under the names

abbrev sid_slot : List ℕ → Slot
sid_slot [] = none
sid_slot (c ∷ cs) = one (string_of (c ∷ cs))

abbrev condition_slot : List Row → Slot
condition_slot [] = none
condition_slot (r ∷ rs) = one (object (groups_tree (grouped (r ∷ rs))))

abbrev laid : List ℕ → Json → Json → Json → List Row → Members
laid i e a r rs =
    sid_member i (named effect_word e (named action_word a (named resource_word r (condition_member rs))))

module _ (e a r : Json) where
  all_known : (i : List ℕ) (rs : List Row)
      → known (sid_word ∷ effect_word ∷ action_word ∷ resource_word ∷ condition_word ∷ []) (laid i e a r rs) ≡ true
  unfolding known is_among same_text text_of meaning units_behind read_of sequence_of equal
  all_known [] [] = refl
  all_known [] (q ∷ rs) = refl
  all_known (c ∷ cs) [] = refl
  all_known (c ∷ cs) (q ∷ rs) = refl

  sid_slot_lem : (i : List ℕ) (rs : List Row) → slot sid_word (laid i e a r rs) ≡ sid_slot i
  unfolding slot same_text text_of meaning units_behind read_of sequence_of equal
  sid_slot_lem [] [] = refl
  sid_slot_lem [] (q ∷ rs) = refl
  sid_slot_lem (c ∷ cs) [] = refl
  sid_slot_lem (c ∷ cs) (q ∷ rs) = refl

  effect_slot : (i : List ℕ) (rs : List Row) → slot effect_word (laid i e a r rs) ≡ one e
  unfolding slot same_text text_of meaning units_behind read_of sequence_of equal
  effect_slot [] [] = refl
  effect_slot [] (q ∷ rs) = refl
  effect_slot (c ∷ cs) [] = refl
  effect_slot (c ∷ cs) (q ∷ rs) = refl

  action_slot : (i : List ℕ) (rs : List Row) → slot action_word (laid i e a r rs) ≡ one a
  unfolding slot same_text text_of meaning units_behind read_of sequence_of equal
  action_slot [] [] = refl
  action_slot [] (q ∷ rs) = refl
  action_slot (c ∷ cs) [] = refl
  action_slot (c ∷ cs) (q ∷ rs) = refl

  resource_slot : (i : List ℕ) (rs : List Row) → slot resource_word (laid i e a r rs) ≡ one r
  unfolding slot same_text text_of meaning units_behind read_of sequence_of equal
  resource_slot [] [] = refl
  resource_slot [] (q ∷ rs) = refl
  resource_slot (c ∷ cs) [] = refl
  resource_slot (c ∷ cs) (q ∷ rs) = refl

  condition_slot_lem : (i : List ℕ) (rs : List Row) → slot condition_word (laid i e a r rs) ≡ condition_slot rs
  unfolding slot same_text text_of meaning units_behind read_of sequence_of equal
  condition_slot_lem [] [] = refl
  condition_slot_lem [] (q ∷ rs) = refl
  condition_slot_lem (c ∷ cs) [] = refl
  condition_slot_lem (c ∷ cs) (q ∷ rs) = refl

-- ---- the statement

sid_read : {cs : List ℕ} → ValidSid cs → optional [] sid_of (sid_slot cs) ≡ read cs
sid_read absent = refl
sid_read (sid {cs} e) = by cs e
  where
    by : (cs : List ℕ) → is_sid cs ≡ true → optional [] sid_of (sid_slot cs) ≡ read cs
    by [] e = refl
    by (c ∷ cs) e = sid_tree e

condition_read : (rs : List Row) → ValidRows rs → optional [] condition_of (condition_slot rs) ≡ read rs
condition_read [] v = refl
condition_read (r ∷ rs) v = condition_tree v

pub statement_tree_lem : (s : Statement) → ValidStatement s → statement_of (statement_tree s) ≡ read s
unfolding statement_of statement_in statement_tree
statement_tree_lem s v =
    let e = string (effect_name s.effect) in
    let a = list_of action_tree s.actions in
    let r = list_of resource_tree s.resources in
    rw (
      all_known e a r s.sid s.rows,
      sid_slot_lem e a r s.sid s.rows,
      effect_slot e a r s.sid s.rows,
      action_slot e a r s.sid s.rows,
      resource_slot e a r s.sid s.rows,
      condition_slot_lem e a r s.sid s.rows,
      sid_read v.sid,
      effect_tree s.effect,
      list_tree action_of action_tree ValidAction action_tree_lem v.actions,
      list_tree resource_of resource_tree ValidResource resource_tree_lem v.resources,
      condition_read s.rows v.rows,
    )
