-- The pieces of a statement and of a policy, put one behind the other, are the bytes of its tree.
use mathlib.Core.Path.{◌≡◌, refl, sym, ap, ◌∙◌}
use mathlib.Core.List.{List, [], ◌∷◌, ◌++◌, map, append_assoc}
use Prim.Native.Nat.{ℕ}
use Rattle.text.specs.Json.{Members, named, string}
use Rattle.chars.specs.Written.{written_text}
use Rattle.text.specs.Printing.{quoted, printed, printed_members, printed_more}
use Rattle.syntax.specs.Policy.{Effect, Allow, Deny, text, Statement, Policy}
use Rattle.held.specs.Held.{effect_number}
use Rattle.syntax.specs.Words.{version_word, edition_word, statement_word, sid_word, effect_word, action_word, resource_word}
use Rattle.writing.specs.WrittenForm.{list_of, action_tree, resource_tree, effect_name, sid_member, condition_member}
use Rattle.writing.specs.WrittenForm.{statement_tree, tree_of, written_policy}
use Rattle.writing.specs.Bytes.{name, listed, list_bytes, condition_bytes, sid_bytes, effect_bytes, statement_bytes}
use Rattle.writing.proofs.Laws.Bytes.{elements_bytes, texts_bytes, action_bytes, resource_bytes}
use Rattle.writing.proofs.Laws.BytesRows.{condition_bytes_lem}

-- ---- a statement, from its end

module _ (s : Statement) where
  abbrev behind_action : Members
  behind_action = named resource_word (list_of resource_tree s.resources) (condition_member s.rows)

  abbrev behind_effect : Members
  behind_effect = named action_word (list_of action_tree s.actions) behind_action

  abbrev behind_sid : Members
  behind_sid = named effect_word (string (effect_name s.effect)) behind_effect

  resources_bytes :
      list_bytes 2 (map text s.resources) ++ (condition_bytes s.rows ++ (125 ∷ []))
      ≡ printed (list_of resource_tree s.resources) ++ printed_more (condition_member s.rows)
  resources_bytes =
      texts_bytes 2 resource_tree resource_bytes s.resources (condition_bytes s.rows ++ (125 ∷ []))
      ∙ ap (λ (l : List ℕ). printed (list_of resource_tree s.resources) ++ l) (condition_bytes_lem s.rows)

  abbrev resources_on : List ℕ
  resources_on =
      44 ∷ (name resource_word ++ (list_bytes 2 (map text s.resources) ++ (condition_bytes s.rows ++ (125 ∷ []))))

  resources_on_lem : resources_on ≡ printed_more behind_action
  unfolding printed
  resources_on_lem = ap (λ (l : List ℕ). 44 ∷ (quoted resource_word ++ (58 ∷ l))) resources_bytes

  abbrev actions_on : List ℕ
  actions_on = name action_word ++ (list_bytes 0 (map text s.actions) ++ resources_on)

  actions_on_lem : 44 ∷ actions_on ≡ printed_more behind_effect
  unfolding printed
  actions_on_lem =
      ap (λ (l : List ℕ). 44 ∷ (quoted action_word ++ (58 ∷ l)))
      (texts_bytes 0 action_tree action_bytes s.actions resources_on
      ∙ ap (λ (l : List ℕ). printed (list_of action_tree s.actions) ++ l) resources_on_lem)

effect_on :
    (e : Effect) (zs : List ℕ)
    → effect_bytes (effect_number e) ++ zs ≡ quoted effect_word ++ (58 ∷ (quoted (effect_name e) ++ (44 ∷ zs)))
unfolding effect_bytes
effect_on Allow zs = refl
effect_on Deny zs = refl

effects_on : (s : Statement) → effect_bytes (effect_number s.effect) ++ actions_on s ≡ printed_members (behind_sid s)
unfolding printed
effects_on s =
    effect_on s.effect (actions_on s)
    ∙ ap (λ (l : List ℕ). quoted effect_word ++ (58 ∷ (quoted (effect_name s.effect) ++ l))) (actions_on_lem s)

sid_on :
    (cs : List ℕ) (ms : Members) (zs : List ℕ) → zs ≡ printed_members ms → 44 ∷ zs ≡ printed_more ms
    → sid_bytes cs ++ zs ≡ printed_members (sid_member cs ms)
unfolding printed
sid_on [] ms zs e f = e
sid_on (c ∷ cs) ms zs e f =
    let w = quoted (written_text (c ∷ cs)) in
    ap (λ (l : List ℕ). quoted sid_word ++ (58 ∷ l))
    (append_assoc w (44 ∷ []) zs ∙ ap (λ (l : List ℕ). w ++ l) f)

pub statement_bytes_lem : (s : Statement) → printed (statement_tree s) ≡ statement_bytes s
unfolding printed statement_tree statement_bytes
statement_bytes_lem s =
    let zs = effect_bytes (effect_number s.effect) ++ actions_on s in
    ap (λ (l : List ℕ). 123 ∷ l)
    (sym (sid_on s.sid (behind_sid s) zs (effects_on s) (ap (λ (l : List ℕ). 44 ∷ l) (effects_on s))))

-- ---- the policy

pub policy_bytes_lem :
    (p : Policy)
    → 123 ∷ (name version_word ++ (quoted edition_word ++ (44 ∷ (name statement_word ++ (91 ∷ (listed statement_bytes 0 p
    ++ (93 ∷ 125 ∷ []))))))) ≡ written_policy p
unfolding printed tree_of written_policy
policy_bytes_lem p =
    ap (λ (l : List ℕ). 123 ∷ (name version_word ++ (quoted edition_word ++ (44 ∷ (name statement_word ++ l)))))
    (elements_bytes statement_tree statement_bytes statement_bytes_lem p (125 ∷ []))
