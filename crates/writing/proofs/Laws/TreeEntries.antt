-- Entries of the written form: each reads back as the entry, and a list of them as the list.
--   list_tree                                         a list, of what is read by f and written by g
--   action_tree_lem, resource_tree_lem, value_tree_lem, sid_tree  one entry, and a Sid
use mathlib.Core.Path.{◌≡◌, refl, sym, ap, ◌∙◌}
use mathlib.Core.Bool.{true, false}
use mathlib.Core.List.{List, map}
use Prim.Native.Nat.{ℕ}
use Rattle.text.specs.Json.{Json}
use Rattle.chars.specs.Written.{Scalars}
use Rattle.syntax.specs.Policy.{Operator, Value}
use Rattle.syntax.specs.Forms.{Reading, read, is_action, wildcard, is_sid}
use Rattle.syntax.specs.Members.{cons, each, some, one_or_more}
use Rattle.syntax.specs.PolicyLayout.{action_of, resource_of, number_of_json, value_of, sid_of}
use Rattle.writing.specs.WrittenForm.{bare, string_of, values_of, list_of, action_tree, resource_tree, value_tree}
use Rattle.writing.specs.Valid.{Each, none, more, Some, first, ValidAction, ValidResource, ValidValue, equals}
use Rattle.writing.specs.Valid.{like, at_most}
use Rattle.writing.proofs.Laws.TreeSpelling.{characters_written, bare_wildcard, spelled_wild, spelled_plain}
use Rattle.writing.proofs.Laws.TreeSpelling.{spelled_scalars, scalar_symbols}
use Rattle.writing.proofs.Laws.TreeDigits.{digits_round, digits_scalars}
use Rattle.writing.proofs.Laws.TreeForms.{action_scalars, sid_scalars}

-- ---- lists

module _ {A : Type 0} (f : Json → Reading A) (g : A → Json) (P : A → Type 0)
    (h : (x : A) → P x → f (g x) ≡ read x) where
  each_tree : {xs : List A} → Each A P xs → each f (values_of g xs) ≡ read xs
  unfolding each values_of
  each_tree none = refl
  each_tree (more {x} {xs} p ps) =
      ap (λ (r : Reading A). cons r (each f (values_of g xs))) (h x p) ∙ ap (cons (read x)) (each_tree ps)

  pub list_tree : {xs : List A} → Some A P xs → one_or_more f (list_of g xs) ≡ read xs
  unfolding one_or_more some values_of
  list_tree (first p ps) = each_tree (more p ps)

-- ---- entries

-- what a string of these characters is read as
action_said : {cs : List ℕ} → Scalars cs → is_action cs ≡ true → action_of (string_of cs) ≡ read (map wildcard cs)
unfolding action_of
action_said s e = rw (characters_written s, e)

pub action_tree_lem : (ys : List ℕ) → ValidAction ys → action_of (action_tree ys) ≡ read ys
unfolding action_tree
action_tree_lem ys v =
    let s = action_scalars v.chars v.right in
    ap (λ (cs : List ℕ). action_of (string_of cs)) (ap (map bare) v.is ∙ bare_wildcard s)
    ∙ action_said s v.right ∙ ap read (sym v.is)

pub resource_tree_lem : (ys : List ℕ) → ValidResource ys → resource_of (resource_tree ys) ≡ read ys
unfolding resource_of resource_tree
resource_tree_lem ys v =
    rw (characters_written (spelled_scalars true v.symbols), spelled_wild ys, v.right)

pub value_tree_lem : (o : Operator) (v : Value) → ValidValue o v → value_of o (value_tree o v) ≡ read v
unfolding value_of value_tree number_of_json
value_tree_lem o v (equals s) = rw (characters_written (spelled_scalars false (scalar_symbols s)), spelled_plain s)
value_tree_lem o v (like {ys} s) = rw (characters_written (spelled_scalars true s), spelled_wild ys)
value_tree_lem o v (at_most {n} h) = rw (characters_written (digits_scalars n), digits_round n h)

pub sid_tree : {cs : List ℕ} → is_sid cs ≡ true → sid_of (string_of cs) ≡ read cs
unfolding sid_of
sid_tree {cs} e = rw (characters_written (sid_scalars cs e), e)
