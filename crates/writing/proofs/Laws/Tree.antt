-- A valid policy's written form reads back as the policy, as a tree and as a text.
--   tree_policy       from the tree
--   written_whole     the bytes are a whole JSON text
--   written_policy_lem    and say the policy
--   written_unique    so no two policies have one written form
use mathlib.Core.Path.{◌≡◌, refl, sym, ap, ◌∙◌}
use mathlib.Core.Bool.{true}
use mathlib.Core.List.{List, [], ◌∷◌}
use Prim.Native.Nat.{ℕ}
use native.Mathlib.Omega.{arith}
use Rattle.text.specs.Json.{Json, string, Members, no_members, named}
use Rattle.chars.specs.Decoding.{read_of, sequence_of, units_behind, meaning, text_of, equal, same_text}
use Rattle.text.specs.Machine.{verdict}
use Rattle.std.specs.Prelude.{Ok}
use Rattle.text.proofs.Laws.Contents.{contents}
use Rattle.text.proofs.Laws.Printing.{printed_whole, printed_contents}
use Rattle.syntax.specs.Policy.{Policy}
use Rattle.syntax.specs.Forms.{read}
use Rattle.syntax.specs.Words.{version_word, statement_word, edition_word}
use Rattle.syntax.specs.Members.{is_word, one, slot, is_among, known}
use Rattle.syntax.specs.PolicyLayout.{statement_of, policy_in, policy_of}
use Rattle.writing.specs.WrittenForm.{list_of, statement_tree, tree_of, written_policy}
use Rattle.writing.specs.Valid.{ValidStatement, Valid}
use Rattle.writing.proofs.Laws.TreeEntries.{list_tree}
use Rattle.writing.proofs.Laws.TreeStatement.{statement_tree_lem}
use Rattle.writing.proofs.Laws.TreeSound.{tree_sound, tree_depth}

module _ (v t : Json) where
  abbrev laid : Members
  laid = named version_word v (named statement_word t no_members)

  all_known : known (version_word ∷ statement_word ∷ []) laid ≡ true
  unfolding known is_among same_text text_of meaning units_behind read_of sequence_of equal
  all_known = refl

  version_slot : slot version_word laid ≡ one v
  unfolding slot same_text text_of meaning units_behind read_of sequence_of equal
  version_slot = refl

  statement_slot : slot statement_word laid ≡ one t
  unfolding slot same_text text_of meaning units_behind read_of sequence_of equal
  statement_slot = refl

edition : is_word edition_word (string edition_word) ≡ true
unfolding is_word same_text text_of meaning units_behind read_of sequence_of equal
edition = refl

pub tree_policy : (p : Policy) → Valid p → policy_of (tree_of p) ≡ read p
unfolding policy_of policy_in tree_of
tree_policy p v =
    let w = string edition_word in
    let t = list_of statement_tree p in
    rw (
      all_known w t,
      version_slot w t,
      statement_slot w t,
      edition,
      list_tree statement_of statement_tree ValidStatement statement_tree_lem v.statements,
      v.sids,
    )

-- ---- as bytes

module _ (p : Policy) (v : Valid p) where
  pub written_whole : verdict (written_policy p) ≡ Ok tt
  unfolding written_policy
  written_whole = printed_whole (tree_sound p v) (omega (arith, tree_depth p))

  pub written_policy_lem : policy_of (contents (written_policy p)) ≡ read p
  unfolding written_policy
  written_policy_lem =
      ap policy_of (printed_contents (tree_sound p v) (omega (arith, tree_depth p))) ∙ tree_policy p v

pub written_unique : (p q : Policy) → Valid p → Valid q → written_policy p ≡ written_policy q → p ≡ q
written_unique p q v w e =
    let k : read p ≡ read q =
    sym (written_policy_lem p v) ∙ ap (λ (s : List ℕ). policy_of (contents s)) e ∙ written_policy_lem q w in
    cc
