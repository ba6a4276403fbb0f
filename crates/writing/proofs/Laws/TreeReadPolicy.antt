-- What is read of a sound tree is valid: statements and policies.
--   policy_valid   the policy that a sound tree says
--   read_valid     the policy that a whole text says
--   read_again     which its written form says too
use mathlib.Core.Path.{◌≡◌, refl, subst}
use mathlib.Core.Bool.{Bool, true, false}
use mathlib.Core.List.{List, [], ◌∷◌}
use Prim.Native.Nat.{ℕ}
use Rattle.chars.specs.Base.{pick}
use Rattle.text.specs.Json.{Json, Members}
use Rattle.chars.specs.Decoding.{text_of, same_text}
use Rattle.text.specs.Printing.{Sound, sound_null, sound_bool, sound_number, sound_string, sound_list, sound_object}
use Rattle.text.specs.Printing.{SoundMembers, sound_no_members, sound_named}
use Rattle.text.specs.Machine.{verdict}
use Rattle.std.specs.Prelude.{Ok}
use Rattle.text.proofs.Laws.Contents.{contents, contents_says}
use Rattle.text.proofs.Laws.Printing.{says_sound}
use Rattle.syntax.specs.Policy.{Statement, Policy}
use Rattle.syntax.specs.Forms.{Reading, read}
use Rattle.syntax.specs.Words.{version_word, statement_word, edition_word, sid_word, effect_word, action_word}
use Rattle.syntax.specs.Words.{resource_word, condition_word}
use Rattle.syntax.specs.Members.{then, only, is_word, Slot, none, many, one, again, slot, known, required}
use Rattle.syntax.specs.Members.{optional, one_or_more, differ, differing}
use Rattle.syntax.specs.PolicyLayout.{action_of, resource_of, condition_of, effect_of, sid_of, statement_in}
use Rattle.syntax.specs.PolicyLayout.{statement_of, same_sid, policy_in, policy_of}
use Rattle.writing.specs.WrittenForm.{grouped, written_policy}
use Rattle.writing.specs.Valid.{Some, ValidAction, ValidResource, ValidRows, ValidSid, ValidStatement, Valid}
use Rattle.writing.specs.Valid as L
use Rattle.parts.proofs.Laws.Fits.{wrong_read, then_inv, only_inv, pick_inv}
use Rattle.parts.proofs.Laws.ReadParts.{parts_inv}
use Rattle.writing.proofs.Laws.TreeRead.{only_test, sid_valid, action_valid, resource_valid, several_valid}
use Rattle.writing.proofs.Laws.TreeReadRows.{condition_valid}
use Rattle.writing.proofs.Laws.Tree.{written_policy_lem}

-- ---- members by their words

abbrev SoundSlot : Slot → Type 0
SoundSlot none = Unit {0}
SoundSlot many = Unit {0}
SoundSlot (one t) = Sound t

again_sound : {t : Json} (x : Slot) → Sound t → SoundSlot (again t x)
again_sound none s = s
again_sound many s = tt
again_sound (one u) s = tt

slot_sound : (n : List ℕ) {ms : Members} → SoundMembers ms → SoundSlot (slot n ms)
unfolding slot
slot_sound n sound_no_members = tt
slot_sound n (sound_named {w} {us} {t} {ms} b s ss) = by (same_text (text_of w) n) (slot_sound n ss)
  where
    by : (b : Bool) → SoundSlot (slot n ms) → SoundSlot (pick b (again t (slot n ms)) (slot n ms))
    by true r = again_sound (slot n ms) s
    by false r = r

module _ {A : Type 0} (P : A → Type 0) (f : Json → Reading A)
    (valid : (t : Json) → Sound t → (x : A) → f t ≡ read x → P x) where
  required_valid : (s : Slot) → SoundSlot s → (x : A) → required f s ≡ read x → P x
  required_valid none k x e = wrong_read e
  required_valid many k x e = wrong_read e
  required_valid (one t) k x e = valid t k x e

  optional_valid : (d : A) → P d → (s : Slot) → SoundSlot s → (x : A) → optional d f s ≡ read x → P x
  optional_valid d p none k x e = let y : d ≡ x = cc in subst P y p
  optional_valid d p many k x e = wrong_read e
  optional_valid d p (one t) k x e = valid t k x e

-- ---- statements

no_rows : ValidRows []
unfolding grouped differ
no_rows = record { each = L.none; keys = L.none; operators = refl }

statement_in_lem : {ms : Members} → SoundMembers ms → (x : Statement) → statement_in ms ≡ read x → ValidStatement x
unfolding statement_in
statement_in_lem {ms} s x e =
    let p = parts_inv (optional [] sid_of (slot sid_word ms)) (required effect_of (slot effect_word ms))
    (required (one_or_more action_of) (slot action_word ms)) (required (one_or_more resource_of) (slot resource_word ms))
    (optional [] condition_of (slot condition_word ms)) e in
    record {
      sid = optional_valid ValidSid sid_of (λ t k cs h. L.sid (sid_valid t cs h)) [] L.absent (slot sid_word ms)
          (slot_sound sid_word s) x.sid p.sid_is;
      actions = required_valid (Some (List ℕ) ValidAction) (one_or_more action_of)
          (λ t k xs h. several_valid ValidAction action_of action_valid k xs h) (slot action_word ms)
          (slot_sound action_word s) x.actions p.actions_are;
      resources = required_valid (Some (List ℕ) ValidResource) (one_or_more resource_of)
          (λ t k xs h. several_valid ValidResource resource_of resource_valid k xs h) (slot resource_word ms)
          (slot_sound resource_word s) x.resources p.resources_are;
      rows = optional_valid ValidRows condition_of condition_valid [] no_rows (slot condition_word ms)
          (slot_sound condition_word s) x.rows p.rows_are;
    }

statement_valid : (t : Json) → Sound t → (x : Statement) → statement_of t ≡ read x → ValidStatement x
unfolding statement_of
statement_valid t sound_null x e = wrong_read e
statement_valid t sound_bool x e = wrong_read e
statement_valid t (sound_number n) x e = wrong_read e
statement_valid t (sound_string b) x e = wrong_read e
statement_valid t (sound_list ts) x e = wrong_read e
statement_valid t (sound_object {ms} s) x e =
    let known_words = known (sid_word ∷ effect_word ∷ action_word ∷ resource_word ∷ condition_word ∷ []) ms in
    statement_in_lem s x (pick_inv known_words e)

-- ---- policies

policy_in_lem : {ms : Members} → SoundMembers ms → (p : Policy) → policy_in ms ≡ read p → Valid p
unfolding policy_in
policy_in_lem {ms} s p e =
    let v = then_inv (required (λ t. only (is_word edition_word t) t) (slot version_word ms))
    (λ v. then (required (one_or_more statement_of) (slot statement_word ms)) (λ p. differing same_sid p)) e in
    let q = then_inv (required (one_or_more statement_of) (slot statement_word ms)) (λ p. differing same_sid p) v.next in
    subst Valid (only_inv (differ same_sid q.thing) q.next)
    (record {
      statements = required_valid (Some Statement ValidStatement) (one_or_more statement_of)
          (λ t k xs h. several_valid ValidStatement statement_of statement_valid k xs h) (slot statement_word ms)
          (slot_sound statement_word s) q.thing q.said;
      sids = only_test (differ same_sid q.thing) q.thing q.next;
    })

pub policy_valid : (t : Json) → Sound t → (p : Policy) → policy_of t ≡ read p → Valid p
unfolding policy_of
policy_valid t sound_null p e = wrong_read e
policy_valid t sound_bool p e = wrong_read e
policy_valid t (sound_number n) p e = wrong_read e
policy_valid t (sound_string b) p e = wrong_read e
policy_valid t (sound_list ts) p e = wrong_read e
policy_valid t (sound_object {ms} s) p e =
    policy_in_lem s p (pick_inv (known (version_word ∷ statement_word ∷ []) ms) e)

module _ (s : List ℕ) (p : Policy) (w : verdict s ≡ Ok tt) (e : policy_of (contents s) ≡ read p) where
  pub read_valid : Valid p
  read_valid = policy_valid (contents s) (says_sound (contents_says s w)) p e

  pub read_again : policy_of (contents (written_policy p)) ≡ read p
  read_again = written_policy_lem p read_valid
