-- An object with other members than a policy's, or another Version: whatever its statements are, it is no policy.
--   framed-..   by the places of its members;  first-..   by its first member
use mathlib.Core.Path.{◌≡◌, refl, sym, ap, ◌∙◌}
use mathlib.Core.Bool.{Bool, false}
use mathlib.Core.List.{List}
use Prim.Native.Nat.{ℕ}
use native.Mathlib.Omega.{arith}
use lib.ListN.{get_or, replicate}
use Rattle.text.specs.Json.{Json, Members, object}
use Rattle.text.specs.Contents.{Stands, Standing, Leads, Leader}
use Rattle.text.specs.declared.walk.Member.{Member}
use Rattle.text.specs.declared.walk.Member.TheVariants as M
use Rattle.syntax.specs.Forms.{wrong}
use Rattle.syntax.specs.Words.{version_word, edition_word}
use Rattle.syntax.specs.Members.{only, is_word, slot, required}
use Rattle.syntax.specs.PolicyLayout.{policy_of}
use Rattle.chars.specs.Base.{part}
use Rattle.parts.specs.Slots.{words_of, which_of, Placed, Slotted}
use Rattle.parts.specs.declared.members.Layout.TheVariants as L
use Rattle.parts.proofs.Laws.Walking.{Walking, layout_few, walking_start, walking_whole}
use Rattle.parts.proofs.Laws.WalkingOn.{leader, walking_wrong}
use Rattle.policy.proofs.Laws.StatementsParts.{placed_absent, There, placed_there}
use Rattle.policy.proofs.Laws.StatementsRead.{right, turn_of_lem, required_none}
use Rattle.policy.proofs.Laws.StatementsPolicy.{version_of, no_version, not_members}

module _ {s places : List ℕ} {past : ℕ} (ms : Members) (w : Slotted s (words_of L.Policy) ms past places) where
  pub framed_not : get_or places 0 0 ≡ 0 → policy_of (object ms) ≡ wrong
  framed_not z = not_members ms (w.not_right z)

  module _ (z : get_or places 0 0 ≡ 0 → ⊥) where
    version_placed : Placed s (get_or places 1 0) (slot version_word ms)
    version_placed = (right L.Policy w z).placed 1 (turn_of_lem L.Policy 1 (omega arith) (omega arith))

    pub framed_none : get_or places 1 0 ≡ 0 → policy_of (object ms) ≡ wrong
    framed_none n = no_version ms (required_none version_of (placed_absent version_placed n))

    module _ (n : get_or places 1 0 ≡ 0 → ⊥) where
      there : There s (get_or places 1 0) (slot version_word ms)
      there = placed_there version_placed n

      pub framed_standing : Standing s (get_or places 1 0)
      framed_standing = record { what = there.what; stop = there.stop; is = there.stands }

      pub framed_other : (b : Bool) → ((t : Json) (e : ℕ) → Stands s t (get_or places 1 0) e → b ≡ is_word edition_word t)
          → b ≡ false → policy_of (object ms) ≡ wrong
      framed_other b h e =
          no_version ms
          (ap (required version_of) there.is
          ∙ ap (λ (c : Bool). only c there.what) (sym (h there.what there.stop there.stands) ∙ e))

-- the first member is a Version, and another
module _ {s : List ℕ} {v past : ℕ} {ms : Members} {m : Member} (p : Stands s (object ms) v past)
    (l : Leads s v ms past m) (n e x : ℕ) (q : m ≡ M.Named n e x) where
  abbrev w : Walking s v (words_of L.Policy) (replicate 6 0) m
  w = walking_start (words_of L.Policy) m p l

  abbrev pub first : Leader s w.low w.rest w.stop n e x
  first = leader w n e x q

  pub first_standing : Standing s x
  first_standing = record { what = first.head; stop = first.stop; is = first.stands }

  pub first_other : (k : ℕ) → k ≡ which_of (words_of L.Policy) (part s n e) → k ≡ 1 → (b : Bool)
      → ((t : Json) (i : ℕ) → Stands s t x i → b ≡ is_word edition_word t) → b ≡ false
      → policy_of (object ms) ≡ wrong
  first_other k z one b h f =
      let other = ap (λ (c : Bool). only c first.head) (sym (h first.head first.stop first.stands) ∙ f) in
      ap (λ (y : Members). policy_of (object y)) (sym (walking_whole w ms past p))
      ∙ no_version w.whole
      (walking_wrong w n e x q (layout_few L.Policy) 1 (sym one ∙ z) (λ i. omega (arith, i)) version_of refl other)
