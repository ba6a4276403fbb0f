-- A walk over a policy's members comes to one more.
--   partway_wrong   one that breaks the layout makes the policy wrong, whatever is to come
--   partway_more    else it is one more that came
use Rattle.std.specs.Prelude.{Option, Some, None}
use mathlib.Core.Path.{◌≡◌, sym, ap, ◌∙◌, subst}
use mathlib.Core.Bool.{Bool}
use mathlib.Core.List.{List}
use Prim.Native.Nat.{ℕ, zero, suc, ◌<◌}
use native.Mathlib.Omega.{arith}
use lib.ListN.{length, get_or, set}
use lib.Seq.{get_or-set_same, get_or-set_other}
use Rattle.chars.specs.Base.{part}
use Rattle.text.specs.Json.{Json, object, Members}
use Rattle.text.specs.Contents.{Stands, Leads, Leader}
use Rattle.text.specs.declared.walk.Member.{Member}
use Rattle.text.specs.declared.walk.Member.TheVariants as M
use Rattle.text.proofs.Laws.Contents.{stands_unique}
use Rattle.syntax.specs.Policy.{Policy}
use Rattle.syntax.specs.Forms.{Reading, wrong}
use Rattle.syntax.specs.Words.{edition_word}
use Rattle.syntax.specs.Members.{only, is_word}
use Rattle.syntax.specs.PolicyLayout.{policy_of}
use Rattle.held.specs.Held.{held}
use Rattle.parts.specs.Slots.{which_of}
use Rattle.parts.specs.Room.{Holdable}
use Rattle.parts.specs.Holding.{Laid, Left}
use Rattle.parts.specs.declared.members.Layout.TheVariants as L
use Rattle.policy.specs.declared.statements.Partly.{Partly}
use Rattle.parts.proofs.Laws.Slots.{which_most}
use Rattle.parts.proofs.Laws.Walking.{Walking, layout_distinct, layout_few}
use Rattle.parts.proofs.Laws.WalkingOn.{leader, rest_cost, walking_unknown, walking_repeated, walking_wrong}
use Rattle.parts.proofs.Laws.WalkingOn.{walking_more}
use Rattle.policy.specs.Statements.{statements_of, Takes, a_version, a_statement, Breaks, unknown, version_again}
use Rattle.policy.specs.Statements.{version_wrong, statement_again, statement_wrong, Adds}
use Rattle.policy.proofs.Laws.StatementsPolicy.{version_of, no_version, no_statements, not_members}
use Rattle.policy.proofs.Laws.Partway.{words, Versioned, Stated, Partway}

-- ---- what the answer tells

pub adds_so :
    (k v : ℕ) (t : Json) (e : ℕ) (run run' : List ℕ) (version past : ℕ) {r : Option Partly} {y : Partly}
    → Adds k v t e run run' version past r → r ≡ Some y
    → (Takes k v t run run' version past y.version y.past) × (y.end ≡ e)
adds_so k v t e run run' version past f z = subst (Adds k v t e run run' version past) z f

pub adds_wrong :
    (k v : ℕ) (t : Json) (e : ℕ) (run run' : List ℕ) (version past : ℕ) {r : Option Partly}
    → Adds k v t e run run' version past r → r ≡ None
    → (length run' ≡ length run) × (Breaks k t version past)
adds_wrong k v t e run run' version past f z = subst (Adds k v t e run run' version past) z f

pub adds_none :
    (k v : ℕ) (t : Json) (e : ℕ) (run run' : List ℕ) (version past : ℕ) {r : Option Partly}
    → r ≡ None → (length run' ≡ length run) × (Breaks k t version past)
    → Adds k v t e run run' version past r
adds_none k v t e run run' version past z f = subst (Adds k v t e run run' version past) (sym z) f

-- a number that is not 0
pub positive : {k : ℕ} → (k ≡ 0 → ⊥) → 0 < k
positive {k = zero} z = absurd (z (omega arith))
positive {k = suc k} z = omega arith

-- ---- what was held

-- what is held has a number at least
held_some : {run run' : List ℕ} {x : Reading Policy} {p : ℕ} → Laid held run run' 0 x p → p ≡ 0 → ⊥
unfolding held
held_some d e = omega (arith, e, d.extends.place)

-- what is held from the beginning on, in a run of the same length
held_from_lem : {run₀ run run' : List ℕ} {x : Reading Policy} {p : ℕ} → length run ≡ length run₀
    → Laid held run run' 0 x p → Laid held run₀ run' 0 x p
held_from_lem e d =
    record {
      thing = d.thing;
      said = d.said;
      extends = record { size = d.extends.size ∙ e; place = d.extends.place; is = d.extends.is };
    }

-- ---- a member

module _ {s : List ℕ} {v : ℕ} {run₀ run : List ℕ} {version past : ℕ} {m : Member}
    (g : Partway s v run₀ run version past m) (n e x : ℕ) (q : m ≡ M.Named n e x) where
  abbrev w : Walking s v words g.places m
  w = g.walking

  abbrev whole : Members
  whole = w.whole

  abbrev pub member : Leader s w.low w.rest w.stop n e x
  member = leader w n e x q

  pub member_holdable : Holdable s x run 0 1
  member_holdable =
      record {
        what = member.head;
        stop = member.stop;
        is = member.stands;
        roomy = record {
          room = omega (
            arith,
            g.room whole w.stop w.object_is,
            w.within,
            rest_cost w n e x q,
            g.size,
          );
          bounded = omega (arith, g.bounded, g.size);
        };
      }

  module _ (k : ℕ) (z : k ≡ which_of words (part s n e)) where
    -- the turn that is neither 0 nor 1
    second : (k ≡ 0 → ⊥) → (k ≡ 1 → ⊥) → 2 ≡ which_of words (part s n e)
    second a b = omega (arith, a, b, z, which_most words (part s n e))

    broken : Breaks k member.head version past → policy_of (object whole) ≡ wrong
    broken (unknown a) = not_members whole ((walking_unknown w n e x q (sym a ∙ z)).not_right w.flag)
    broken (version_again a b) =
        not_members whole ((walking_repeated w n e x q (layout_few L.Policy) 1 (sym a ∙ z) (λ i. omega (arith, i))
        (λ i. b (sym g.version_is ∙ i))).not_right w.flag)
    broken (version_wrong a b c) =
        no_version whole (walking_wrong w n e x q (layout_few L.Policy) 1 (sym a ∙ z) (λ i. omega (arith, i)) version_of
        (g.version_is ∙ b) (ap (λ (t : Bool). only t member.head) c))
    broken (statement_again a b c) =
        not_members whole ((walking_repeated w n e x q (layout_few L.Policy) 2 (second a b) (λ i. omega (arith, i))
        (g.stated.seen c)).not_right w.flag)
    broken (statement_wrong a b c d) =
        no_statements whole (walking_wrong w n e x q (layout_few L.Policy) 2 (second a b) (λ i. omega (arith, i))
        statements_of (g.stated.unseen c) d)

    pub partway_wrong : {run' : List ℕ} → length run' ≡ length run → Breaks k member.head version past
        → Left run₀ run' (policy_of (object whole))
    partway_wrong i b = record { size = i ∙ g.size; said = broken b }

    -- whatever stands at the member's place is its value
    here : (t : Json) (i : ℕ) → Stands s t x i → member.head ≡ t
    here t i p = stands_unique member.stands p

    module _ {run' : List ℕ} {version' past' : ℕ} (m' : Member)
        (l : Leads s member.stop member.tail w.stop m') where
      pub partway_more : Takes k x member.head run run' version past version' past'
          → Partway s v run₀ run' version' past' m'
      partway_more (a_version a b c f h r) =
          let places' = set g.places 1 x in
          let place = get_or-set_other g.places 1 2 x 0 (λ i. absurd (omega (arith, i))) in
          record {
            places = places';
            walking = walking_more w n e x q (layout_few L.Policy) 1 (sym a ∙ z) (λ i. omega (arith, i))
                (g.version_is ∙ b) (layout_distinct L.Policy) m' l;
            version_is = get_or-set_same g.places 1 x 0 (omega (arith, w.size)) ∙ sym f;
            versioned = λ j t i p. ap (is_word edition_word)
                (sym (here t i (subst (λ (y : ℕ). Stands s t y i) f p))) ∙ c;
            stated = subst (λ (y : List ℕ). Stated s run₀ y (get_or places' 2 0) past') (sym r)
                (subst (λ (y : ℕ). Stated s run₀ run (get_or places' 2 0) y) (sym h)
                (subst (λ (y : ℕ). Stated s run₀ run y past) (sym place) g.stated));
            size = ap length r ∙ g.size;
            room = g.room;
            bounded = g.bounded;
          }
      partway_more (a_statement a b c f d) =
          let places' = set g.places 2 x in
          let same = get_or-set_same g.places 2 x 0 (omega (arith, w.size)) in
          record {
            places = places';
            walking = walking_more w n e x q (layout_few L.Policy) 2 (second a b) (λ i. omega (arith, i))
                (g.stated.unseen c) (layout_distinct L.Policy) m' l;
            version_is = get_or-set_other g.places 2 1 x 0 (λ i. absurd (omega (arith, i))) ∙ g.version_is ∙ sym f;
            versioned = subst (Versioned s) (sym f) g.versioned;
            stated = record {
              unseen = λ i. absurd (held_some d i);
              seen = λ j i. omega (arith, same, i, member.later);
              laid = λ j t i p. subst (λ (y : Json). Laid held run₀ run' 0 (statements_of y) past')
                  (here t i (subst (λ (y : ℕ). Stands s t y i) same p)) (held_from_lem g.size d);
            };
            size = d.extends.size ∙ g.size;
            room = g.room;
            bounded = g.bounded;
          }
