-- A walk over a policy's members as far as it has come: the Version that came is the edition, what was held of the
-- Statement that came lies in the run, and with the members still to come it is what the whole object says.
--   partway_end   behind the last member the policy is held
use mathlib.Core.Path.{◌≡◌, refl, sym, ap, ◌∙◌, subst}
use mathlib.Core.Bool.{true}
use mathlib.Core.List.{List}
use Prim.Native.Nat.{ℕ, ◌+◌, ◌≤◌}
use native.Mathlib.Omega.{arith}
use lib.ListN.{length, get_or}
use Rattle.text.specs.Json.{Json, object, Members}
use Rattle.text.specs.Contents.{Stands, Leads}
use Rattle.text.specs.declared.walk.Member.{Member}
use Rattle.text.specs.declared.walk.Member.TheVariants as M
use Rattle.syntax.specs.Words.{version_word, statement_word, edition_word}
use Rattle.syntax.specs.Members.{is_word, slot}
use Rattle.syntax.specs.PolicyLayout.{policy_of}
use Rattle.held.specs.Held.{held}
use Rattle.parts.specs.Slots.{words_of, Placed, Turn}
use Rattle.parts.specs.Room.{costm, HoldableObject}
use Rattle.parts.specs.Holding.{Laid, Left}
use Rattle.parts.specs.declared.members.Layout.TheVariants as L
use Rattle.parts.proofs.Laws.Walking.{Walking, walking_start, walking_whole, walking_known, walking_placed}
use Rattle.policy.specs.Statements.{statements_of}
use Rattle.policy.proofs.Laws.StatementsParts.{placed_absent, placed_there}
use Rattle.policy.proofs.Laws.StatementsRead.{required_none}
use Rattle.policy.proofs.Laws.StatementsPolicy.{version_of, no_version, no_statements, policy_is}

abbrev pub words : List (List ℕ)
words = words_of L.Policy

-- a Version at a place other than 0 is the edition
abbrev pub Versioned : List ℕ → ℕ → Type 0
Versioned s version =
    (version ≡ 0 → ⊥) → (t : Json) (e : ℕ) → Stands s t version e → is_word edition_word t ≡ true

-- the Statement at a place other than 0 is held up to past, which else is 0
pub record Stated (s run₀ run : List ℕ) (place past : ℕ) : Type 0 where
  pub unseen : past ≡ 0 → place ≡ 0
  pub seen : (past ≡ 0 → ⊥) → place ≡ 0 → ⊥
  pub laid : (past ≡ 0 → ⊥) → (t : Json) (e : ℕ) → Stands s t place e → Laid held run₀ run 0 (statements_of t) past

pub record Partway (s : List ℕ) (v : ℕ) (run₀ run : List ℕ) (version past : ℕ) (m : Member) : Type 0 where
  pub places : List ℕ
  pub walking : Walking s v words places m
  pub version_is : get_or places 1 0 ≡ version
  pub versioned : Versioned s version
  pub stated : Stated s run₀ run (get_or places 2 0) past
  pub size : length run ≡ length run₀
  pub room : (ms : Members) (e : ℕ) → Stands s (object ms) v e → 1 + costm ms ≤ length run₀
  pub bounded : length run₀ ≤ 16384

pub partway_start : {s : List ℕ} {v : ℕ} {run : List ℕ} (p : HoldableObject s v run 1) (m : Member)
    → Leads s v p.what p.stop m → Partway s v run run 0 0 m
partway_start {s} {v} {run} p m l =
    record {
      places = _;
      walking = walking_start words m p.is l;
      version_is = refl;
      versioned = λ n. absurd (n refl);
      stated = record { unseen = λ e. refl; seen = λ n. absurd (n refl); laid = λ n. absurd (n refl) };
      size = refl;
      room = λ ms e q. let z = walking_whole (walking_start words m p.is l) in
          omega (arith, p.roomy.room, ap costm (sym (z p.what p.stop p.is) ∙ z ms e q));
      bounded = p.roomy.bounded;
    }

first_turn : Turn words 1
first_turn = record { from = omega arith; to = omega arith }

second_turn : Turn words 2
second_turn = record { from = omega arith; to = omega arith }

module _ {s : List ℕ} {v : ℕ} {run₀ run : List ℕ} {version past : ℕ} {m : Member}
    (g : Partway s v run₀ run version past m) where
  abbrev w : Walking s v words g.places m
  w = g.walking

  abbrev whole : Members
  whole = w.whole

  -- of whatever object stands there
  pub left_told : {run' : List ℕ} → Left run₀ run' (policy_of (object whole)) → (ms : Members) (e : ℕ)
      → Stands s (object ms) v e → Left run₀ run' (policy_of (object ms))
  left_told {run'} l ms e q = subst (λ (x : Members). Left run₀ run' (policy_of (object x))) (walking_whole w ms e q) l

  pub laid_told : {p : ℕ} → Laid held run₀ run 0 (policy_of (object whole)) p → (ms : Members) (e : ℕ)
      → Stands s (object ms) v e → Laid held run₀ run 0 (policy_of (object ms)) p
  laid_told {p} d ms e q =
      subst (λ (x : Members). Laid held run₀ run 0 (policy_of (object x)) p) (walking_whole w ms e q) d

  -- ---- the end

  module _ (q : ℕ) (e : m ≡ M.Past q) where
    version_placed : Placed s (get_or g.places 1 0) (slot version_word whole)
    version_placed = walking_placed w q e 1 first_turn

    statement_placed : Placed s (get_or g.places 2 0) (slot statement_word whole)
    statement_placed = walking_placed w q e 2 second_turn

    pub version_missing : version ≡ 0 → Left run₀ run (policy_of (object whole))
    version_missing z =
        record {
          size = g.size;
          said = no_version whole (required_none version_of (placed_absent version_placed (g.version_is ∙ z)));
        }

    pub statement_missing : past ≡ 0 → Left run₀ run (policy_of (object whole))
    statement_missing z =
        record {
          size = g.size;
          said = no_statements whole (required_none statements_of (placed_absent statement_placed
              (g.stated.unseen z)));
        }

    pub partway_end : (version ≡ 0 → ⊥) → (past ≡ 0 → ⊥) → Laid held run₀ run 0 (policy_of (object whole)) past
    partway_end nv np =
        let a = placed_there version_placed (λ z. nv (sym g.version_is ∙ z)) in
        let b = placed_there statement_placed (g.stated.seen np) in
        let at : Stands s a.what version a.stop =
        subst (λ (i : ℕ). Stands s a.what i a.stop) g.version_is a.stands in
        let d = g.stated.laid np b.what b.stop b.stands in
        record {
          thing = d.thing;
          said = policy_is whole (walking_known w q e) a.is (g.versioned nv a.what a.stop at) b.is
              ∙ d.said;
          extends = d.extends;
        }
