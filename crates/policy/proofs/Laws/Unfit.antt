-- A member that no statement has, found by the answer that its value gets under the word of its turn.
--   said_wrong ..    an answer that nothing was held, or that a word is no effect, tells that the reading is wrong
--   value_holdable   the value of a member has room in a run as long as the text
--   member_bad       what is told of the members that stand at a place is told of all that the grammar reads there
use Rattle.std.specs.Prelude.{Option, Some, None}
use mathlib.Core.Path.{◌≡◌, refl, sym, ap, ◌∙◌, subst}
use Rattle.std.specs.Option.{is_some}
use mathlib.Core.Bool.{Bool, true, false, not}
use mathlib.Core.List.{List}
use Prim.Native.Nat.{ℕ, ◌≤◌, ◌<◌}
use native.Mathlib.Omega.{arith}
use lib.ListN.{length}
use Rattle.chars.specs.Base.{part}
use Rattle.text.specs.Json.{Json, Members, more, Reads, close_object, comma_object}
use Rattle.text.specs.Contents.{Entering, Leader, Leads}
use Rattle.text.specs.declared.walk.Member.{Member}
use Rattle.text.specs.declared.walk.Member.TheVariants as M
use Rattle.text.proofs.Laws.Spaces.{space_low}
use Rattle.text.proofs.Laws.Once.{once}
use Rattle.syntax.specs.Limits.{run_numbers}
use Rattle.syntax.specs.Forms.{Reading, wrong}
use Rattle.syntax.specs.Members.{one_or_more}
use Rattle.syntax.specs.PolicyLayout.{as_text, effect_of}
use Rattle.held.specs.Held.{held_list, held_value}
use Rattle.parts.specs.Room.{Holdable}
use Rattle.parts.specs.Holding.{HoldsTo}
use Rattle.parts.specs.Spoken.{told_effect}
use Rattle.parts.specs.Unfit.{turn_of, UnfitAs, UnfitFirst, Bad}
use Rattle.parts.specs.declared.holding.Ended.{Ended}
use Rattle.parts.specs.declared.words.Effect.{Effect}
use Rattle.parts.proofs.Laws.Holding.{never}
use Rattle.parts.proofs.Laws.Room.{cost_within, roomy_less}
use Rattle.policy.proofs.Laws.StatementsParts.{texts_left}

-- ---- what an answer tells

pub not_some : {b r : Bool} → b ≡ not r → r ≡ true → b ≡ false
not_some e z = e ∙ ap not z

pub said_wrong : {A : Type 0} (h : A → List ℕ) (run run' : List ℕ) (at : ℕ) (x : Reading A) (e : ℕ) (r : Option Ended)
    → HoldsTo h run run' at x e r → is_some r ≡ false → x ≡ wrong
said_wrong h run run' at x e (Some y) g z = never (sym z)
said_wrong h run run' at x e None g z = g.said

-- Action and Resource entries are texts
pub entries_wrong :
    (g : Json → Reading (List ℕ)) (run run' : List ℕ) (at : ℕ) (t : Json) (e : ℕ) (r : Option Ended)
    → HoldsTo (held_list held_value) run run' at (one_or_more (λ t. as_text (g t)) t) e r → is_some r ≡ false
    → one_or_more g t ≡ wrong
entries_wrong g run run' at t e (Some y) p z = never (sym z)
entries_wrong g run run' at t e None p z = (texts_left g t p).said

-- a word that is neither effect
pub effect_wrong : (e : Option Effect) (t : Json) → told_effect e ≡ effect_of t → is_some e ≡ false → effect_of t ≡ wrong
effect_wrong (Some e) t p z = never (sym z)
effect_wrong None t p z = sym p

-- ---- room

-- with one number more to spare
pub less_holdable : {s : List ℕ} {v : ℕ} {run : List ℕ} → Holdable s v run 0 1 → Holdable s v run 0 0
less_holdable h =
    record {
      what = h.what;
      stop = h.stop;
      is = h.is;
      roomy = roomy_less h.roomy refl (omega arith);
    }

-- ---- the member that stands at a place

-- behind a member something comes
more_inside : {s : List ℕ} {ms : Members} {i e : ℕ} → Reads s (more ms) i e → i < length s
more_inside (close_object w o) = omega (arith, space_low w, o.inside)
more_inside (comma_object w o x r) = omega (arith, space_low w, o.inside)

module _ {s : List ℕ} {i n m v : ℕ} (p : Entering s i) (r : Member)
    (q : Leads s i p.what p.stop r) (z : r ≡ M.Named n m v) where
  pub leader : Leader s i p.what p.stop n m v
  leader = subst (Leads s i p.what p.stop) z q

  pub value_holdable : {run : List ℕ} → length s ≤ length run → length run ≤ run_numbers → Holdable s v run 0 1
  value_holdable long few =
      let l = leader in
      record {
        what = l.head;
        stop = l.stop;
        is = l.stands;
        roomy = record {
          room = omega (arith, cost_within l.stands, l.later, more_inside l.follows.reads);
          bounded = few;
        };
      }

  pub member_bad : UnfitAs (turn_of (part s n m)) leader.head → Bad s i
  member_bad u =
      record { bad = λ ms e d. subst UnfitFirst (sym leader.is ∙ (once p.is.reads tt ms e d).what) u }
