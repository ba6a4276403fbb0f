-- What a statement has besides its effect: members that may be absent, entries as texts, all held in turn.
--   placed_absent, placed_there   a member's place tells whether it is there
--   absent_laid, there_laid ..    what is held of a member that may be absent
--   texts_laid, texts_left        Action and Resource entries are texts
--   parts_holds ..                one part behind the other
use Rattle.std.specs.Prelude.{Option, Some, None}
use mathlib.Core.Path.{◌≡◌, refl, sym, ap, ◌∙◌, subst}
use mathlib.Core.List.{List, [], ◌∷◌}
use Prim.Native.Nat.{ℕ, ◌+◌, ◌≤◌, ◌<◌}
use native.Mathlib.Omega.{arith}
use lib.ListN.{length, set}
use Rattle.text.specs.Json.{Json}
use Rattle.text.specs.Contents.{Stands}
use Rattle.syntax.specs.Forms.{Reading, wrong, read}
use Rattle.syntax.specs.Members.{Slot, none, one, many, optional, one_or_more}
use Rattle.parts.specs.Slots.{Placed, absent, stands}
use Rattle.syntax.specs.PolicyLayout.{as_text, action_of, resource_of, sid_of, condition_of}
use Rattle.held.specs.Held.{held_text, held_each, held_list, held_row}
use Rattle.parts.specs.Room.{cost, Holdable, cost_of, HoldableSlot}
use Rattle.parts.specs.Holding.{Extends, Laid, Left, Holds, HoldsTo}
use Rattle.policy.specs.Statements.{parts_of, held_parts}
use Rattle.parts.specs.declared.holding.Ended.{Ended}
use Rattle.straight.proofs.Laws.AsTexts.{as_texts, texts}
pub use Rattle.straight.proofs.Laws.AsTexts.{texts_laid}
use Rattle.parts.proofs.Laws.Extends.{extends_none, extends_front, extends_then}
use Rattle.parts.proofs.Laws.Formed.{then_wrong, then_read, left_then, ends_past, ends_wrong}
use Rattle.parts.proofs.Laws.Fits.{wrong_read, one_or_more_fits, sid_fits}

-- ---- a member that may be absent

pub placed_absent : {s : List ℕ} {v : ℕ} {x : Slot} → Placed s v x → v ≡ 0 → x ≡ none
placed_absent absent e = refl
placed_absent (stands h q) e = absurd (omega arith)

pub record There (s : List ℕ) (v : ℕ) (x : Slot) : Type 0 where
  pub what : Json
  pub stop : ℕ
  pub is : x ≡ one what
  pub stands : Stands s what v stop

pub placed_there : {s : List ℕ} {v : ℕ} {x : Slot} → Placed s v x → (v ≡ 0 → ⊥) → There s v x
placed_there absent n = absurd (n refl)
placed_there (stands {p} {e} {t} h q) n = record { what = t; stop = e; is = refl; stands = q }

pub there_holdable : {s : List ℕ} {v : ℕ} {run : List ℕ} {at : ℕ} → HoldableSlot s v run at 1 → (v ≡ 0 → ⊥)
    → Holdable s v run at 0
there_holdable h n =
    let t = placed_there h.is n in
    record {
      what = t.what;
      stop = t.stop;
      is = t.stands;
      roomy = record { room = omega (arith, h.roomy.room, ap cost_of t.is); bounded = h.roomy.bounded };
    }

module _ {A : Type 0} (h : A → List ℕ) (d : A) (f : Json → Reading A) where
  pub absent_laid :
      {s : List ℕ} {v : ℕ} {run : List ℕ} {at : ℕ} → h d ≡ 0 ∷ [] → at < length run → v ≡ 0 → (x : Slot)
      → Placed s v x → Laid h run (set run at 0) at (optional d f x) (at + 1)
  absent_laid {s} {v} {run} {at} e low z x p =
      record {
        thing = d;
        said = ap (optional d f) (placed_absent p z);
        extends = subst (λ (l : List ℕ). Extends run (set run at 0) at l (at + 1)) (sym e)
            (extends_front 0 low (extends_none run (at + 1)));
      }

  module _ {s : List ℕ} {v : ℕ} (run run' : List ℕ) (at : ℕ) (r : Option Ended) (n : v ≡ 0 → ⊥)
      (g : (t : Json) (e : ℕ) → Stands s t v e → HoldsTo h run run' at (f t) e r) where
    pub there_laid : {y : Ended} → r ≡ Some y → (x : Slot) → Placed s v x → Laid h run run' at (optional d f x) y.past
    there_laid {y} k x i =
        let t = placed_there i n in
        subst (λ (z : Slot). Laid h run run' at (optional d f z) y.past) (sym t.is)
        (ends_past h run run' at (f t.what) t.stop (g t.what t.stop t.stands) k).0

    pub there_left : r ≡ None → (x : Slot) → Placed s v x → Left run run' (optional d f x)
    there_left k x i =
        let t = placed_there i n in
        subst (λ (y : Slot). Left run run' (optional d f y)) (sym t.is)
        (ends_wrong h run run' at (f t.what) t.stop (g t.what t.stop t.stands) k)

pub no_rows : held_list held_row [] ≡ 0 ∷ []
unfolding held_each
no_rows = refl

-- ---- entries as texts

texts_wrong : (x : Reading (List (List ℕ))) → as_texts x ≡ wrong → x ≡ wrong
texts_wrong wrong e = refl
texts_wrong (read l) e = wrong_read (sym e)

module _ (g : Json → Reading (List ℕ)) where
  pub texts_left : {run run' : List ℕ} (t : Json) → Left run run' (one_or_more (λ t. as_text (g t)) t)
      → Left run run' (one_or_more g t)
  texts_left t l = record { size = l.size; said = texts_wrong (one_or_more g t) (sym (texts g t) ∙ l.said) }

-- ---- where the parts end

optional_sid : (x : Slot) (cs : List ℕ) → optional [] sid_of x ≡ read cs → length cs ≤ cost_of x
optional_sid none cs e = let z : [] ≡ cs = cc in omega (arith, ap length z)
optional_sid many cs e = wrong_read e
optional_sid (one t) cs e = omega (arith, sid_fits t cs e)

pub sid_place :
    {run run' : List ℕ} {at p : ℕ} (x : Slot) → Laid held_text run run' at (optional [] sid_of x) p
    → p ≤ at + 1 + cost_of x
sid_place x d = omega (arith, d.extends.place, optional_sid x d.thing d.said)

pub entries_place :
    (g : Json → Reading (List ℕ)) → ((t : Json) (ys : List ℕ) → g t ≡ read ys → length (held_text ys) ≤ cost t)
    → {run run' : List ℕ} {at p : ℕ} (t : Json) → Laid (held_list held_text) run run' at (one_or_more g t) p
    → p ≤ at + 1 + cost t
entries_place g fits t d =
    omega (arith, d.extends.place, one_or_more_fits held_text g fits t d.thing d.said)

-- ---- one behind the other

module _ (i : Slot) (x y : Json) (c : Slot) where
  pub sid_left : {run run' : List ℕ} → Left run run' (optional [] sid_of i) → Left run run' (parts_of i x y c)
  unfolding parts_of
  sid_left l = left_then _ l

  module _ {run run₁ : List ℕ} {at p : ℕ} (a : Laid held_text run run₁ at (optional [] sid_of i) p) where
    pub actions_left : {run' : List ℕ} → Left run₁ run' (one_or_more action_of x) → Left run run' (parts_of i x y c)
    unfolding parts_of
    actions_left l =
        record { size = l.size ∙ a.extends.size; said = then_read _ a.said ∙ then_wrong _ l.said }

    module _ {run₂ : List ℕ} {q : ℕ} (b : Laid (held_list held_text) run₁ run₂ p (one_or_more action_of x) q) where
      pub resources_left : {run' : List ℕ} → Left run₂ run' (one_or_more resource_of y)
          → Left run run' (parts_of i x y c)
      unfolding parts_of
      resources_left l =
          record {
            size = l.size ∙ b.extends.size ∙ a.extends.size;
            said = then_read _ a.said ∙ then_read _ b.said ∙ then_wrong _ l.said;
          }

      module _ {run₃ : List ℕ} {u : ℕ} (d : Laid (held_list held_text) run₂ run₃ q (one_or_more resource_of y) u) where
        pub parts_holds :
            (run' : List ℕ) (r : Option ℕ) → Holds (held_list held_row) run₃ run' u (optional [] condition_of c) r
            → Holds held_parts run run' at (parts_of i x y c) r
        unfolding parts_of held_parts
        parts_holds run' (Some k) l =
            record {
              thing = record { sid = a.thing; actions = b.thing; resources = d.thing; rows = l.thing };
              said = then_read _ a.said ∙ then_read _ b.said ∙ then_read _ d.said ∙ then_read _ l.said;
              extends = extends_then a.extends (extends_then b.extends (extends_then d.extends l.extends));
            }
        parts_holds run' None l =
            record {
              size = l.size ∙ d.extends.size ∙ b.extends.size ∙ a.extends.size;
              said = then_read _ a.said ∙ then_read _ b.said ∙ then_read _ d.said ∙ then_wrong _ l.said;
            }
