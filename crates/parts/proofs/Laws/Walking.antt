-- A walk over an object's members as far as it has come: what was found is placed, and with what is still to come it
-- is what the whole object says.
use mathlib.Core.Path.{◌≡◌, refl, sym, ap, ◌∙◌, subst}
use mathlib.Core.Bool.{true}
use mathlib.Core.List.{List, [], ◌∷◌}
use Prim.Native.Nat.{ℕ, suc, ◌-◌, ◌≤◌, ◌<◌}
use native.Mathlib.Omega.{arith}
use native.Mathlib.Decide.{dec_lt}
use lib.ListN.{length, get_or, set, replicate, get_or-replicate, get_or-eq_default}
use lib.Seq.{get_or-set_same, get_or-set_other}
use Rattle.text.specs.Json.{Json, object, Members, no_members, levels}
use Rattle.chars.specs.Decoding.{equal}
use Rattle.text.specs.Contents.{Stands, Leads}
use Rattle.text.specs.declared.walk.Member.{Member}
use Rattle.text.specs.declared.walk.Member.TheVariants as M
use Rattle.text.specs.Machine.{value}
use Rattle.text.proofs.Laws.Contents.{stands_unique, stands_inside, stands_done}
use Rattle.text.proofs.Laws.Places.{value_grows, done_unique}
use Rattle.syntax.specs.Members.{Slot, none, slot, known}
use Rattle.parts.specs.Slots.{words_of, word_at, Placed, absent, Turn, Slotted}
use Rattle.parts.specs.Room.{costm}
use Rattle.parts.specs.declared.members.Layout.{Layout}
use Rattle.parts.specs.declared.members.Layout.TheVariants as L
use Rattle.parts.proofs.Laws.Slots.{differs, distinct, joined, joined_none}

-- the slot of a word so far, where it stands, and that with the members still to come it is the object's
pub record SoFar (s n : List ℕ) (whole rest : Members) (p : ℕ) : Type 0 where
  pub found : Slot
  pub placed : Placed s p found
  pub same : joined found (slot n rest) ≡ slot n whole

pub record Walking (s : List ℕ) (v : ℕ) (ns : List (List ℕ)) (places : List ℕ) (m : Member) : Type 0 where
  pub whole : Members
  pub stop : ℕ
  pub object_is : Stands s (object whole) v stop
  pub low : ℕ
  pub rest : Members
  pub leads : Leads s low rest stop m
  pub within : costm rest ≤ costm whole
  pub flag : get_or places 0 0 ≡ 0
  pub size : length places ≡ 6
  pub knows : known ns rest ≡ known ns whole
  pub so_far : (k : ℕ) → Turn ns k → SoFar s (word_at ns k) whole rest (get_or places k 0)

zeros : (k : ℕ) → ◌≡◌ {A = ℕ} (get_or (replicate 6 0) k 0) 0
zeros k = by (dec_lt k 6)
  where
    by : Dec (k < 6) → ◌≡◌ {A = ℕ} (get_or (replicate 6 0) k 0) 0
    by (yes h) = get_or-replicate 6 k 0 0 h
    by (no h) = get_or-eq_default (replicate 6 0) 0 {n = k} (omega arith)

pub walking_start : {s : List ℕ} {v e : ℕ} {ms : Members} (ns : List (List ℕ)) (m : Member) → Stands s (object ms) v e
    → Leads s v ms e m → Walking s v ns (replicate 6 0) m
walking_start {s} {v} {e} {ms} ns m p l =
    record {
      whole = ms;
      stop = e;
      object_is = p;
      low = v;
      rest = ms;
      leads = l;
      within = omega arith;
      flag = refl;
      size = refl;
      knows = refl;
      so_far = λ k t. record {
        found = none;
        placed = subst (λ (x : ℕ). Placed s x none) (sym (zeros k)) absent;
        same = refl;
      };
    }

-- what stands at a place has one end
pub stands_past : {s : List ℕ} {t u : Json} {v e f : ℕ} → Stands s t v e → Stands s u v f → e ≡ f
stands_past p q = done_unique (value levels ∷ []) (stands_done p) (stands_done q)

-- ---- no member is left

module _ {s : List ℕ} {v : ℕ} {ns : List (List ℕ)} {places : List ℕ} {m : Member} (w : Walking s v ns places m) where
  -- what the walk tells, of the object that it walked over, it tells of whatever object stands there
  pub walking_whole : (ms : Members) (e : ℕ) → Stands s (object ms) v e → w.whole ≡ ms
  walking_whole ms e q = let z : object w.whole ≡ object ms = stands_unique w.object_is q in cc

  pub walking_told : (r : List ℕ) → Slotted s ns w.whole w.stop r → (ms : Members) (e : ℕ)
      → Stands s (object ms) v e → Slotted s ns ms e r
  walking_told r p ms e q =
      subst (λ (x : Members). Slotted s ns x e r) (walking_whole ms e q)
      (subst (λ (i : ℕ). Slotted s ns w.whole i r) (stands_past w.object_is q) p)

  module _ (p : ℕ) (e : m ≡ M.Past p) where
    none_left : (w.rest ≡ no_members) × (p ≡ w.stop)
    none_left = subst (Leads s w.low w.rest w.stop) e w.leads

    pub walking_known : known ns w.whole ≡ true
    unfolding known
    walking_known = sym w.knows ∙ ap (known ns) none_left.0

    pub walking_placed : (k : ℕ) → Turn ns k → Placed s (get_or places k 0) (slot (word_at ns k) w.whole)
    unfolding slot
    walking_placed k t =
        let f = w.so_far k t in
        subst (Placed s (get_or places k 0))
        (sym (joined_none f.found) ∙ sym (ap (λ (x : Members). joined f.found (slot (word_at ns k) x))
        none_left.0) ∙ f.same)
        f.placed

    pub walking_end : Slotted s ns w.whole w.stop (set places 0 p)
    walking_end =
        let z = get_or-set_same places 0 p 0 (omega (arith, w.size)) in
        let g = value_grows (stands_done w.object_is) in
        record {
          right = λ y. (
            z ∙ none_left.1,
            (
              walking_known,
              λ k t. subst (λ (i : ℕ). Placed s i (slot (word_at ns k) w.whole))
                  (sym (get_or-set_other places 0 k p 0 (λ i. absurd (omega (arith, i, t.from))))) (walking_placed k t),
            ),
          );
          not_right = λ y. absurd (omega (arith, y, z, none_left.1, g));
        }

-- ---- the walk ends

-- what may be left of the text behind a member
unfoldable pub left_of : List ℕ → Member → ℕ
left_of s (M.Named n e v) = suc (length s - v)
left_of s (M.Past p) = 0

pub left_falls : (s : List ℕ) (x e y : ℕ) (ms : Members) (n' e' : ℕ) (m : Member) → x < e → e ≤ length s
    → Leads s e ms y m → left_of s m < left_of s (M.Named n' e' x)
unfolding left_of
left_falls s x e y ms n' e' (M.Named a b v) h g l = let p = l.later in let q = stands_inside l.stands in omega arith
left_falls s x e y ms n' e' (M.Past p) h g l = omega arith

-- ---- every layout

pub layout_distinct : (l : Layout) → distinct (words_of l) ≡ true
unfolding distinct differs equal
layout_distinct L.Policy = refl
layout_distinct L.Statement = refl
layout_distinct L.Record = refl
layout_distinct L.Context = refl

pub layout_few : (l : Layout) → length (words_of l) ≤ 5
layout_few L.Policy = omega arith
layout_few L.Statement = omega arith
layout_few L.Record = omega arith
layout_few L.Context = omega arith
