-- Parts that lie in a run: what stands for an absent one, and all of them one behind the other.
--   taken_part, told-part    a value that was taken is held as its turn's
--   filled_ready             a part, or what stands for it
--   filled_other             the parts of other turns stay
--   ready-spanned            parts that are ready may be settled
use mathlib.Core.Path.{◌≡◌, refl, sym, ap, ◌∙◌, subst}
use mathlib.Core.List.{List, [], ◌∷◌, ◌++◌}
use Prim.Native.Nat.{ℕ, ◌+◌, ◌≤◌, ◌<◌}
use native.Mathlib.Omega.{arith}
use lib.ListN.{length, get_or, set, take, length-set}
use lib.Seq.{get_or-set_same, get_or-set_other}
use Rattle.text.specs.Json.{Json}
use Rattle.syntax.specs.Forms.{Reading, read}
use Rattle.syntax.specs.Members.{Slot, none, many, one, required, optional}
use Rattle.held.specs.Held.{held_each, held_list}
use Rattle.parts.specs.Holding.{Extends, Kept}
use Rattle.parts.specs.declared.holding.Ended.{Ended}
use Rattle.objects.specs.declared.members.Word.{Word}
use Rattle.std.specs.Prelude.{Option, Some}
use Rattle.parts.proofs.Laws.Extends.{extends_kept, extends_within}
use Rattle.std.proofs.lemmas.Slice.{take-put_mid, put_mid-paste}
use Rattle.std.proofs.lemmas.List.Edits.{length-paste}
use borrow.Rule.Slice.PartMut.{put_mid}
use Rattle.parts.proofs.Laws.Fits.{then_inv}
use Rattle.parts.proofs.Laws.Formed.{then_read}
use Rattle.straight.specs.Taking.{Taken}
use Rattle.objects.specs.Telling.{Told}
use Rattle.objects.specs.Spans.{from_of, to_of, behind, piece, Span}
use Rattle.objects.specs.Gathering.{How, laid, told, Kinded, Laying, Found, SlotFound, PartHeld, Parts}
use Rattle.objects.specs.Gathering.{laid_as, told_as}
use Rattle.objects.specs.Filling.{numbers, Ready, noted, Filled, there, absent}
use Rattle.objects.proofs.Laws.Settling.{extends_here, extends_part}
use Rattle.objects.proofs.Laws.Gathering.{extends_still, slot_still, slot_none}

-- ---- values taken

module _ {A : Type 0} (h : A → List ℕ) (f : Json → Reading A) (some : (x : A) → 0 < length (h x)) (l : Kinded) (k : ℕ)
    (is : l.how k ≡ laid (numbers h f)) where
  pub taken_part : {d : ℕ} {s run run' : List ℕ} {v at p e : ℕ} → d ≤ l.levels → at ≤ length run
      → Taken h f d s run run' v at p e → PartHeld l s run run' v at k at p p e
  taken_part {run' = run'} {at = at} {p = p} deep low t =
      let x = t.laid.extends in
      let there : Laying (numbers h f) run' p t.tree at p =
      record {
        numbers = h t.laid.thing;
        said = then_read _ t.laid.said;
        some = some t.laid.thing;
        lies = extends_here low x;
        inside = omega arith;
      } in
      record {
        tree = t.tree;
        reads = t.reads;
        shallow = omega (arith, t.shallow);
        kept = extends_kept x low;
        order = omega (arith, x.place);
        inside = extends_within x low;
        found = subst (λ (g : How). Found g run' p t.tree at p) (sym is) there;
      }

  pub takes_part : {d : ℕ} (s run run' : List ℕ) (v at : ℕ) (r : Ended) → d ≤ l.levels → at ≤ length run
      → Taken h f d s run run' v at r.past r.end → Parts l s run run' v at k (Some (laid_as r at))
  takes_part s run run' v at r deep low t = taken_part deep low t

pub tells_part : (g : Json → Option ℕ) (l : Kinded) (k : ℕ) → l.how k ≡ told g → (s run : List ℕ) (v at : ℕ) (r : Word)
    → at ≤ length run → Told g s v r.number r.end → Parts l s run run v at k (Some (told_as r at))
tells_part g l k is s run v at r low t =
    record {
      tree = t.tree;
      reads = t.reads;
      shallow = omega (arith, t.shallow);
      kept = record { size = refl; is = refl };
      order = omega arith;
      inside = low;
      found = subst (λ (h : How). Found h run at t.tree r.number 1) (sym is) (record { is = t.is; here = refl });
    }

-- ---- parts that are there

module _ {A : Type 0} (h : A → List ℕ) (f : Json → Reading A) (run m : List ℕ) (k : ℕ) where
  laying_ready : (t : Json) → Laying (numbers h f) run (behind m) t (from_of m k) (to_of m k) → Ready h (f t) run m k
  laying_ready t y =
      let z = then_inv (f t) (λ x. read (h x)) y.said in
      record {
        thing = z.thing;
        said = z.said;
        lies = subst (λ (xs : List ℕ). Extends run run (from_of m k) xs (to_of m k)) (let q = z.next in cc) y.lies;
        inside = y.inside;
      }

  pub required_ready : (x : Slot) → SlotFound (laid (numbers h f)) run (behind m) x (from_of m k) (to_of m k)
      → (to_of m k ≡ 0 → ⊥) → Ready h (required f x) run m k
  required_ready none y n = absurd (n y)
  required_ready many y n = absurd y
  required_ready (one t) y n = laying_ready t y

  pub optional_ready : (d : A) (x : Slot)
      → SlotFound (laid (numbers h f)) run (behind m) x (from_of m k) (to_of m k) → (to_of m k ≡ 0 → ⊥)
      → Ready h (optional d f x) run m k
  optional_ready d none y n = absurd (n y)
  optional_ready d many y n = absurd y
  optional_ready d (one t) y n = laying_ready t y

-- ---- parts that may be absent

module _ (m : List ℕ) (k from to past : ℕ) (size : length m ≡ 12) (o : 0 < k) (few : k ≤ 5) where
  pub noted_length : length (noted m k from to past) ≡ 12
  noted_length =
      length-set (set (set m (k + k) from) (k + k + 1) to) 1 past ∙ length-set (set m (k + k) from) (k + k + 1) to
      ∙ length-set m (k + k) from ∙ size

  pub noted_behind : behind (noted m k from to past) ≡ past
  noted_behind =
      get_or-set_same (set (set m (k + k) from) (k + k + 1) to) 1 past 0
      (omega (arith, length-set (set m (k + k) from) (k + k + 1) to, length-set m (k + k) from, size))

  pub noted_from : from_of (noted m k from to past) k ≡ from
  noted_from =
      get_or-set_other (set (set m (k + k) from) (k + k + 1) to) 1 (k + k) past 0 (λ e. absurd (omega arith))
      ∙ get_or-set_other (set m (k + k) from) (k + k + 1) (k + k) to 0 (λ e. absurd (omega arith))
      ∙ get_or-set_same m (k + k) from 0 (omega (arith, size))

  pub noted_to : to_of (noted m k from to past) k ≡ to
  noted_to =
      get_or-set_other (set (set m (k + k) from) (k + k + 1) to) 1 (k + k + 1) past 0 (λ e. absurd (omega arith))
      ∙ get_or-set_same (set m (k + k) from) (k + k + 1) to 0 (omega (arith, length-set m (k + k) from, size))

  pub noted_other : (j : ℕ) → 1 < j → (j ≡ k + k → ⊥) → (j ≡ k + k + 1 → ⊥)
      → get_or (noted m k from to past) j 0 ≡ get_or m j 0
  noted_other j l a b =
      get_or-set_other (set (set m (k + k) from) (k + k + 1) to) 1 j past 0 (λ e. absurd (omega arith))
      ∙ get_or-set_other (set m (k + k) from) (k + k + 1) j to 0 b ∙ get_or-set_other m (k + k) j from 0 a

-- what holds of a part holds where it is still noted and kept
pub ready_still : {A : Type 0} {h : A → List ℕ} {x : Reading A} {run run' m m' : List ℕ} {k : ℕ}
    → Ready h x run m k → Kept run run' (behind m) → behind m ≤ behind m' → from_of m' k ≡ from_of m k
    → to_of m' k ≡ to_of m k → Ready h x run' m' k
ready_still {h = h} {run' = run'} {m} {m'} {k} y kept more a b =
    let z = extends_still y.inside kept y.lies in
    record {
      thing = y.thing;
      said = y.said;
      lies = subst (λ (i : ℕ). Extends run' run' i (h y.thing) (to_of m' k)) (sym a)
          (subst (λ (j : ℕ). Extends run' run' (from_of m k) (h y.thing) j) (sym b) z);
      inside = omega (arith, y.inside, b);
    }

pub record Whole (run run' m m' : List ℕ) : Type 0 where
  pub size : length m' ≡ 12
  pub kept : Kept run run' (behind m)
  pub more : behind m ≤ behind m'
  pub high : behind m' ≤ length run'

module _ {xs run run' m m' : List ℕ} {k : ℕ} (size : length m ≡ 12) (o : 0 < k) (few : k ≤ 5)
    (high : behind m ≤ length run) where
  pub filled_whole : Filled xs run run' m m' k → Whole run run' m m'
  filled_whole (there a e q) =
      record {
        size = ap length e ∙ size;
        kept = record { size = ap length q; is = ap (take (behind m)) q };
        more = subst (λ (z : List ℕ). behind m ≤ behind z) (sym e) (omega arith);
        high = omega (arith, ap behind e, ap length q);
      }
  filled_whole (absent {from} {past} a e low in-past in-run x kept) =
      let b = ap behind e ∙ noted_behind m k from (from + length xs) past size o few in
      record {
        size = ap length e ∙ noted_length m k from (from + length xs) past size o few;
        kept = kept;
        more = omega arith;
        high = omega arith;
      }

  pub filled_place : Filled xs run run' m m' k → (j : ℕ) → 1 < j → (j ≡ k + k → ⊥) → (j ≡ k + k + 1 → ⊥)
      → get_or m' j 0 ≡ get_or m j 0
  filled_place (there a e q) j l c d = ap (λ (z : List ℕ). get_or z j 0) e
  filled_place (absent {from} {past} a e low in-past in-run x kept) j l c d =
      ap (λ (z : List ℕ). get_or z j 0) e ∙ noted_other m k from (from + length xs) past size o few j l c d

  pub filled_other : {A : Type 0} {h : A → List ℕ} {x : Reading A} {j : ℕ} → Filled xs run run' m m' k → 0 < j
      → (j ≡ k → ⊥) → Ready h x run m j → Ready h x run' m' j
  filled_other {j = j} f p d y =
      let w = filled_whole f in
      ready_still y w.kept w.more
      (filled_place f (j + j) (omega arith) (λ e. d (omega arith)) (λ e. absurd (omega arith)))
      (filled_place f (j + j + 1) (omega arith) (λ e. absurd (omega arith)) (λ e. d (omega arith)))

  -- a member of another turn, there or not
  pub filled_slot : (h : How) (x : Slot) (j : ℕ) → Filled xs run run' m m' k → 0 < j → (j ≡ k → ⊥)
      → SlotFound h run (behind m) x (from_of m j) (to_of m j) → SlotFound h run' (behind m') x (from_of m' j) (to_of m' j)
  filled_slot h x j f p d y =
      let w = filled_whole f in
      let a = filled_place f (j + j) (omega arith) (λ e. d (omega arith)) (λ e. absurd (omega arith)) in
      let b = filled_place f (j + j + 1) (omega arith) (λ e. absurd (omega arith)) (λ e. d (omega arith)) in
      let z = slot_still w.more w.kept (from_of m j) (to_of m j) h x y in
      subst (λ (q : ℕ). SlotFound h run' (behind m') x q (to_of m' j)) (sym a)
      (subst (λ (q : ℕ). SlotFound h run' (behind m') x (from_of m j) q) (sym b) z)

  -- a part, or the numbers of d for an absent one
  pub filled_ready : {A : Type 0} (h : A → List ℕ) (f : Json → Reading A) (d : A) (x : Slot) → h d ≡ xs
      → SlotFound (laid (numbers h f)) run (behind m) x (from_of m k) (to_of m k) → Filled xs run run' m m' k
      → Ready h (optional d f x) run' m' k
  filled_ready h f d x i y (there a e q) =
      subst (λ (z : List ℕ). Ready h (optional d f x) run' z k) (sym e)
      (subst (λ (z : List ℕ). Ready h (optional d f x) z m k) (sym q) (optional_ready h f run m k d x y a))
  filled_ready h f d x i y (absent {from} {past} a e low in-past in-run p kept) =
      let z = slot_none run (behind m) (from_of m k) (to_of m k) (laid (numbers h f)) x y a in
      let b = ap behind e ∙ noted_behind m k from (from + length xs) past size o few in
      let u = ap (λ (z : List ℕ). from_of z k) e ∙ noted_from m k from (from + length xs) past size o few in
      let v = ap (λ (z : List ℕ). to_of z k) e ∙ noted_to m k from (from + length xs) past size o few in
      record {
        thing = d;
        said = ap (optional d f) z;
        lies = subst (λ (zs : List ℕ). Extends run' run' (from_of m' k) zs (to_of m' k)) (sym i)
            (subst (λ (q : ℕ). Extends run' run' q xs (to_of m' k)) (sym u)
            (subst (λ (q : ℕ). Extends run' run' from xs q) (sym v) p));
        inside = omega arith;
      }

-- ---- all parts

pub ready_span : {A : Type 0} {h : A → List ℕ} {x : Reading A} {run m : List ℕ} {k : ℕ} → Ready h x run m k → Span m k
ready_span y = record { order = omega (arith, y.lies.place); inside = y.inside }

pub ready_piece : {A : Type 0} {h : A → List ℕ} {x : Reading A} {run m : List ℕ} {k : ℕ} (y : Ready h x run m k)
    → behind m ≤ length run → piece run m k ≡ h y.thing
ready_piece y high = extends_part (omega (arith, y.lies.place, y.inside)) y.lies

-- ---- putting what stands for an absent part

-- a list of nothing
pub nothing_held : {A : Type 0} (h : A → List ℕ) → held_list h [] ≡ 0 ∷ []
unfolding held_each
nothing_held h = refl

pub put_absent : {run m xs ys : List ℕ} {k n : ℕ} → to_of m k ≡ 0 → ys ≡ xs → behind m + length xs ≤ length run
    → n ≡ length xs
    → Filled xs run (put_mid (behind m) n run ys) m (noted m k (behind m) (behind m + length xs) (behind m + length xs)) k
put_absent {run} {m} {xs} {ys} {n = n} e same low size =
    let x : Extends run (put_mid (behind m) n run ys) (behind m) xs (behind m + length xs) =
    record {
      size = ap length (put_mid-paste (behind m) n run ys xs (length xs) same (sym size) refl)
          ∙ length-paste run (behind m) xs (length xs) low (omega arith);
      place = refl;
      is = take-put_mid (behind m) n run ys (behind m + length xs) (ap (λ (l : List ℕ). behind m + length l) (sym same)) (omega arith)
          ∙ ap (λ (l : List ℕ). take (behind m) run ++ l) same;
    } in
    absent e refl (omega arith) (omega arith) (omega (arith, x.size)) (extends_here (omega arith) x)
    (extends_kept x (omega arith))
