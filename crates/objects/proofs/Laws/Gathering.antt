-- Members are gathered one by one: whatever follows the place reached, what was passed stands before it, and of each
-- word it is known where its value lies.
--   Gathering l ..     the members passed so far
--   gathering_more     one more, and a comma
--   gathering_end      one more, and the end of the object
use mathlib.Core.Path.{◌≡◌, refl, sym, ap, ◌∙◌, subst}
use mathlib.Core.Bool.{Bool, true, false}
use mathlib.Core.List.{List, ◌++◌}
use Prim.Native.Nat.{ℕ, ◌+◌, ◌-◌, ◌≤◌, ◌<◌}
use native.Mathlib.Omega.{arith}
use native.Mathlib.Decide.{dec_lt, ℕ_discrete}
use lib.ListN.{length, get_or, set, length-set, replicate, get_or-replicate, get_or-eq_default}
use lib.Seq.{get_or-set_same, get_or-set_other}
use Rattle.chars.specs.Decoding.{text_of, same_text}
use Rattle.text.specs.Json.{Json, Members, no_members, named, depth, depthm, members, more, Reads}
use Rattle.syntax.specs.Forms.{both}
use Rattle.syntax.specs.Members.{Slot, none, many, one, slot, known, is_among}
use Rattle.parts.specs.Slots.{word_at, which_of, Turn}
use Rattle.parts.specs.Holding.{Extends, Kept}
use Rattle.parts.specs.Room.{Roomy}
use Rattle.parts.proofs.Laws.Slots.{which_is, which_only, which_known, joined, joined_none, slot_other}
use Rattle.parts.proofs.Laws.Slots.{slot_found}
use Rattle.straight.specs.Marks.{Unless, Named, Parted, Closed}
use Rattle.straight.proofs.Laws.Reads.{reads_inside, reads_later, named_later, parted_later, parted_inside, member_is}
use Rattle.straight.proofs.Laws.Reads.{object_next, object_last}
use Rattle.objects.specs.Spans.{from_of, to_of, behind}
use Rattle.objects.specs.Gathering.{How, laid, told, Kinded, Found, SlotFound, PartHeld}
use Rattle.objects.specs.Gathering.{is_named, Names, Parts}
use Rattle.objects.specs.declared.members.Part.{Part}
use Rattle.objects.specs.declared.members.Member.{Member}
use Rattle.objects.specs.Gathering.{Proper, Gathered}
use Rattle.std.specs.Prelude.{Option, Some, None}
use Rattle.objects.proofs.Laws.Settling.{kept_less}

-- a name by the word of a turn
pub names_is : (ws : List (List ℕ)) (s : List ℕ) (i k : ℕ) (v : Option ℕ) (r : Option Member) → 0 < k → k ≤ length ws
    → Unless v (Named s (word_at ws k) i) → r ≡ is_named k v → Names ws s i r
names_is ws s i k None r o h u e = subst (Names ws s i) (sym e) tt
names_is ws s i k (Some v) r o h u e = subst (Names ws s i) (sym e) (record { from = o; to = h }, u.found v refl)

-- an answer and a turn that are known
pub part_is : (l : Kinded) (s run run' : List ℕ) (v at : ℕ) {k j : ℕ} {r q : Part} → k ≡ j → r ≡ q
    → Parts l s run run' v at j (Some q) → Parts l s run run' v at k (Some r)
part_is l s run run' v at {j = j} {r} e f x =
    subst (λ (k : ℕ). Parts l s run run' v at k (Some r)) (sym e)
    (subst (λ (q : Part). Parts l s run run' v at j (Some q)) (sym f) x)

-- ---- kept parts

pub kept_then : {run run₁ run₂ : List ℕ} {p q : ℕ} → p ≤ q → Kept run run₁ p → Kept run₁ run₂ q → Kept run run₂ p
kept_then {p = p} h a b =
    let c = kept_less p h b in
    record { size = c.size ∙ a.size; is = c.is ∙ a.is }

-- what lies before a place is kept with it
pub extends_still : {run run' xs : List ℕ} {a e p : ℕ} → e ≤ p → Kept run run' p → Extends run run a xs e
    → Extends run' run' a xs e
extends_still {run} {run'} {xs} {a} {e} h k x =
    record {
      size = refl;
      place = x.place;
      is = (kept_less e h k).is ∙ x.is
          ∙ ap (λ (l : List ℕ). l ++ xs) (sym (kept_less a (omega (arith, x.place, h)) k).is);
    }

module _ {run run' : List ℕ} {p q : ℕ} (l : p ≤ q) (k : Kept run run' p) (from to : ℕ) where
  found_still : (h : How) (t : Json) → Found h run p t from to → Found h run' q t from to
  found_still (laid f) t x =
      record {
        numbers = x.numbers;
        said = x.said;
        some = x.some;
        lies = extends_still x.inside k x.lies;
        inside = omega (arith, x.inside);
      }
  found_still (told g) t x = x

  pub slot_still : (h : How) (x : Slot) → SlotFound h run p x from to → SlotFound h run' q x from to
  slot_still h none y = y
  slot_still h many y = y
  slot_still h (one t) y = found_still h t y

module _ (run : List ℕ) (p from to : ℕ) where
  -- what is found does not end at 0
  found_some : (h : How) (t : Json) → Found h run p t from to → to ≡ 0 → ⊥
  found_some (laid f) t x e = let a = x.some in let b = x.lies.place in absurd (omega arith)
  found_some (told g) t x e = let a = x.here in absurd (omega arith)

  pub slot_none : (h : How) (x : Slot) → SlotFound h run p x from to → to ≡ 0 → x ≡ none
  slot_none h none y e = refl
  slot_none h many y e = absurd y
  slot_none h (one t) y e = absurd (found_some h t y e)

-- ---- layouts

module _ {l : Kinded} (w : Proper l) where
  turned : (k : ℕ) → Turn l.words k → which_of l.words (word_at l.words k) ≡ 0 → ⊥
  turned k t e = let a = w.itself k t in let b = t.from in absurd (omega arith)

  same_word : (k : ℕ) → Turn l.words k → same_text (text_of (word_at l.words k)) (word_at l.words k) ≡ true
  same_word k t =
      ap (λ (n : ℕ). same_text (text_of (word_at l.words k)) (word_at l.words n)) (sym (w.itself k t))
      ∙ which_is l.words (word_at l.words k) (turned k t)

  other_word : (k j : ℕ) → Turn l.words k → Turn l.words j → (j ≡ k → ⊥)
      → same_text (text_of (word_at l.words k)) (word_at l.words j) ≡ false
  other_word k j t u n =
      which_only l.words (word_at l.words k) j w.apart (turned k t) u (λ e. n (e ∙ w.itself k t))

  known_word : (k : ℕ) → Turn l.words k → is_among l.words (word_at l.words k) ≡ true
  known_word k t = which_known l.words (word_at l.words k) (turned k t)

-- ---- members passed

-- the slot of a word so far, and where its value lies
pub record SoFar (l : Kinded) (run : List ℕ) (p : ℕ) (m : List ℕ) (put : Members → Members) (k : ℕ) : Type 0 where
  pub found : Slot
  pub is : (us : Members) → slot (word_at l.words k) (put us) ≡ joined found (slot (word_at l.words k) us)
  pub lies : SlotFound (l.how k) run p found (from_of m k) (to_of m k)

pub record Gathering (l : Kinded) (s run₀ run : List ℕ) (first at i p : ℕ) (m : List ℕ) : Type 0 where
  pub spans : length m ≡ 12
  pub put : Members → Members
  pub reads : (us : Members) (e : ℕ) → Reads s (members us) i e → Reads s (members (put us)) first e
  pub knows : (us : Members) → known l.words us ≡ true → known l.words (put us) ≡ true
  pub shallow : (us : Members) → depthm us ≤ l.levels → depthm (put us) ≤ l.levels
  pub kept : Kept run₀ run at
  pub low : at ≤ p
  pub high : p ≤ length run
  pub inside : i ≤ length s
  pub each : (k : ℕ) → Turn l.words k → SoFar l run p m put k

zeros : (k : ℕ) → ◌≡◌ {A = ℕ} (get_or (replicate 12 0) k 0) 0
zeros k = by (dec_lt k 12)
  where
    by : Dec (k < 12) → ◌≡◌ {A = ℕ} (get_or (replicate 12 0) k 0) 0
    by (yes h) = get_or-replicate 12 k 0 0 h
    by (no h) = get_or-eq_default (replicate 12 0) 0 {n = k} (omega arith)

pub gathering_start : {s run : List ℕ} {i at : ℕ} (l : Kinded) → i ≤ length s → at ≤ length run
    → Gathering l s run run i at i at (replicate 12 0)
gathering_start l h a =
    record {
      spans = refl;
      put = λ us. us;
      reads = λ us e r. r;
      knows = λ us k. k;
      shallow = λ us k. k;
      kept = record { size = refl; is = refl };
      low = omega arith;
      high = a;
      inside = h;
      each = λ k t. record { found = none; is = λ us. refl; lies = zeros (k + k + 1) };
    }

pub gathering_roomy : {l : Kinded} {s run₀ run : List ℕ} {first at i p : ℕ} {m : List ℕ} → Roomy run₀ at 0
    → Gathering l s run₀ run first at i p m → Roomy run p 0
gathering_roomy r g = record { room = omega (arith, g.high); bounded = omega (arith, r.bounded, g.kept.size) }

depth_named : (w : List ℕ) (t : Json) (us : Members) {n : ℕ} → depth t ≤ n → depthm us ≤ n → depthm (named w t us) ≤ n
unfolding depthm
depth_named w t us a b = omega arith

known_named : (ns : List (List ℕ)) (w : List ℕ) (t : Json) (us : Members) → is_among ns w ≡ true → known ns us ≡ true
    → known ns (named w t us) ≡ true
unfolding known
known_named ns w t us a b = ap (λ (x : Bool). both x (known ns us)) a ∙ b

module _ {l : Kinded} {s run₀ run run₁ : List ℕ} {first at i p k v from to past end : ℕ} {m : List ℕ} (w : Proper l)
    (g : Gathering l s run₀ run first at i p m) (t : Turn l.words k) (n : Named s (word_at l.words k) i v)
    (absent : to_of m k ≡ 0) (h : PartHeld l s run run₁ v p k from to past end) where
  abbrev noted : List ℕ
  noted = set (set m (k + k) from) (k + k + 1) to

  abbrev word : List ℕ
  word = word_at l.words k

  noted_length : length noted ≡ 12
  noted_length = length-set (set m (k + k) from) (k + k + 1) to ∙ length-set m (k + k) from ∙ g.spans

  low_turn : k ≤ 5
  low_turn = let a = t.to in let b = w.few in omega arith

  pub gathering_end_inside : end ≤ length s
  gathering_end_inside = reads_inside h.reads

  pub gathering_size : length run₁ ≡ length run₀
  gathering_size = h.kept.size ∙ g.kept.size

  from_there : get_or noted (k + k) 0 ≡ from
  from_there =
      get_or-set_other (set m (k + k) from) (k + k + 1) (k + k) to 0 (λ e. absurd (omega arith))
      ∙ get_or-set_same m (k + k) from 0 (omega (arith, g.spans, low_turn))

  to_there : get_or noted (k + k + 1) 0 ≡ to
  to_there =
      get_or-set_same (set m (k + k) from) (k + k + 1) to 0
      (omega (arith, length-set m (k + k) from, g.spans, low_turn))

  -- places of another turn, and the two in front, stay
  elsewhere : (j : ℕ) → (j ≡ k + k → ⊥) → (j ≡ k + k + 1 → ⊥) → get_or noted j 0 ≡ get_or m j 0
  elsewhere j a b =
      get_or-set_other (set m (k + k) from) (k + k + 1) j to 0 b ∙ get_or-set_other m (k + k) j from 0 a

  abbrev puts : Members → Members
  puts us = g.put (named word h.tree us)

  slot_here : SoFar l run₁ past noted puts k
  slot_here =
      let x = g.each k t in
      let z = slot_none run p (from_of m k) (to_of m k) (l.how k) x.found x.lies absent in
      record {
        found = one h.tree;
        is = λ us. x.is (named word h.tree us)
            ∙ ap (λ (y : Slot). joined y (slot word (named word h.tree us))) z
            ∙ slot_found word word h.tree us (same_word w k t);
        lies = subst (λ (a : ℕ). Found (l.how k) run₁ past h.tree a (to_of noted k)) (sym from_there)
            (subst (λ (b : ℕ). Found (l.how k) run₁ past h.tree from b) (sym to_there) h.found);
      }

  slot_there : (j : ℕ) → Turn l.words j → (j ≡ k → ⊥) → SoFar l run₁ past noted puts j
  slot_there j u d =
      let x = g.each j u in
      let a = elsewhere (j + j) (λ e. d (omega arith)) (λ e. absurd (omega arith)) in
      let b = elsewhere (j + j + 1) (λ e. absurd (omega arith)) (λ e. d (omega arith)) in
      let y = slot_still h.order h.kept (from_of m j) (to_of m j) (l.how j) x.found x.lies in
      record {
        found = x.found;
        is = λ us. x.is (named word h.tree us)
            ∙ slot_other x.found (word_at l.words j) word h.tree us (other_word w k j t u d);
        lies = subst (λ (c : ℕ). SlotFound (l.how j) run₁ past x.found c (to_of noted j)) (sym a)
            (subst (λ (c : ℕ). SlotFound (l.how j) run₁ past x.found (from_of m j) c) (sym b) y);
      }

  slot_each : (j : ℕ) → Turn l.words j → SoFar l run₁ past noted puts j
  slot_each j u = by (ℕ_discrete j k)
    where
      by : Dec (j ≡ k) → SoFar l run₁ past noted puts j
      by (yes e) = subst (λ (n : ℕ). SoFar l run₁ past noted puts n) (sym e) slot_here
      by (no d) = slot_there j u d

  puts_reads : (us : Members) (e : ℕ) → Reads s (more us) end e → Reads s (members (puts us)) first e
  puts_reads us e r = g.reads (named word h.tree us) e (member_is n h.reads r)

  puts_knows : (us : Members) → known l.words us ≡ true → known l.words (puts us) ≡ true
  puts_knows us e =
      g.knows (named word h.tree us) (known_named l.words word h.tree us (known_word w k t) e)

  puts_shallow : (us : Members) → depthm us ≤ l.levels → depthm (puts us) ≤ l.levels
  puts_shallow us e = g.shallow (named word h.tree us) (depth_named word h.tree us h.shallow e)

  module _ {c : ℕ} (d : Parted s 44 end c) where
    pub gathering_less : length s - c < length s - i
    gathering_less = omega (arith, named_later n, reads_later h.reads, parted_later d, parted_inside d)

    pub gathering_more : Gathering l s run₀ run₁ first at c past noted
    gathering_more =
        record {
          spans = noted_length;
          put = puts;
          reads = λ us e r. puts_reads us e (object_next d r);
          knows = puts_knows;
          shallow = puts_shallow;
          kept = kept_then g.low g.kept h.kept;
          low = omega (arith, g.low, h.order);
          high = h.inside;
          inside = parted_inside d;
          each = slot_each;
        }

  -- the object ends behind it
  module _ {e : ℕ} (d : Closed s 125 end e) where
    abbrev ended : List ℕ
    ended = set (set noted 0 e) 1 past

    ended_length : length ended ≡ 12
    ended_length = length-set (set noted 0 e) 1 past ∙ length-set noted 0 e ∙ noted_length

    end_there : get_or ended 0 0 ≡ e
    end_there =
        get_or-set_other (set noted 0 e) 1 0 past 0 (λ q. absurd (omega arith))
        ∙ get_or-set_same noted 0 e 0 (omega (arith, noted_length))

    past_there : get_or ended 1 0 ≡ past
    past_there =
        get_or-set_same (set noted 0 e) 1 past 0 (omega (arith, length-set noted 0 e, noted_length))

    behind_there : (j : ℕ) → 1 < j → get_or ended j 0 ≡ get_or noted j 0
    behind_there j h =
        get_or-set_other (set noted 0 e) 1 j past 0 (λ q. absurd (omega arith))
        ∙ get_or-set_other noted 0 j e 0 (λ q. absurd (omega arith))

    ended_each : (j : ℕ) → Turn l.words j
        → SlotFound (l.how j) run₁ (behind ended) (slot (word_at l.words j) (puts no_members)) (from_of ended j)
        (to_of ended j)
    unfolding slot
    ended_each j u =
        let x = slot_each j u in
        let o = u.from in
        let y = subst (λ (q : ℕ). SlotFound (l.how j) run₁ q x.found (from_of noted j) (to_of noted j))
        (sym past_there) x.lies in
        let z = subst (λ (a : ℕ). SlotFound (l.how j) run₁ (behind ended) x.found a (to_of noted j))
        (sym (behind_there (j + j) (omega arith))) y in
        let q = subst (λ (a : ℕ). SlotFound (l.how j) run₁ (behind ended) x.found (from_of ended j) a)
        (sym (behind_there (j + j + 1) (omega arith))) z in
        subst (λ (c : Slot). SlotFound (l.how j) run₁ (behind ended) c (from_of ended j) (to_of ended j))
        (sym (x.is no_members ∙ joined_none x.found)) q

    pub gathering_end : Gathered l s run₀ run₁ first at ended
    unfolding known depthm
    gathering_end =
        record {
          spans = ended_length;
          all = puts no_members;
          reads = subst (λ (z : ℕ). Reads s (members (puts no_members)) first z) (sym end_there)
              (puts_reads no_members e (object_last d));
          knows = puts_knows no_members refl;
          shallow = puts_shallow no_members (omega arith);
          kept = kept_then g.low g.kept h.kept;
          low = omega (arith, g.low, h.order, past_there);
          high = omega (arith, h.inside, past_there);
          each = ended_each;
        }
