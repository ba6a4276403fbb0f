-- A walk over an object's members comes to one more: its name is unknown, was met before, or fills its word's slot.
use mathlib.Core.Path.{◌≡◌, refl, sym, ap, ◌∙◌, subst}
use mathlib.Core.Bool.{true, false}
use mathlib.Core.Logic.{◌⊎◌, inl, inr}
use mathlib.Core.List.{List}
use Prim.Native.Nat.{ℕ, ◌+◌, ◌≤◌, ◌<◌}
use native.Mathlib.Omega.{arith}
use native.Mathlib.Decide.{ℕ_discrete}
use lib.ListN.{length, get_or, set, length-set}
use lib.Seq.{get_or-set_same, get_or-set_other}
use Rattle.chars.specs.Base.{part}
use Rattle.text.specs.Json.{Json, Members}
use Rattle.chars.specs.Decoding.{text_of, same_text}
use Rattle.text.specs.Contents.{Leads, Leader}
use Rattle.text.specs.declared.walk.Member.{Member}
use Rattle.text.specs.declared.walk.Member.TheVariants as M
use Rattle.syntax.specs.Forms.{Reading, wrong, both}
use Rattle.syntax.specs.Members.{Slot, none, one, many, slot, is_among, known, required}
use Rattle.parts.specs.Slots.{which_of, word_at, Placed, absent, stands, Turn, Repeated, Slotted}
use Rattle.parts.specs.Room.{cost, costm}
use Rattle.parts.proofs.Laws.Slots.{distinct, which_most, which_unknown, which_known, which_is, which_only}
use Rattle.parts.proofs.Laws.Slots.{joined, slot_other, slot_found, slot_again}
use Rattle.parts.proofs.Laws.Walking.{SoFar, Walking}

placed_none : {s : List ℕ} {p : ℕ} {x : Slot} → Placed s p x → x ≡ none → p ≡ 0
placed_none absent e = refl
placed_none (stands h q) e = absurd (let z : ◌≡◌ {A = ℕ} 0 1 = cc in omega arith)

placed_many : {s : List ℕ} {p : ℕ} {x : Slot} → Placed s p x → x ≡ many → ⊥
placed_many absent e = let z : ◌≡◌ {A = ℕ} 0 1 = cc in omega arith
placed_many (stands h q) e = let z : ◌≡◌ {A = ℕ} 0 1 = cc in omega arith

placed_zero : {s : List ℕ} {p : ℕ} {x : Slot} → Placed s p x → p ≡ 0 → x ≡ none
placed_zero absent e = refl
placed_zero (stands h q) e = absurd (omega arith)

module _ {s : List ℕ} {v : ℕ} {ns : List (List ℕ)} {places : List ℕ} {m : Member} (w : Walking s v ns places m)
    (n e x : ℕ) (q : m ≡ M.Named n e x) where
  pub leader : Leader s w.low w.rest w.stop n e x
  leader = subst (Leads s w.low w.rest w.stop) q w.leads

  pub rest_cost : costm w.rest ≡ length (part s n e) + 3 + cost leader.head + costm leader.tail
  unfolding costm
  rest_cost = ap costm leader.is

  wrongly : (known ns w.whole ≡ false) ⊎ Repeated ns w.whole → Slotted s ns w.whole w.stop places
  wrongly f = record { right = λ y. absurd (y w.flag); not_right = λ y. f }

  known_here : known ns w.whole ≡ both (is_among ns (part s n e)) (known ns leader.tail)
  unfolding known
  known_here = sym w.knows ∙ ap (known ns) leader.is

  pub walking_unknown : 0 ≡ which_of ns (part s n e) → Slotted s ns w.whole w.stop places
  walking_unknown z = wrongly (inl (known_here ∙ rw (which_unknown ns (part s n e) (sym z))))

  module _ (few : length ns ≤ 5) (k : ℕ) (z : k ≡ which_of ns (part s n e)) (nz : k ≡ 0 → ⊥) where
    found_one : which_of ns (part s n e) ≡ 0 → ⊥
    found_one y = nz (z ∙ y)

    pub turn : Turn ns k
    turn = record { from = omega arith; to = let h = which_most ns (part s n e) in omega arith }

    is_word_lem : same_text (text_of (part s n e)) (word_at ns k) ≡ true
    is_word_lem = ap (λ (j : ℕ). same_text (text_of (part s n e)) (word_at ns j)) z ∙ which_is ns (part s n e) found_one

    pub walking_repeated : (get_or places k 0 ≡ 0 → ⊥) → Slotted s ns w.whole w.stop places
    walking_repeated h = by (w.so_far k turn).found (w.so_far k turn).placed (w.so_far k turn).same
      where
        by : (x : Slot) → Placed s (get_or places k 0) x
            → joined x (slot (word_at ns k) w.rest) ≡ slot (word_at ns k) w.whole
            → Slotted s ns w.whole w.stop places
        by none p y = absurd (h (placed_none p refl))
        by many p y = absurd (placed_many p refl)
        by (one u) p y =
            wrongly (inr (record {
              turn = k;
              among = turn;
              many_times = sym y ∙ ap (λ (r : Members). joined (one u) (slot (word_at ns k) r)) leader.is
                  ∙ slot_again u (word_at ns k) (part s n e) leader.head leader.tail is_word_lem;
            }))

    -- the first member of its word
    first_is : get_or places k 0 ≡ 0
        → joined (one leader.head) (slot (word_at ns k) leader.tail) ≡ slot (word_at ns k) w.whole
    first_is zero-there =
        let f = w.so_far k turn in
        sym (slot_found (word_at ns k) (part s n e) leader.head leader.tail is_word_lem)
        ∙ sym (ap (λ (r : Members). joined none (slot (word_at ns k) r)) leader.is)
        ∙ ap (λ (i : Slot). joined i (slot (word_at ns k) w.rest)) (sym (placed_zero f.placed zero-there))
        ∙ f.same

    -- if it is wrong, so is what has to be there, whatever is to come
    pub walking_wrong : {A : Type 0} (f : Json → Reading A) → get_or places k 0 ≡ 0 → f leader.head ≡ wrong
        → required f (slot (word_at ns k) w.whole) ≡ wrong
    walking_wrong {A} f zero-there y =
        ap (required f) (sym (first_is zero-there)) ∙ by (slot (word_at ns k) leader.tail)
      where
        by : (x : Slot) → required f (joined (one leader.head) x) ≡ wrong
        by none = y
        by many = refl
        by (one u) = refl

    -- the slot of the turn is filled, the others stay
    fill : 0 < x → get_or places k 0 ≡ 0 → distinct ns ≡ true → (j : ℕ) → Turn ns j → Dec (j ≡ k)
        → SoFar s (word_at ns j) w.whole leader.tail (get_or (set places k x) j 0)
    fill h zero-there d j t (yes y) =
        let here : get_or (set places k x) j 0 ≡ x = ap (λ (i : ℕ). get_or (set places k x) i 0) y
        ∙ get_or-set_same places k x 0 (let a = w.size in let b = turn.to in let c = few in omega arith) in
        record {
          found = one leader.head;
          placed = subst (λ (i : ℕ). Placed s i (one leader.head)) (sym here) (stands h leader.stands);
          same = ap (λ (i : ℕ). joined (one leader.head) (slot (word_at ns i) leader.tail)) y
              ∙ first_is zero-there
              ∙ ap (λ (i : ℕ). slot (word_at ns i) w.whole) (sym y);
        }
    fill h zero-there d j t (no y) =
        let f = w.so_far j t in
        let other = which_only ns (part s n e) j d found_one t (λ i. y (i ∙ sym z)) in
        record {
          found = f.found;
          placed = subst (λ (i : ℕ). Placed s i f.found) (sym (get_or-set_other places k j x 0 y)) f.placed;
          same = sym (slot_other f.found (word_at ns j) (part s n e) leader.head leader.tail other)
              ∙ sym (ap (λ (r : Members). joined f.found (slot (word_at ns j) r)) leader.is)
              ∙ f.same;
        }

    pub walking_more : get_or places k 0 ≡ 0 → distinct ns ≡ true → (m' : Member)
        → Leads s leader.stop leader.tail w.stop m' → Walking s v ns (set places k x) m'
    unfolding known
    walking_more h d m' l =
        record {
          whole = w.whole;
          stop = w.stop;
          object_is = w.object_is;
          low = leader.stop;
          rest = leader.tail;
          leads = l;
          within = omega (arith, w.within, rest_cost);
          flag = get_or-set_other places k 0 x 0 (λ y. nz (sym y)) ∙ w.flag;
          size = length-set places k x ∙ w.size;
          knows = sym (known_here ∙ rw (which_known ns (part s n e) found_one));
          so_far = λ j t. fill (let a = leader.later in omega arith) h d j t (ℕ_discrete j k);
        }
