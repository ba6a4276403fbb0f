-- Room: a value's cost is within the bytes that it stands in, and the members that a layout finds share their object's.
--   cost_within    a value's cost ends one byte behind it at most
--   slots_room     the members of distinct words cost no more than all members
--   layout_room    so do those of a layout;  turn_value   what the member of one turn costs
use mathlib.Core.Path.{◌≡◌, refl, sym, ap, ◌∙◌}
use mathlib.Core.Bool.{Bool, true, false}
use mathlib.Core.List.{List, [], ◌∷◌}
use Prim.Native.Nat.{ℕ, zero, suc, ◌+◌, ◌-◌, ◌≤◌}
use native.Mathlib.Omega.{arith}
use lib.ListN.{length, drop, length-drop}
use lib.Seq.{length-take-le}
use Rattle.chars.specs.Base.{pick}
use Rattle.text.specs.Json.{Json, null, bool, number, string, list, object, Values, Members}
use Rattle.text.specs.Json.{no_members, named, Spelt, Quoted, Piece, a_value, elements, rest, members, more, Reads}
use Rattle.text.specs.Json.{a_null, a_true, a_false, a_number, a_string, empty_list, some_list, element, close_list}
use Rattle.text.specs.Json.{comma_list, empty_object, some_object, member, close_object, comma_object}
use Rattle.chars.specs.Decoding.{text_of, equal, same_text}
use Rattle.text.specs.Contents.{Stands}
use Rattle.text.proofs.Laws.Spaces.{space_low}
use Rattle.chars.proofs.Laws.Strings.Lengths.{chars_few}
use Rattle.syntax.specs.Members.{Slot, none, one, many, again, slot}
use Rattle.parts.specs.Slots.{words_of, word_at, Turn}
use Rattle.parts.specs.Room.{cost, costs, costm, Roomy}
use Rattle.parts.specs.declared.members.Layout.{Layout}
use Rattle.parts.proofs.Laws.Slots.{true_false, both_true, same_chars, differs, distinct, equal_refl}
use Rattle.parts.proofs.Laws.Slots.{word_next, bool_not}
use Rattle.parts.proofs.Laws.Walking.{layout_distinct}

-- ---- a value's cost is within its bytes

spelt_length : {s w : List ℕ} {a e : ℕ} → Spelt s w a e → e ≡ a + length w
spelt_length {s} {w} {a} {e} p =
    let l = ap length (sym p.is) ∙ length-take-le (e - a) (drop a s) (omega (arith, length-drop a s, p.inside)) in
    omega (arith, l, p.order)

quoted_length : {s w : List ℕ} {a e : ℕ} → Quoted s w a e → e ≡ a + (length w + 2)
quoted_length p = omega (arith, spelt_length p.spelt, p.past)

-- what a piece costs up to its end
abbrev Within : Piece → ℕ → ℕ → Type 0
Within (a_value t) i e = i + cost t ≤ e + 1
Within (elements ts) i e = i + costs ts ≤ e
Within (rest ts) i e = i + 1 + costs ts ≤ e
Within (members ms) i e = i + costm ms ≤ e
Within (more ms) i e = i + 1 + costm ms ≤ e

reads_within : {s : List ℕ} {p : Piece} {i e : ℕ} → Reads s p i e → Within p i e
unfolding cost costs costm
reads_within (a_null x) = omega (arith, spelt_length x)
reads_within (a_true x) = omega (arith, spelt_length x)
reads_within (a_false x) = omega (arith, spelt_length x)
reads_within (a_number x n) = omega (arith, spelt_length x)
reads_within (a_string q) = omega (arith, quoted_length q)
reads_within (empty_list o w p) = omega (arith, space_low w)
reads_within (some_list o w r) = omega (arith, space_low w, reads_within r)
reads_within (element v r) = omega (arith, reads_within v, reads_within r)
reads_within (close_list w p) = omega (arith, space_low w)
reads_within (comma_list w o x r) = omega (arith, space_low w, space_low x, reads_within r)
reads_within (empty_object o w p) = omega (arith, space_low w)
reads_within (some_object o w r) = omega (arith, space_low w, reads_within r)
reads_within (member q w o x v r) =
    omega (arith, quoted_length q, space_low w, space_low x, reads_within v, reads_within r)
reads_within (close_object w p) = omega (arith, space_low w)
reads_within (comma_object w o x r) = omega (arith, space_low w, space_low x, reads_within r)

pub cost_within : {s : List ℕ} {t : Json} {v e : ℕ} → Stands s t v e → v + cost t ≤ e + 1
cost_within p = reads_within p.reads

pub cost_list : (ts : Values) → cost (list ts) ≡ 2 + costs ts
unfolding cost
cost_list ts = refl

pub cost_object : (ms : Members) → cost (object ms) ≡ 2 + costm ms
unfolding cost
cost_object ms = refl

pub cost_some : (t : Json) → 1 ≤ cost t
unfolding cost
cost_some null = omega arith
cost_some (bool b) = omega arith
cost_some (number w) = omega arith
cost_some (string w) = omega arith
cost_some (list ts) = omega arith
cost_some (object ms) = omega arith

-- ---- members by their words

abbrev pub slot_cost : List ℕ → Slot → ℕ
slot_cost n none = 0
slot_cost n many = 0
slot_cost n (one t) = length n + 3 + cost t

unfoldable pub slots_cost : List (List ℕ) → Members → ℕ
slots_cost [] ms = 0
slots_cost (n ∷ ns) ms = slot_cost n (slot n ms) + slots_cost ns ms

none_cost : (ns : List (List ℕ)) → slots_cost ns no_members ≡ 0
unfolding slots_cost slot
none_cost [] = refl
none_cost (n ∷ ns) = omega (arith, none_cost ns)

-- one member more, of the word or of another name
again_cost : (n : List ℕ) (t : Json) (x : Slot) → slot_cost n (again t x) ≤ length n + 3 + cost t + slot_cost n x
again_cost n t none = omega arith
again_cost n t many = omega arith
again_cost n t (one u) = omega arith

word_few : (w n : List ℕ) → same_text (text_of w) n ≡ true → length n ≤ length w
word_few w n e = omega (arith, chars_few w, ap length (same_chars (text_of w) n e))

-- a name that spells a word spells none that differs from it
other_word : (w n m : List ℕ) → same_text (text_of w) n ≡ true → equal n m ≡ false → same_text (text_of w) m ≡ false
other_word w n m e d =
    bool_not (same_text (text_of w) m)
    (λ f.
    let same : n ≡ m = sym (same_chars (text_of w) n e) ∙ same_chars (text_of w) m f in
    true_false (ap (equal n) (sym same) ∙ equal_refl n) d)

differs_first : (t u : Bool) → pick t false u ≡ true → (t ≡ false) × (u ≡ true)
differs_first true u e = absurd (true_false e refl)
differs_first false u e = (refl, e)

other_slot : (m w : List ℕ) (t : Json) (ms : Members) → same_text (text_of w) m ≡ false
    → slot m (named w t ms) ≡ slot m ms
unfolding slot
other_slot m w t ms e = rw e

own_slot : (n w : List ℕ) (t : Json) (ms : Members) → same_text (text_of w) n ≡ true
    → slot n (named w t ms) ≡ again t (slot n ms)
unfolding slot
own_slot n w t ms e = rw e

other_cost : (ns : List (List ℕ)) (n w : List ℕ) (t : Json) (ms : Members) → same_text (text_of w) n ≡ true
    → differs n ns ≡ true → slots_cost ns (named w t ms) ≡ slots_cost ns ms
unfolding slots_cost differs
other_cost [] n w t ms e d = refl
other_cost (m ∷ ns) n w t ms e d =
    let f = differs_first (equal n m) (differs n ns) d in
    let z = ap (slot_cost m) (other_slot m w t ms (other_word w n m e f.0)) in
    omega (arith, z, other_cost ns n w t ms e f.1)

-- one member more costs what it costs by itself at most
more_cost : (ns : List (List ℕ)) (w : List ℕ) (t : Json) (ms : Members) → distinct ns ≡ true
    → slots_cost ns (named w t ms) ≤ length w + 3 + cost t + slots_cost ns ms
unfolding slots_cost distinct
more_cost [] w t ms d = omega arith
more_cost (n ∷ ns) w t ms d =
    let apart = both_true (differs n ns) (distinct ns) d in
    by (same_text (text_of w) n) refl apart.0 (more_cost ns w t ms apart.1)
  where
    by : (b : Bool) → same_text (text_of w) n ≡ b → differs n ns ≡ true
        → slots_cost ns (named w t ms) ≤ length w + 3 + cost t + slots_cost ns ms
        → slot_cost n (slot n (named w t ms)) + slots_cost ns (named w t ms)
        ≤ length w + 3 + cost t + (slot_cost n (slot n ms) + slots_cost ns ms)
    by true e f h =
        let z = ap (slot_cost n) (own_slot n w t ms e) in
        omega (arith, z, again_cost n t (slot n ms), word_few w n e, other_cost ns n w t ms e f)
    by false e f h =
        let z = ap (slot_cost n) (other_slot n w t ms e) in
        omega (arith, z, h)

pub slots_room : (ns : List (List ℕ)) (ms : Members) → distinct ns ≡ true → slots_cost ns ms ≤ costm ms
unfolding costm
slots_room ns no_members d = omega (arith, none_cost ns)
slots_room ns (named w t ms) d = omega (arith, more_cost ns w t ms d, slots_room ns ms d)

-- ---- what the members of a layout may take

-- all of them, word by word: unfold `slots_cost`
pub layout_room : (l : Layout) (ms : Members) → slots_cost (words_of l) ms ≤ costm ms
layout_room l ms = slots_room (words_of l) ms (layout_distinct l)

-- one of them
turn_slots : (ns : List (List ℕ)) (k : ℕ) (ms : Members) → Turn ns k
    → slot_cost (word_at ns k) (slot (word_at ns k) ms) ≤ slots_cost ns ms
unfolding slots_cost
turn_slots [] k ms t = absurd (omega (arith, t.from, t.to))
turn_slots (n ∷ ns) zero ms t = absurd (omega (arith, t.from))
turn_slots (n ∷ ns) (suc zero) ms t = omega arith
turn_slots (n ∷ ns) (suc (suc k)) ms t =
    let z = ap (λ (m : List ℕ). slot_cost m (slot m ms)) (word_next n ns (suc k) (omega arith)) in
    let h = turn_slots ns (suc k) ms (record { from = omega arith; to = omega (arith, t.to) }) in
    omega (arith, z, h)

pub turn_cost : (l : Layout) (k : ℕ) (ms : Members) → Turn (words_of l) k
    → slot_cost (word_at (words_of l) k) (slot (word_at (words_of l) k) ms) ≤ costm ms
turn_cost l k ms t = let h = turn_slots (words_of l) k ms t in omega (arith, h, layout_room l ms)

pub turn_value : (l : Layout) (k : ℕ) (ms : Members) (t : Json) → Turn (words_of l) k
    → slot (word_at (words_of l) k) ms ≡ one t → length (word_at (words_of l) k) + 3 + cost t ≤ costm ms
turn_value l k ms t h e = let z = ap (slot_cost (word_at (words_of l) k)) e in omega (arith, z, turn_cost l k ms h)

-- ---- room for less

pub roomy_less : {run run' : List ℕ} {at n at' n' : ℕ} → Roomy run at n → length run' ≡ length run
    → at' + n' ≤ at + n → Roomy run' at' n'
roomy_less r e h = record { room = omega (arith, r.room); bounded = omega (arith, r.bounded) }
