-- A statement from its members: each is held as its word's, and all of them are the statement that the object says.
use mathlib.Core.Path.{◌≡◌, refl, sym, ap, ◌∙◌, subst}
use mathlib.Core.Bool.{Bool, true, false}
use mathlib.Core.List.{List, [], ◌∷◌, ◌++◌, append_assoc}
use Prim.Native.Nat.{ℕ, zero, suc, ◌+◌, ◌≤◌, ◌<◌}
use native.Mathlib.Omega.{arith}
use lib.ListN.{length, get_or, set, take, length-set}
use lib.Seq.{get_or-set_same, get_or-set_other, take-set-le}
use Rattle.text.specs.Json.{object, Members, no_members, named, depth}
use Rattle.syntax.specs.Forms.{Reading, read, wrong, either, both}
use Rattle.syntax.specs.Members.{Slot, none, many, one, one_or_more, optional, required, is_word, slot, known, is_among}
use Rattle.syntax.specs.PolicyLayout.{sid_of, action_of, resource_of, condition_of, effect_of, statement_of, statement_in}
use Rattle.held.specs.Held.{held_text, held_list, held_value, held_row, held_statement}
use Rattle.chars.specs.Decoding.{text_of, same_text, meaning, units_behind, read_of, sequence_of, equal}
use Rattle.parts.specs.Slots.{word_at, which_of, Turn}
use Rattle.parts.proofs.Laws.Slots.{differs, distinct, both_true}
use Rattle.parts.specs.Holding.{entry_of}
use Rattle.parts.specs.declared.entries.Entry.TheVariants as E
use Rattle.parts.specs.declared.holding.Ended.{Ended}
use Rattle.objects.specs.declared.members.Word.{Word}
use Rattle.std.specs.Prelude.{Some, None}
use Rattle.straight.specs.Marks.{Opened}
use Rattle.straight.specs.Taking.{Taken}
use Rattle.straight.proofs.Laws.Reads.{object_some}
use Rattle.objects.specs.Telling.{Told, effect_named}
use Rattle.straight.proofs.Laws.AsTexts.{texts_laid}
use Rattle.straight.proofs.Laws.Taking.{retaken}
use Rattle.objects.specs.Gathering.{Parts, laid_as, told_as}
use Rattle.objects.specs.Statements.{statements}
use Rattle.chars.specs.Base.{pick}
use Rattle.syntax.specs.Policy.{Effect, Allow, Deny}
use Rattle.syntax.specs.Words.{allow_word, deny_word, sid_word, effect_word, action_word, resource_word, condition_word}
use Rattle.held.specs.Held.{effect_number}
use Rattle.parts.specs.Holding.{Extends, Laid, Kept}
use Rattle.parts.proofs.Laws.Extends.{extends_none, extends_front, extends_after}
use Rattle.parts.proofs.Laws.Formed.{then_read}
use Rattle.objects.specs.Spans.{from_of, to_of, behind, piece, in_turn, Span, Spanned}
use Rattle.objects.specs.Gathering.{told, SlotFound, Proper, Gathered}
use Rattle.objects.specs.Filling.{Ready, Filled}
use Rattle.objects.specs.Statements.{statement_how, Slots, statement_from, Sorted, Begun, labelled, bare}
use Rattle.objects.specs.Statements.{WithSid, there}
use Rattle.objects.specs.Statements.{lacking}
use Rattle.objects.proofs.Laws.Filling.{Whole, filled_whole, filled_other, filled_ready}
use Rattle.objects.proofs.Laws.Filling.{required_ready, ready_span}
use Rattle.objects.proofs.Laws.Filling.{ready_piece, optional_ready}
use Rattle.objects.proofs.Laws.Settling.{kept_less, extends_here}
use Rattle.objects.proofs.Laws.Gathering.{slot_none, extends_still, kept_then}
use Rattle.objects.proofs.Laws.Filling.{nothing_held, takes_part, tells_part}

-- ---- words

pub statements_proper : Proper statements
unfolding distinct differs equal which_of same_text text_of meaning units_behind read_of sequence_of
statements_proper = record { few = omega arith; apart = refl; itself = itself }
  where
    itself : (k : ℕ) → Turn statements.words k
        → which_of statements.words (word_at statements.words k) ≡ k
    itself zero t = absurd (let a = t.from in omega arith)
    itself (suc zero) t = refl
    itself (suc (suc zero)) t = refl
    itself (suc (suc (suc zero))) t = refl
    itself (suc (suc (suc (suc zero)))) t = refl
    itself (suc (suc (suc (suc (suc zero))))) t = refl
    itself (suc (suc (suc (suc (suc (suc k)))))) t = absurd (let a = t.to in omega arith)

-- the turn of an effect is the last
pub last_turn : (k : ℕ) → Turn statements.words k → (k ≡ 1 → ⊥) → (k ≡ 2 → ⊥) → (k ≡ 3 → ⊥) → (k ≡ 4 → ⊥) → k ≡ 5
last_turn zero t a b c d = absurd (let a = t.from in omega arith)
last_turn (suc zero) t a b c d = absurd (a refl)
last_turn (suc (suc zero)) t a b c d = absurd (b refl)
last_turn (suc (suc (suc zero))) t a b c d = absurd (c refl)
last_turn (suc (suc (suc (suc zero)))) t a b c d = absurd (d refl)
last_turn (suc (suc (suc (suc (suc zero))))) t a b c d = refl
last_turn (suc (suc (suc (suc (suc (suc k)))))) t a b c d = absurd (let a = t.to in omega arith)

-- the turns by their numbers
turned : (k : ℕ) → 0 < k → k ≤ 5 → Turn statements.words k
turned k o h = record { from = o; to = h }

-- ---- one member

module _ (s run run' : List ℕ) (v at : ℕ) (r : Ended) (low : at ≤ length run) where
  pub sid_part : Taken held_text sid_of 0 s run run' v at r.past r.end
      → Parts statements s run run' v at 1 (Some (laid_as r at))
  sid_part t = takes_part held_text sid_of (λ x. omega arith) statements 1 refl s run run' v at r (omega arith) low t

  pub action_part : Taken (held_list held_value) (one_or_more (entry_of E.Action)) 1 s run run' v at r.past r.end
      → Parts statements s run run' v at 2 (Some (laid_as r at))
  action_part t =
      takes_part (held_list held_text) (one_or_more action_of) (λ x. omega arith) statements 2 refl s run run' v at r
      (omega arith) low (retaken t (texts_laid action_of t.tree t.laid))

  pub resource_part : Taken (held_list held_value) (one_or_more (entry_of E.Resource)) 1 s run run' v at r.past r.end
      → Parts statements s run run' v at 3 (Some (laid_as r at))
  resource_part t =
      takes_part (held_list held_text) (one_or_more resource_of) (λ x. omega arith) statements 3 refl s run run' v at r
      (omega arith) low (retaken t (texts_laid resource_of t.tree t.laid))

  pub condition_part : Taken (held_list held_row) condition_of 3 s run run' v at r.past r.end
      → Parts statements s run run' v at 4 (Some (laid_as r at))
  condition_part t =
      takes_part (held_list held_row) condition_of (λ x. omega arith) statements 4 refl s run run' v at r
      (omega arith) low t

pub effect_part : (s run : List ℕ) (v at : ℕ) (r : Word) → at ≤ length run → Told effect_named s v r.number r.end
    → Parts statements s run run v at 5 (Some (told_as r at))
effect_part s run v at r low t = tells_part effect_named statements 5 refl s run v at r low t

-- ---- the effect

record Effective (x : Reading Effect) (k : ℕ) : Type 0 where
  effect : Effect
  said : x ≡ read effect
  is : k ≡ effect_number effect

-- the effect that a number tells
effective : (a d : Bool) {k : ℕ} → Some k ≡ pick a (Some 1) (pick d (Some 2) None)
    → Effective (pick a (read Allow) (pick d (read Deny) wrong)) k
effective true d i = record { effect = Allow; said = refl; is = cc }
effective false true i = record { effect = Deny; said = refl; is = cc }
effective false false i = absurd (cc)

effect_said : (run : List ℕ) (p : ℕ) (x : Slot) (from to : ℕ) → SlotFound (told effect_named) run p x from to
    → (to ≡ 0 → ⊥) → Effective (required effect_of x) from
unfolding effect_of
effect_said run p none from to y n = absurd (n y)
effect_said run p many from to y n = absurd y
effect_said run p (one t) from to y n = effective (is_word allow_word t) (is_word deny_word t) y.is

effect_few : (e : Effect) → effect_number e ≤ 2
effect_few Allow = omega arith
effect_few Deny = omega arith

-- ---- parts in the order of a statement

four_in_turn : (run m : List ℕ) {a b c d : List ℕ} → piece run m 1 ≡ a → piece run m 2 ≡ b → piece run m 3 ≡ c
    → piece run m 4 ≡ d → in_turn run m 4 ≡ a ++ (b ++ (c ++ d))
unfolding in_turn
four_in_turn run m {a} {b} {c} {d} p q r s =
    append_assoc (piece run m 1 ++ piece run m 2) (piece run m 3) (piece run m 4)
    ∙ append_assoc (piece run m 1) (piece run m 2) (piece run m 3 ++ piece run m 4)
    ∙ ap (λ (l : List ℕ). l ++ (piece run m 2 ++ (piece run m 3 ++ piece run m 4))) p
    ∙ ap (λ (l : List ℕ). a ++ (l ++ (piece run m 3 ++ piece run m 4))) q
    ∙ ap (λ (l : List ℕ). a ++ (b ++ (l ++ piece run m 4))) r
    ∙ ap (λ (l : List ℕ). a ++ (b ++ (c ++ l))) s

module _ {run m : List ℕ} {at : ℕ} {x : Slots} (w : Sorted run m at x) (n₁ : to_of m 1 ≡ 0 → ⊥) (n₂ : to_of m 2 ≡ 0 → ⊥)
    (n₃ : to_of m 3 ≡ 0 → ⊥) (n₅ : to_of m 5 ≡ 0 → ⊥) where
  found_effect : Effective (required effect_of x.effect) (from_of m 5)
  found_effect = effect_said run (behind m) x.effect (from_of m 5) (to_of m 5) w.effect n₅

  pub effect_small : from_of m 5 ≤ 2
  effect_small = omega (arith, found_effect.is, effect_few found_effect.effect)

  module _ {run₁ m₁ : List ℕ} (f : Filled (0 ∷ []) run run₁ m m₁ 4) where
    whole : Whole run run₁ m m₁
    whole = filled_whole w.size (omega arith) (omega arith) w.high f

    sid : Ready held_text (optional [] sid_of x.sid) run₁ m₁ 1
    sid =
        filled_other w.size (omega arith) (omega arith) w.high f (omega arith) (λ e. absurd (omega arith))
        (w.sid n₁)

    actions : Ready (held_list held_text) (required (one_or_more action_of) x.action) run₁ m₁ 2
    actions =
        filled_other w.size (omega arith) (omega arith) w.high f (omega arith) (λ e. absurd (omega arith))
        (required_ready (held_list held_text) (one_or_more action_of) run m 2 x.action w.action n₂)

    resources : Ready (held_list held_text) (required (one_or_more resource_of) x.resource) run₁ m₁ 3
    resources =
        filled_other w.size (omega arith) (omega arith) w.high f (omega arith) (λ e. absurd (omega arith))
        (required_ready (held_list held_text) (one_or_more resource_of) run m 3 x.resource w.resource n₃)

    rows : Ready (held_list held_row) (optional [] condition_of x.condition) run₁ m₁ 4
    rows =
        filled_ready w.size (omega arith) (omega arith) w.high (held_list held_row) condition_of [] x.condition
        (nothing_held held_row) w.condition f

    spans : (k : ℕ) → 0 < k → k ≤ 4 → Span m₁ k
    spans zero o h = absurd (omega arith)
    spans (suc zero) o h = ready_span sid
    spans (suc (suc zero)) o h = ready_span actions
    spans (suc (suc (suc zero))) o h = ready_span resources
    spans (suc (suc (suc (suc zero)))) o h = ready_span rows
    spans (suc (suc (suc (suc (suc k))))) o h = absurd (omega arith)

    pub arranged_spanned : Spanned run₁ m₁ 4 (at + 1)
    arranged_spanned =
        record {
          size = whole.size;
          few = omega arith;
          low = omega (arith, w.low, whole.more);
          high = whole.high;
          each = spans;
        }

    parts_held : in_turn run₁ m₁ 4 ≡ held_text sid.thing
        ++ (held_list held_text actions.thing ++ (held_list held_text resources.thing
        ++ held_list held_row rows.thing))
    parts_held =
        four_in_turn run₁ m₁ (ready_piece sid whole.high) (ready_piece actions whole.high)
        (ready_piece resources whole.high) (ready_piece rows whole.high)

    pub arranged_laid : {run₂ : List ℕ} {r : ℕ} → Extends run₁ run₂ (at + 1) (in_turn run₁ m₁ 4) r
        → Laid held_statement run (set run₂ at (from_of m 5)) at (statement_from x) r
    unfolding statement_from held_statement
    arranged_laid {run₂} {r} y =
        let low = w.low in
        let high = w.high in
        let k = kept_less (at + 1) low whole.kept in
        let e = found_effect in
        let z = extends_after k (subst (λ (xs : List ℕ). Extends run₁ run₂ (at + 1) xs r) parts_held y) in
        let all = extends_front (from_of m 5) (omega arith) z in
        record {
          thing = record {
            sid = sid.thing;
            effect = e.effect;
            actions = actions.thing;
            resources = resources.thing;
            rows = rows.thing;
          };
          said = then_read _ sid.said ∙ then_read _ e.said ∙ then_read _ actions.said
              ∙ then_read _ resources.said ∙ then_read _ rows.said;
          extends = subst (λ (q : ℕ). Extends run (set run₂ at (from_of m 5)) at
              (q ∷ (held_text sid.thing ++ (held_list held_text actions.thing
              ++ (held_list held_text resources.thing ++ held_list held_row rows.thing)))) r) e.is all;
        }

-- ---- a statement from its members

abbrev slots_in : Members → Slots
slots_in ms =
    record {
      sid = slot sid_word ms;
      effect = slot effect_word ms;
      action = slot action_word ms;
      resource = slot resource_word ms;
      condition = slot condition_word ms;
    }

-- the same words in another order
reordered : (s a r c e : Bool) → either s (either a (either r (either c (either e false)))) ≡ true
    → either s (either e (either a (either r (either c false)))) ≡ true
reordered true a r c e h = refl
reordered false a r c true h = refl
reordered false true r c false h = refl
reordered false false true c false h = refl
reordered false false false true false h = refl
reordered false false false false false h = h

both_are : {a b : Bool} → a ≡ true → b ≡ true → both a b ≡ true
both_are {b = b} p q = ap (λ (t : Bool). both t b) p ∙ q

known_anyhow : (ms : Members) → known statements.words ms ≡ true
    → known (sid_word ∷ effect_word ∷ action_word ∷ resource_word ∷ condition_word ∷ []) ms ≡ true
unfolding known is_among
known_anyhow no_members h = refl
known_anyhow (named w t ms) h =
    let b = both_true (is_among statements.words w) (known statements.words ms) h in
    both_are
    (reordered (same_text (text_of w) sid_word) (same_text (text_of w) action_word) (same_text (text_of w) resource_word)
    (same_text (text_of w) condition_word) (same_text (text_of w) effect_word) b.0)
    (known_anyhow ms b.1)

statement_is : (ms : Members) → known statements.words ms ≡ true
    → statement_of (object ms) ≡ statement_from (slots_in ms)
unfolding statement_of statement_in statement_from
statement_is ms h = ap (λ (t : Bool). pick t (statement_from (slots_in ms)) wrong) (known_anyhow ms h)

-- ---- a Sid of no characters

module _ {run run₁ : List ℕ} {at base : ℕ} (low : at + 2 ≤ length run) where
  pub begun_kept : Begun run run₁ at base → Kept run run₁ at
  begun_kept (labelled i e) = record { size = ap length e; is = ap (take at) e }
  begun_kept (bare i e) =
      record {
        size = ap length e ∙ length-set run (at + 1) 0;
        is = ap (take at) e ∙ take-set-le at run (at + 1) 0 (omega arith);
      }

  pub begun_low : Begun run run₁ at base → base ≤ length run₁
  begun_low (labelled i e) = omega (arith, ap length e)
  begun_low (bare i e) = omega (arith, ap length e, length-set run (at + 1) 0)

  pub begun_high : Begun run run₁ at base → at + 1 ≤ base
  begun_high (labelled i e) = omega arith
  begun_high (bare i e) = omega arith

  no_sid : Begun run run₁ at base → base ≡ at + 2 → Extends run₁ run₁ (at + 1) (0 ∷ []) (at + 2)
  no_sid (labelled i e) b = absurd (omega arith)
  no_sid (bare i e) b =
      let there : at + 1 + 1 ≡ at + 2 = omega arith in
      let x = extends_front 0 (omega arith) (extends_none run (at + 1 + 1)) in
      subst (λ (l : List ℕ). Extends l l (at + 1) (0 ∷ []) (at + 2)) (sym e)
      (subst (λ (q : ℕ). Extends (set run (at + 1) 0) (set run (at + 1) 0) (at + 1) (0 ∷ []) q) there
      (extends_here (omega arith) x))

module _ {s run run₁ run₂ m m₁ : List ℕ} {i at base : ℕ} (low : at + 2 ≤ length run) (b : Begun run run₁ at base)
    (gone : Gathered statements s run₁ run₂ i base m) where
  -- what the second walk over the spans left
  place : (w : WithSid m at base m₁) (j : ℕ) → (j ≡ 2 → ⊥) → (j ≡ 3 → ⊥) → get_or m₁ j 0 ≡ get_or m j 0
  place (there a e) j p q = ap (λ (z : List ℕ). get_or z j 0) e
  place (lacking a c e) j p q =
      ap (λ (z : List ℕ). get_or z j 0) e ∙ get_or-set_other (set m 2 (at + 1)) 3 j (at + 2) 0 q
      ∙ get_or-set_other m 2 j (at + 1) 0 p

  long : WithSid m at base m₁ → length m₁ ≡ 12
  long (there a e) = ap length e ∙ gone.spans
  long (lacking a c e) = ap length e ∙ length-set (set m 2 (at + 1)) 3 (at + 2) ∙ length-set m 2 (at + 1) ∙ gone.spans

  module _ (w : WithSid m at base m₁) where
    past : behind m₁ ≡ behind m
    past = place w 1 (λ e. absurd (omega arith)) (λ e. absurd (omega arith))

    sid_there : WithSid m at base m₁ → (to_of m₁ 1 ≡ 0 → ⊥)
        → Ready held_text (optional [] sid_of (slot sid_word gone.all)) run₂ m₁ 1
    sid_there (there a e) z =
        subst (λ (l : List ℕ). Ready held_text (optional [] sid_of (slot sid_word gone.all)) run₂ l 1) (sym e)
        (optional_ready held_text sid_of run₂ m 1 [] (slot sid_word gone.all)
        (gone.each 1 (turned 1 (omega arith) (omega arith))) a)
    sid_there (lacking a c e) z =
        let x = slot_none run₂ (behind m) (from_of m 1) (to_of m 1) (statement_how 1) (slot sid_word gone.all)
        (gone.each 1 (turned 1 (omega arith) (omega arith))) a in
        let from : from_of m₁ 1 ≡ at + 1 =
        ap (λ (l : List ℕ). get_or l 2 0) e
        ∙ get_or-set_other (set m 2 (at + 1)) 3 2 (at + 2) 0 (λ q. absurd (omega arith))
        ∙ get_or-set_same m 2 (at + 1) 0 (omega (arith, gone.spans)) in
        let to : to_of m₁ 1 ≡ at + 2 =
        ap (λ (l : List ℕ). get_or l 3 0) e
        ∙ get_or-set_same (set m 2 (at + 1)) 3 (at + 2) 0 (omega (arith, length-set m 2 (at + 1), gone.spans)) in
        let y = extends_still (omega (arith, c)) gone.kept (no_sid low b c) in
        record {
          thing = [];
          said = ap (optional [] sid_of) x;
          lies = subst (λ (p : ℕ). Extends run₂ run₂ p (0 ∷ []) (to_of m₁ 1)) (sym from)
              (subst (λ (p : ℕ). Extends run₂ run₂ (at + 1) (0 ∷ []) p) (sym to) y);
          inside = omega (arith, to, past, gone.low, c);
        }

    slot_at : (k : ℕ) → 1 < k → Turn statements.words k
        → SlotFound (statement_how k) run₂ (behind m₁) (slot (word_at statements.words k) gone.all) (from_of m₁ k)
        (to_of m₁ k)
    slot_at k o t =
        let x = slot (word_at statements.words k) gone.all in
        let y = subst (λ (p : ℕ). SlotFound (statement_how k) run₂ p x (from_of m k) (to_of m k)) (sym past)
        (gone.each k t) in
        let z = subst (λ (p : ℕ). SlotFound (statement_how k) run₂ (behind m₁) x p (to_of m k))
        (sym (place w (k + k) (λ e. absurd (omega arith)) (λ e. absurd (omega arith)))) y in
        subst (λ (p : ℕ). SlotFound (statement_how k) run₂ (behind m₁) x (from_of m₁ k) p)
        (sym (place w (k + k + 1) (λ e. absurd (omega arith)) (λ e. absurd (omega arith)))) z

    pub statement_sorted : Sorted run₂ m₁ at (slots_in gone.all)
    statement_sorted =
        record {
          size = long w;
          low = omega (arith, gone.low, past, begun_high low b);
          high = omega (arith, gone.high, past);
          sid = sid_there w;
          action = slot_at 2 (omega arith) (turned 2 (omega arith) (omega arith));
          resource = slot_at 3 (omega arith) (turned 3 (omega arith) (omega arith));
          condition = slot_at 4 (omega arith) (turned 4 (omega arith) (omega arith));
          effect = slot_at 5 (omega arith) (turned 5 (omega arith) (omega arith));
        }

    pub statement_taken : {run₃ : List ℕ} {v r : ℕ} → Opened s 123 v i
        → Laid held_statement run₂ run₃ at (statement_from (slots_in gone.all)) r
        → Taken held_statement statement_of 4 s run run₃ v at r (get_or m 0 0)
    unfolding depth
    statement_taken {v = v} o l =
        let k = kept_then (omega (arith, begun_high low b)) (begun_kept low b) gone.kept in
        record {
          tree = object gone.all;
          reads = object_some o gone.reads;
          shallow = omega (arith, gone.shallow);
          laid = record {
            thing = l.thing;
            said = statement_is gone.all gone.knows ∙ l.said;
            extends = extends_after k l.extends;
          };
        }
