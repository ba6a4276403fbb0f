-- A context entry from its members: each is held as its word's, the value's text is made a value of its type, and all
-- of them are the entry that the object says. Entries lie behind their number, and no two of them have one key.
use mathlib.Core.Path.{◌≡◌, refl, sym, ap, ◌∙◌, subst}
use mathlib.Core.Bool.{Bool, true, false}
use mathlib.Core.List.{List, [], ◌∷◌, ◌++◌}
use Prim.Native.Nat.{ℕ, zero, suc, ◌+◌, ◌-◌, ◌≤◌, ◌<◌}
use native.Mathlib.Omega.{arith}
use lib.Dec.{leb}
use lib.ListN.{length, get_or, set}
use borrow.Rule.Slice.PartMut.{mid_of}
use borrow.Author.Tests.{le-leb}
use Rattle.chars.specs.Base.{pick}
use Rattle.chars.specs.Decoding.{text_of, same_text, meaning, units_behind, read_of, sequence_of, equal}
use Rattle.text.specs.Json.{Json, null, bool, number, string, list, object, Values, no_more, Members, no_members, named}
use Rattle.text.specs.Json.{depth, depths, a_value, Reads}
use Rattle.syntax.specs.Limits.{run_numbers, entry_characters, most_context, greatest}
use Rattle.syntax.specs.Policy.{Value, text, Context}
use Rattle.syntax.specs.Policy as P
use Rattle.syntax.specs.Forms.{Reading, wrong, read, either, both, number_in}
use Rattle.syntax.specs.Words.{context_key_name_word, context_key_type_word, context_key_values_word}
use Rattle.syntax.specs.Members.{then, only, characters_of, Slot, none, many, one, slot, is_among, known, required, each}
use Rattle.syntax.specs.Members.{differ, differing}
use Rattle.syntax.specs.RecordLayout.{only_one, key_name_of, typed_of, context_of, same_context, contexts_of}
use Rattle.syntax.specs.Told.{told_number}
use Rattle.syntax.proofs.Laws.Numbers.{number_small}
use Rattle.held.specs.Held.{held_text, held_each, held_list, held_number, held_value, held_context}
use Rattle.parts.specs.Slots.{word_at, which_of, Turn}
use Rattle.parts.specs.Holding.{Extends, Laid}
use Rattle.parts.specs.Requests.{type_named, number_of_type, typed_as}
use Rattle.parts.specs.declared.holding.Ended.{Ended}
use Rattle.parts.specs.declared.words.ValueType.{ValueType}
use Rattle.parts.specs.declared.words.ValueType.TheVariants as V
use Rattle.objects.specs.declared.members.Word.{Word}
use Rattle.parts.proofs.Laws.Slots.{differs, distinct, both_true}
use Rattle.parts.proofs.Laws.Extends.{extends_front, extends_kept, extends_after, extends_within}
use Rattle.parts.proofs.Laws.Differ.{same_context_symmetric}
use Rattle.parts.proofs.Laws.Fits.{wrong_read}
use Rattle.parts.proofs.Laws.Formed.{then_read}
use Rattle.parts.proofs.Laws.Sofar.{apart_read}
use Rattle.parts.proofs.Laws.Requests.Laying.{number_read, number_said, extends_one}
use Rattle.parts.proofs.Laws.Requests.Tests.{typed_is, typed_text, typed_kind}
use Rattle.straight.specs.Marks.{Opened}
use Rattle.straight.specs.Taking.{Taken, TakenSeveral}
use Rattle.objects.specs.Telling.{Told, number_told, type_told, each_in}
use Rattle.straight.proofs.Laws.Reads.{object_some}
use Rattle.straight.proofs.Laws.Laying.{several_taken}
use Rattle.straight.proofs.Laws.Lists.{elements_of}
use Rattle.straight.proofs.Laws.Differing.{Kind}
use Rattle.objects.specs.Spans.{from_of, to_of, behind, piece, in_turn, Span, Spanned}
use Rattle.std.specs.Prelude.{Option, Some, None}
use Rattle.objects.specs.Gathering.{told, SlotFound, Parts, laid_as, told_as, Proper, Gathered}
use Rattle.objects.specs.Filling.{Ready, noted}
use Rattle.objects.specs.Contexts.{contexts, Slots, context_from, Sorted, type_from, Texting, Valued}
use Rattle.objects.specs.Contexts as C
use Rattle.objects.proofs.Laws.Settling.{kept_less, extends_here}
use Rattle.objects.proofs.Laws.Filling.{takes_part, tells_part, required_ready, ready_still, ready_span}
use Rattle.objects.proofs.Laws.Filling.{ready_piece, noted_length, noted_behind, noted_from, noted_to}
use Rattle.objects.proofs.Laws.Filling.{noted_other}

-- ---- words

pub contexts_proper : Proper contexts
unfolding distinct differs equal which_of same_text text_of meaning units_behind read_of sequence_of
contexts_proper = record { few = omega arith; apart = refl; itself = itself }
  where
    itself : (k : ℕ) → Turn contexts.words k → which_of contexts.words (word_at contexts.words k) ≡ k
    itself zero t = absurd (let a = t.from in omega arith)
    itself (suc zero) t = refl
    itself (suc (suc zero)) t = refl
    itself (suc (suc (suc zero))) t = refl
    itself (suc (suc (suc (suc k)))) t = absurd (let a = t.to in omega arith)

-- the turn of a type is the last
pub last_turn : (k : ℕ) → Turn contexts.words k → (k ≡ 1 → ⊥) → (k ≡ 2 → ⊥) → k ≡ 3
last_turn zero t a b = absurd (let a = t.from in omega arith)
last_turn (suc zero) t a b = absurd (a refl)
last_turn (suc (suc zero)) t a b = absurd (b refl)
last_turn (suc (suc (suc zero))) t a b = refl
last_turn (suc (suc (suc (suc k)))) t a b = absurd (let a = t.to in omega arith)

-- the turns by their numbers
turned : (k : ℕ) → 0 < k → k ≤ 3 → Turn contexts.words k
turned k o h = record { from = o; to = h }

-- ---- one member

module _ (s run run' : List ℕ) (v at : ℕ) where
  pub key_part : (r : Ended) → at ≤ length run → Taken held_text key_name_of 0 s run run' v at r.past r.end
      → Parts contexts s run run' v at 1 (Some (laid_as r at))
  key_part r low t =
      takes_part held_text key_name_of (λ x. omega arith) contexts 1 refl s run run' v at r (omega arith) low t

  pub value_part : (r : Ended) → at ≤ length run → Taken held_text (only_one characters_of) 1 s run run' v at r.past r.end
      → Parts contexts s run run' v at 2 (Some (laid_as r at))
  value_part r low t =
      takes_part held_text (only_one characters_of) (λ x. omega arith) contexts 2 refl s run run' v at r (omega arith) low
      t

pub type_part : (s run : List ℕ) (v at : ℕ) (r : Word) → at ≤ length run → Told type_told s v r.number r.end
    → Parts contexts s run run v at 3 (Some (told_as r at))
type_part s run v at r low t = tells_part type_told contexts 3 refl s run v at r low t

-- ---- a value from a text that lies in the run

module _ {run m : List ℕ} {x : Reading (List ℕ)} (t : Ready held_text x run m 2) where
  abbrev text_laid : Laid held_text run run (from_of m 2) x (to_of m 2)
  text_laid = record { thing = t.thing; said = t.said; extends = t.lies }

  text_low : behind m ≤ length run → from_of m 2 ≤ length run
  text_low high = omega (arith, t.lies.place, t.inside)

module _ {run m : List ℕ} (w : Texting run m) where
  texting_low : from_of m 2 ≤ length run
  texting_low = text_low w.text w.high

  pub text_valued : (k : ValueType) → k ≡ V.Text → to_of m 2 - (from_of m 2 + 1) ≤ entry_characters
      → C.Values run run m k (Some m)
  text_valued k i few = (
    w.size,
    λ x t. record {
      kept = record { size = refl; is = refl };
      more = omega arith;
      high = w.high;
      from = refl;
      to = refl;
      value = record {
        thing = text t.thing;
        said = ap (λ (j : ValueType). then x (typed_as j)) i ∙ then_read (typed_as V.Text) t.said
            ∙ typed_text t.thing (omega (arith, t.lies.place));
        lies = t.lies;
        inside = t.inside;
      };
    },
  )

  module _ (r : Option ℕ) (e : told_number r ≡ number_in (mid_of (from_of m 2 + 1) (to_of m 2 - (from_of m 2 + 1)) run))
      (k : ValueType) (h : k ≡ V.Number) (n : ℕ) (i : r ≡ Some n) where
    pub number_little : n ≤ greatest
    number_little = number_small w.text.thing (number_read texting_low (text_laid w.text) r e n i)

    -- a number's halves are laid behind all parts
    pub number_valued : {run₁ : List ℕ} {q : ℕ} → Extends run run₁ (behind m) (held_number n) q
        → C.Values run run₁ m k (Some (noted m 2 (behind m) q q))
    number_valued {run₁} {q} y =
        let few : 2 ≤ 5 = omega arith in
        let some : 0 < 2 = omega arith in
        let b = noted_behind m 2 (behind m) q q w.size some few in
        let f = noted_from m 2 (behind m) q q w.size some few in
        let t = noted_to m 2 (behind m) q q w.size some few in
        let m₁ = noted m 2 (behind m) q q in
        let z = extends_here w.high y in (
          noted_length m 2 (behind m) q q w.size some few,
          λ x u. record {
            kept = extends_kept y w.high;
            more = omega (arith, b, y.place);
            high = omega (arith, b, extends_within y w.high);
            from = noted_other m 2 (behind m) q q w.size some few 2 (omega arith) (λ a. absurd (omega arith))
                (λ a. absurd (omega arith));
            to = noted_other m 2 (behind m) q q w.size some few 3 (omega arith) (λ a. absurd (omega arith))
                (λ a. absurd (omega arith));
            value = record {
              thing = P.number n;
              said = ap (λ (j : ValueType). then x (typed_as j)) h
                  ∙ number_said (text_low u w.high) (text_laid u) r e n i;
              lies = subst (λ (p : ℕ). Extends run₁ run₁ p (held_number n) (to_of m₁ 2)) (sym f)
                  (subst (λ (p : ℕ). Extends run₁ run₁ (behind m) (held_number n) p) (sym t) z);
              inside = omega (arith, b, t);
            };
          },
        )

-- ---- the type

record TypeFound (x : Slot) (k : ℕ) : Type 0 where
  tree : Json
  here : x ≡ one tree
  is : Some (type_from k) ≡ type_named tree

type_is : (x : Option ValueType) (k : ℕ) → Some k ≡ number_told x → Some (type_from k) ≡ x
type_is (Some V.Text) k e = let z : k ≡ 1 = cc in ap (λ (j : ℕ). Some (type_from j)) z
type_is (Some V.Number) k e = let z : k ≡ 2 = cc in ap (λ (j : ℕ). Some (type_from j)) z
type_is None k e = absurd (let z : Some k ≡ None = e in cc)

type_found : (run : List ℕ) (p : ℕ) (x : Slot) (from to : ℕ) → SlotFound (told type_told) run p x from to
    → (to ≡ 0 → ⊥) → TypeFound x from
type_found run p none from to y n = absurd (n y)
type_found run p many from to y n = absurd y
type_found run p (one t) from to y n = record { tree = t; here = refl; is = type_is (type_named t) from y.is }

-- ---- parts in the order of a context entry

two_in_turn : (run m : List ℕ) {a b : List ℕ} → piece run m 1 ≡ a → piece run m 2 ≡ b → in_turn run m 2 ≡ a ++ b
unfolding in_turn
two_in_turn run m {a} {b} p q =
    ap (λ (l : List ℕ). l ++ piece run m 2) p ∙ ap (λ (l : List ℕ). a ++ l) q

module _ {run m : List ℕ} {at : ℕ} {x : Slots} (w : Sorted run m at x) (n₃ : to_of m 3 ≡ 0 → ⊥) (n₁ : to_of m 1 ≡ 0 → ⊥)
    (n₂ : to_of m 2 ≡ 0 → ⊥) where
  found : TypeFound x.type (from_of m 3)
  found = type_found run (behind m) x.type (from_of m 3) (to_of m 3) w.type n₃

  key : Ready held_text (required key_name_of x.key) run m 1
  key = required_ready held_text key_name_of run m 1 x.key w.key n₁

  characters : Ready held_text (required (only_one characters_of) x.value) run m 2
  characters = required_ready held_text (only_one characters_of) run m 2 x.value w.value n₂

  pub arranged_texting : Texting run m
  arranged_texting =
      record {
        size = w.size;
        high = w.high;
        bounded = w.bounded;
        said = required (only_one characters_of) x.value;
        text = characters;
      }

  module _ {run₁ m₁ : List ℕ} {kind : ValueType} (same : kind ≡ type_from (from_of m 3))
      (f : C.Values run run₁ m kind (Some m₁)) where
    valued : Valued run run₁ m m₁ kind (required (only_one characters_of) x.value)
    valued = f.1 _ characters

    key_still : Ready held_text (required key_name_of x.key) run₁ m₁ 1
    key_still = ready_still key valued.kept valued.more valued.from valued.to

    abbrev value : Value
    value = valued.value.thing

    spans : (k : ℕ) → 0 < k → k ≤ 2 → Span m₁ k
    spans zero o h = absurd (omega arith)
    spans (suc zero) o h = ready_span key_still
    spans (suc (suc zero)) o h = ready_span valued.value
    spans (suc (suc (suc k))) o h = absurd (omega arith)

    pub arranged_spanned : Spanned run₁ m₁ 2 (at + 1)
    arranged_spanned =
        record {
          size = f.0;
          few = omega arith;
          low = omega (arith, w.low, valued.more);
          high = valued.high;
          each = spans;
        }

    parts_held : in_turn run₁ m₁ 2 ≡ held_text key_still.thing ++ held_value value
    parts_held =
        two_in_turn run₁ m₁ (ready_piece key_still valued.high) (ready_piece valued.value valued.high)

    -- the text is of the type that was named
    said_as : typed_as kind characters.thing ≡ read value
    said_as = sym (then_read (typed_as kind) characters.said) ∙ valued.value.said

    said_of : typed_of found.tree characters.thing ≡ read value
    said_of = typed_is found.tree characters.thing kind (ap (λ (k : ValueType). Some k) same ∙ found.is) ∙ said_as

    pub arranged_laid : {run₂ : List ℕ} {n r : ℕ} → n ≡ number_of_type kind
        → Extends run₁ run₂ (at + 1) (in_turn run₁ m₁ 2) r
        → Laid held_context run (set run₂ at n) at (context_from x) r
    unfolding context_from held_context
    arranged_laid {run₂} {n} {r} is y =
        let low = w.low in
        let high = w.high in
        let k = kept_less (at + 1) low valued.kept in
        let z = extends_after k (subst (λ (xs : List ℕ). Extends run₁ run₂ (at + 1) xs r) parts_held y) in
        let all = extends_front n (omega arith) z in
        record {
          thing = record { key = key_still.thing; value = value };
          said = then_read _ key_still.said ∙ then_read _ (ap (required (λ t. read t)) found.here)
              ∙ then_read _ characters.said ∙ then_read _ said_of;
          extends = subst (λ (q : ℕ). Extends run (set run₂ at n) at
              (q ∷ (held_text key_still.thing ++ held_value value)) r)
              (is ∙ typed_kind kind characters.thing value said_as) all;
        }

-- ---- a context entry from its members

abbrev slots_in : Members → Slots
slots_in ms =
    record {
      key = slot context_key_name_word ms;
      type = slot context_key_type_word ms;
      value = slot context_key_values_word ms;
    }

-- the same words in another order
reordered : (k v t : Bool) → either k (either v (either t false)) ≡ true
    → either k (either t (either v false)) ≡ true
reordered true v t h = refl
reordered false v true h = refl
reordered false true false h = refl
reordered false false false h = h

both_are : {a b : Bool} → a ≡ true → b ≡ true → both a b ≡ true
both_are {b = b} p q = ap (λ (t : Bool). both t b) p ∙ q

known_anyhow : (ms : Members) → known contexts.words ms ≡ true
    → known (context_key_name_word ∷ context_key_type_word ∷ context_key_values_word ∷ []) ms ≡ true
unfolding known is_among
known_anyhow no_members h = refl
known_anyhow (named w t ms) h =
    let b = both_true (is_among contexts.words w) (known contexts.words ms) h in
    both_are
    (reordered (same_text (text_of w) context_key_name_word) (same_text (text_of w) context_key_values_word)
    (same_text (text_of w) context_key_type_word) b.0)
    (known_anyhow ms b.1)

context_is : (ms : Members) → known contexts.words ms ≡ true → context_of (object ms) ≡ context_from (slots_in ms)
unfolding context_of context_from
context_is ms h = ap (λ (t : Bool). pick t (context_from (slots_in ms)) wrong) (known_anyhow ms h)

module _ {s run run₁ m : List ℕ} {i : ℕ} (at : ℕ) (b : length run ≤ run_numbers)
    (gone : Gathered contexts s run run₁ i (at + 1) m) where
  pub context_sorted : Sorted run₁ m at (slots_in gone.all)
  context_sorted =
      record {
        size = gone.spans;
        low = gone.low;
        high = gone.high;
        bounded = omega (arith, gone.kept.size, b);
        key = gone.each 1 (turned 1 (omega arith) (omega arith));
        value = gone.each 2 (turned 2 (omega arith) (omega arith));
        type = gone.each 3 (turned 3 (omega arith) (omega arith));
      }

  pub context_taken : {run₂ : List ℕ} {v r : ℕ} → Opened s 123 v i
      → Laid held_context run₁ run₂ at (context_from (slots_in gone.all)) r
      → Taken held_context context_of 2 s run run₂ v at r (get_or m 0 0)
  unfolding depth
  context_taken o l =
      record {
        tree = object gone.all;
        reads = object_some o gone.reads;
        shallow = omega (arith, gone.shallow);
        laid = record {
          thing = l.thing;
          said = context_is gone.all gone.knows ∙ l.said;
          extends = extends_after (kept_less at (omega arith) gone.kept) l.extends;
        };
      }

-- ---- entries behind their number

pub none_taken : {s run : List ℕ} {v at e : ℕ} → at < length run → Reads s (a_value (list no_more)) v e
    → Taken (held_list held_context) contexts_of 3 s run (set run at 0) v at (at + 1) e
unfolding contexts_of each differ held_each depth depths
none_taken {run = run} {at = at} low r =
    record {
      tree = list no_more;
      reads = r;
      shallow = omega arith;
      laid = record { thing = []; said = refl; extends = extends_one run at 0 (omega arith) };
    }

-- a list of entries of which no two have one key
abbrev pub contexts_from : Json → Reading (List Context)
contexts_from t = then (each_in context_of t) (differing same_context)

abbrev apartly : Reading (List Context) → Reading (List Context)
apartly y = then y (differing same_context)

contexts_few : (t : Json) (cs : List Context) → contexts_from t ≡ read cs → length cs ≤ most_context
    → contexts_of t ≡ read cs
unfolding contexts_of
contexts_few null cs e m = e
contexts_few (bool b) cs e m = e
contexts_few (number w) cs e m = e
contexts_few (string w) cs e m = e
contexts_few (object ms) cs e m = e
contexts_few (list ts) cs e m = by (each context_of ts) e
  where
    only_read : (b : Bool) (ds : List Context) → only b ds ≡ read cs
        → only (both (leb (length ds) most_context) b) ds ≡ read cs
    only_read false ds q = wrong_read q
    only_read true ds q =
        let z : ds ≡ cs = cc in
        ap (λ (l : List Context). only (both (leb (length l) most_context) true) l) z
        ∙ ap (λ (t : Bool). only (both t true) cs) (le-leb (length cs) most_context m)

    by : (y : Reading (List Context)) → apartly y ≡ read cs
        → then y (λ ds. only (both (leb (length ds) most_context) (differ same_context ds)) ds) ≡ read cs
    by wrong q = q
    by (read ds) q = only_read (differ same_context ds) ds q

pub contexts_taken : {s run run₁ : List ℕ} {v at p e n : ℕ} → at < length run
    → TakenSeveral held_context contexts_from 3 s run run₁ v (at + 1) p e n
    → n ≤ most_context → Taken (held_list held_context) contexts_of 3 s run (set run₁ at n) v at p e
contexts_taken low t m =
    let g = t.gathered in
    several_taken low
    (record {
      tree = t.tree;
      reads = t.reads;
      shallow = t.shallow;
      gathered = record {
        things = g.things;
        said = contexts_few t.tree g.things g.said (omega (arith, g.count));
        count = g.count;
        extends = g.extends;
      };
    })

-- ---- entries of which no two have one key

abbrev pub entries : Kind Values Context
entries = record { frame = elements_of held_context context_of 2; alike = same_context; symmetric = same_context_symmetric }

pub entries_mean : (us : Values) (xs : List Context) → (us ≡ no_more → ⊥) → each context_of us ≡ read xs
    → differ same_context xs ≡ true → contexts_from (list us) ≡ read xs
entries_mean us xs n said still = apart_read same_context same_context_symmetric (each context_of us) xs said still
