-- A record from its members: each is held as its word's, and all of them are the request that the object says.
use mathlib.Core.Path.{◌≡◌, refl, ap, ◌∙◌, subst}
use mathlib.Core.Bool.{Bool, true}
use mathlib.Core.List.{List, [], ◌∷◌, ◌++◌, append_assoc}
use Prim.Native.Nat.{ℕ, zero, suc, ◌≤◌, ◌<◌}
use native.Mathlib.Omega.{arith}
use lib.ListN.{length, get_or}
use Rattle.chars.specs.Base.{pick}
use Rattle.chars.specs.Decoding.{text_of, same_text, meaning, units_behind, read_of, sequence_of, equal}
use Rattle.text.specs.Json.{object, Members, depth}
use Rattle.syntax.specs.Forms.{wrong}
use Rattle.syntax.specs.Words.{action_names_word, resource_arns_word, context_entries_word}
use Rattle.syntax.specs.Members.{required, optional, slot, known}
use Rattle.syntax.specs.RecordLayout.{only_one, action_name_of, resource_arn_of, contexts_of, request_of}
use Rattle.held.specs.Held.{held_text, held_list, held_context, held_request}
use Rattle.parts.specs.Slots.{word_at, which_of, Turn}
use Rattle.parts.specs.Holding.{Extends, Laid}
use Rattle.parts.specs.declared.holding.Ended.{Ended}
use Rattle.parts.proofs.Laws.Slots.{differs, distinct}
use Rattle.parts.proofs.Laws.Extends.{extends_after}
use Rattle.parts.proofs.Laws.Formed.{then_read}
use Rattle.straight.specs.Marks.{Opened}
use Rattle.straight.specs.Taking.{Taken}
use Rattle.straight.proofs.Laws.Reads.{object_some}
use Rattle.std.specs.Prelude.{Option, Some, None, IfSome}
use Rattle.objects.specs.Spans.{to_of, piece, in_turn, Span, Spanned, Settles}
use Rattle.objects.specs.Gathering.{Parts, laid_as, Proper, Gathered}
use Rattle.objects.specs.Filling.{Ready, Filled}
use Rattle.objects.specs.Records.{record_how, records, Slots, request_from, Sorted}
use Rattle.objects.proofs.Laws.Gathering.{kept_then}
use Rattle.objects.proofs.Laws.Filling.{nothing_held, takes_part, Whole, filled_whole, filled_other, filled_slot, filled_ready}
use Rattle.objects.proofs.Laws.Filling.{required_ready, ready_span, ready_piece}
use Rattle.objects.proofs.Laws.Settling.{kept_less}

-- ---- words

pub records_proper : Proper records
unfolding distinct differs equal which_of same_text text_of meaning units_behind read_of sequence_of
records_proper = record { few = omega arith; apart = refl; itself = itself }
  where
    itself : (k : ℕ) → Turn records.words k → which_of records.words (word_at records.words k) ≡ k
    itself zero t = absurd (let a = t.from in omega arith)
    itself (suc zero) t = refl
    itself (suc (suc zero)) t = refl
    itself (suc (suc (suc zero))) t = refl
    itself (suc (suc (suc (suc k)))) t = absurd (let a = t.to in omega arith)

-- the turn of context entries is the last
pub last_turn : (k : ℕ) → Turn records.words k → (k ≡ 1 → ⊥) → (k ≡ 2 → ⊥) → k ≡ 3
last_turn zero t a b = absurd (let a = t.from in omega arith)
last_turn (suc zero) t a b = absurd (a refl)
last_turn (suc (suc zero)) t a b = absurd (b refl)
last_turn (suc (suc (suc zero))) t a b = refl
last_turn (suc (suc (suc (suc k)))) t a b = absurd (let a = t.to in omega arith)

turned : (k : ℕ) → 0 < k → k ≤ 3 → Turn records.words k
turned k o h = record { from = o; to = h }

-- ---- one member

module _ (s run run' : List ℕ) (v at : ℕ) where
  pub action_part : (r : Ended) → at ≤ length run
      → Taken held_text (only_one action_name_of) 1 s run run' v at r.past r.end
      → Parts records s run run' v at 1 (Some (laid_as r at))
  action_part r low t =
      takes_part held_text (only_one action_name_of) (λ x. omega arith) records 1 refl s run run' v at r (omega arith) low t

  pub resource_part : (r : Ended) → at ≤ length run
      → Taken held_text (only_one resource_arn_of) 1 s run run' v at r.past r.end
      → Parts records s run run' v at 2 (Some (laid_as r at))
  resource_part r low t =
      takes_part held_text (only_one resource_arn_of) (λ x. omega arith) records 2 refl s run run' v at r
      (omega arith) low t

  pub contexts_part : (r : Ended) → at ≤ length run
      → Taken (held_list held_context) contexts_of 3 s run run' v at r.past r.end
      → Parts records s run run' v at 3 (Some (laid_as r at))
  contexts_part r low t =
      takes_part (held_list held_context) contexts_of (λ x. omega arith) records 3 refl s run run' v at r
      (omega arith) low t

-- ---- parts in the order of a request

three_in_turn : (run m : List ℕ) {a b c : List ℕ} → piece run m 1 ≡ a → piece run m 2 ≡ b → piece run m 3 ≡ c
    → in_turn run m 3 ≡ a ++ (b ++ c)
unfolding in_turn
three_in_turn run m {a} {b} {c} p q r =
    append_assoc (piece run m 1) (piece run m 2) (piece run m 3)
    ∙ ap (λ (l : List ℕ). l ++ (piece run m 2 ++ piece run m 3)) p
    ∙ ap (λ (l : List ℕ). a ++ (l ++ piece run m 3)) q ∙ ap (λ (l : List ℕ). a ++ (b ++ l)) r

module _ {run m : List ℕ} {x : Slots} (w : Sorted run m x) (n₁ : to_of m 1 ≡ 0 → ⊥) {run₁ m₁ : List ℕ}
    (f : Filled (1 ∷ 42 ∷ []) run run₁ m m₁ 2) where
  whole : Whole run run₁ m m₁
  whole = filled_whole w.size (omega arith) (omega arith) w.high f

  module _ {run₂ m₂ : List ℕ} (g : Filled (0 ∷ []) run₁ run₂ m₁ m₂ 3) where
    wholly : Whole run₁ run₂ m₁ m₂
    wholly = filled_whole whole.size (omega arith) (omega arith) whole.high g

    action : Ready held_text (required (only_one action_name_of) x.action) run₂ m₂ 1
    action =
        filled_other whole.size (omega arith) (omega arith) whole.high g (omega arith)
        (λ e. absurd (omega arith))
        (filled_other w.size (omega arith) (omega arith) w.high f (omega arith) (λ e. absurd (omega arith))
        (required_ready held_text (only_one action_name_of) run m 1 x.action w.action n₁))

    resource : Ready held_text (optional (42 ∷ []) (only_one resource_arn_of) x.resource) run₂ m₂ 2
    resource =
        filled_other whole.size (omega arith) (omega arith) whole.high g (omega arith)
        (λ e. absurd (omega arith))
        (filled_ready w.size (omega arith) (omega arith) w.high held_text (only_one resource_arn_of) (42 ∷ [])
        x.resource refl w.resource f)

    contexts : Ready (held_list held_context) (optional [] contexts_of x.contexts) run₂ m₂ 3
    contexts =
        filled_ready whole.size (omega arith) (omega arith) whole.high (held_list held_context) contexts_of []
        x.contexts (nothing_held held_context)
        (filled_slot w.size (omega arith) (omega arith) w.high (record_how 3) x.contexts 3 f (omega arith)
        (λ e. absurd (omega arith)) w.contexts) g

    spans : (k : ℕ) → 0 < k → k ≤ 3 → Span m₂ k
    spans zero o h = absurd (omega arith)
    spans (suc zero) o h = ready_span action
    spans (suc (suc zero)) o h = ready_span resource
    spans (suc (suc (suc zero))) o h = ready_span contexts
    spans (suc (suc (suc (suc k)))) o h = absurd (omega arith)

    pub arranged_spanned : Spanned run₂ m₂ 3 0
    arranged_spanned =
        record {
          size = wholly.size;
          few = omega arith;
          low = omega arith;
          high = wholly.high;
          each = spans;
        }

    parts_held : in_turn run₂ m₂ 3 ≡ held_text action.thing
        ++ (held_text resource.thing ++ held_list held_context contexts.thing)
    parts_held =
        three_in_turn run₂ m₂ (ready_piece action wholly.high) (ready_piece resource wholly.high)
        (ready_piece contexts wholly.high)

    arranged_laid : {run₃ : List ℕ} {r : ℕ} → Extends run₂ run₃ 0 (in_turn run₂ m₂ 3) r
        → Laid held_request run run₃ 0 (request_from x) r
    unfolding request_from held_request
    arranged_laid {run₃} {r} y =
        let k = kept_less 0 (omega arith) (kept_then (omega arith) (kept_less 0 (omega arith) whole.kept)
        wholly.kept) in
        record {
          thing = record { action = action.thing; resource = resource.thing; context = contexts.thing };
          said = then_read _ action.said ∙ then_read _ resource.said ∙ then_read _ contexts.said;
          extends = extends_after k (subst (λ (xs : List ℕ). Extends run₂ run₃ 0 xs r) parts_held y);
        }

    pub request_settled : (run₃ : List ℕ) (r : Option ℕ) → Settles run₂ run₃ m₂ 3 0 r
        → IfSome r (Laid held_request run run₃ 0 (request_from x))
    request_settled run₃ (Some p) y = arranged_laid y
    request_settled run₃ None y = tt

-- ---- a record from its members

abbrev slots_in : Members → Slots
slots_in ms =
    record {
      action = slot action_names_word ms;
      resource = slot resource_arns_word ms;
      contexts = slot context_entries_word ms;
    }

request_is : (ms : Members) → known records.words ms ≡ true → request_of (object ms) ≡ request_from (slots_in ms)
unfolding request_of request_from
request_is ms h = ap (λ (t : Bool). pick t (request_from (slots_in ms)) wrong) h

module _ {s run run₁ m : List ℕ} {i : ℕ} (g : Gathered records s run run₁ i 0 m) where
  pub request_sorted : Sorted run₁ m (slots_in g.all)
  request_sorted =
      record {
        size = g.spans;
        high = g.high;
        action = g.each 1 (turned 1 (omega arith) (omega arith));
        resource = g.each 2 (turned 2 (omega arith) (omega arith));
        contexts = g.each 3 (turned 3 (omega arith) (omega arith));
      }

  pub request_taken : {run₂ : List ℕ} {v r : ℕ} → Opened s 123 v i
      → Laid held_request run₁ run₂ 0 (request_from (slots_in g.all)) r
      → Taken held_request request_of 4 s run run₂ v 0 r (get_or m 0 0)
  unfolding depth
  request_taken o l =
      record {
        tree = object g.all;
        reads = object_some o g.reads;
        shallow = omega (arith, g.shallow);
        laid = record {
          thing = l.thing;
          said = request_is g.all g.knows ∙ l.said;
          extends = extends_after g.kept l.extends;
        };
      }
