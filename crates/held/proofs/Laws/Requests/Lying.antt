-- A context entry that lies in a run: where its key and its value lie, and what is behind it.
use mathlib.Core.Path.{◌≡◌, refl, sym, ◌∙◌}
use mathlib.Core.List.{List}
use Prim.Native.Nat.{ℕ, ◌+◌, ◌≤◌, ◌<◌}
use native.Mathlib.Omega.{arith}
use lib.ListN.{length, get_or}
use Rattle.syntax.specs.Policy.{Value, text, number, Context}
use Rattle.held.specs.Held.{held_value, type_number, held_context}
use Rattle.held.specs.Lying.{Lies}
use Rattle.held.proofs.Laws.Runs.{Named, named, named_past, lies_first, lies_inside, lies_end, value_long}

module _ {run : List ℕ} {p : ℕ} (x : Context) (l : Lies run p (held_context x)) where
  pub context_named : Named run p x.key (held_value x.value)
  unfolding held_context
  context_named = named x.key (held_value x.value) l

  pub context_inside : p < length run
  unfolding held_context
  context_inside = lies_inside l

  context_type : get_or run p 0 ≡ type_number x.value
  unfolding held_context
  context_type = lies_first l

  abbrev place : ℕ
  place = p + 2 + get_or run (p + 1) 0

  pub value_room : place + length (held_value x.value) ≤ length run
  value_room = lies_end context_named.rest

  pub value_inside : place < length run
  value_inside = omega (arith, value_room, value_long x.value)

  context_past : (q : ℕ) → q ≡ place + length (held_value x.value) → q ≡ p + length (held_context x)
  unfolding held_context
  context_past q e = named_past context_named e

  number_size : (v : Value) → type_number v ≡ 2 → length (held_value v) ≡ 2
  number_size (text cs) e = absurd (omega arith)
  number_size (number n) e = refl

  pub context_number : get_or run p 0 ≡ 2 → (place + 2 ≤ length run) × (place + 2 ≡ p + length (held_context x))
  context_number e =
      let k = number_size x.value (sym context_type ∙ e) in
      (omega (arith, k, value_room), context_past (place + 2) (omega (arith, k)))

  text_size : (v : Value) → (type_number v ≡ 2 → ⊥) → Lies run place (held_value v)
      → get_or run place 0 + 1 ≡ length (held_value v)
  text_size (text cs) e m = omega (arith, lies_first m)
  text_size (number n) e m = absurd (e refl)

  pub context_text : (get_or run p 0 ≡ 2 → ⊥)
      → (place + 1 + get_or run place 0 ≤ length run) × (place + 1 + get_or run place 0 ≡ p + length (held_context x))
  context_text e =
      let k = text_size x.value (λ z. e (context_type ∙ z)) context_named.rest in
      (omega (arith, k, value_room), context_past (place + 1 + get_or run place 0) (omega (arith, k)))
