-- Values in a request: where they lie, which entry they meet, and which of them a row is asked for.
use mathlib.Core.Path.{◌≡◌, refl, sym, ap, ◌∙◌, subst}
use mathlib.Core.Bool.{Bool, true, false}
use mathlib.Core.List.{List}
use Prim.Native.Nat.{ℕ, ◌+◌}
use native.Mathlib.Omega.{arith}
use Rattle.chars.specs.Base.{pick}
use Rattle.syntax.specs.Policy.{Value, Row, Context}
use Rattle.held.specs.Held.{held_text, held_value, held_list, held_row, held_context}
use Rattle.held.specs.Lying.{Lies, Lying}
use Rattle.std.specs.Prelude.{Option, Some, None}
use Rattle.held.proofs.Laws.Parts.{BehindLabel, row_key_lies}
use Rattle.decision.specs.Decision.{Found, nothing, found, value_at}
use Rattle.decision.specs.Deciding.{Finds}
use Rattle.decision.proofs.Laws.DecidingRows.{Something, something, found_lying, found_lies, found_value_lying}
use Rattle.candidates.specs.Entries.{Place, meets_at}
use Rattle.rooms.specs.Rooms.{hit}
use Rattle.rooms.specs.Listing.{Valued, no_value, a_value, Carried, Asked, no_context, contexts, Asking}

none_some : {v : ℕ} → ◌≡◌ {A = Option ℕ} None (Some v) → ⊥
none_some e = cc

same_some : {u v : ℕ} → ◌≡◌ {A = Option ℕ} (Some u) (Some v) → u ≡ v
same_some e = cc

-- ---- values

pub record IsValue (at : List ℕ) (v : ℕ) (f : Found) : Type 0 where
  pub value : Value
  pub is : f ≡ found value
  pub lies : Lies at v (held_value value)

pub is_value : {at : List ℕ} {o : Option ℕ} {v : ℕ} {f : Found} → Valued at o f → o ≡ Some v → IsValue at v f
is_value no_value h = absurd (none_some h)
is_value {at} (a_value {v} {y} l) h =
    record { value = y; is = refl; lies = subst (λ (k : ℕ). Lies at k (held_value y)) (same_some h) l }

pub value_lying : {at : List ℕ} {o : Option ℕ} {v : ℕ} → Carried at o → o ≡ Some v → Lying held_value at v
value_lying y h =
    let t = is_value y.valued h in
    record { thing = t.value; lies = t.lies }

pub hit_none :
    {at : List ℕ} {o : Option ℕ} (p : Place) (x : Value) {f : Found} → Valued at o f → o ≡ None
    → Valued at None (hit p f x)
hit_none p x no_value e = no_value
hit_none p x (a_value l) e = absurd (none_some (sym e))

module _ {at : List ℕ} {v : ℕ} (p : Place) (x : Value) {f : Found} (t : IsValue at v f) where
  hit_is : (b : Bool) → meets_at p x t.value ≡ b → hit p f x ≡ pick b (found t.value) nothing
  hit_is b e = ap (λ (z : Found). hit p z x) t.is ∙ ap (λ (c : Bool). pick c (found t.value) nothing) e

  pub hit_value : meets_at p x t.value ≡ true → Valued at (Some v) (hit p f x)
  hit_value e = subst (Valued at (Some v)) (sym (hit_is true e)) (a_value t.lies)

  pub hit_apart : meets_at p x t.value ≡ false → Valued at None (hit p f x)
  hit_apart e = subst (Valued at None) (sym (hit_is false e)) no_value

-- ---- the value that a row is asked for

pub asked_none :
    {at : List ℕ} {o : Option ℕ} {cs : List Context} (k : List ℕ) → Asked at o cs → o ≡ None
    → Valued at None (value_at k cs)
unfolding value_at
asked_none k no_context e = no_value
asked_none k (contexts l) e = absurd (none_some (sym e))

pub asked_lie :
    {at : List ℕ} {o : Option ℕ} {v : ℕ} {cs : List Context} → Asked at o cs → o ≡ Some v
    → Lies at v (held_list held_context cs)
asked_lie no_context h = absurd (none_some h)
asked_lie {at} (contexts {v} {cs} l) h = subst (λ (k : ℕ). Lies at k (held_list held_context cs)) (same_some h) l

pub asking_lying :
    {at : List ℕ} {o : Option ℕ} {v : ℕ} → Asking at o → o ≡ Some v → Lying (held_list held_context) at v
asking_lying y h = record { thing = y.context; lies = asked_lie y.asked h }

pub found_none : {at : List ℕ} {r : Option ℕ} (f : Found) → Finds at r f → r ≡ None → Valued at None f
found_none nothing e h = no_value
found_none (found v) (p, e, y) h = let z : ◌≡◌ {A = Option ℕ} None (Some p) = sym h ∙ e in cc

pub value_there_is :
    {at : List ℕ} {v : ℕ} {f : Found} (y : Value) → f ≡ found y → Lies at v (held_value y) → Valued at (Some v) f
value_there_is {at} {v} {f} y e l = subst (Valued at (Some v)) (sym e) (a_value l)

-- ---- what a search for the row's key told

abbrev pub KeyFound : List ℕ → ℕ → List ℕ → ℕ → Option ℕ → Type 0
KeyFound run k at v r =
    (x : List ℕ) (cs : List Context) → Lies run k (held_text x) → Lies at v (held_list held_context cs)
    → Finds at r (value_at x cs)

module _ {run at : List ℕ} {p v : ℕ} (r : Option ℕ) (told : KeyFound run (p + 1) at v r) {o : Option ℕ} (h : o ≡ Some v) where
  module _ (x : Row) (cs : List Context) (l : Lies run p (held_row x)) (m : Asked at o cs) where
    row_finds : Finds at r (value_at x.key cs)
    row_finds = told x.key cs (row_key_lies x l) (asked_lie m h)

    pub row_nothing : r ≡ None → Valued at None (value_at x.key cs)
    row_nothing e = found_none (value_at x.key cs) row_finds e

    pub row_something : {c : ℕ} → r ≡ Some c → Something at c (value_at x.key cs)
    row_something e = something (value_at x.key cs) row_finds e

    pub row_value : {b c : ℕ} → r ≡ Some c → BehindLabel at c b → Valued at (Some b) (value_at x.key cs)
    row_value e far =
        let s = row_something e in
        value_there_is s.value s.is (found_lies s far)

  -- the context entry that is there
  module _ {c : ℕ} (y : Lying held_row run p) (z : Asking at o) (e : r ≡ Some c) where
    pub context_there : Lying held_context at c
    context_there = found_lying (row_something y.thing z.context y.lies z.asked e)

    pub value_there : {b : ℕ} → BehindLabel at c b → Lying held_value at b
    value_there far = found_value_lying (row_something y.thing z.context y.lies z.asked e) far
