-- What the twin calls whole the grammar reads: from the end of the text back, since every inner piece begins later.
use mathlib.Core.Path.{◌≡◌, refl, sym, ◌∙◌, subst}
use mathlib.Core.Bool.{true, false}
use mathlib.Core.Logic.{◌⊎◌, inl, inr}
use mathlib.Core.List.{List, [], ◌∷◌, ◌++◌}
use Prim.Native.Nat.{ℕ, ◌+◌, ◌≤◌, ◌<◌}
use native.Mathlib.Omega.{arith}
use native.Mathlib.Decide.{dec_lt, ℕ_discrete}
use lib.ListN.{length, get_or}
use Rattle.text.specs.Json.{Values, Members, also, named, null, bool, depth, depths, depthm, Space, elements}
use Rattle.text.specs.Json.{rest, members, a_null, a_true, a_false, element, member}
use Rattle.text.specs.Machine.{Item, bad, ws, byte, text, value, next, before, inner, move, optional, verdict_at}
use Rattle.text.specs.Verdicts.{Text}
use Rattle.std.specs.Prelude.{Ok}
use Rattle.text.specs.declared.scan.Shape.TheVariants.{List as a_list, Object as an_object}
use Rattle.text.proofs.Laws.Places.{Alive, alive_inside, not_whole, past_end}
use Rattle.text.proofs.Laws.Taking.Items.{from_end, alive_refuses, alive_byte}
use Rattle.text.proofs.Laws.Taking.Spaces.{alive_space}
use Rattle.text.proofs.Laws.Taking.Strings.{alive_text, closed_quoted}
use Rattle.text.proofs.Laws.Spaces.{space_low}
use Rattle.text.proofs.Laws.Moves.Values.{value_false, value_none, value_null, value_true}
use Rattle.text.proofs.Laws.Sound.Finding.{Found, found_with, Value, All, Later}
use Rattle.text.proofs.Laws.Sound.Leaves.{word_value, string_value, negative_value, unsigned_value}
use Rattle.text.proofs.Laws.Sound.Inner.{list_value, object_value, rest_value, more_value}
pub mod Finding
pub mod Inner
pub mod Leaves

-- what a value's first byte can be
data Begins (b : ℕ) : Type 0 where
  quote : b ≡ 34 → Begins b
  minus : b ≡ 45 → Begins b
  digit : 48 ≤ b → b < 58 → Begins b
  bracket : b ≡ 91 → Begins b
  f_alse : b ≡ 102 → Begins b
  n_ull : b ≡ 110 → Begins b
  t_rue : b ≡ 116 → Begins b
  brace : b ≡ 123 → Begins b
  nothing : ((n : ℕ) → move (value n) b ≡ bad) → Begins b

begins : (b : ℕ) → Begins b
begins b = by (ℕ_discrete b 34) (ℕ_discrete b 45) (dec_lt b 48) (dec_lt b 58)
  where
    other : (b ≡ 34 → ⊥) → (b ≡ 45 → ⊥) → b < 48 ⊎ 57 < b → Dec (b ≡ 91) → Dec (b ≡ 102) → Dec (b ≡ 110)
        → Dec (b ≡ 116) → Dec (b ≡ 123) → Begins b
    other p q r (yes e) d2 d3 d4 d5 = bracket e
    other p q r (no n1) (yes e) d3 d4 d5 = f_alse e
    other p q r (no n1) (no n2) (yes e) d4 d5 = n_ull e
    other p q r (no n1) (no n2) (no n3) (yes e) d5 = t_rue e
    other p q r (no n1) (no n2) (no n3) (no n4) (yes e) = brace e
    other p q r (no n1) (no n2) (no n3) (no n4) (no n5) = nothing (λ n. value_none b n p q r n1 n2 n3 n4 n5)

    else : (b ≡ 34 → ⊥) → (b ≡ 45 → ⊥) → b < 48 ⊎ 57 < b → Begins b
    else p q r =
        other p q r (ℕ_discrete b 91) (ℕ_discrete b 102) (ℕ_discrete b 110) (ℕ_discrete b 116) (ℕ_discrete b 123)

    by : Dec (b ≡ 34) → Dec (b ≡ 45) → Dec (b < 48) → Dec (b < 58) → Begins b
    by (yes e) d2 d3 d4 = quote e
    by (no p) (yes e) d3 d4 = minus e
    by (no p) (no q) (yes l) d4 = else p q (inl l)
    by (no p) (no q) (no l) (yes u) = digit (omega arith) u
    by (no p) (no q) (no l) (no u) = else p q (inr (omega arith))

any_value : {s : List ℕ} {i : ℕ} (n : ℕ) (ys : List Item) → Later s i → Alive s (value n ∷ ys) i → Value s n ys i
unfolding optional depth
any_value {s} {i} n ys on v = by (alive_inside (value n) ys refl v) (begins (get_or s i 0))
  where
    by : i < length s → Begins (get_or s i 0) → Value s n ys i
    by h (quote e) = string_value n ys v h e
    by h (minus e) = negative_value n ys v h e
    by h (digit l u) = unsigned_value n ys v h l u
    by h (bracket e) = list_value n ys on h e v
    by h (f_alse e) =
        word_value n ys v h 102 (97 ∷ 108 ∷ 115 ∷ 101 ∷ []) (bool false) e (value_false _ n e) (λ e g. a_false g) refl
    by h (n_ull e) = word_value n ys v h 110 (117 ∷ 108 ∷ 108 ∷ []) null e (value_null _ n e) (λ e g. a_null g) refl
    by h (t_rue e) =
        word_value n ys v h 116 (114 ∷ 117 ∷ 101 ∷ []) (bool true) e (value_true _ n e) (λ e g. a_true g) refl
    by h (brace e) = object_value n ys on h e v
    by h (nothing m) = absurd (alive_refuses (value n) ys v h (m n))

some_elements : {s : List ℕ} {i : ℕ} (n : ℕ) (ys : List Item) → Later s i → Alive s (inner a_list n ++ ys) i
    → Found Values elements depths s n ys i
unfolding depth
some_elements n ys on v =
    let t = any_value n (ws ∷ next a_list n ∷ ys) on v in
    let r = (on t.stop t.later t.next.high).rest_at n ys t.next in
    found_with r (also t.what r.what) (element t.reads r.reads) (omega (arith, t.shallow, r.shallow))
    (omega (arith, t.later))

some_members : {s : List ℕ} {i : ℕ} (n : ℕ) (ys : List Item) → Later s i
    → Alive s ((before an_object ++ inner an_object n) ++ ys) i → Found Members members depthm s n ys i
unfolding depth
some_members n ys on v =
    let rest = ws ∷ next an_object n ∷ ys in
    let o = alive_byte 34 (text ∷ ws ∷ byte 58 ∷ ws ∷ value n ∷ rest) v in
    let q = alive_text (ws ∷ byte 58 ∷ ws ∷ value n ∷ rest) o.next in
    let w = alive_space (byte 58 ∷ ws ∷ value n ∷ rest) q.next in
    let c = alive_byte 58 (ws ∷ value n ∷ rest) w.next in
    let x = alive_space (value n ∷ rest) c.next in
    let l = q.spelt.order in
    let m = space_low w.space in
    let k = space_low x.space in
    let t = (on x.stop (omega arith) x.next.high).a_value_at n rest x.next in
    let g = t.later in
    let r = (on t.stop (omega arith) t.next.high).more_at n ys t.next in
    let p = closed_quoted o.at q in
    found_with {j = t.stop} r (named q.word t.what r.what)
    (member {q = q.close + 1} {c = w.stop} {v = x.stop} {j = t.stop} {e = r.stop} {w = q.word} {t = t.what}
    {ms = r.what} p w.space c.at x.space t.reads r.reads)
    (omega (arith, t.shallow, r.shallow)) (omega arith)

pub all_at : (s : List ℕ) (i : ℕ) → i ≤ length s → All s i
all_at s i h =
    from_end s (All s)
    (λ j g on.
    record {
      a_value_at = λ n ys v. any_value n ys on v;
      elements_at = λ n ys v. some_elements n ys on v;
      rest_at = λ n ys v. rest_value n ys on v;
      members_at = λ n ys v. some_members n ys on v;
      more_at = λ n ys v. more_value n ys on v;
    })
    i h

-- ---- whole texts

alive_end : {s : List ℕ} {e : ℕ} → Alive s [] e → e ≡ length s
alive_end {s} {e} v = by (dec_lt e (length s))
  where
    by : Dec (e < length s) → e ≡ length s
    by (yes h) = absurd (not_whole (sym (past_end s e h) ∙ v.lives))
    by (no h) = let g = v.high in omega arith

pub text_sound : (n : ℕ) (s : List ℕ) → verdict_at n s ≡ Ok tt → Text n s
unfolding verdict_at
text_sound n s e =
    let w = alive_space (value n ∷ ws ∷ []) (record { high = omega arith; lives = e }) in
    let t = (all_at s w.stop w.next.high).a_value_at n (ws ∷ []) w.next in
    let x = alive_space [] t.next in
    let z = alive_end x.next in
    record {
      tree = t.what;
      says = record {
        from = w.stop;
        past = t.stop;
        before = w.space;
        reads = t.reads;
        after = subst (λ (e : ℕ). Space s t.stop e) z x.space;
      };
      shallow = t.shallow;
    }
