-- The walk step by step, as the code takes it: what is still to be closed at each place.
use mathlib.Core.Path.{◌≡◌, refl, sym, subst}
use mathlib.Core.Bool.{Bool, true, false, not, ◌&&◌}
use mathlib.Core.List.{List}
use Prim.Native.Nat.{ℕ, ◌+◌, ◌-◌, ◌≤◌, ◌<◌}
use native.Mathlib.Omega.{arith}
use native.Mathlib.Decide.{ℕ_discrete}
use lib.Dec.{eqb}
use lib.ListN.{length, get_or}
use borrow.Author.Tests.{eqb-false, not-true}
use Rattle.chars.specs.Base.{pick}
use Rattle.chars.proofs.Laws.Tests.{each_true}
use Rattle.text.specs.Skipping.{level, Steps, Closes, over, on, Plain, Idles, Stepping, Counting, Waiting}
use Rattle.text.specs.Skipping.{Closing}
use Rattle.text.proofs.Laws.Places.{text_grows}
use Rattle.text.proofs.Laws.Skipping.Bytes.{level_other}

level_few : (b n : ℕ) → level b n ≤ n + 1
unfolding level
level_few b n = by (eqb b 91) (eqb b 123) (eqb b 93) (eqb b 125)
  where
    by : (t u v w : Bool) → pick t (n + 1) (pick u (n + 1) (pick v (n - 1) (pick w (n - 1) n))) ≤ n + 1
    by true u v w = omega arith
    by false true v w = omega arith
    by false false true w = omega arith
    by false false false true = omega arith
    by false false false false = omega arith

module _ {s : List ℕ} where
  steps_later : {i j : ℕ} → Steps s i j → i < j
  steps_later {i} {j} p = by (ℕ_discrete (get_or s i 0) 34)
    where
      by : Dec (get_or s i 0 ≡ 34) → i < j
      by (yes q) = let h = text_grows (p.quote q) in omega arith
      by (no q) = let h = p.other q in omega arith

  pub stepping : {n i e : ℕ} → 0 < n → Closes s n i e → Stepping s i
  stepping h over = absurd (omega arith)
  stepping h (on {j = j} g l p c) = record { inside = l; next = j; steps = p }

  pub closed : {n i e : ℕ} → Closes s n i e → n ≡ 0 → i ≡ e
  closed over z = refl
  closed (on g l p c) z = absurd (omega arith)

  further : {n i e : ℕ} → 0 < n → Closes s n i e → (k : ℕ) → ((j : ℕ) → Steps s i j → k ≡ j)
      → Closes s (level (get_or s i 0) n) k e
  further h over k f = absurd (omega arith)
  further {n} {i} {e} h (on {j = j} g l p c) k f =
      subst (λ (x : ℕ). Closes s (level (get_or s i 0) n) x e) (sym (f j p)) c

  -- ---- bytes that open and close nothing

  plain_further : {n i e : ℕ} → 0 < n → Closes s n i e → Plain (get_or s i 0) → Closes s n (i + 1) e
  plain_further h over m = absurd (omega arith)
  plain_further {n} {i} {e} h (on {j = j} g l p c) m =
      subst (λ (k : ℕ). Closes s n k e) (p.other m.no_quote)
      (subst (λ (k : ℕ). Closes s k j e) (m.keeps n) c)

  pub idles_none : {a : ℕ} → Idles s a a
  idles_none = record { low = omega arith; goes = λ n e h c. c }

  pub idles_more : {a i : ℕ} → Idles s a i → Plain (get_or s i 0) → Idles s a (i + 1)
  idles_more p m =
      record { low = omega (arith, p.low); goes = λ n e h c. plain_further h (p.goes n e h c) m }

  pub idles_inside : {a i : ℕ} → Waiting s a → Idles s a i → i < length s
  idles_inside q p = (stepping q.some (p.goes q.deep q.stop q.some q.closes)).inside

-- what the test told of a byte
pub idle_plain : (b : ℕ)
    → (not (eqb b 34) && not (eqb b 91) && not (eqb b 93) && not (eqb b 123) && not (eqb b 125)) ≡ true → Plain b
idle_plain b h =
    let p = each_true _ _ h in
    let q = each_true _ _ p.0 in
    let r = each_true _ _ q.0 in
    let t = each_true _ _ r.0 in
    record {
      keeps = λ n. level_other b n (eqb-false b 91 (not-true _ t.1)) (eqb-false b 123 (not-true _ q.1))
          (eqb-false b 93 (not-true _ r.1)) (eqb-false b 125 (not-true _ p.1));
      no_quote = eqb-false b 34 (not-true _ t.0);
    }

-- ---- brackets counted

-- at place i, `deep` brackets are open of what opened at v
pub record Held (s : List ℕ) (v i deep : ℕ) : Type 0 where
  pub few : deep ≤ i
  pub goes : (e : ℕ) → Closes s 1 (v + 1) e → Closes s deep i e

pub held_first : (s : List ℕ) (v : ℕ) → Held s v (v + 1) 1
held_first s v = record { few = omega arith; goes = λ e c. c }

module _ {s : List ℕ} {v i deep : ℕ} (p : Held s v i deep) (h : 0 < deep) (q : Closing s v) where
  pub held_steps : Stepping s i
  held_steps = stepping h (p.goes q.stop q.closes)

  pub held_counts : Counting s i deep
  held_counts = record { inside = held_steps.inside; some = h; few = p.few }

  pub held_waits : Waiting s i
  held_waits = record { deep = deep; some = h; stop = q.stop; closes = p.goes q.stop q.closes }

  pub held_later : (k : ℕ) → ((j : ℕ) → Steps s i j → k ≡ j) → i < k
  held_later k f =
      let z = f held_steps.next held_steps.steps in
      let y = steps_later held_steps.steps in omega arith

  pub held_again : (k n : ℕ) → n ≡ level (get_or s i 0) deep → ((j : ℕ) → Steps s i j → k ≡ j) → Held s v k n
  held_again k n z f =
      let y = held_later k f in
      let x = level_few (get_or s i 0) deep in
      let w = p.few in
      record {
        few = omega arith;
        goes = λ e c. subst (λ (m : ℕ). Closes s m k e) (sym z) (further h (p.goes e c) k f);
      }

-- past bytes that open and close nothing
pub held_idles : {s : List ℕ} {v i k deep : ℕ} → Held s v i deep → 0 < deep → Idles s i k → Held s v k deep
held_idles {deep = deep} p h d =
    record { few = omega (arith, p.few, d.low); goes = λ e c. d.goes deep e h (p.goes e c) }
