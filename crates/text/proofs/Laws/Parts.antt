-- Parts of a text: what a part says of the bytes from a place on, and parts laid end to end.
use mathlib.Core.Path.{◌≡◌, sym, ap, ◌∙◌}
use mathlib.Core.List.{List, [], ◌∷◌, ◌++◌}
use Prim.Native.Nat.{ℕ, ◌+◌, ◌-◌, ◌≤◌, ◌<◌}
use native.Mathlib.Omega.{arith}
use lib.ListN.{length, get_or, take, drop, length-drop, take-append-drop}
use lib.Seq.{drop-cons, drop-drop, take-add, length-take-le}
use Rattle.chars.specs.Base.{At, part}
use Rattle.text.specs.Json.{Spelt}

-- the bytes from a place on are the part and then those from its end on
pub part_drop : (s : List ℕ) (i e : ℕ) → i ≤ e → part s i e ++ drop e s ≡ drop i s
part_drop s i e h =
    let k : i + (e - i) ≡ e = omega arith in
    ap (λ (l : List ℕ). take (e - i) (drop i s) ++ l) (sym (drop-drop (e - i) i s ∙ ap (λ (n : ℕ). drop n s) k))
    ∙ take-append-drop (e - i) (drop i s)

pub part_length : (s : List ℕ) (i e : ℕ) → i ≤ e → e ≤ length s → length (part s i e) ≡ e - i
part_length s i e h g = length-take-le (e - i) (drop i s) (simp length-drop (omega arith))

pub part_empty : (s : List ℕ) (i : ℕ) → part s i i ≡ []
part_empty s i = let z : i - i ≡ 0 = omega arith in ap (λ (n : ℕ). take n (drop i s)) z

pub part_append : (s : List ℕ) (i j e : ℕ) → i ≤ j → j ≤ e → part s i j ++ part s j e ≡ part s i e
part_append s i j e h g =
    let k : i + (j - i) ≡ j = omega arith in
    let l : (j - i) + (e - j) ≡ e - i = omega arith in
    ap (λ (w : List ℕ). part s i j ++ take (e - j) w) (sym (drop-drop (j - i) i s ∙ ap (λ (n : ℕ). drop n s) k))
    ∙ sym (take-add (j - i) (e - j) (drop i s))
    ∙ ap (λ (n : ℕ). take n (drop i s)) l

pub part_one : (s : List ℕ) (i : ℕ) → i < length s → part s i (i + 1) ≡ get_or s i 0 ∷ []
part_one s i h =
    let k : i + 1 - i ≡ 1 = omega arith in
    ap (λ (n : ℕ). take n (drop i s)) k ∙ ap (take 1) (drop-cons s i 0 h)

-- ---- spelt bytes

pub spelt_drop : {s w : List ℕ} {i e : ℕ} → Spelt s w i e → drop i s ≡ w ++ drop e s
spelt_drop {s} {w} {i} {e} p = sym (ap (λ (l : List ℕ). l ++ drop e s) (sym p.is) ∙ part_drop s i e p.order)

pub spelt_length : {s w : List ℕ} {i e : ℕ} → Spelt s w i e → i + length w ≡ e
spelt_length {s} {w} {i} {e} p =
    let l = sym (part_length s i e p.order p.inside) ∙ ap length p.is in omega (arith, p.order)

pub spelt_none : {s : List ℕ} {i : ℕ} → i ≤ length s → Spelt s [] i i
spelt_none {s} {i} h = record { order = omega arith; inside = h; is = part_empty s i }

pub spelt_one : {s : List ℕ} {i b : ℕ} → At s i b → Spelt s (b ∷ []) i (i + 1)
spelt_one {s} {i} {b} p =
    let h = p.inside in
    record { order = omega arith; inside = omega arith; is = part_one s i h ∙ ap (λ (x : ℕ). x ∷ []) p.is }

pub spelt_append : {s w v : List ℕ} {i j e : ℕ} → Spelt s w i j → Spelt s v j e → Spelt s (w ++ v) i e
spelt_append {s} {w} {v} {i} {j} {e} p q =
    record {
      order = omega (arith, p.order, q.order);
      inside = q.inside;
      is = sym (part_append s i j e p.order q.order)
          ∙ ap (λ (l : List ℕ). l ++ part s j e) p.is
          ∙ ap (λ (l : List ℕ). w ++ l) q.is;
    }

pub spelt_cons : {s w : List ℕ} {i b e : ℕ} → At s i b → Spelt s w (i + 1) e → Spelt s (b ∷ w) i e
spelt_cons p q = spelt_append (spelt_one p) q

-- the first byte of a part that has one
pub spelt_first : {s w : List ℕ} {i b e : ℕ} → Spelt s (b ∷ w) i e → At s i b
spelt_first {s} {w} {i} {b} {e} p =
    let l = spelt_length p in
    let h : i < length s = omega (arith, p.inside, l) in
    record { inside = h; is = head_is (sym (drop-cons s i 0 h) ∙ spelt_drop p) }
  where
    head_is : {x y : ℕ} {xs ys : List ℕ} → x ∷ xs ≡ y ∷ ys → x ≡ y
    head_is e = cc

-- and the bytes behind it
pub spelt_rest : {s w : List ℕ} {i b e : ℕ} → Spelt s (b ∷ w) i e → Spelt s w (i + 1) e
spelt_rest {s} {w} {i} {b} {e} p =
    let l = spelt_length p in
    let o : i + 1 ≤ e = omega arith in
    let h : i < length s = omega (arith, p.inside, l) in
    let y = ap (λ (x : List ℕ). x ++ part s (i + 1) e) (sym (part_one s i h))
    ∙ part_append s i (i + 1) e (omega arith) o
    ∙ p.is in
    record { order = o; inside = p.inside; is = tail_is y }
  where
    tail_is : {x y : ℕ} {xs ys : List ℕ} → x ∷ xs ≡ y ∷ ys → xs ≡ ys
    tail_is e = cc
