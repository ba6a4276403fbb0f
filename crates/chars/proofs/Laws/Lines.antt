-- The lines found place by place are the lines of the text, and a text has one list of lines.
use mathlib.Core.Path.{◌≡◌, refl, sym, ap, ◌∙◌, subst}
use mathlib.Core.List.{List, [], ◌∷◌, ◌++◌}
use Prim.Native.Nat.{ℕ, ◌+◌, ◌-◌, ◌≤◌, ◌<◌}
use native.Mathlib.Omega.{arith}
use native.Mathlib.Decide.{dec_lt}
use lib.ListN.{length, take, drop, length-drop, length-append, drop_of_length-le}
use lib.Seq.{drop-drop, drop-length, take_all, take_at, drop-append-add}
use Rattle.chars.specs.Base.{part}
use Rattle.chars.specs.Lines.{Unbroken, none, more, Lines, nothing, last, line, unbroken, here, line_at}
use Rattle.std.specs.Prelude.{Some, None}
use Rattle.chars.specs.declared.lines.Line.{Line}
use Rattle.chars.proofs.Laws.Lines.Found.{line_lf, line_last, line_over, Cut, all, before, cut, unbroken_within}
pub mod Found

-- no line begins past the end, and a line begins anywhere else
here_none : (e n : ℕ) → here e n ≡ None → ⊥
here_none e n q = let z : ◌≡◌ {A = ℕ} 0 1 = cc in omega arith

here_same : {e f n m : ℕ} → here e n ≡ here f m → (e ≡ f) × (n ≡ m)
here_same {e} {f} {n} {m} q =
    let r : ◌≡◌ {A = Line} (record { end = e; next = n }) (record { end = f; next = m }) = cc in
    (ap (λ (l : Line). l.end) r, ap (λ (l : Line). l.next) r)

line_begins : (s : List ℕ) (i : ℕ) → i < length s → line_at s i ≡ None → ⊥
line_begins s i h q = by (dec_lt (i + unbroken (drop i s)) (length s))
  where
    by : Dec (i + unbroken (drop i s) < length s) → ⊥
    by (yes g) = here_none _ _ (line_lf s i _ h refl g ∙ q)
    by (no g) = here_none _ _ (line_last s i _ h refl (omega arith) ∙ q)

pub line_none : (s : List ℕ) (i : ℕ) → line_at s i ≡ None → Lines (drop i s) []
line_none s i e = by (dec_lt i (length s))
  where
    by : Dec (i < length s) → Lines (drop i s) []
    by (no h) = subst (λ (l : List ℕ). Lines l []) (sym (drop_of_length-le s {i = i} (omega arith))) nothing
    by (yes h) = absurd (line_begins s i h e)

-- nothing has no line
append_full : (w s : List ℕ) (b : ℕ) → w ++ (b ∷ s) ≡ [] → ⊥
append_full w s b q = let l = ap length q ∙ refl in omega (arith, l, length-append w (b ∷ s))

lines_empty : {l : List ℕ} {ls : List (List ℕ)} → Lines l ls → l ≡ [] → ls ≡ []
lines_empty nothing q = refl
lines_empty (last {b} {w} u) q = absurd (append_full [] w b q)
lines_empty (line {w} {s} u r) q = absurd (append_full w s 10 q)

last_line : (w : List ℕ) → 0 < length w → Unbroken w → Lines w (w ∷ [])
last_line [] h u = absurd (omega arith)
last_line (b ∷ w) h u = last u

-- a line with its LF: where the next one begins, and what stands before
module _ (s : List ℕ) (i : ℕ) (v r : List ℕ) (q : drop i s ≡ v ++ (10 ∷ r)) where
  line_part : part s i (i + length v) ≡ v
  line_part =
      let k : i + length v - i ≡ length v = omega arith in
      ap (λ (n : ℕ). take n (drop i s)) k ∙ ap (take (length v)) q ∙ take_at v (10 ∷ r) (length v) refl

  line_next : drop (i + length v + 1) s ≡ r
  line_next =
      let k : i + (length v + 1) ≡ i + length v + 1 = omega arith in
      ap (λ (n : ℕ). drop n s) (sym k)
      ∙ sym (drop-drop (length v + 1) i s)
      ∙ ap (drop (length v + 1)) q
      ∙ rw (drop-append-add v (10 ∷ r) 1)

  line_inside : i + length v < length s
  line_inside = let l = sym (length-drop i s) ∙ ap length q ∙ length-append v (10 ∷ r) in omega arith

-- the line found, and the lines from the next place on, are the lines from here on
pub line_here : (s : List ℕ) (i e n : ℕ) (ls : List (List ℕ)) → line_at s i ≡ here e n → Lines (drop n s) ls
    → Lines (drop i s) (part s i e ∷ ls)
line_here s i e n ls q r = by (dec_lt i (length s))
  where
    ended : i < length s → e ≡ length s → n ≡ length s → Unbroken (drop i s) → Lines (drop i s) (part s i e ∷ ls)
    ended h a b u =
        let z = lines_empty r (ap (λ (k : ℕ). drop k s) b ∙ drop-length s) in
        let l = length-drop i s in
        let w : part s i e ≡ drop i s = take_all (e - i) (drop i s) (omega arith) in
        subst (λ (x : List (List ℕ)). Lines (drop i s) (part s i e ∷ x)) (sym z)
        (subst (λ (x : List ℕ). Lines (drop i s) (x ∷ [])) (sym w) (last_line (drop i s) (omega arith) u))

    broken : (v t : List ℕ) → drop i s ≡ v ++ (10 ∷ t) → Unbroken v → e ≡ i + length v → n ≡ i + length v + 1
        → Lines (drop i s) (part s i e ∷ ls)
    broken v t z u a b =
        let next : drop n s ≡ t = ap (λ (k : ℕ). drop k s) b ∙ line_next s i v t z in
        let tail : Lines t ls = subst (λ (x : List ℕ). Lines x ls) next r in
        let w : v ≡ part s i e = sym (ap (part s i) a ∙ line_part s i v t z) in
        subst (λ (x : List ℕ). Lines x (part s i e ∷ ls)) (sym z)
        (subst (λ (x : List ℕ). Lines (v ++ (10 ∷ t)) (x ∷ ls)) w (line u tail))

    cases : i < length s → Cut (drop i s) → Lines (drop i s) (part s i e ∷ ls)
    cases h (all u z) =
        let l = length-drop i s in
        let p = here_same (line_last s i (i + unbroken (drop i s)) h refl (omega arith) ∙ q) in
        ended h (omega arith) (omega arith) u
    cases h (before v t y u z) =
        let g = line_inside s i v t y in
        let p = here_same (line_lf s i (i + unbroken (drop i s)) h refl (omega arith) ∙ q) in
        broken v t y u (omega arith) (omega arith)

    by : Dec (i < length s) → Lines (drop i s) (part s i e ∷ ls)
    by (yes h) = cases h (cut (drop i s))
    by (no h) = absurd (here_none e n (sym q ∙ sym (line_over s i (omega arith))))

-- ---- one list of lines

-- the bytes before the first LF are the first line
first_line : {w v : List ℕ} (s t : List ℕ) → Unbroken w → Unbroken v → w ++ (10 ∷ s) ≡ v ++ (10 ∷ t) → (w ≡ v) × (s ≡ t)
first_line s t none none q = (refl, cc)
first_line s t none (more {b} n u) q = absurd (n (cc))
first_line s t (more n u) none q = absurd (n (cc))
first_line s t (more {b} {w} n u) (more {b = c} {w = v} m x) q =
    let e : b ≡ c = cc in
    let l : w ++ (10 ∷ s) ≡ v ++ (10 ∷ t) = cc in
    let r = first_line s t u x l in
    (ap (λ (y : ℕ). y ∷ w) e ∙ ap (λ (y : List ℕ). c ∷ y) r.0, r.1)

no_lf : {w : List ℕ} (v t : List ℕ) → Unbroken w → w ≡ v ++ (10 ∷ t) → ⊥
no_lf v t none q = append_full v t 10 (sym q)
no_lf [] t (more n u) q = n (cc)
no_lf (c ∷ v) t (more {b} {w} n u) q = no_lf v t u (cc)

lines_same : {s t : List ℕ} {ls ms : List (List ℕ)} → Lines s ls → Lines t ms → s ≡ t → ls ≡ ms
lines_same nothing r q = sym (lines_empty r (sym q))
lines_same (last {b} {w} u) nothing q = absurd (append_full [] w b q)
lines_same (last u) (last x) q = ap (λ (l : List ℕ). l ∷ []) q
lines_same (last u) (line {w} {s} x r) q = absurd (no_lf w s u q)
lines_same (line {w} {s} u p) nothing q = absurd (append_full w s 10 q)
lines_same (line {w} {s} u p) (last x) q = absurd (no_lf w s x (sym q))
lines_same (line {w} {s} {ls} u p) (line {w = v} {s = t} {ls = ms} x r) q =
    let f = first_line s t u x q in
    let l = lines_same p r f.1 in
    ap (λ (y : List ℕ). y ∷ ls) f.0 ∙ ap (λ (y : List (List ℕ)). v ∷ y) l

pub lines_unique : {s : List ℕ} {ls ms : List (List ℕ)} → Lines s ls → Lines s ms → ls ≡ ms
lines_unique p q = lines_same p q refl

-- ---- for whoever goes from line to line

-- a line's end and the next line's beginning, in the text and past the line's beginning
pub record Ahead (s : List ℕ) (i e n : ℕ) : Type 0 where
  pub order : i ≤ e
  pub inside : e ≤ length s
  pub next : n ≤ length s
  pub later : i < n

pub line_ahead : (s : List ℕ) (i e n : ℕ) → line_at s i ≡ here e n → Ahead s i e n
line_ahead s i e n q = by (dec_lt i (length s)) (dec_lt (i + unbroken (drop i s)) (length s))
  where
    by : Dec (i < length s) → Dec (i + unbroken (drop i s) < length s) → Ahead s i e n
    by (no h) d = absurd (here_none e n (sym q ∙ sym (line_over s i (omega arith))))
    by (yes h) (yes g) =
        let p = here_same (line_lf s i (i + unbroken (drop i s)) h refl g ∙ q) in
        record { order = omega arith; inside = omega arith; next = omega arith; later = omega arith }
    by (yes h) (no g) =
        let p = here_same (line_last s i (i + unbroken (drop i s)) h refl (omega arith) ∙ q) in
        let u = unbroken_within (drop i s) in
        let l = length-drop i s in
        record { order = omega arith; inside = omega arith; next = omega arith; later = omega arith }
