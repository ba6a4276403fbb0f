-- What the candidates of `texts` cover: a single covers no other candidate, a beginning what begins with it, and no two
-- cover the same.
use mathlib.Core.Path.{◌≡◌, refl, sym, ap, ◌∙◌, subst}
use mathlib.Core.Bool.{Bool, true, false}
use mathlib.Core.List.{List, [], ◌∷◌, ◌++◌}
use Prim.Native.Nat.{ℕ}
use native.Mathlib.Omega.{arith}
use lib.ListN.{length, length-append}
use Rattle.syntax.specs.Policy.{Value, text, number}
use Rattle.syntax.specs.Forms.{same}
use Rattle.parts.proofs.Laws.Slots.{true_false, both_true}
use Rattle.syntax.proofs.Laws.Same.{same_sound, same_complete}
use Rattle.candidates.specs.Candidates.{Candidate, itself, single, under, up_to, Kind, Covers, Under}
use Rattle.candidates.specs.Beginnings.{begins}
use Rattle.candidates.specs.Kinds.{texts, text_of}
use Rattle.candidates.proofs.Laws.Beginnings.{begins_refl, begins_trans, begins_antisym}
use Rattle.candidates.proofs.Laws.Beginnings.{begins_more}

-- the entry matches what a beginning covers, and more; and more than a single text
pub record Texts (m : Value → Bool) (one wide : List ℕ → Bool) : Type 0 where
  pub inside : (q t : List ℕ) → wide q ≡ true → begins q t ≡ true → m (text t) ≡ true
  pub wider : (q : List ℕ) → wide q ≡ true → (t : List ℕ) × (m (text t) ≡ true) × (begins q t ≡ false)
  pub several : (s : List ℕ) → one s ≡ true → (t : List ℕ) × (m (text t) ≡ true) × (same s t ≡ false)

nothing_begins : (q : List ℕ) → begins q [] ≡ true → q ≡ []
unfolding begins
nothing_begins [] h = refl
nothing_begins (x ∷ q) h = absurd (true_false h refl)

module _ (m : Value → Bool) (one wide : List ℕ → Bool) (h : Texts m one wide) where
  abbrev k : Kind
  k = texts m one wide

  nothing_passes : (b : Bool) → wide [] ≡ b → wide [] ≡ false
  unfolding begins
  nothing_passes true e = let r = h.wider [] e in absurd (true_false refl r.2)
  nothing_passes false e = e

  pub nil : wide [] ≡ false
  nil = nothing_passes (wide []) refl

  -- a single covers one value
  pub by_single : (t : List ℕ) (d : Candidate) → Covers k d (text t) → Under k (single t) d
  by_single t d c (text u) e = subst (λ (x : List ℕ). Covers k d (text x)) (same_sound t u e) c
  by_single t d c (number n) e = absurd (true_false e refl)

  pub inside : (c : Candidate) → k.is c ≡ true → Under k c itself
  inside itself i v c = c
  inside (single t) i v c = by_single t itself (both_true (m (text t)) (one t) i).0 v c
  inside (under q) i (text u) c = h.inside q u i c
  inside (under q) i (number n) c = absurd (true_false c refl)
  inside (up_to n) i v c = absurd (true_false i refl)

  -- ---- what covers a candidate

  two_singles : (s q : List ℕ) → same s q ≡ true → same s (q ++ (0 ∷ [])) ≡ true → ⊥
  two_singles s q a b =
      let e = sym (same_sound s q a) ∙ same_sound s (q ++ (0 ∷ [])) b in
      let l = simp length-append at (ap length e) in
      omega arith

  -- a single covers no other candidate
  pub narrow : (a : Candidate) (s : List ℕ) → k.is a ≡ true → k.is (single s) ≡ true → Under k a (single s)
      → a ≡ single s
  narrow itself s i j u =
      let r = h.several s (both_true (m (text s)) (one s) j).1 in
      absurd (true_false (u (text r.0) r.1) r.2)
  narrow (single t) s i j u = ap single (sym (same_sound s t (u (text t) (same_complete {a = t} refl))))
  narrow (under q) s i j u =
      absurd (two_singles s q (u (text q) (begins_refl q)) (u (text (q ++ (0 ∷ []))) (begins_more q (0 ∷ []))))
  narrow (up_to n) s i j u = absurd (true_false i refl)

  -- a beginning covers what begins with it
  pub begun : (a : Candidate) (p : List ℕ) → k.is a ≡ true → wide p ≡ true → Under k a (under p)
      → begins p (text_of a) ≡ true
  begun itself p i j u = let r = h.wider p j in absurd (true_false (u (text r.0) r.1) r.2)
  begun (single t) p i j u = u (text t) (same_complete {a = t} refl)
  begun (under q) p i j u = u (text q) (begins_refl q)
  begun (up_to n) p i j u = absurd (true_false i refl)

  pub known : (a : Candidate) (q : List ℕ) → k.is a ≡ true → wide q ≡ true → begins q (text_of a) ≡ true
      → Under k a (under q)
  known itself q i w b v c = absurd (true_false (subst (λ (x : List ℕ). wide x ≡ true) (nothing_begins q b) w) nil)
  known (single t) q i w b v c = by_single t (under q) b v c
  known (under p) q i w b (text u) c = begins_trans q p u b c
  known (under p) q i w b (number n) c = absurd (true_false c refl)
  known (up_to n) q i w b v c = absurd (true_false i refl)

  -- ---- no two cover the same

  apart : (q : List ℕ) → wide q ≡ true → Under k itself (under q) → ⊥
  apart q w u = let r = h.wider q w in true_false (u (text r.0) r.1) r.2

  pub alike : (a b : Candidate) → k.is a ≡ true → k.is b ≡ true → Under k a b → Under k b a → a ≡ b
  alike itself itself i j u d = refl
  alike itself (single s) i j u d = narrow itself s i j u
  alike itself (under q) i j u d = absurd (apart q j u)
  alike itself (up_to n) i j u d = absurd (true_false j refl)
  alike (single s) b i j u d = sym (narrow b s j i d)
  alike (under q) itself i j u d = absurd (apart q i d)
  alike (under q) (single s) i j u d = narrow (under q) s i j u
  alike (under q) (under p) i j u d =
      ap under (begins_antisym q p (begun (under p) q j i d) (begun (under q) p i j u))
  alike (under q) (up_to n) i j u d = absurd (true_false j refl)
  alike (up_to n) b i j u d = absurd (true_false i refl)
