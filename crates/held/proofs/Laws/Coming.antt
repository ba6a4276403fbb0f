-- A walk over things that lie in a run one behind the other, up to the one that decides.
use mathlib.Core.Path.{◌≡◌, refl, sym, ap, ◌∙◌, subst}
use mathlib.Core.Bool.{Bool, true, false}
use mathlib.Core.List.{List, [], ◌∷◌, ◌++◌}
use Prim.Native.Nat.{ℕ, ◌+◌, ◌≤◌, ◌<◌}
use native.Mathlib.Omega.{arith}
use lib.ListN.{length, get_or}
use Rattle.syntax.specs.Forms.{either}
use Rattle.held.specs.Held.{held_each, held_list, any_of}
use Rattle.held.specs.Lying.{Lies, Lying}
use Rattle.held.proofs.Laws.Runs.{lies_front, lies_back, lies_first, lies_next}

-- Of n things, each held by h, i are passed and the others lie from p on. What g tells of those still to come is b,
-- which is to be told of all.
pub record Coming {A B : Type 0} (h : A → List ℕ) (run : List ℕ) (n i p : ℕ) (g : List A → B) (b : B) : Type 0 where
  pub rest : List A
  pub lies : Lies run p (held_each h rest)
  pub count : i + length rest ≡ n
  pub same : g rest ≡ b

pub coming :
    {A B : Type 0} {h : A → List ℕ} {run : List ℕ} {n p : ℕ} {g : List A → B} (all : List A)
    → n ≡ length all → Lies run p (held_each h all) → Coming h run n 0 p g (g all)
coming all c l = record { rest = all; lies = l; count = omega arith; same = refl }

-- of a list, behind its number
pub coming_list :
    {A B : Type 0} {h : A → List ℕ} {run : List ℕ} {p : ℕ} {g : List A → B} (y : Lying (held_list h) run p)
    → Coming h run (get_or run p 0) 0 (p + 1) g (g y.thing)
coming_list y = coming y.thing (lies_first y.lies) (lies_next y.lies)

abbrev pub lying : {A : Type 0} {h : A → List ℕ} {run : List ℕ} {p : ℕ} (x : A) → Lies run p (h x) → Lying h run p
lying x l = record { thing = x; lies = l }

module _ {A B : Type 0} {h : A → List ℕ} {run : List ℕ} {n i p : ℕ} {g : List A → B} {b : B}
    (w : Coming h run n i p g b) where
  pub coming_more : (i ≡ n → ⊥) → i < n
  coming_more h = omega (arith, w.count, h)

  -- the next thing, and those behind it
  record Turn : Type 0 where
    pub head : A
    pub tail : List A
    pub is : w.rest ≡ head ∷ tail

  turn : i < n → Turn
  turn t = by w.rest refl
    where
      by : (xs : List A) → w.rest ≡ xs → Turn
      by [] z = absurd (omega (arith, w.count, ap length z))
      by (x ∷ xs) z = record { head = x; tail = xs; is = z }

  turn_lies : (t : Turn) → Lies run p (h t.head ++ held_each h t.tail)
  unfolding held_each
  turn_lies t = subst (λ (xs : List A). Lies run p (held_each h xs)) t.is w.lies

  head_lies : (t : Turn) → Lies run p (h t.head)
  head_lies t = lies_front (h t.head) (held_each h t.tail) (turn_lies t)

  -- what is told of them
  pub record Next : Type 0 where
    pub head : A
    pub tail : List A
    pub lies : Lies run p (h head)
    pub behind : Lies run (p + length (h head)) (held_each h tail)
    pub count : i + 1 + length tail ≡ n
    pub same : g (head ∷ tail) ≡ b

  pub coming_now : i < n → Next
  coming_now t =
      let y = turn t in
      record {
        head = y.head;
        tail = y.tail;
        lies = head_lies y;
        behind = lies_back (h y.head) (held_each h y.tail) (turn_lies y);
        count = omega (arith, w.count, ap length y.is);
        same = ap g (sym y.is) ∙ w.same;
      }

  pub coming_lying : i < n → Lying h run p
  coming_lying t = let y = turn t in record { thing = y.head; lies = head_lies y }

  pub coming_one : (i ≡ n → ⊥) → Lying h run p
  coming_one h = coming_lying (coming_more h)

  -- the next thing decides
  pub coming_decided : i < n → (v : B) → ((x : A) → Lies run p (h x) → (xs : List A) → g (x ∷ xs) ≡ v) → v ≡ b
  coming_decided t v s =
      let y = coming_now t in
      sym (s y.head y.lies y.tail) ∙ y.same

  -- it is passed
  pub coming_next :
      i < n → (q : ℕ) (f : List A → B) → ((x : A) → Lies run p (h x) → q ≡ p + length (h x))
      → ((x : A) → Lies run p (h x) → (xs : List A) → g (x ∷ xs) ≡ f xs) → Coming h run n (i + 1) q f b
  coming_next t q f far s =
      let y = coming_now t in
      record {
        rest = y.tail;
        lies = subst (λ (z : ℕ). Lies run z (held_each h y.tail)) (sym (far y.head y.lies)) y.behind;
        count = y.count;
        same = sym (s y.head y.lies y.tail) ∙ y.same;
      }

  -- none is left
  pub coming_end : n ≤ i → g [] ≡ b
  coming_end t = by w.rest refl
    where
      by : (xs : List A) → w.rest ≡ xs → g [] ≡ b
      by [] z = ap g (sym z) ∙ w.same
      by (x ∷ xs) z = absurd (omega (arith, w.count, ap length z))

-- ---- whether one of them is of a kind

module _ {A : Type 0} (f : A → Bool) (x : A) (xs : List A) where
  pub any_here : f x ≡ true → any_of f (x ∷ xs) ≡ true
  unfolding any_of
  any_here e = ap (λ (t : Bool). either t (any_of f xs)) e

  pub any_on : f x ≡ false → any_of f (x ∷ xs) ≡ any_of f xs
  unfolding any_of
  any_on e = ap (λ (t : Bool). either t (any_of f xs)) e

module _ {A : Type 0} {h : A → List ℕ} {run : List ℕ} {n i p : ℕ} (f : A → Bool) {b : Bool}
    (w : Coming h run n i p (any_of f) b) where
  pub some_is : i < n → {r : Bool} → ((x : A) → Lies run p (h x) → r ≡ f x) → r ≡ true → b ≡ true
  some_is t s e = sym (coming_decided w t true (λ x l ys. any_here f x ys (sym (s x l) ∙ e)))

  pub none_is : n ≤ i → b ≡ false
  unfolding any_of
  none_is t = sym (coming_end w t)
