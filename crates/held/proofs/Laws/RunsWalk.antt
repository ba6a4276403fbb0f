-- A walk over things that lie in a run one behind the other.
use mathlib.Core.Path.{◌≡◌, refl, sym, ap, ◌∙◌, subst}
use mathlib.Core.Bool.{Bool, true, false, ◌||◌}
use mathlib.Core.List.{List, [], ◌∷◌, ◌++◌}
use Prim.Native.Nat.{ℕ, ◌+◌, ◌≤◌, ◌<◌}
use native.Mathlib.Omega.{arith}
use lib.ListN.{length, length-append}
use Rattle.syntax.specs.Forms.{either}
use Rattle.syntax.specs.Limits.{run_numbers}
use Rattle.syntax.specs.Members.{has_like}
use Rattle.held.specs.Held.{held_each, any_of, total_of}
use Rattle.held.specs.Lying.{Lies, Lying, Passes}
use Rattle.held.specs.declared.runs.Seen.{Seen}
use Rattle.held.proofs.Laws.Runs.{lies_front, lies_back, lies_short, or_either}

either_false : (t : Bool) → either t false ≡ t
either_false true = refl
either_false false = refl

either_true : (t : Bool) → either t true ≡ true
either_true true = refl
either_true false = refl

either_assoc : (t u v : Bool) → either (either t u) v ≡ either t (either u v)
either_assoc true u v = refl
either_assoc false u v = refl

-- Of things that lie from a place on, each held by h: i are passed and some are still to come at p. What f tells of
-- one of them and what g counts of all of them is what was seen so far with what is still to come.
module _ {A : Type 0} (h : A → List ℕ) (f : A → Bool) (g : A → ℕ) (run : List ℕ) (at : ℕ) (all : List A) where
  pub record Walk (n i p e : ℕ) (o : Bool) : Type 0 where
    pub rest : List A
    pub lies : Lies run p (held_each h rest)
    pub count : i + length rest ≡ n
    pub place : p + length (held_each h rest) ≡ at + length (held_each h all)
    pub limit : either o (any_of f rest) ≡ any_of f all
    pub many : e + total_of g rest ≡ total_of g all

-- whichever n things lie there
abbrev pub Walks :
    {A : Type 0} → (A → List ℕ) → (A → Bool) → (A → ℕ) → List ℕ → (at n i p e : ℕ) → Bool → Type 0
Walks {A} h f g run at n i p e o =
    (all : List A) → n ≡ length all → Lies run at (held_each h all) → Walk h f g run at all n i p e o

-- things with no more entries than numbers
pub total_short :
    {A : Type 0} (h : A → List ℕ) (g : A → ℕ) → ((x : A) → g x ≤ length (h x)) → (xs : List A)
    → total_of g xs ≤ length (held_each h xs)
unfolding held_each total_of
total_short h g s [] = omega arith
total_short h g s (x ∷ xs) = omega (arith, s x, total_short h g s xs, length-append (h x) (held_each h xs))

-- as many as there are
pub one_each : {A : Type 0} (xs : List A) → total_of (λ (x : A). 1) xs ≡ length xs
unfolding total_of
one_each [] = refl
one_each (x ∷ xs) = omega (arith, one_each xs)

module _ {A : Type 0} {h : A → List ℕ} {f : A → Bool} {g : A → ℕ} {run : List ℕ} {at : ℕ} {all : List A} where
  pub walk_start : {n : ℕ} → n ≡ length all → Lies run at (held_each h all) → Walk h f g run at all n 0 at 0 false
  walk_start c l =
      record { rest = all; lies = l; count = omega arith; place = refl; limit = refl; many = omega arith }

  module _ {n i p e : ℕ} {o : Bool} (w : Walk h f g run at all n i p e o) where
    -- the next thing, and those behind it
    pub record Turn : Type 0 where
      pub head : A
      pub tail : List A
      pub is : w.rest ≡ head ∷ tail

    pub turn : i < n → Turn
    turn t = by w.rest refl
      where
        by : (xs : List A) → w.rest ≡ xs → Turn
        by [] z = absurd (omega (arith, w.count, ap length z))
        by (x ∷ xs) z = record { head = x; tail = xs; is = z }

    pub turn_lies : (t : Turn) → Lies run p (h t.head ++ held_each h t.tail)
    unfolding held_each
    turn_lies t = subst (λ (xs : List A). Lies run p (held_each h xs)) t.is w.lies

    pub walk_lying : i < n → Lying h run p
    walk_lying t =
        let y = turn t in
        record { thing = y.head; lies = lies_front (h y.head) (held_each h y.tail) (turn_lies y) }

    pub walk_next :
        (t : i < n) (p' e' : ℕ) (o' : Bool)
        → ((x : A) → Lies run p (h x) → (p' ≡ p + length (h x)) × (e' ≡ e + g x) × (o' ≡ either o (f x)))
        → Walk h f g run at all n (i + 1) p' e' o'
    unfolding held_each any_of total_of
    walk_next t p' e' o' s =
        let y = turn t in
        let x = y.head in
        let xs = y.tail in
        let l = turn_lies y in
        let q = s x (lies_front (h x) (held_each h xs) l) in
        let size = length-append (h x) (held_each h xs) in
        let held = ap (λ (zs : List A). length (held_each h zs)) y.is in
        record {
          rest = xs;
          lies = subst (λ (z : ℕ). Lies run z (held_each h xs)) (sym q.0) (lies_back (h x) (held_each h xs) l);
          count = omega (arith, w.count, ap length y.is);
          place = omega (arith, w.place, held, size, q.0);
          limit = ap (λ (b : Bool). either b (any_of f xs)) q.2 ∙ either_assoc o (f x) (any_of f xs)
              ∙ ap (λ (zs : List A). either o (any_of f zs)) (sym y.is) ∙ w.limit;
          many = omega (arith, w.many, ap (total_of g) y.is, q.1);
        }

    pub walk_turn :
        (t : i < n) (r : Seen) → ((x : A) → Lies run p (h x) → Passes p (h x) (g x) (f x) r)
        → Walk h f g run at all n (i + 1) r.past (e + r.entries) (o || r.over)
    walk_turn t r s =
        walk_next t r.past (e + r.entries) (o || r.over)
        (λ x l. let q = s x l in
        (q.past, ap (λ (k : ℕ). e + k) q.many, or_either {t = o} refl q.limit))

    none_left : n ≤ i → w.rest ≡ []
    none_left t = by w.rest refl
      where
        by : (xs : List A) → w.rest ≡ xs → w.rest ≡ []
        by [] z = z
        by (x ∷ xs) z = absurd (omega (arith, w.count, ap length z))

    pub walk_end :
        n ≤ i → Passes at (held_each h all) (total_of g all) (any_of f all) (record { past = p; entries = e; over = o })
    unfolding held_each any_of total_of
    walk_end t =
        let z = none_left t in
        record {
          past = omega (arith, w.place, ap (λ (zs : List A). length (held_each h zs)) z);
          many = omega (arith, w.many, ap (total_of g) z);
          limit = sym (either_false o) ∙ ap (λ (zs : List A). either o (any_of f zs)) (sym z) ∙ w.limit;
        }

    pub walk_few : Lies run at (held_each h all) → ((x : A) → g x ≤ length (h x)) → e ≤ run_numbers
    walk_few l s = omega (arith, w.many, total_short h g s all, lies_short l)

    pub walk_found : i < n → ((x : A) → Lies run p (h x) → f x ≡ true) → any_of f all ≡ true
    unfolding held_each any_of
    walk_found t s =
        let y = turn t in
        let e = s y.head (lies_front (h y.head) (held_each h y.tail) (turn_lies y)) in
        sym w.limit ∙ ap (λ (zs : List A). either o (any_of f zs)) y.is
        ∙ ap (λ (b : Bool). either o (either b (any_of f y.tail))) e ∙ either_true o

-- ---- a thing like another

pub like_any : {A : Type 0} (f : A → A → Bool) (x : A) (xs : List A) → has_like f x xs ≡ any_of (f x) xs
unfolding has_like any_of
like_any f x [] = refl
like_any f x (y ∷ xs) = ap (either (f x y)) (like_any f x xs)
