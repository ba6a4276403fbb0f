-- Bounds are lawful over any order of numbers, and so in both directions.
use mathlib.Core.Path.{◌≡◌, refl, sym, ap, subst}
use mathlib.Core.Bool.{Bool, true, false}
use mathlib.Core.Logic.{◌⊎◌, inl, inr, ⊎_elim}
use Prim.Native.Nat.{ℕ, ◌≤◌}
use native.Mathlib.Omega.{arith}
use native.Mathlib.Decide.{dec_le}
use lib.Dec.{leb}
use borrow.Author.Tests.{le-leb, leb-true}
use Rattle.chars.specs.Base.{pick}
use Rattle.syntax.specs.Policy.{Value, text, number}
use Rattle.parts.proofs.Laws.Slots.{true_false}
use Rattle.candidates.specs.Candidates.{Candidate, itself, single, under, up_to, Covers, Under, Least, Lawful}
use Rattle.candidates.specs.Kinds.{join_bounds, bounds}

pub record Order (le : ℕ → ℕ → Bool) : Type 0 where
  pub refl : (a : ℕ) → le a a ≡ true
  pub trans : (a b c : ℕ) → le a b ≡ true → le b c ≡ true → le a c ≡ true
  pub antisym : (a b : ℕ) → le a b ≡ true → le b a ≡ true → a ≡ b
  pub total : (a b : ℕ) → (le a b ≡ true) ⊎ (le b a ≡ true)

pub pick_case : {A : Type 0} (F : A → Type 0) (b : Bool) (x y : A) → (b ≡ true → F x) → (b ≡ false → F y)
    → F (pick b x y)
pick_case F true x y f g = f refl
pick_case F false x y f g = g refl

module _ (le : ℕ → ℕ → Bool) (o : Order le) (n : ℕ) where
  inside : (c : Candidate) → (bounds le n).is c ≡ true → Under (bounds le n) c (up_to n)
  inside itself i v h = absurd (true_false i refl)
  inside (single t) i v h = absurd (true_false i refl)
  inside (under q) i v h = absurd (true_false i refl)
  inside (up_to m) i (text t) h = h
  inside (up_to m) i (number a) h = o.trans a m n h i

  -- a bound that covers another bound is not below it
  reach : (m : ℕ) (d : Candidate) → Covers (bounds le n) d (number m) → Under (bounds le n) (up_to m) d
  reach m itself k v h = absurd (true_false k refl)
  reach m (single t) k v h = absurd (true_false k refl)
  reach m (under q) k v h = absurd (true_false k refl)
  reach m (up_to b) k (text t) h = h
  reach m (up_to b) k (number a) h = o.trans a m b h k

  least : (v : Value) → Covers (bounds le n) (up_to n) v → Least (bounds le n) (λ u. u ≡ v) ((bounds le n).least v)
  least (text t) h = absurd (true_false h refl)
  least (number m) h =
      record {
        among = h;
        all = λ u e. subst (λ (x : Value). Covers (bounds le n) (up_to m) x) (sym e) (o.refl m);
        least = λ d i k. reach m d (k (number m) refl);
      }

  abbrev Either : ℕ → ℕ → Value → Type 0
  Either a b v = Covers (bounds le n) (up_to a) v ⊎ Covers (bounds le n) (up_to b) v

  further : (a b m : ℕ) → le m n ≡ true → le a m ≡ true → le b m ≡ true
      → Either a b (number m) → Least (bounds le n) (Either a b) (up_to m)
  further a b m i p q e =
      record {
        among = i;
        all = λ v s. ⊎_elim (reach a (up_to m) p v) (reach b (up_to m) q v) s;
        least = λ d j k. reach m d (k (number m) e);
      }

  join_both : (a b : ℕ) → le a n ≡ true → le b n ≡ true
      → Least (bounds le n) (Either a b) (up_to (pick (le a b) b a))
  join_both a b i j =
      pick_case (λ (m : ℕ). Least (bounds le n) (Either a b) (up_to m)) (le a b) b a
      (λ h. further a b b j h (o.refl b) (inr (o.refl b)))
      (λ h. further a b a i (o.refl a) (back h) (inl (o.refl a)))
    where
      back : le a b ≡ false → le b a ≡ true
      back h = ⊎_elim (λ g. absurd (true_false g h)) (λ g. g) (o.total a b)

  join : (a b : Candidate) → (bounds le n).is a ≡ true → (bounds le n).is b ≡ true
      → Least (bounds le n) (λ v. Covers (bounds le n) a v ⊎ Covers (bounds le n) b v) (join_bounds le a b)
  join itself b i j = absurd (true_false i refl)
  join (single t) b i j = absurd (true_false i refl)
  join (under q) b i j = absurd (true_false i refl)
  join (up_to a) itself i j = absurd (true_false j refl)
  join (up_to a) (single t) i j = absurd (true_false j refl)
  join (up_to a) (under q) i j = absurd (true_false j refl)
  join (up_to a) (up_to b) i j = join_both a b i j

  same : (a b : Candidate) → (bounds le n).is a ≡ true → (bounds le n).is b ≡ true → Under (bounds le n) a b
      → Under (bounds le n) b a → a ≡ b
  same itself b i j x y = absurd (true_false i refl)
  same (single t) b i j x y = absurd (true_false i refl)
  same (under q) b i j x y = absurd (true_false i refl)
  same (up_to a) itself i j x y = absurd (true_false j refl)
  same (up_to a) (single t) i j x y = absurd (true_false j refl)
  same (up_to a) (under q) i j x y = absurd (true_false j refl)
  same (up_to a) (up_to b) i j x y = ap up_to (o.antisym a b (x (number a) (o.refl a)) (y (number b) (o.refl b)))

  pub bounds_lawful : Lawful (bounds le n)
  bounds_lawful = record { whole = o.refl n; inside = inside; least = least; join = join; same = same }

-- ---- directions

total : (a b : ℕ) → Dec (a ≤ b) → (leb a b ≡ true) ⊎ (leb b a ≡ true)
total a b (yes h) = inl (le-leb a b h)
total a b (no h) = inr (le-leb b a (omega arith))

pub upward : Order leb
upward =
    record {
      refl = λ a. le-leb a a (omega arith);
      trans = λ a b c p q. le-leb a c (omega (arith, leb-true a b p, leb-true b c q));
      antisym = λ a b p q. omega (arith, leb-true a b p, leb-true b a q);
      total = λ a b. total a b (dec_le a b);
    }

-- an order turned round: lower bounds
pub turned : {le : ℕ → ℕ → Bool} → Order le → Order (λ a b. le b a)
turned o =
    record {
      refl = o.refl;
      trans = λ a b c p q. o.trans c b a q p;
      antisym = λ a b p q. o.antisym a b q p;
      total = λ a b. o.total b a;
    }
