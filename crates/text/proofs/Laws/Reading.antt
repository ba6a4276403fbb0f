-- How the twin reads one byte and the end, and how the promises of two parts are put together.
use mathlib.Core.Path.{◌≡◌, refl, sym, ap, ◌∙◌, subst}
use mathlib.Core.Bool.{true, false}
use mathlib.Core.List.{List, [], ◌∷◌, ◌++◌, map, append_assoc}
use Prim.Native.Nat.{ℕ, zero, suc, ◌+◌, ◌-◌, ◌≤◌, ◌<◌}
use native.Mathlib.Numerals.{add-one, sub-one}
use native.Mathlib.Omega.{arith}
use lib.ListN.{length, drop, get_or, replicate}
use lib.Seq.{drop-cons, drop-length}
use Rattle.chars.specs.Base.{pick, At}
use Rattle.text.specs.Machine.{Item, pass, bad, deep, go, byte, move, optional, feed, ends, after, run, from}
use Rattle.text.specs.Reading.{Leads, Done, Falls, Goes}
use Rattle.std.specs.Prelude.{Result, Ok, Err}
use Rattle.text.specs.declared.fault.Fault.{Fault}
use Rattle.text.specs.declared.fault.Fault.TheVariants.{Breaks, Deep}

-- one byte
pub from_cons : (k : List Item) (s : List ℕ) (i : ℕ) → i < length s
    → from k s i ≡ after (feed k (get_or s i 0)) i (λ l. from l s (i + 1))
unfolding from run
from_cons k s i h =
    ap (λ (l : List ℕ). run k l i) (drop-cons s i 0 h)
    ∙ ap (λ (n : ℕ). after (feed k (get_or s i 0)) i (λ l. run l (drop n s) (i + 1))) (sym (add-one i))

-- no byte more
pub from_empty : (k : List Item) (s : List ℕ) (i : ℕ) → i ≡ length s → from k s i ≡ pick (ends k) (Ok tt) (Err (Breaks i))
unfolding from run
from_empty k s i e = rw (e, drop-length)

-- ---- parts put together

pub stay : (s : List ℕ) (xs : List Item) (i : ℕ) → i ≤ length s → Leads s xs i xs i
stay s xs i h = record { low = omega arith; high = h; goes = λ k. refl }

pub seq : {s : List ℕ} {xs ys zs : List Item} {a b e : ℕ} → Leads s xs a ys b → Leads s ys b zs e → Leads s xs a zs e
seq p q = record { low = omega arith; high = q.high; goes = λ k. p.goes k ∙ q.goes k }

-- with more owed behind
pub frame : {s : List ℕ} {xs ys : List Item} {a b : ℕ} (zs : List Item) → Leads s xs a ys b
    → Leads s (xs ++ zs) a (ys ++ zs) b
frame {s} {xs} {ys} zs p =
    record {
      low = p.low;
      high = p.high;
      goes = λ k. rw (append_assoc xs zs k, append_assoc ys zs k) (p.goes (zs ++ k));
    }

pub fall : {s : List ℕ} {xs ys : List Item} {a b : ℕ} {v : Fault} → Leads s xs a ys b → Falls s ys b v
    → Falls s xs a v
fall p q = record { goes = λ k. p.goes k ∙ q.goes k }

pub fall_frame : {s : List ℕ} {xs : List Item} {a : ℕ} {v : Fault} (zs : List Item) → Falls s xs a v
    → Falls s (xs ++ zs) a v
fall_frame {xs = xs} zs p = record { goes = λ k. rw (append_assoc xs zs k) (p.goes (zs ++ k)) }

pub goes_seq : {s : List ℕ} {xs zs : List Item} {a b : ℕ} (r : Result ℕ Fault) → Leads s xs a zs b → Goes s zs b r → Goes s xs a r
goes_seq (Ok n) p q = seq p q
goes_seq (Err v) p q = fall p q

-- ---- one item at one byte

module _ {s : List ℕ} {i : ℕ} (x : Item) (ys : List Item) where
  pub takes : (xs : List Item) → i < length s → move x (get_or s i 0) ≡ go xs → Leads s (x ∷ ys) i (xs ++ ys) (i + 1)
  unfolding feed
  takes xs h e =
      record {
        low = omega arith;
        high = omega arith;
        goes = λ k. from_cons (x ∷ (ys ++ k)) s i h ∙ rw (e, append_assoc xs ys k);
      }

  pub refuses : i < length s → move x (get_or s i 0) ≡ bad → Falls s (x ∷ ys) i (Breaks i)
  unfolding feed
  refuses h e = record { goes = λ k. from_cons (x ∷ (ys ++ k)) s i h ∙ rw e }

  pub sinks : i < length s → move x (get_or s i 0) ≡ deep → Falls s (x ∷ ys) i Deep
  unfolding feed
  sinks h e = record { goes = λ k. from_cons (x ∷ (ys ++ k)) s i h ∙ rw e }

  pub passes : i < length s → move x (get_or s i 0) ≡ pass → Leads s (x ∷ ys) i ys i
  unfolding feed
  passes h e =
      record {
        low = omega arith;
        high = omega arith;
        goes = λ k. from_cons (x ∷ (ys ++ k)) s i h ∙ rw e (sym (from_cons (ys ++ k) s i h));
      }

  pub stops : i ≡ length s → optional x ≡ false → Falls s (x ∷ ys) i (Breaks i)
  unfolding ends
  stops h e = record { goes = λ k. from_empty (x ∷ (ys ++ k)) s i h ∙ rw e }

  pub skips : i ≡ length s → optional x ≡ true → Leads s (x ∷ ys) i ys i
  unfolding ends
  skips h e =
      record {
        low = omega arith;
        high = omega arith;
        goes = λ k. from_empty (x ∷ (ys ++ k)) s i h ∙ rw e (sym (from_empty (ys ++ k) s i h));
      }

-- the same of a byte that is known
module _ {s : List ℕ} {i b : ℕ} (x : Item) (ys : List Item) (p : At s i b) where
  pub takes_at : (xs : List Item) → move x b ≡ go xs → Leads s (x ∷ ys) i (xs ++ ys) (i + 1)
  takes_at xs e = takes x ys xs p.inside (ap (move x) p.is ∙ e)

  pub refuses_at : move x b ≡ bad → Falls s (x ∷ ys) i (Breaks i)
  refuses_at e = refuses x ys p.inside (ap (move x) p.is ∙ e)

  pub passes_at : move x b ≡ pass → Leads s (x ∷ ys) i ys i
  passes_at e = passes x ys p.inside (ap (move x) p.is ∙ e)

-- items that meet a byte alike
pub alike : {s : List ℕ} {i : ℕ} (xs ys : List Item) → i < length s
    → ((k : List Item) → feed (xs ++ k) (get_or s i 0) ≡ feed (ys ++ k) (get_or s i 0)) → Leads s xs i ys i
alike {s} {i} xs ys h e =
    record {
      low = omega arith;
      high = omega arith;
      goes = λ k. from_cons (xs ++ k) s i h ∙ rw (e k) (sym (from_cons (ys ++ k) s i h));
    }

pub alike_at : {s : List ℕ} {i b : ℕ} (xs ys : List Item) → At s i b
    → ((k : List Item) → feed (xs ++ k) b ≡ feed (ys ++ k) b) → Leads s xs i ys i
alike_at {s} {i} {b} xs ys p e =
    alike xs ys p.inside (subst (λ (x : ℕ). (k : List Item) → feed (xs ++ k) x ≡ feed (ys ++ k) x) (sym p.is) e)

-- ---- so many of one item; the bytes of a word

counted : (x : Item) (n : ℕ) → (n ≡ 0 → ⊥) → replicate n x ≡ x ∷ replicate (n - 1) x
counted x zero h = absurd (h refl)
counted x (suc n) h = rw (sub-one (suc n))

pub peel : {s : List ℕ} {i : ℕ} (x : Item) (n : ℕ) → (n ≡ 0 → ⊥) → i ≤ length s
    → Leads s (replicate n x) i (x ∷ replicate (n - 1) x) i
peel {s} {i} x n h g = rw (counted x n h) (stay s (x ∷ replicate (n - 1) x) i g)

pub spent : {s : List ℕ} {i : ℕ} (x : Item) (n : ℕ) → n ≡ 0 → i ≤ length s → Done s (replicate n x) i i
spent {s} {i} x n h g = rw h (stay s [] i g)

pub letter : {s : List ℕ} {i : ℕ} (w : List ℕ) (j : ℕ) → j < length w → i ≤ length s
    → Leads s (map byte (drop j w)) i (byte (get_or w j 0) ∷ map byte (drop (j + 1) w)) i
letter {s} {i} w j h g =
    subst (λ (l : List Item). Leads s (map byte (drop j w)) i l i)
    (ap (map byte) (drop-cons w j 0 h) ∙ ap (λ (n : ℕ). byte (get_or w j 0) ∷ map byte (drop n w)) (sym (add-one j)))
    (stay s (map byte (drop j w)) i g)

pub spelt : {s : List ℕ} {i : ℕ} (w : List ℕ) (j : ℕ) → j ≡ length w → i ≤ length s → Done s (map byte (drop j w)) i i
spelt {s} {i} w j h g =
    subst (λ (l : List ℕ). Done s (map byte l) i i) (sym (ap (λ (n : ℕ). drop n w) h ∙ drop-length w)) (stay s [] i g)
