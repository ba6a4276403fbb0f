-- Bytes say at most as many characters as they are.
use mathlib.Core.Bool.{Bool, true, false}
use mathlib.Core.List.{List, [], ◌∷◌}
use Prim.Native.Nat.{ℕ, zero, suc, ◌≤◌}
use native.Mathlib.Omega.{arith}
use lib.ListN.{length}
use Rattle.chars.specs.Base.{pick, within}
use Rattle.chars.specs.Strings.{Unit, plain, coded, paired}
use Rattle.chars.specs.Decoding.{Read, read, Text, lone, ahead, read_of, on_read, units_behind, units_of, meaning}
use Rattle.chars.specs.Decoding.{paired_with, text_of}

units_on : (r : Read) (f : ℕ → List Unit) (n : ℕ) → ((k : ℕ) → length (f k) ≤ n) → length (on_read r f) ≤ suc n
units_on (read u k) f n h = let z = h k in omega arith

units_few : (n : ℕ) (w : List ℕ) → length (units_behind n w) ≤ length w
unfolding units_behind
units_few n [] = omega arith
units_few (suc n) (b ∷ w) = let z = units_few n w in omega arith
units_few zero (b ∷ w) = units_on (read_of (b ∷ w)) (λ k. units_behind k w) (length w) (λ k. units_few k w)

few_pick : (t : Bool) (x y : Text) (n : ℕ) → length x.chars ≤ n → length y.chars ≤ n
    → length (pick t x y).chars ≤ n
few_pick true x y n h g = h
few_pick false x y n h g = g

mutual
  unfolding meaning paired_with

  meaning_few : (us : List Unit) → length (meaning us).chars ≤ length us
  meaning_few [] = omega arith
  meaning_few (plain c ∷ us) = let z = meaning_few us in omega arith
  meaning_few (coded u ∷ us) =
      let z = meaning_few us in
      few_pick (within 55296 56319 u) (paired_with u us) (pick (within 56320 57343 u) lone (ahead u (meaning us)))
      (suc (length us)) (let y = paired_few u us in omega arith)
      (few_pick (within 56320 57343 u) lone (ahead u (meaning us)) (suc (length us)) (omega arith) (omega arith))

  paired_few : (h : ℕ) (us : List Unit) → length (paired_with h us).chars ≤ length us
  paired_few h [] = omega arith
  paired_few h (plain c ∷ us) = omega arith
  paired_few h (coded l ∷ us) =
      let z = meaning_few us in
      few_pick (within 56320 57343 l) (ahead (paired h l) (meaning us)) lone (suc (length us)) (omega arith)
      (omega arith)

pub chars_few : (w : List ℕ) → length (text_of w).chars ≤ length w
unfolding text_of
chars_few w = let y = units_few 0 w in let z = meaning_few (units_of w) in omega arith
