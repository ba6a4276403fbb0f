-- Items that take all of some bytes and are done before what follows.
use mathlib.Core.Path.{◌≡◌, refl, ap, ◌∙◌}
use mathlib.Core.Bool.{true}
use mathlib.Core.List.{List, [], ◌∷◌, ◌++◌, map}
use Prim.Native.Nat.{ℕ, ◌+◌}
use native.Mathlib.Omega.{arith}
use lib.ListN.{length, drop}
use Rattle.text.specs.Json.{Spelt}
use Rattle.text.specs.Machine.{Item, pass, go, byte, digits, fraction, exponent, move, optional, feed, ends, run}
use Rattle.text.specs.Machine.{from}
use Rattle.text.specs.Reading.{Done}
use Rattle.text.proofs.Laws.Parts.{spelt_drop, spelt_length}
use Rattle.text.proofs.Laws.Moves.Bytes.{byte_is}

-- the items xs take the bytes w before the bytes r, and nothing of r
abbrev pub Eats : List Item → List ℕ → List ℕ → Type 0
Eats xs w r = (k : List Item) (at : ℕ) → run (xs ++ k) (w ++ r) at ≡ run k r (at + length w)

-- an item is done before the bytes r
unfoldable pub Passed : Item → List ℕ → Type 0
Passed x [] = optional x ≡ true
Passed x (b ∷ r) = move x b ≡ pass

-- no number goes on with the bytes r
pub record Calm (r : List ℕ) : Type 0 where
  pub on_digits : Passed digits r
  pub on_fraction : Passed fraction r
  pub on_exponent : Passed exponent r

-- ---- one byte

module _ (x : Item) (k : List Item) (r : List ℕ) (at : ℕ) where
  pub run_takes : (b : ℕ) (xs : List Item) → move x b ≡ go xs → run (x ∷ k) (b ∷ r) at ≡ run (xs ++ k) r (at + 1)
  unfolding run feed
  run_takes b xs e = rw e

  pub run_alike : (b : ℕ) (y : Item) → move x b ≡ move y b → run (x ∷ k) (b ∷ r) at ≡ run (y ∷ k) (b ∷ r) at
  unfolding run feed
  run_alike b y e = rw e

pub passed_run : (x : Item) (r : List ℕ) → Passed x r → (k : List Item) (at : ℕ) → run (x ∷ k) r at ≡ run k r at
unfolding Passed run feed ends
passed_run x [] p k at = rw p
passed_run x (b ∷ r) p k at = rw p

pub passed_eats : (x : Item) (r : List ℕ) → Passed x r → Eats (x ∷ []) [] r
passed_eats x r p k at = passed_run x r p k at ∙ ap (run k r) (omega arith)

-- ---- from bytes to places

pub eats_done : {s w : List ℕ} {i e : ℕ} (xs : List Item) → Spelt s w i e → Eats xs w (drop e s) → Done s xs i e
unfolding from
eats_done {s} {w} {i} {e} xs p f =
    record {
      low = p.order;
      high = p.inside;
      goes = λ k.
          ap (λ (l : List ℕ). run (xs ++ k) l i) (spelt_drop p) ∙ f k i ∙ ap (run k (drop e s)) (spelt_length p);
    }

pub word_eats : (w r : List ℕ) → Eats (map byte w) w r
word_eats [] r k at = ap (run k r) (omega arith)
word_eats (b ∷ w) r k at =
    run_takes (byte b) (map byte w ++ k) (w ++ r) at b [] (byte_is b b refl)
    ∙ word_eats w r k (at + 1)
    ∙ ap (run k r) (omega arith)
