-- A loop over things of which no two may be alike: each new one is tested against those before it.
--   Kind C A           such things: how they stand together, and when two are alike
--   Differing k s ..   those passed so far: their derivation, their numbers in the run, no two of them alike
use mathlib.Core.Path.{◌≡◌, refl, sym, ◌∙◌}
use mathlib.Core.Bool.{Bool, true, false}
use mathlib.Core.List.{List, [], ◌∷◌, ◌++◌}
use Prim.Native.Nat.{ℕ, ◌+◌}
use native.Mathlib.Omega.{arith}
use lib.ListN.{length}
use Rattle.text.specs.Json.{Json}
use Rattle.syntax.specs.Forms.{Reading, read}
use Rattle.syntax.specs.Members.{has_like, differ}
use Rattle.held.specs.Held.{held_each}
use Rattle.held.specs.Lying.{Lies, Lying, LyingMany}
use Rattle.held.proofs.Laws.Runs.{lies_front}
use Rattle.parts.specs.Room.{Roomy}
use Rattle.parts.proofs.Laws.Extends.{extends_then, extends_lies}
use Rattle.parts.proofs.Laws.Differ.{differ_snoc}
use Rattle.straight.specs.Marks.{Opened, Closed, Parted}
use Rattle.straight.specs.Taking.{TakenSeveral}
use Rattle.straight.proofs.Laws.Taking.{extends_roomy}
use Rattle.straight.proofs.Laws.Going.{Frame, Going, Passed, going_start, going_more, going_several}

pub record Kind (C A : Type 0) : Type 0 where
  pub frame : Frame C A
  pub alike : A → A → Bool
  pub symmetric : (x y : A) → alike x y ≡ alike y x

module _ {C A : Type 0} (k : Kind C A) where
  pub record Differing (s : List ℕ) (v : ℕ) (run₀ : List ℕ) (at i : ℕ) (run : List ℕ) (p n : ℕ) : Type 0 where
    pub things : List A
    pub going : Going k.frame s v run₀ at i run p n things
    pub apart : differ k.alike things ≡ true
    pub roomy : Roomy run₀ at 0

  unfoldable pub differing_start : {s run : List ℕ} {v at i : ℕ} → Roomy run at 0 → Opened s k.frame.opens v i
      → Differing s v run at i run at 0
  unfolding differ
  differing_start {s} r o = record { things = []; going = going_start k.frame s o; apart = refl; roomy = r }

  module _ {s run₀ run : List ℕ} {v at i p n : ℕ} (g : Differing s v run₀ at i run p n) where
    pub differing_roomy : Roomy run p 0
    differing_roomy = extends_roomy g.roomy g.going.extends

    module _ {run₁ : List ℕ} {q e : ℕ} (t : Passed k.frame s run run₁ i p q e) where
      abbrev pub grown : List A
      grown = g.things ++ (t.thing ∷ [])

      -- the new one and those before it lie in the run
      one_lies : Lies run₁ p (k.frame.hold t.thing)
      one_lies = extends_lies t.extends (omega (arith, differing_roomy.room)) differing_roomy.bounded

      many_lie : Lies run₁ at (held_each k.frame.hold g.things)
      many_lie =
          lies_front (held_each k.frame.hold g.things) (k.frame.hold t.thing)
          (extends_lies (extends_then g.going.extends t.extends) (omega (arith, g.roomy.room))
          g.roomy.bounded)

      pub differing_lying : (LyingMany k.frame.hold run₁ at n) × (Lying k.frame.hold run₁ p)
      differing_lying = (
        record { things = g.things; count = g.going.count; lies = many_lie },
        record { thing = t.thing; lies = one_lies },
      )

      -- a test for one like the new one among those before it came to nothing
      pub differing_new : (b : Bool)
          → ((xs : List A) (x : A) → n ≡ length xs → Lies run₁ at (held_each k.frame.hold xs)
          → Lies run₁ p (k.frame.hold x) → b ≡ has_like k.alike x xs)
          → b ≡ false → has_like k.alike t.thing g.things ≡ false
      differing_new b h e = sym (h g.things t.thing g.going.count many_lie one_lies) ∙ e

      module _ (new : has_like k.alike t.thing g.things ≡ false) where
        pub differing_still : differ k.alike grown ≡ true
        differing_still = differ_snoc k.alike k.symmetric g.things t.thing g.apart new

        unfoldable pub differing_more : {c : ℕ} → Parted s 44 e c → Differing s v run₀ at c run₁ q (n + 1)
        differing_more c =
            record {
              things = grown;
              going = going_more k.frame s g.going t c;
              apart = differing_still;
              roomy = g.roomy;
            }

        pub differing_end : {z : ℕ} (f : Json → Reading (List A))
            → ((us : C) (xs : List A) → (us ≡ k.frame.nil → ⊥) → k.frame.gather us ≡ read xs
            → differ k.alike xs ≡ true → f (k.frame.whole us) ≡ read xs)
            → Closed s k.frame.closes e z
            → TakenSeveral k.frame.hold f (k.frame.levels + 1) s run₀ run₁ v at q z (n + 1)
        differing_end f means c =
            going_several k.frame s g.going t c f (λ us some said. means us grown some said differing_still)
