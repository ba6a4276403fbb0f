-- A loop over the elements of a list, or over the members of an object: whatever follows the place reached, what was
-- passed stands before it. One law for both: they differ in how a further one is put in front.
--   Frame C A       how several things stand together, and how they are read and held
--   Going k s ..    the things passed so far
--   Passed k s ..   one thing more, held behind them
--   Gone k s ..     all of them
use mathlib.Core.Path.{◌≡◌, refl, sym, ap, ◌∙◌, subst}
use mathlib.Core.List.{List, [], ◌∷◌, ◌++◌, append_assoc}
use Prim.Native.Nat.{ℕ, ◌+◌, ◌-◌, ◌≤◌, ◌<◌}
use native.Mathlib.Omega.{arith}
use lib.ListN.{length, length-append}
use Rattle.text.specs.Json.{Json, depth, Piece, a_value, Reads}
use Rattle.syntax.specs.Forms.{Reading, wrong, read}
use Rattle.held.specs.Held.{held_each}
use Rattle.parts.specs.Holding.{Extends}
use Rattle.parts.proofs.Laws.Extends.{extends_none, extends_then}
use Rattle.parts.proofs.Laws.Sofar.{held_snoc}
use Rattle.straight.specs.Marks.{Opened, Closed, Parted}
use Rattle.straight.specs.Taking.{TakenSeveral}
use Rattle.straight.proofs.Laws.Reads.{parted_later, parted_inside}

-- C: what holds several things A: as a value, from its first thing on, and behind one; what they are read as
pub record Frame (C A : Type 0) : Type 0 where
  pub whole : C → Json
  pub inner : C → Piece
  pub outer : C → Piece
  pub gather : C → Reading (List A)
  pub size : C → ℕ
  pub nil : C
  pub hold : A → List ℕ
  pub levels : ℕ
  -- the bytes that it opens and closes with
  pub opens : ℕ
  pub closes : ℕ
  pub starts : (s : List ℕ) (us : C) (v i e : ℕ) → Opened s opens v i → Reads s (inner us) i e
      → Reads s (a_value (whole us)) v e
  pub links : (s : List ℕ) (us : C) (j c e : ℕ) → Parted s 44 j c → Reads s (inner us) c e → Reads s (outer us) j e
  pub ends : (s : List ℕ) (j e : ℕ) → Closed s closes j e → Reads s (outer nil) j e
  pub some : (s : List ℕ) (us : C) (i e : ℕ) → Reads s (inner us) i e → us ≡ nil → ⊥
  pub none_said : gather nil ≡ read []
  pub none_deep : size nil ≤ levels
  pub deep : (us : C) → depth (whole us) ≤ size us + 1

module _ {C A : Type 0} (k : Frame C A) (s : List ℕ) where
  -- from v up to e: the things, and then those of us
  pub record Grown (v e : ℕ) (things : List A) (us : C) : Type 0 where
    pub all : C
    pub reads : Reads s (a_value (k.whole all)) v e
    pub gathers : (xs : List A) → k.gather us ≡ read xs → k.gather all ≡ read (things ++ xs)
    pub fails : k.gather us ≡ wrong → k.gather all ≡ wrong
    pub shallow : k.size us ≤ k.levels → k.size all ≤ k.levels
    pub some_are : all ≡ k.nil → ⊥

  pub record Going (v : ℕ) (run₀ : List ℕ) (at i : ℕ) (run : List ℕ) (p n : ℕ) (things : List A) : Type 0 where
    pub goes : (us : C) (e : ℕ) → Reads s (k.inner us) i e → Grown v e things us
    pub extends : Extends run₀ run at (held_each k.hold things) p
    pub count : n ≡ length things
    pub few : n ≤ i

  -- one thing, from i up to e, whose numbers lie from p up to q
  pub record Passed (run run₁ : List ℕ) (i p q e : ℕ) : Type 0 where
    pub thing : A
    pub put : C → C
    pub gathers : (us : C) (xs : List A) → k.gather us ≡ read xs → k.gather (put us) ≡ read (thing ∷ xs)
    pub fails : (us : C) → k.gather us ≡ wrong → k.gather (put us) ≡ wrong
    pub shallow : (us : C) → k.size us ≤ k.levels → k.size (put us) ≤ k.levels
    pub reads : (us : C) (z : ℕ) → Reads s (k.outer us) e z → Reads s (k.inner (put us)) i z
    pub later : i ≤ e
    pub inside : e ≤ length s
    pub extends : Extends run run₁ p (k.hold thing) q

  -- all of them, from v up to e
  pub record Gone (v e : ℕ) (things : List A) : Type 0 where
    pub all : C
    pub reads : Reads s (a_value (k.whole all)) v e
    pub said : k.gather all ≡ read things
    pub shallow : depth (k.whole all) ≤ k.levels + 1
    pub some_are : all ≡ k.nil → ⊥

  pub going_start : {v at i : ℕ} {run : List ℕ} → Opened s k.opens v i → Going v run at i run at 0 []
  unfolding held_each
  going_start {v} {at} {i} {run} o =
      record {
        goes = λ us e r. record {
          all = us;
          reads = k.starts s us v i e o r;
          gathers = λ xs q. q;
          fails = λ q. q;
          shallow = λ q. q;
          some_are = k.some s us i e r;
        };
        extends = extends_none run at;
        count = refl;
        few = omega arith;
      }

  module _ {v at i p n q e : ℕ} {run₀ run run₁ : List ℕ} {things : List A} (g : Going v run₀ at i run p n things)
      (t : Passed run run₁ i p q e) where
    abbrev new : List A
    new = things ++ (t.thing ∷ [])

    pub going_size : length run₁ ≡ length run₀
    going_size = t.extends.size ∙ g.extends.size

    pub going_fits : n + 1 ≤ length s + 1
    going_fits = omega (arith, g.few, t.later, t.inside)

    pub going_extends : Extends run₀ run₁ at (held_each k.hold new) q
    going_extends =
        subst (λ (l : List ℕ). Extends run₀ run₁ at l q) (held_snoc k.hold things t.thing)
        (extends_then g.extends t.extends)

    pub going_count : n + 1 ≡ length new
    going_count = omega (arith, g.count, length-append things (t.thing ∷ []))

    module _ {c : ℕ} (m : Parted s 44 e c) where
      pub going_less : length s - c < length s - i
      going_less = omega (arith, parted_later m, parted_inside m, t.later)

      pub going_more : Going v run₀ at c run₁ q (n + 1) new
      going_more =
          record {
            goes = λ us z r. by us z (g.goes (t.put us) z (t.reads us z (k.links s us e c z m r)));
            extends = going_extends;
            count = going_count;
            few = omega (arith, g.few, t.later, parted_later m);
          }
        where
          by : (us : C) (z : ℕ) → Grown v z things (t.put us) → Grown v z new us
          by us z w =
              record {
                all = w.all;
                reads = w.reads;
                gathers = λ xs q. w.gathers (t.thing ∷ xs) (t.gathers us xs q)
                    ∙ ap (λ (l : List A). read l) (sym (append_assoc things (t.thing ∷ []) xs));
                fails = λ q. w.fails (t.fails us q);
                shallow = λ q. w.shallow (t.shallow us q);
                some_are = w.some_are;
              }

    -- with the last one
    module _ {z : ℕ} (m : Closed s k.closes e z) where
      pub going_end : Gone v z new
      going_end =
          let w = g.goes (t.put k.nil) z (t.reads k.nil z (k.ends s e z m)) in
          record {
            all = w.all;
            reads = w.reads;
            said = w.gathers (t.thing ∷ []) (t.gathers k.nil [] k.none_said);
            shallow = omega (arith, k.deep w.all, w.shallow (t.shallow k.nil k.none_deep));
            some_are = w.some_are;
          }

      pub going_several : (f : Json → Reading (List A))
          → ((us : C) → (us ≡ k.nil → ⊥) → k.gather us ≡ read new → f (k.whole us) ≡ read new)
          → TakenSeveral k.hold f (k.levels + 1) s run₀ run₁ v at q z (n + 1)
      going_several f means =
          let w = going_end in
          record {
            tree = k.whole w.all;
            reads = w.reads;
            shallow = w.shallow;
            gathered = record {
              things = new;
              said = means w.all w.some_are w.said;
              count = going_count;
              extends = going_extends;
            };
          }
