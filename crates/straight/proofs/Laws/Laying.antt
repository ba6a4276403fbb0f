-- Several things behind their number.
use mathlib.Core.Path.{subst}
use mathlib.Core.List.{List, ◌∷◌}
use Prim.Native.Nat.{ℕ, ◌+◌, ◌<◌}
use lib.ListN.{length, set}
use Rattle.text.specs.Json.{Json}
use Rattle.syntax.specs.Forms.{Reading}
use Rattle.held.specs.Held.{held_each, held_list}
use Rattle.parts.specs.Holding.{Extends}
use Rattle.parts.proofs.Laws.Extends.{extends_front}
use Rattle.straight.specs.Taking.{Taken, TakenSeveral}

pub several_taken :
    {A : Type 0} {h : A → List ℕ} {f : Json → Reading (List A)} {d : ℕ} {s run run₁ : List ℕ} {v at p e n : ℕ}
    → at < length run → TakenSeveral h f d s run run₁ v (at + 1) p e n
    → Taken (held_list h) f d s run (set run₁ at n) v at p e
several_taken {h = h} {run = run} {run₁ = run₁} {at = at} {p = p} {n = n} low t =
    record {
      tree = t.tree;
      reads = t.reads;
      shallow = t.shallow;
      laid = record {
        thing = t.gathered.things;
        said = t.gathered.said;
        extends =
            subst (λ (k : ℕ). Extends run (set run₁ at n) at (k ∷ held_each h t.gathered.things) p)
            t.gathered.count (extends_front n low t.gathered.extends);
      };
    }
