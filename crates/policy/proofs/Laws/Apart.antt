-- Things gathered from a list's elements, no two of them alike.
use mathlib.Core.Path.{◌≡◌, ap, ◌∙◌, subst}
use mathlib.Core.Bool.{Bool, true, false}
use mathlib.Core.List.{List, ◌++◌}
use Prim.Native.Nat.{ℕ, ◌+◌, ◌≤◌}
use native.Mathlib.Omega.{arith}
use lib.ListN.{length}
use Rattle.text.specs.Json.{Json, list, Values, no_more}
use Rattle.text.specs.Contents.{Stands, Rest, Comes, First}
use Rattle.text.specs.declared.walk.Element.{Element}
use Rattle.text.specs.declared.walk.Element.TheVariants as E
use Rattle.syntax.specs.Forms.{Reading, read}
use Rattle.syntax.specs.Members.{then, each, has_like, differ, differing}
use Rattle.held.specs.Held.{held_each}
use Rattle.parts.specs.Room.{cost, HoldableList}
use Rattle.held.specs.Lying.{Lies, Lying, LyingMany}
use Rattle.parts.specs.Holding.{Extends, Laid, Left, Gathered}
use Rattle.parts.proofs.Laws.Extends.{extends_then, extends_lies, extends_within}
use Rattle.parts.proofs.Laws.Formed.{left_then}
use Rattle.parts.proofs.Laws.Walking.{stands_past}
use Rattle.held.proofs.Laws.Runs.{lies_front}
use Rattle.parts.proofs.Laws.Differ.{differ_snoc}
use Rattle.parts.proofs.Laws.Sofar.{sofar_same, twice_wrong, apart_read}
use Rattle.parts.proofs.Laws.Gathering.{Gathering, gathering_start, gathering_read, whole_told, next, next_each}
use Rattle.parts.proofs.Laws.Gathering.{next_wrong, gathering_more, start_things, more_things}

-- where no two are alike
abbrev pub distinctly : {A : Type 0} → (A → A → Bool) → Reading (List A) → Reading (List A)
distinctly like y = then y (differing like)

module _ {A : Type 0} (h : A → List ℕ) (f : Json → Reading A)
    (fits : (t : Json) (x : A) → f t ≡ read x → length (h x) ≤ cost t)
    (like : A → A → Bool) (symmetric : (x y : A) → like x y ≡ like y x) where
  pub record Apart (s : List ℕ) (v : ℕ) (run₀ : List ℕ) (at : ℕ) (run : List ℕ) (m : Element) (p n : ℕ) : Type 0 where
    pub gathering : Gathering h f fits s v run₀ at run m p n
    pub apart : differ like gathering.things ≡ true

  pub apart_start : {s : List ℕ} {v at : ℕ} {run : List ℕ} (p : HoldableList s v run at) (m : Element)
      → Comes s v p.what p.stop m → Apart s v run at run m at 0
  unfolding differ
  apart_start p m c =
      record { gathering = gathering_start h f fits p m c; apart = ap (differ like) (start_things h f fits p m c) }

module _ {A : Type 0} {h : A → List ℕ} {f : Json → Reading A}
    {fits : (t : Json) (x : A) → f t ≡ read x → length (h x) ≤ cost t} {like : A → A → Bool}
    {symmetric : (x y : A) → like x y ≡ like y x} {s : List ℕ} {v at : ℕ} {run₀ run : List ℕ} {m : Element} {p n : ℕ}
    (g : Apart h f fits like symmetric s v run₀ at run m p n) where
  abbrev state : Gathering h f fits s v run₀ at run m p n
  state = g.gathering

  -- of whatever list stands there
  abbrev told : (P : Values → Type 0) → P state.whole → (ts : Values) (e : ℕ) → Stands s (list ts) v e → P ts
  told = whole_told h f fits state

  pub apart_end : (q : ℕ) → m ≡ E.Past q → (ts : Values) (e : ℕ) → Stands s (list ts) v e
      → Gathered h run₀ run at (distinctly like (each f ts)) p n
  apart_end q k =
      told (λ ts. Gathered h run₀ run at (distinctly like (each f ts)) p n)
      (record {
        things = state.things;
        said = apart_read like symmetric (each f state.whole) state.things (gathering_read h f fits state q k)
            g.apart;
        count = state.count;
        extends = state.sofar.extends;
      })

  -- where it ends
  pub apart_past : (q : ℕ) → m ≡ E.Past q → (ts : Values) (e : ℕ) → Stands s (list ts) v e → q ≡ e
  apart_past q k ts e l =
      let c : (state.left ≡ no_more) × (q ≡ state.stop) =
      subst (Comes s state.low state.left state.stop) k state.comes in
      c.1 ∙ stands_past state.list_is l

  module _ (i : ℕ) (q : m ≡ E.At i) where
    abbrev pub after : First s state.low state.left state.stop i
    after = next h f fits state i q

    pub apart_wrong : {run' : List ℕ} → Left run run' (f after.head) → (ts : Values) (e : ℕ) → Stands s (list ts) v e
        → Left run₀ run' (distinctly like (each f ts))
    apart_wrong {run'} w =
        told (λ ts. Left run₀ run' (distinctly like (each f ts)))
        (left_then (differing like) (next_wrong h f fits state i q w))

    module _ {run' : List ℕ} {p' : ℕ} (d : Laid h run run' p (f after.head) p') where
      all : Extends run₀ run' at (held_each h state.things ++ h d.thing) p'
      all = extends_then state.sofar.extends d.extends

      -- the new thing and those before it lie in the run
      pub one_lies : Lies run' p (h d.thing)
      one_lies =
          extends_lies d.extends (extends_within state.sofar.extends state.sofar.starts)
          (omega (arith, state.sofar.bounded, state.sofar.extends.size))

      pub many_lie : Lies run' at (held_each h state.things)
      many_lie =
          lies_front (held_each h state.things) (h d.thing)
          (extends_lies all state.sofar.starts state.sofar.bounded)

      pub apart_lying : (LyingMany h run' at n) × (Lying h run' p)
      apart_lying = (
        record { things = state.things; count = state.count; lies = many_lie },
        record { thing = d.thing; lies = one_lies },
      )

      pub apart_size : length run' ≡ length run₀
      apart_size = all.size

      pub apart_alike : has_like like d.thing state.things ≡ true → (ts : Values) (e : ℕ) → Stands s (list ts) v e
          → Left run₀ run' (distinctly like (each f ts))
      apart_alike a =
          let rest = each f after.tail in
          told (λ ts. Left run₀ run' (distinctly like (each f ts)))
          (record {
            size = apart_size;
            said = twice_wrong like symmetric (each f state.whole) rest state.things d.thing
                (sofar_same h state.sofar (f after.head) rest (next_each h f fits state i q) d.thing
                d.said) a;
          })

      pub apart_more : has_like like d.thing state.things ≡ false → (m' : Element) (e : ℕ) → e ≡ after.stop
          → ((ts : Values) (y : ℕ) → Rest s ts e y → Comes s e ts y m')
          → Apart h f fits like symmetric s v run₀ at run' m' p' (n + 1)
      apart_more a m' e k c =
          record {
            gathering = gathering_more h f fits state i q d m' e k c;
            apart = ap (differ like) (more_things h f fits state i q d m' e k c)
                ∙ differ_snoc like symmetric state.things d.thing g.apart a;
          }
