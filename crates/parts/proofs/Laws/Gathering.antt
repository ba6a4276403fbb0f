-- Things gathered from the elements of a list, one by one.
use mathlib.Core.Path.{◌≡◌, refl, sym, ap, ◌∙◌, subst}
use mathlib.Core.List.{List, [], ◌∷◌, ◌++◌}
use Prim.Native.Nat.{ℕ, suc, ◌+◌, ◌-◌, ◌≤◌, ◌<◌}
use native.Mathlib.Omega.{arith}
use lib.ListN.{length}
use Rattle.text.specs.Json.{Json, list, Values, no_more}
use Rattle.text.specs.Contents.{Stands, Standing, Rest, Resting, Comes, First}
use Rattle.text.specs.declared.walk.Element.{Element}
use Rattle.text.specs.declared.walk.Element.TheVariants as E
use Rattle.text.proofs.Laws.Contents.{stands_unique, stands_inside, stands_done}
use Rattle.text.proofs.Laws.Places.{value_grows}
use Rattle.syntax.specs.Forms.{Reading, read}
use Rattle.syntax.specs.Members.{cons, each}
use Rattle.parts.specs.Room.{cost, costs, Holdable, HoldableList}
use Rattle.parts.specs.Holding.{Laid, Left, Gathered}
use Rattle.parts.proofs.Laws.Room.{cost_some}
use Rattle.parts.proofs.Laws.Walking.{stands_past}
use Rattle.parts.proofs.Laws.Sofar.{Sofar, sofar_start, sofar_roomy, sofar_end, sofar_wrong, sofar_more}
use Rattle.parts.proofs.Laws.Sofar.{snoc_length}

-- what may be left of the text from an element on
unfoldable pub element_left : List ℕ → Element → ℕ
element_left s (E.At i) = suc (length s - i)
element_left s (E.Past q) = 0

element_falls : (s : List ℕ) (i e y : ℕ) (ts : Values) (m : Element) → i < e → i < length s → Comes s e ts y m
    → element_left s m < suc (length s - i)
unfolding element_left
element_falls s i e y ts (E.At j) h g c =
    let a = c.later in let b = stands_inside c.stands in omega arith
element_falls s i e y ts (E.Past q) h g c = omega arith

-- f's things need no more room than the values that they are read from
module _ {A : Type 0} (h : A → List ℕ) (f : Json → Reading A)
    (fits : (t : Json) (x : A) → f t ≡ read x → length (h x) ≤ cost t) where
  pub record Gathering (s : List ℕ) (v : ℕ) (run₀ : List ℕ) (at : ℕ) (run : List ℕ) (m : Element) (p n : ℕ) : Type 0
    where
      pub whole : Values
      pub stop : ℕ
      pub list_is : Stands s (list whole) v stop
      pub low : ℕ
      pub left : Values
      pub comes : Comes s low left stop m
      pub things : List A
      pub sofar : Sofar h (each f whole) run₀ at run p n things (each f left) (costs left)
      pub count : n ≡ length things

  unfoldable pub gathering_start :
      {s : List ℕ} {v at : ℕ} {run : List ℕ} (p : HoldableList s v run at) (m : Element)
      → Comes s v p.what p.stop m → Gathering s v run at run m at 0
  gathering_start {s} {v} {at} {run} p m c =
      record {
        whole = p.what;
        stop = p.stop;
        list_is = p.is;
        low = v;
        left = p.what;
        comes = c;
        things = [];
        sofar = sofar_start h (each f p.what) p.roomy;
        count = refl;
      }

  pub start_things :
      {s : List ℕ} {v at : ℕ} {run : List ℕ} (p : HoldableList s v run at) (m : Element)
      (c : Comes s v p.what p.stop m) → (gathering_start p m c).things ≡ []
  unfolding gathering_start
  start_things p m c = refl

  module _ {s : List ℕ} {v at : ℕ} {run₀ run : List ℕ} {m : Element} {p n : ℕ}
      (g : Gathering s v run₀ at run m p n) where
    -- of whatever list stands there
    pub whole_told : (P : Values → Type 0) → P g.whole → (ts : Values) (e : ℕ) → Stands s (list ts) v e → P ts
    whole_told P q ts e l =
        let z : list g.whole ≡ list ts = stands_unique g.list_is l in
        let y : g.whole ≡ ts = cc in
        subst P y q

    pub gathered_told :
        {run' : List ℕ} {p' n' : ℕ} → Gathered h run₀ run' at (each f g.whole) p' n'
        → (ts : Values) (e : ℕ) → Stands s (list ts) v e → Gathered h run₀ run' at (each f ts) p' n'
    gathered_told {run'} {p'} {n'} q = whole_told (λ x. Gathered h run₀ run' at (each f x) p' n') q

    pub left_told :
        {run' : List ℕ} → Left run₀ run' (each f g.whole)
        → (ts : Values) (e : ℕ) → Stands s (list ts) v e → Left run₀ run' (each f ts)
    left_told {run'} q = whole_told (λ x. Left run₀ run' (each f x)) q

    pub gathering_read : (q : ℕ) → m ≡ E.Past q → each f g.whole ≡ read g.things
    unfolding each
    gathering_read q e =
        let c : (g.left ≡ no_more) × (q ≡ g.stop) = subst (Comes s g.low g.left g.stop) e g.comes in
        sofar_end h g.sofar (ap (each f) c.0)

    pub gathering_end : (q : ℕ) → m ≡ E.Past q → Gathered h run₀ run at (each f g.whole) p n
    gathering_end q e =
        record {
          things = g.things;
          said = gathering_read q e;
          count = g.count;
          extends = g.sofar.extends;
        }

    -- where the list ends
    pub gathering_past : (q : ℕ) → m ≡ E.Past q → (ts : Values) (e : ℕ) → Stands s (list ts) v e → q ≡ e
    gathering_past q k ts e l =
        let c : (g.left ≡ no_more) × (q ≡ g.stop) = subst (Comes s g.low g.left g.stop) k g.comes in
        c.1 ∙ stands_past g.list_is l

    pub end_things : (q : ℕ) (e : m ≡ E.Past q) → (gathering_end q e).things ≡ g.things
    unfolding gathering_end
    end_things q e = refl

    module _ (i : ℕ) (q : m ≡ E.At i) where
      pub next : First s g.low g.left g.stop i
      next = subst (Comes s g.low g.left g.stop) q g.comes

      pub next_cost : costs g.left ≡ cost next.head + costs next.tail
      unfolding costs
      next_cost = ap costs next.is

      pub next_each : each f g.left ≡ cons (f next.head) (each f next.tail)
      unfolding each
      next_each = ap (each f) next.is

      pub next_holdable : Holdable s i run p 0
      next_holdable =
          let r = sofar_roomy h g.sofar (cost next.head) (costs next.tail) next_cost in
          record {
            what = next.head;
            stop = next.stop;
            is = next.stands;
            roomy = record { room = omega (arith, r.room); bounded = r.bounded };
          }

      pub next_standing : Standing s i
      next_standing = record { what = next.head; stop = next.stop; is = next.stands }

      pub follows : {e : ℕ} → e ≡ next.stop → Rest s next.tail e g.stop
      follows k = subst (λ (j : ℕ). Rest s next.tail j g.stop) (sym k) next.follows

      -- behind the element another one, or the end
      pub next_resting : {e : ℕ} → e ≡ next.stop → Resting s e
      next_resting k = record { what = next.tail; stop = g.stop; is = follows k }

      pub next_wrong : {run' : List ℕ} → Left run run' (f next.head) → Left run₀ run' (each f g.whole)
      next_wrong l = sofar_wrong h g.sofar (f next.head) (each f next.tail) next_each l

      pub next_few : n + 1 ≤ 16384
      next_few = omega (arith, next_cost, g.sofar.few, g.sofar.bounded, cost_some next.head)

      unfoldable pub gathering_more :
          {run' : List ℕ} {p' : ℕ} → Laid h run run' p (f next.head) p' → (m' : Element) (e : ℕ) → e ≡ next.stop
          → ((ts : Values) (y : ℕ) → Rest s ts e y → Comes s e ts y m')
          → Gathering s v run₀ at run' m' p' (n + 1)
      gathering_more {run'} {p'} d m' e k c =
          record {
            whole = g.whole;
            stop = g.stop;
            list_is = g.list_is;
            low = e;
            left = next.tail;
            comes = c next.tail g.stop (follows k);
            things = g.things ++ (d.thing ∷ []);
            sofar = sofar_more h g.sofar (f next.head) (each f next.tail) next_each d (cost next.head)
                (costs next.tail) next_cost
                (fits next.head d.thing d.said) (omega (arith, cost_some next.head));
            count = omega (arith, snoc_length g.things d.thing, g.count);
          }

      pub more_things :
          {run' : List ℕ} {p' : ℕ} (d : Laid h run run' p (f next.head) p') (m' : Element) (e : ℕ)
          (k : e ≡ next.stop)
          (c : (ts : Values) (y : ℕ) → Rest s ts e y → Comes s e ts y m')
          → (gathering_more d m' e k c).things ≡ g.things ++ (d.thing ∷ [])
      unfolding gathering_more
      more_things d m' e k c = refl

      pub gathering_less :
          (m' : Element) (e : ℕ) → e ≡ next.stop → ((ts : Values) (y : ℕ) → Rest s ts e y → Comes s e ts y m')
          → element_left s m' < element_left s m
      unfolding element_left
      gathering_less m' e k c =
          let d = stands_done next.stands in
          let z = element_falls s i e g.stop next.tail m' (omega (arith, k, value_grows d))
          (stands_inside next.stands) (c next.tail g.stop (follows k)) in
          subst (λ (x : Element). element_left s m' < element_left s x) (sym q) z
