-- Things collected from the members of an object, one by one.
use mathlib.Core.Path.{◌≡◌, sym, ap, ◌∙◌, subst}
use mathlib.Core.List.{List, [], ◌∷◌, ◌++◌}
use Prim.Native.Nat.{ℕ, ◌+◌, ◌≤◌, ◌<◌}
use native.Mathlib.Omega.{arith}
use lib.ListN.{length}
use Rattle.chars.specs.Base.{part}
use Rattle.text.specs.Json.{Json, object, Members, no_members}
use Rattle.text.specs.Contents.{Stands, Standing, Others, Continuing, Leads, Leader}
use Rattle.text.specs.declared.walk.Member.{Member}
use Rattle.text.specs.declared.walk.Member.TheVariants as M
use Rattle.text.proofs.Laws.Contents.{stands_unique, stands_done}
use Rattle.text.proofs.Laws.Places.{value_grows}
use Rattle.syntax.specs.Forms.{Reading, read}
use Rattle.syntax.specs.Members.{cons, members}
use Rattle.parts.specs.Room.{cost, costm, HoldableMember, Holdable, HoldableObject}
use Rattle.parts.specs.Holding.{Laid, Left}
use Rattle.parts.proofs.Laws.Walking.{left_of, left_falls, stands_past}
use Rattle.parts.proofs.Laws.Sofar.{Sofar, sofar_start, sofar_roomy, sofar_end, sofar_wrong, sofar_more}

-- f's things need no more room than the members that they are read from
module _ {A : Type 0} (h : A → List ℕ) (f : List ℕ → Json → Reading A)
    (fits : (w : List ℕ) (t : Json) (x : A) → f w t ≡ read x → length (h x) ≤ length w + 3 + cost t) where
  pub record Collecting (s : List ℕ) (v : ℕ) (run₀ : List ℕ) (at : ℕ) (run : List ℕ) (m : Member) (p n : ℕ)
      (things : List A) : Type 0 where
    pub whole : Members
    pub stop : ℕ
    pub object_is : Stands s (object whole) v stop
    pub low : ℕ
    pub left : Members
    pub leads : Leads s low left stop m
    pub sofar : Sofar h (members f whole) run₀ at run p n things (members f left) (costm left)

  pub collecting_start :
      {s : List ℕ} {v at : ℕ} {run : List ℕ} (p : HoldableObject s v run at) (m : Member)
      → Leads s v p.what p.stop m → Collecting s v run at run m at 0 []
  collecting_start {s} {v} {at} {run} p m c =
      record {
        whole = p.what;
        stop = p.stop;
        object_is = p.is;
        low = v;
        left = p.what;
        leads = c;
        sofar = sofar_start h (members f p.what) p.roomy;
      }

  module _ {s : List ℕ} {v at : ℕ} {run₀ run : List ℕ} {m : Member} {p n : ℕ} {things : List A}
      (g : Collecting s v run₀ at run m p n things) where
    -- of whatever object stands there
    pub whole_told : (P : Members → Type 0) → P g.whole → (ms : Members) (e : ℕ) → Stands s (object ms) v e → P ms
    whole_told P q ms e l =
        let z : object g.whole ≡ object ms = stands_unique g.object_is l in
        let y : g.whole ≡ ms = cc in
        subst P y q

    pub collecting_read : (q : ℕ) → m ≡ M.Past q → members f g.whole ≡ read things
    unfolding members
    collecting_read q e =
        let c : (g.left ≡ no_members) × (q ≡ g.stop) = subst (Leads s g.low g.left g.stop) e g.leads in
        sofar_end h g.sofar (ap (members f) c.0)

    -- where the object ends
    pub collecting_past : (q : ℕ) → m ≡ M.Past q → (ms : Members) (e : ℕ) → Stands s (object ms) v e → q ≡ e
    collecting_past q k ms e l =
        let c : (g.left ≡ no_members) × (q ≡ g.stop) = subst (Leads s g.low g.left g.stop) k g.leads in
        c.1 ∙ stands_past g.object_is l

    module _ (a b i : ℕ) (q : m ≡ M.Named a b i) where
      pub next : Leader s g.low g.left g.stop a b i
      next = subst (Leads s g.low g.left g.stop) q g.leads

      abbrev name : List ℕ
      name = part s a b

      pub next_cost : costm g.left ≡ length name + 3 + cost next.head + costm next.tail
      unfolding costm
      next_cost = ap costm next.is

      pub next_members : members f g.left ≡ cons (f name next.head) (members f next.tail)
      unfolding members
      next_members = ap (members f) next.is

      pub next_member : HoldableMember s a b i run p
      next_member =
          record {
            what = next.head;
            stop = next.stop;
            is = next.stands;
            order = next.order;
            inside = next.inside;
            roomy = sofar_roomy h g.sofar (length name + 3 + cost next.head) (costm next.tail) next_cost;
          }

      pub next_holdable : Holdable s i run p 0
      next_holdable =
          let r = sofar_roomy h g.sofar (length name + 3 + cost next.head) (costm next.tail) next_cost in
          record {
            what = next.head;
            stop = next.stop;
            is = next.stands;
            roomy = record { room = omega (arith, r.room); bounded = r.bounded };
          }

      pub next_standing : Standing s i
      next_standing = record { what = next.head; stop = next.stop; is = next.stands }

      follows : {e : ℕ} → e ≡ next.stop → Others s next.tail e g.stop
      follows k = subst (λ (j : ℕ). Others s next.tail j g.stop) (sym k) next.follows

      -- behind the member another one, or the end
      pub next_continuing : {e : ℕ} → e ≡ next.stop → Continuing s e
      next_continuing k = record { what = next.tail; stop = g.stop; is = follows k }

      pub next_wrong :
          {run' : List ℕ} → Left run run' (f name next.head) → Left run₀ run' (members f g.whole)
      next_wrong l = sofar_wrong h g.sofar (f name next.head) (members f next.tail) next_members l

      pub collecting_more :
          {run' : List ℕ} {p' n' : ℕ} (d : Laid h run run' p (f name next.head) p')
          → n' ≤ n + (length name + 3 + cost next.head) → (m' : Member) (e : ℕ) → e ≡ next.stop
          → ((ms : Members) (y : ℕ) → Others s ms e y → Leads s e ms y m')
          → Collecting s v run₀ at run' m' p' n' (things ++ (d.thing ∷ []))
      collecting_more {run'} {p'} d more m' e k c =
          record {
            whole = g.whole;
            stop = g.stop;
            object_is = g.object_is;
            low = e;
            left = next.tail;
            leads = c next.tail g.stop (follows k);
            sofar = sofar_more h g.sofar (f name next.head) (members f next.tail) next_members d
                (length name + 3 + cost next.head) (costm next.tail) next_cost
                (fits name next.head d.thing d.said) more;
          }

      pub collecting_less :
          (m' : Member) (e : ℕ) → e ≡ next.stop → ((ms : Members) (y : ℕ) → Others s ms e y → Leads s e ms y m')
          → left_of s m' < left_of s m
      collecting_less m' e k c =
          let d = stands_done next.stands in
          subst (λ (x : Member). left_of s m' < left_of s x) (sym q)
          (left_falls s i e g.stop next.tail a b m' (omega (arith, k, value_grows d)) (omega (arith, k, d.high))
          (c next.tail g.stop (follows k)))
