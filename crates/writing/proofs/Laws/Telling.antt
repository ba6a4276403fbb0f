-- A walk over things that lie in a run, each told behind those before it; how it is told may depend on the last one,
-- and on what is known of those still to come.
use Prim.{Unit}
use mathlib.Core.Path.{◌≡◌, refl, sym, ap, ◌∙◌, subst}
use mathlib.Core.List.{List, [], ◌∷◌, ◌++◌, append-nil, append_assoc}
use Prim.Native.Nat.{ℕ, ◌+◌, ◌≤◌, ◌<◌}
use native.Mathlib.Omega.{arith}
use lib.ListN.{length, get_or}
use Rattle.held.specs.Held.{held_each, held_list}
use Rattle.held.specs.Lying.{Lies, Lying}
use Rattle.held.proofs.Laws.Runs.{lies_first, lies_next}
use Rattle.held.proofs.Laws.Coming.{Coming, coming_now, coming_end}
use Rattle.writing.specs.declared.sink.Sink.{Sink}
use Rattle.writing.specs.Showing.{Adds}
use Rattle.writing.proofs.Laws.Showing.{adds_none, adds_then, adds_as}

-- Of n things i are told and the others lie from p on. What t tells of those, behind the state s, stands behind what
-- was added since k₀; P says what is known of them there.
module _ {A S : Type 0} (h : A → List ℕ) (t : S → List A → List ℕ) (P : S → List A → Type 0)
    (run total : List ℕ) (k₀ : Sink) where
  pub record Telling (n i p : ℕ) (s : S) (k : Sink) : Type 0 where
    pub done : List ℕ
    pub adds : Adds done k₀ k
    pub coming : Coming h run n i p (λ xs. done ++ t s xs) total
    pub known : P s coming.rest

-- whichever n things lie there, the first being told behind the state s₀
abbrev pub Tellings :
    {A S : Type 0} → (A → List ℕ) → (S → List A → List ℕ) → (S → List A → Type 0) → S → (run : List ℕ) (from : ℕ)
    (k₀ : Sink) (n i p : ℕ) → S → Sink → Type 0
Tellings {A} h t P s₀ run from k₀ n i p s k =
    (all : List A) → n ≡ length all → Lies run from (held_each h all) → P s₀ all
    → Telling h t P run (t s₀ all) k₀ n i p s k

-- where nothing more is to be known
abbrev pub Freely : {A S : Type 0} → S → List A → Type 0
Freely s xs = Unit {0}

module _ {A S : Type 0} {h : A → List ℕ} {t : S → List A → List ℕ} {P : S → List A → Type 0} {run : List ℕ} where
  -- of a list, behind its number
  pub list_told :
      {k₀ k : Sink} {at i p : ℕ} {s₀ s : S} (xs : List A) → Lies run at (held_list h xs) → P s₀ xs
      → Tellings h t P s₀ run (at + 1) k₀ (get_or run at 0) i p s k
      → Telling h t P run (t s₀ xs) k₀ (get_or run at 0) i p s k
  list_told xs l v w = w xs (lies_first l) (lies_next l) v

  pub telling_start :
      {n p : ℕ} {s : S} {k : Sink} (all : List A) → n ≡ length all → Lies run p (held_each h all) → P s all
      → Telling h t P run (t s all) k n 0 p s k
  telling_start {k = k} all c l v =
      record {
        done = [];
        adds = adds_none k;
        coming = record { rest = all; lies = l; count = omega (arith, c); same = refl };
        known = v;
      }

  module _ {total : List ℕ} {k₀ u : Sink} {n i p : ℕ} {s : S} (w : Telling h t P run total k₀ n i p s u) where
    -- the things still to come, as what is told of them
    rest : Coming h run n i p (λ xs. xs) w.coming.rest
    rest = record { rest = w.coming.rest; lies = w.coming.lies; count = w.coming.count; same = refl }

    -- the next one, and those behind it
    pub record Now : Type 0 where
      pub head : A
      pub tail : List A
      pub lies : Lies run p (h head)
      pub known : P s (head ∷ tail)

    pub telling_now : i < n → Now
    telling_now k =
        let y = coming_now rest k in
        record { head = y.head; tail = y.tail; lies = y.lies; known = subst (P s) (sym y.same) w.known }

    pub telling_lying : i < n → Lying h run p
    telling_lying k = let y = telling_now k in record { thing = y.head; lies = y.lies }

    -- it is told by a piece
    pub record Piece (x : A) (xs : List A) (q : ℕ) (s' : S) (u' : Sink) : Type 0 where
      pub far : q ≡ p + length (h x)
      pub piece : List ℕ
      pub adds : Adds piece u u'
      pub tells : t s (x ∷ xs) ≡ piece ++ t s' xs
      pub known : P s' xs

    pub telling_next :
        i < n → (q : ℕ) (s' : S) (u' : Sink)
        → ((x : A) (xs : List A) → Lies run p (h x) → P s (x ∷ xs) → Piece x xs q s' u')
        → Telling h t P run total k₀ n (i + 1) q s' u'
    telling_next k q s' u' f =
        let y = coming_now rest k in
        let e = f y.head y.tail y.lies (subst (P s) (sym y.same) w.known) in
        record {
          done = w.done ++ e.piece;
          adds = adds_then w.adds e.adds;
          coming = record {
            rest = y.tail;
            lies = subst (λ (z : ℕ). Lies run z (held_each h y.tail)) (sym e.far) y.behind;
            count = y.count;
            same = append_assoc w.done e.piece (t s' y.tail)
                ∙ ap (λ (l : List ℕ). w.done ++ l) (sym e.tells)
                ∙ ap (λ (xs : List A). w.done ++ t s xs) y.same ∙ w.coming.same;
          };
          known = e.known;
        }

    pub telling_end : n ≤ i → t s [] ≡ [] → Adds total k₀ u
    telling_end k e =
        adds_as (sym (append-nil w.done) ∙ ap (λ (l : List ℕ). w.done ++ l) (sym e) ∙ coming_end w.coming k)
        w.adds
