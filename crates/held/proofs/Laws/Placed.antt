-- Things at places of their own: one more of them, another run, and a look at one after the other.
use mathlib.Core.Path.{◌≡◌, refl, sym, ap, ◌∙◌, subst}
use mathlib.Core.Bool.{Bool, true, false}
use mathlib.Core.List.{List, [], ◌∷◌, ◌++◌, append_assoc}
use Prim.Native.Nat.{ℕ, suc, ◌+◌, ◌≤◌, ◌<◌}
use native.Mathlib.Omega.{arith}
use lib.ListN.{length, get_or, take, drop, set, length-set, length-append, length-drop, take-append-drop}
use lib.Seq.{get_or-set_same, get_or-set_other, length-take-le, take-append-le, drop-append-le, take-append_seam}
use Rattle.syntax.specs.Forms.{either}
use Rattle.syntax.specs.Members.{has_like}
use Rattle.held.specs.Lying.{Lies, Lying, PlacedFrom, none, more, Placed, PlacedMany}

-- ---- one more

module _ {A : Type 0} {h : A → List ℕ} {run places : List ℕ} where
  pub placed_none : length places ≡ 64 → (e : ℕ) → Placed h run places 0 e []
  placed_none s e = record { count = refl; few = omega arith; size = s; each = none }

  -- further ends, and one more place behind those of the things
  from_more :
      {e f p : ℕ} {x : A} (i : ℕ) (xs : List A) → PlacedFrom h run places e i xs → e ≤ f
      → i + length xs < length places → Lies run p (h x) → p + length (h x) ≤ f
      → PlacedFrom h run (set places (i + length xs) p) f i (xs ++ (x ∷ []))
  from_more {e} {f} {p} {x} i [] none low room l b =
      let k : i + 0 ≡ i = omega arith in
      let same : get_or (set places (i + 0) p) i 0 ≡ p =
      ap (λ (n : ℕ). get_or (set places (i + 0) p) n 0) (sym k) ∙ get_or-set_same places (i + 0) p 0 room in
      more (subst (λ (q : ℕ). Lies run q (h x)) (sym same) l) (omega (arith, same)) none
  from_more {e} {f} {p} {x} i (y ∷ xs) (more m c r) low room l b =
      let k : i + 1 + length xs ≡ i + suc (length xs) = omega arith in
      let other : get_or (set places (i + suc (length xs)) p) i 0 ≡ get_or places i 0 =
      get_or-set_other places (i + suc (length xs)) i p 0 (λ e. omega arith) in
      more (subst (λ (q : ℕ). Lies run q (h y)) (sym other) m) (omega (arith, other))
      (subst (λ (n : ℕ). PlacedFrom h run (set places n p) f (i + 1) (xs ++ (x ∷ []))) k
      (from_more (i + 1) xs r low (omega arith) l b))

  pub placed_next :
      {n e p : ℕ} {x : A} {xs : List A} → Placed h run places n e xs → n < 64 → Lies run p (h x) → e ≤ p
      → Placed h run (set places n p) (n + 1) (p + length (h x)) (xs ++ (x ∷ []))
  placed_next {n} {e} {p} {x} {xs} g room l low =
      let is : 0 + length xs ≡ n = omega (arith, g.count) in
      record {
        count = omega (arith, g.count, length-append xs (x ∷ []));
        few = omega arith;
        size = length-set places n p ∙ g.size;
        each = subst (λ (k : ℕ). PlacedFrom h run (set places k p) (p + length (h x)) 0 (xs ++ (x ∷ []))) is
            (from_more 0 xs g.each (omega arith) (omega (arith, is, g.size)) l (omega arith));
      }

  pub placed_many : {n e : ℕ} {xs : List A} → Placed h run places n e xs → PlacedMany h run places n
  placed_many {e = e} {xs = xs} g = record { things = xs; end = e; placed = g }

-- ---- another run, the same up to a place

module _ (run run' : List ℕ) (e : ℕ) (same : take e run' ≡ take e run) (size : length run' ≡ length run)
    (within : e ≤ length run) where
  kept_drop : (q : ℕ) → q ≤ e → drop q run' ≡ drop q (take e run) ++ drop e run'
  kept_drop q h =
      ap (drop q) (sym (take-append-drop e run') ∙ ap (λ (l : List ℕ). l ++ drop e run') same)
      ∙ drop-append-le q (take e run) (drop e run') (omega (arith, length-take-le e run within))

  lies_kept : {q : ℕ} {ys : List ℕ} → Lies run q ys → q + length ys ≤ e → Lies run' q ys
  lies_kept {q} {ys} l h =
      let m = drop q (take e run) in
      let k = length ys in
      let long : k ≤ length m = omega (arith, length-drop q (take e run), length-take-le e run within) in
      let whole : m ++ drop e run ≡ ys ++ l.behind =
      sym (drop-append-le q (take e run) (drop e run) (omega (arith, length-take-le e run within)))
      ∙ ap (drop q) (take-append-drop e run) ∙ l.is in
      let front : take k m ≡ ys =
      sym (take-append-le k m (drop e run) long) ∙ ap (take k) whole ∙ take-append_seam ys l.behind in
      let parts : m ≡ ys ++ drop k m =
      sym (take-append-drop k m) ∙ ap (λ (z : List ℕ). z ++ drop k m) front in
      record {
        behind = drop k m ++ drop e run';
        is = kept_drop q (omega arith) ∙ ap (λ (z : List ℕ). z ++ drop e run') parts
            ∙ append_assoc ys (drop k m) (drop e run');
        within = omega arith;
        bounded = omega (arith, l.bounded);
      }

  module _ {A : Type 0} {h : A → List ℕ} {places : List ℕ} where
    from_kept : {i : ℕ} {xs : List A} → PlacedFrom h run places e i xs → PlacedFrom h run' places e i xs
    from_kept {xs = []} none = none
    from_kept {xs = x ∷ xs} (more l b r) = more (lies_kept l b) b (from_kept r)

    pub placed_kept : {n : ℕ} {xs : List A} → Placed h run places n e xs → Placed h run' places n e xs
    placed_kept g = record { count = g.count; few = g.few; size = g.size; each = from_kept g.each }

-- ---- one after the other

-- those from number i on are still to be looked at, and only among them one may be like x
module _ {A : Type 0} (h : A → List ℕ) (f : A → A → Bool) (run places : List ℕ) (n e : ℕ) (xs : List A) (x : A) where
  pub record Left (i : ℕ) : Type 0 where
    pub rest : List A
    pub each : PlacedFrom h run places e i rest
    pub count : i + length rest ≡ n
    pub like : has_like f x rest ≡ has_like f x xs

module _ {A : Type 0} {h : A → List ℕ} {f : A → A → Bool} {run places : List ℕ} {n e : ℕ} {xs : List A} {x : A} where
  module _ {i : ℕ} (w : Left h f run places n e xs x i) where
    -- the next one, and those behind it
    record Turn : Type 0 where
      head : A
      tail : List A
      lies : Lies run (get_or places i 0) (h head)
      each : PlacedFrom h run places e (i + 1) tail
      count : i + 1 + length tail ≡ n
      like : either (f x head) (has_like f x tail) ≡ has_like f x xs

    turn : i < n → Turn
    unfolding has_like
    turn t = by w.rest w.each w.count w.like
      where
        by : (ys : List A) → PlacedFrom h run places e i ys → i + length ys ≡ n → has_like f x ys ≡ has_like f x xs → Turn
        by [] none c l = absurd (omega arith)
        by (y ∷ ys) (more m b r) c l =
            record { head = y; tail = ys; lies = m; each = r; count = omega arith; like = l }

    pub left_lying : i < n → Lying h run (get_or places i 0)
    left_lying t = let y = turn t in record { thing = y.head; lies = y.lies }

    pub left_found : i < n → ((y : A) → Lies run (get_or places i 0) (h y) → f x y ≡ true) → has_like f x xs ≡ true
    left_found t s =
        let y = turn t in
        sym y.like ∙ ap (λ (b : Bool). either b (has_like f x y.tail)) (s y.head y.lies)

    pub left_next : i < n → ((y : A) → Lies run (get_or places i 0) (h y) → f x y ≡ false)
        → Left h f run places n e xs x (i + 1)
    left_next t s =
        let y = turn t in
        record {
          rest = y.tail;
          each = y.each;
          count = y.count;
          like = sym (ap (λ (b : Bool). either b (has_like f x y.tail)) (s y.head y.lies)) ∙ y.like;
        }

    pub left_end : n ≤ i → has_like f x xs ≡ false
    unfolding has_like
    left_end t = by w.rest w.count w.like
      where
        by : (ys : List A) → i + length ys ≡ n → has_like f x ys ≡ has_like f x xs → has_like f x xs ≡ false
        by [] c l = sym l
        by (y ∷ ys) c l = absurd (omega arith)
