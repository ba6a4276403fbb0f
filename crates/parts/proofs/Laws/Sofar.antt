-- So far: things held one behind another, and with what is still to be read they are the whole.
use mathlib.Core.Path.{◌≡◌, refl, sym, ap, ◌∙◌, subst}
use mathlib.Core.Bool.{Bool, true}
use mathlib.Core.List.{List, [], ◌∷◌, ◌++◌, append_assoc}
use Prim.Native.Nat.{ℕ, ◌+◌, ◌≤◌}
use native.Mathlib.Omega.{arith}
use lib.ListN.{length, length-append}
use Rattle.syntax.specs.Forms.{Reading, wrong, read}
use Rattle.syntax.specs.Members.{then, only, cons, has_like, differ, differing}
use Rattle.held.specs.Held.{held_each}
use Rattle.parts.specs.Room.{Roomy}
use Rattle.parts.specs.Holding.{Extends, Laid, Left}
use Rattle.parts.proofs.Laws.Extends.{extends_none, extends_then}
use Rattle.parts.proofs.Laws.Differ.{differ_broken}

-- ---- what was read before

module _ {A : Type 0} where
  -- things in front of a reading
  abbrev pub prefixed : List A → Reading (List A) → Reading (List A)
  prefixed xs y = then y (λ ys. read (xs ++ ys))

  append_none : (xs : List A) → xs ++ [] ≡ xs
  append_none [] = refl
  append_none (x ∷ xs) = ap (λ (l : List A). x ∷ l) (append_none xs)

  pub prefixed_start : (y : Reading (List A)) → y ≡ prefixed [] y
  prefixed_start wrong = refl
  prefixed_start (read ys) = refl

  pub prefixed_more :
      (xs : List A) (x : A) (y : Reading (List A)) → prefixed xs (cons (read x) y) ≡ prefixed (xs ++ (x ∷ [])) y
  prefixed_more xs x wrong = refl
  prefixed_more xs x (read ys) = ap read (sym (append_assoc xs (x ∷ []) ys))

  pub prefixed_wrong : (xs : List A) (y : Reading (List A)) → prefixed xs (cons wrong y) ≡ wrong
  prefixed_wrong xs y = refl

  pub prefixed_end : (xs : List A) → prefixed xs (read []) ≡ read xs
  prefixed_end xs = ap read (append_none xs)

  pub held_append : (h : A → List ℕ) (xs ys : List A) → held_each h (xs ++ ys) ≡ held_each h xs ++ held_each h ys
  unfolding held_each
  held_append h [] ys = refl
  held_append h (x ∷ xs) ys =
      ap (λ (l : List ℕ). h x ++ l) (held_append h xs ys) ∙ sym (append_assoc (h x) (held_each h xs) (held_each h ys))

  pub held_one : (h : A → List ℕ) (x : A) → held_each h (x ∷ []) ≡ h x
  unfolding held_each
  held_one h x = none (h x)
    where
      none : (l : List ℕ) → l ++ [] ≡ l
      none [] = refl
      none (y ∷ l) = ap (λ (m : List ℕ). y ∷ m) (none l)

  -- one thing more
  pub held_snoc : (h : A → List ℕ) (xs : List A) (x : A) → held_each h xs ++ h x ≡ held_each h (xs ++ (x ∷ []))
  held_snoc h xs x = sym (held_append h xs (x ∷ []) ∙ ap (λ (l : List ℕ). held_each h xs ++ l) (held_one h x))

  pub snoc_length : (xs : List A) (x : A) → length (xs ++ (x ∷ [])) ≡ length xs + 1
  snoc_length xs x = length-append xs (x ∷ [])

-- ---- so far

module _ {A : Type 0} (h : A → List ℕ) where
  -- of the whole x: what is still to be read is rest, within so many bytes; n is a count that they bound
  pub record Sofar (x : Reading (List A)) (run₀ : List ℕ) (at : ℕ) (run : List ℕ) (p n : ℕ) (things : List A)
      (rest : Reading (List A)) (budget : ℕ) : Type 0 where
    pub extends : Extends run₀ run at (held_each h things) p
    pub same : x ≡ prefixed things rest
    pub room : p + budget ≤ length run₀
    pub few : n + budget ≤ length run₀
    pub starts : at ≤ length run₀
    pub bounded : length run₀ ≤ 16384

  pub sofar_start : {run : List ℕ} {at budget : ℕ} (x : Reading (List A)) → Roomy run at budget
      → Sofar x run at run at 0 [] x budget
  unfolding held_each
  sofar_start {run} {at} {budget} x r =
      record {
        extends = extends_none run at;
        same = prefixed_start x;
        room = r.room;
        few = omega (arith, r.room);
        starts = omega (arith, r.room);
        bounded = r.bounded;
      }

  module _ {x rest : Reading (List A)} {run₀ run : List ℕ} {at p n budget : ℕ} {things : List A}
      (g : Sofar x run₀ at run p n things rest budget) where
    pub sofar_roomy : (c d : ℕ) → budget ≡ c + d → Roomy run p c
    sofar_roomy c d e =
        record {
          room = omega (arith, e, g.room, g.extends.size);
          bounded = omega (arith, g.bounded, g.extends.size);
        }

    pub sofar_end : rest ≡ read [] → x ≡ read things
    sofar_end e = g.same ∙ ap (prefixed things) e ∙ prefixed_end things

    module _ (y : Reading A) (rest' : Reading (List A)) (next : rest ≡ cons y rest') where
      pub sofar_wrong : {run' : List ℕ} → Left run run' y → Left run₀ run' x
      sofar_wrong l =
          record {
            size = l.size ∙ g.extends.size;
            said = g.same ∙ ap (prefixed things) (next ∙ ap (λ (z : Reading A). cons z rest') l.said)
                ∙ prefixed_wrong things rest';
          }

      pub sofar_same : (z : A) → y ≡ read z → x ≡ prefixed (things ++ (z ∷ [])) rest'
      sofar_same z e =
          g.same ∙ ap (prefixed things) (next ∙ ap (λ (r : Reading A). cons r rest') e)
          ∙ prefixed_more things z rest'

      pub sofar_more :
          {run' : List ℕ} {p' n' : ℕ} (d : Laid h run run' p y p') (c b : ℕ) → budget ≡ c + b
          → length (h d.thing) ≤ c → n' ≤ n + c → Sofar x run₀ at run' p' n' (things ++ (d.thing ∷ [])) rest' b
      sofar_more {run'} {p'} {n'} d c b e short more =
          record {
            extends = subst (λ (l : List ℕ). Extends run₀ run' at l p') (held_snoc h things d.thing)
                (extends_then g.extends d.extends);
            same = sofar_same d.thing d.said;
            room = omega (arith, e, g.room, short, d.extends.place);
            few = omega (arith, e, g.few, more);
            starts = g.starts;
            bounded = g.bounded;
          }

-- ---- none twice

module _ {A : Type 0} (f : A → A → Bool) (symmetric : (x y : A) → f x y ≡ f y x) where
  -- a thing like one before it makes the whole wrong, whatever follows
  pub twice_wrong :
      (x rest : Reading (List A)) (xs : List A) (z : A) → x ≡ prefixed (xs ++ (z ∷ [])) rest
      → has_like f z xs ≡ true → then x (differing f) ≡ wrong
  twice_wrong x wrong xs z e l = ap (λ (y : Reading (List A)). then y (differing f)) e
  twice_wrong x (read ys) xs z e l =
      let w : (xs ++ (z ∷ [])) ++ ys ≡ xs ++ (z ∷ ys) = append_assoc xs (z ∷ []) ys in
      let b = differ_broken f symmetric xs z ys l in
      ap (λ (y : Reading (List A)). then y (differing f)) (e ∙ ap read w)
      ∙ ap (λ (t : Bool). only t (xs ++ (z ∷ ys))) b

  pub apart_read : (x : Reading (List A)) (xs : List A) → x ≡ read xs → differ f xs ≡ true
      → then x (differing f) ≡ read xs
  apart_read x xs e d =
      ap (λ (y : Reading (List A)). then y (differing f)) e ∙ ap (λ (t : Bool). only t xs) d
