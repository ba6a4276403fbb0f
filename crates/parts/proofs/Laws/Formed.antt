-- A text held and then tested or rewritten in its place.
use mathlib.Core.Path.{◌≡◌, refl, sym, ap, ◌∙◌, subst}
use mathlib.Core.Bool.{Bool, true, false}
use mathlib.Core.List.{List, [], ◌∷◌, ◌++◌, append_assoc}
use Prim.Native.Nat.{ℕ, ◌+◌, ◌-◌, ◌≤◌}
use native.Mathlib.Omega.{arith}
use lib.ListN.{length, take, drop, set, length-append}
use lib.Seq.{take_at, drop_at, length-take-le}
use borrow.Rule.Slice.PartMut.{mid_of, post_of, put_mid, same_len_mid}
use Rattle.chars.specs.Putting.{lay}
use Rattle.syntax.specs.Forms.{Reading, wrong, read, symbols_of, is_resource}
use Rattle.syntax.specs.Members.{then, only}
use Rattle.held.specs.Held.{held_text}
use Rattle.parts.specs.Holding.{Extends, Laid, Left, Holds, HoldsTo, Gathered, GathersTo}
use Rattle.std.specs.Prelude.{Option, Some, None}
use Rattle.parts.specs.declared.holding.Ended.{Ended}
use Rattle.parts.specs.declared.holding.Listed.{Listed}
use Rattle.parts.proofs.Laws.Holding.{laid_extends}
use Rattle.parts.proofs.Laws.Extends.{extends_all, extends_within, extends_front, extends_after}

-- ---- the answer

pub holds_past :
    {A : Type 0} (h : A → List ℕ) (run run' : List ℕ) (at : ℕ) (x : Reading A) {r : Option ℕ} {p : ℕ}
    → Holds h run run' at x r → r ≡ Some p → Laid h run run' at x p
holds_past h run run' at x f e = subst (Holds h run run' at x) e f

pub holds_wrong :
    {A : Type 0} (h : A → List ℕ) (run run' : List ℕ) (at : ℕ) (x : Reading A) {r : Option ℕ}
    → Holds h run run' at x r → r ≡ None → Left run run' x
holds_wrong h run run' at x f e = subst (Holds h run run' at x) e f

pub ends_past :
    {A : Type 0} (h : A → List ℕ) (run run' : List ℕ) (at : ℕ) (x : Reading A) (e : ℕ) {r : Option Ended} {y : Ended}
    → HoldsTo h run run' at x e r → r ≡ Some y → (Laid h run run' at x y.past) × (y.end ≡ e)
ends_past h run run' at x e f z = subst (HoldsTo h run run' at x e) z f

pub ends_wrong :
    {A : Type 0} (h : A → List ℕ) (run run' : List ℕ) (at : ℕ) (x : Reading A) (e : ℕ) {r : Option Ended}
    → HoldsTo h run run' at x e r → r ≡ None → Left run run' x
ends_wrong h run run' at x e f z = subst (HoldsTo h run run' at x e) z f

pub lists_several :
    {A : Type 0} (h : A → List ℕ) (run run' : List ℕ) (at : ℕ) (x : Reading (List A)) (e : ℕ) {r : Option Listed} {y : Listed}
    → GathersTo h run run' at x e r → r ≡ Some y → (Gathered h run run' at x y.past y.count) × (y.end ≡ e)
lists_several h run run' at x e f z = subst (GathersTo h run run' at x e) z f

pub lists_wrong :
    {A : Type 0} (h : A → List ℕ) (run run' : List ℕ) (at : ℕ) (x : Reading (List A)) (e : ℕ) {r : Option Listed}
    → GathersTo h run run' at x e r → r ≡ None → Left run run' x
lists_wrong h run run' at x e f z = subst (GathersTo h run run' at x e) z f

-- nothing was held
pub none_holds :
    {A : Type 0} (h : A → List ℕ) (run run' : List ℕ) (at : ℕ) (x : Reading A) {r : Option ℕ}
    → r ≡ None → Left run run' x → Holds h run run' at x r
none_holds h run run' at x e l = subst (Holds h run run' at x) (sym e) l

pub none_ends :
    {A : Type 0} (h : A → List ℕ) (run run' : List ℕ) (at : ℕ) (x : Reading A) (e : ℕ) {r : Option Ended}
    → r ≡ None → Left run run' x → HoldsTo h run run' at x e r
none_ends h run run' at x e z l = subst (HoldsTo h run run' at x e) (sym z) l

pub none_lists :
    {A : Type 0} (h : A → List ℕ) (run run' : List ℕ) (at : ℕ) (x : Reading (List A)) (e : ℕ) {r : Option Listed}
    → r ≡ None → Left run run' x → GathersTo h run run' at x e r
none_lists h run run' at x e z l = subst (GathersTo h run run' at x e) (sym z) l

-- ---- the run

module _ {run run' : List ℕ} {at p : ℕ} {x : Reading (List ℕ)} (low : at ≤ length run)
    (h : Laid held_text run run' at x p) where
  abbrev cs : List ℕ
  cs = h.thing

  abbrev front : List ℕ
  front = take at run ++ (length cs ∷ [])

  abbrev rest : List ℕ
  rest = drop p run'

  front_length : length front ≡ at + 1
  front_length = length-append (take at run) (length cs ∷ [])
      ∙ ap (λ (n : ℕ). n + 1) (length-take-le at run low)

  all_is : run' ≡ front ++ (cs ++ rest)
  all_is = extends_all h.extends low ∙ sym (append_assoc (take at run) (length cs ∷ []) (cs ++ rest))

  pub past_first : at + 1 ≤ p
  past_first = omega (arith, h.extends.place)

  pub past_within : p ≤ length run'
  past_within = extends_within h.extends low

  abbrev many : ℕ
  many = p - (at + 1)

  many_is : length cs ≡ many
  many_is = omega (arith, h.extends.place)

  behind_is : drop (at + 1) run' ≡ cs ++ rest
  behind_is = ap (drop (at + 1)) all_is ∙ drop_at front (cs ++ rest) (at + 1) front_length

  pub part_is : mid_of (at + 1) many run' ≡ cs
  part_is = ap (take many) behind_is ∙ take_at cs rest many many_is

  front_is : take (at + 1) run' ≡ front
  front_is = ap (take (at + 1)) all_is ∙ take_at front (cs ++ rest) (at + 1) front_length

  -- rewritten by g, character by character
  pub relaid_by :
      (g : List ℕ → List ℕ) (out : List ℕ) → out ≡ g (mid_of (at + 1) many run') → length (g cs) ≡ length cs
      → Extends run (put_mid (at + 1) many run' out) at (held_text (g cs)) p
  relaid_by g out e k =
      subst (λ (ys : List ℕ). Extends run (put_mid (at + 1) many run' ys) at (held_text (g cs)) p)
      (sym (e ∙ ap g part_is)) (relaid (g cs) k)
    where
      relaid : (ys : List ℕ) → length ys ≡ length cs → Extends run (put_mid (at + 1) many run' ys) at (held_text ys) p
      relaid ys e =
          let l : length (front ++ ys) ≡ p = length-append front ys ∙ omega (arith, front_length, e, h.extends.place)
          in
          record {
            size = same_len_mid (at + 1) many run' ys (e ∙ ap length (sym part_is)) ∙ h.extends.size;
            place = omega (arith, e, h.extends.place);
            is = ap (λ (l : List ℕ). take p (l ++ (ys ++ post_of (at + 1) many run'))) front_is
                ∙ ap (take p) (sym (append_assoc front ys (post_of (at + 1) many run')))
                ∙ take_at (front ++ ys) (post_of (at + 1) many run') p l
                ∙ append_assoc (take at run) (length cs ∷ []) ys
                ∙ ap (λ (n : ℕ). take at run ++ (n ∷ ys)) (sym e);
          }

  -- rewritten by fewer characters at the beginning, their number in front
  pub shortened :
      (ys out : List ℕ) → out ≡ lay ys (mid_of (at + 1) many run') → length ys ≤ length cs
      → Extends run (set (put_mid (at + 1) many run' out) at (length ys)) at (held_text ys) (at + 1 + length ys)
  shortened ys out e few =
      let q : length (mid_of (at + 1) many run') ≡ length cs = ap length part_is in
      let w = laid_extends run' ys (at + 1) many (omega (arith, past_within, past_first)) (omega (arith, q, few)) in
      let b : length (take at run) ≡ at = length-take-le at run low in
      let z : take (at + 1) run' ≡ take at run ++ (length cs ∷ []) = front_is in
      let keep : take at run' ≡ take at run =
      ap (take at) (extends_all h.extends low) ∙ take_at (take at run) (held_text cs ++ rest) at b in
      let size : length run' ≡ length run = h.extends.size in
      subst (λ (l : List ℕ). Extends run (set (put_mid (at + 1) many run' l) at (length ys)) at (held_text ys)
      (at + 1 + length ys)) (sym e)
      (extends_after (record { size = size; is = keep })
      (extends_front (length ys) (omega (arith, past_within, past_first)) w))

  -- what a test of the part tells of the text
  pub part_told : (f : List ℕ → Bool) {b c : Bool} → b ≡ f (mid_of (at + 1) many run') → b ≡ c → f cs ≡ c
  part_told f e k = ap f (sym part_is) ∙ sym e ∙ k

-- ---- the reading

module _ (f : List ℕ → Bool) (g : List ℕ → List ℕ) where
  abbrev pub formed : Reading (List ℕ) → Reading (List ℕ)
  formed x = then x (λ cs. only (f cs) (g cs))

  pub formed_no : {x : Reading (List ℕ)} {cs : List ℕ} → x ≡ read cs → f cs ≡ false → formed x ≡ wrong
  formed_no {x} {cs} e n = ap formed e ∙ ap (λ (b : Bool). only b (g cs)) n

  pub formed_yes : {x : Reading (List ℕ)} {cs : List ℕ} → x ≡ read cs → f cs ≡ true → formed x ≡ read (g cs)
  formed_yes {x} {cs} e n = ap formed e ∙ ap (λ (b : Bool). only b (g cs)) n

-- what is wrong stays wrong
pub then_wrong : {A B : Type 0} {x : Reading A} (f : A → Reading B) → x ≡ wrong → then x f ≡ wrong
then_wrong f e = ap (λ x. then x f) e

pub then_read : {A B : Type 0} {x : Reading A} {a : A} (f : A → Reading B) → x ≡ read a → then x f ≡ f a
then_read f e = ap (λ x. then x f) e

pub left_then :
    {A B : Type 0} {run run' : List ℕ} {x : Reading A} (f : A → Reading B) → Left run run' x → Left run run' (then x f)
left_then f l = record { size = l.size; said = then_wrong f l.said }

-- a Resource entry's symbols are tested after they are made
pub resource_formed :
    (x : Reading (List ℕ))
    → then x (λ cs. then (symbols_of true cs) (λ ys. only (is_resource ys) ys))
    ≡ then (then x (symbols_of true)) (λ ys. only (is_resource ys) ys)
resource_formed wrong = refl
resource_formed (read cs) = refl

pub resource_left :
    {run run' : List ℕ} (x : Reading (List ℕ)) → Left run run' (then x (symbols_of true))
    → Left run run' (then x (λ cs. then (symbols_of true cs) (λ ys. only (is_resource ys) ys)))
resource_left x l =
    record { size = l.size; said = resource_formed x ∙ then_wrong (λ ys. only (is_resource ys) ys) l.said }
