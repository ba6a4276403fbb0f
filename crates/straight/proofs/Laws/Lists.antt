-- The elements of a list and the members of an object, as a loop passes them.
--   elements_of, members_of           how they stand together
--   element_passed, member_passed   one of them
use mathlib.Core.Path.{◌≡◌, refl, ap, ◌∙◌, subst}
use mathlib.Core.List.{List, [], ◌∷◌}
use Prim.Native.Nat.{ℕ, ◌+◌, ◌≤◌}
use native.Mathlib.Omega.{arith}
use Rattle.text.specs.Json.{Json, Values, no_more, also, Members, no_members, named, list, object, depth, depths}
use Rattle.text.specs.Json.{depthm, elements, rest, members, more, Reads, element}
use Rattle.syntax.specs.Forms.{Reading, wrong, read}
use Rattle.syntax.specs.Members.{cons, each, some, one_or_more}
use Rattle.syntax.specs.Members as S
use Rattle.straight.specs.Taking.{Taken, TakenMember}
use Rattle.straight.proofs.Laws.Reads.{reads_later, reads_inside, list_some, list_next, list_last, object_some}
use Rattle.straight.proofs.Laws.Reads.{object_next, object_last}
use Rattle.straight.proofs.Laws.Going.{Frame, Passed}

pub cons_read : {A : Type 0} {y : Reading A} {ys : Reading (List A)} {x : A} {xs : List A} → y ≡ read x → ys ≡ read xs
    → cons y ys ≡ read (x ∷ xs)
cons_read {ys = ys} {x = x} e q = ap (λ z. cons z ys) e ∙ ap (λ z. cons (read x) z) q

-- something wrong behind one that is read
pub cons_wrong : {A : Type 0} {y : Reading A} {ys : Reading (List A)} {x : A} → y ≡ read x → ys ≡ wrong
    → cons y ys ≡ wrong
cons_wrong {ys = ys} {x = x} e q = ap (λ z. cons z ys) e ∙ ap (λ z. cons (read x) z) q

-- ---- elements

pub some_elements : (s : List ℕ) (us : Values) (i e : ℕ) → Reads s (elements us) i e → us ≡ no_more → ⊥
some_elements s us i e r q = none (subst (λ (x : Values). Reads s (elements x) i e) q r)
  where
    none : {i e : ℕ} → Reads s (elements no_more) i e → ⊥
    none = elim [ ]

module _ {A : Type 0} (h : A → List ℕ) (f : Json → Reading A) (d : ℕ) where
  pub no_elements : each f no_more ≡ read []
  unfolding each
  no_elements = refl

  pub elements_flat : depths no_more ≤ d
  unfolding depths
  elements_flat = omega arith

  pub list_deep : (us : Values) → depth (list us) ≤ depths us + 1
  unfolding depth
  list_deep us = omega arith

  -- `one_or_more` reads a list that has an element as `each` does
  pub more_are : (us : Values) → (us ≡ no_more → ⊥) → one_or_more f (list us) ≡ each f us
  unfolding one_or_more some
  more_are no_more n = absurd (n refl)
  more_are (also t ts) n = refl

  abbrev pub elements_of : Frame Values A
  elements_of =
      record {
        whole = list;
        inner = elements;
        outer = rest;
        gather = each f;
        size = depths;
        nil = no_more;
        hold = h;
        levels = d;
        opens = 91;
        closes = 93;
        starts = λ s us v i e o r. list_some o r;
        links = λ s us j c e m r. list_next m r;
        ends = λ s j e c. list_last c;
        some = some_elements;
        none_said = no_elements;
        none_deep = elements_flat;
        deep = list_deep;
      }

  pub element_passed : {s run run₁ : List ℕ} {i p q e : ℕ} → Taken h f d s run run₁ i p q e
      → Passed elements_of s run run₁ i p q e
  unfolding each depths
  element_passed t =
      record {
        thing = t.laid.thing;
        put = λ us. also t.tree us;
        gathers = λ us xs k. cons_read t.laid.said k;
        fails = λ us k. cons_wrong t.laid.said k;
        shallow = λ us k. omega (arith, t.shallow);
        reads = λ us z r. element t.reads r;
        later = omega (arith, reads_later t.reads);
        inside = reads_inside t.reads;
        extends = t.laid.extends;
      }

-- ---- members

pub some_members : (s : List ℕ) (us : Members) (i e : ℕ) → Reads s (members us) i e → us ≡ no_members → ⊥
some_members s us i e r q = none (subst (λ (x : Members). Reads s (members x) i e) q r)
  where
    none : {i e : ℕ} → Reads s (members no_members) i e → ⊥
    none = elim [ ]

module _ {A : Type 0} (h : A → List ℕ) (f : List ℕ → Json → Reading A) (d : ℕ) where
  pub no_named : S.members f no_members ≡ read []
  unfolding S.members
  no_named = refl

  pub members_flat : depthm no_members ≤ d
  unfolding depthm
  members_flat = omega arith

  pub object_deep : (us : Members) → depth (object us) ≤ depthm us + 1
  unfolding depth
  object_deep us = omega arith

  abbrev pub members_of : Frame Members A
  members_of =
      record {
        whole = object;
        inner = members;
        outer = more;
        gather = S.members f;
        size = depthm;
        nil = no_members;
        hold = h;
        levels = d;
        opens = 123;
        closes = 125;
        starts = λ s us v i e o r. object_some o r;
        links = λ s us j c e m r. object_next m r;
        ends = λ s j e c. object_last c;
        some = some_members;
        none_said = no_named;
        none_deep = members_flat;
        deep = object_deep;
      }

  unfoldable pub member_passed : {s run run₁ : List ℕ} {i p q e : ℕ} → TakenMember h f d s run run₁ i p q e
      → Passed members_of s run run₁ i p q e
  unfolding S.members depthm
  member_passed t =
      record {
        thing = t.laid.thing;
        put = λ us. named t.raw t.tree us;
        gathers = λ us xs k. cons_read t.laid.said k;
        fails = λ us k. cons_wrong t.laid.said k;
        shallow = λ us k. omega (arith, t.shallow);
        reads = λ us z r. t.reads us z r;
        later = t.later;
        inside = t.inside;
        extends = t.laid.extends;
      }
