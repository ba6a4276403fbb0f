-- Lists of exactly one, and members that may be absent: where their value stands and what it says.
--   sole_of t   the element of a list of exactly one
use mathlib.Core.Path.{◌≡◌, refl, sym, ap, ◌∙◌, subst}
use mathlib.Core.Bool.{true, false}
use mathlib.Core.List.{List, [], ◌∷◌}
use Prim.Native.Nat.{ℕ, ◌≤◌, ◌<◌}
use native.Mathlib.Omega.{arith}
use Rattle.text.specs.Json.{Json, null, bool, number, string, list, object, Values, no_more, also}
use Rattle.text.specs.Contents.{kind_of, Stands, Rest, First, Comes}
use Rattle.text.specs.declared.walk.Element.{Element}
use Rattle.text.specs.declared.walk.Element.TheVariants as E
use Rattle.syntax.specs.Forms.{Reading, wrong}
use Rattle.syntax.specs.Members.{Slot, none, many, one, then, characters_of, required, optional}
use Rattle.syntax.specs.RecordLayout.{only_one, is_action_name, action_name_of, is_resource_arn, resource_arn_of}
use Rattle.syntax.specs.RecordLayout.{is_key_name, key_name_of}
use Rattle.parts.specs.Slots.{Placed}
use Rattle.parts.specs.Room.{cost, costs}
use Rattle.parts.specs.Holding.{is_list}
use Rattle.parts.proofs.Laws.Holding.{never}
use Rattle.parts.proofs.Laws.Formed.{formed}
use Rattle.parts.proofs.Laws.Requests.Members.{placed_absent, placed_found}

-- ---- a list of exactly one

abbrev pub sole_of : Json → Slot
sole_of null = none
sole_of (bool b) = none
sole_of (number w) = none
sole_of (string w) = none
sole_of (list no_more) = none
sole_of (list (also t no_more)) = one t
sole_of (list (also t (also u ts))) = none
sole_of (object ms) = none

pub sole_only : {A : Type 0} (f : Json → Reading A) (t : Json) → only_one f t ≡ required f (sole_of t)
unfolding only_one
sole_only f null = refl
sole_only f (bool b) = refl
sole_only f (number w) = refl
sole_only f (string w) = refl
sole_only f (list no_more) = refl
sole_only f (list (also t no_more)) = refl
sole_only f (list (also t (also u ts))) = refl
sole_only f (object ms) = refl

not_sole : (t : Json) → is_list (kind_of t) ≡ false → sole_of t ≡ none
not_sole null e = refl
not_sole (bool true) e = refl
not_sole (bool false) e = refl
not_sole (number w) e = refl
not_sole (string w) e = refl
not_sole (list ts) e = never (sym e)
not_sole (object ms) e = refl

pub only_not : {A : Type 0} (f : Json → Reading A) (t : Json) → is_list (kind_of t) ≡ false → only_one f t ≡ wrong
only_not f t e = sole_only f t ∙ ap (required f) (not_sole t e)

pub record AList (t : Json) : Type 0 where
  pub elements : Values
  pub is : t ≡ list elements

pub is_list_lem : (t : Json) → is_list (kind_of t) ≡ true → AList t
is_list_lem null e = never e
is_list_lem (bool true) e = never e
is_list_lem (bool false) e = never e
is_list_lem (number w) e = never e
is_list_lem (string w) e = never e
is_list_lem (list ts) e = record { elements = ts; is = refl }
is_list_lem (object ms) e = never e

-- a list with a first element at i
pub record Begun (s : List ℕ) (t : Json) (v e i : ℕ) : Type 0 where
  pub head : Json
  pub tail : Values
  pub is : t ≡ list (also head tail)
  pub stop : ℕ
  pub at : Stands s head i stop
  pub follows : Rest s tail stop e
  pub later : v < i

pub list_stands : {s : List ℕ} {v e : ℕ} {t : Json} → Stands s t v e → (a : AList t) → Stands s (list a.elements) v e
list_stands {s} {v} {e} p a = subst (λ (u : Json). Stands s u v e) a.is p

module _ {s : List ℕ} {v e : ℕ} (t : Json) (p : Stands s t v e) (l : is_list (kind_of t) ≡ true) (m : Element)
    (f : (ts : Values) (g : ℕ) → Stands s (list ts) v g → Comes s v ts g m) where
  listed : AList t
  listed = is_list_lem t l

  comes : Comes s v listed.elements e m
  comes = f listed.elements e (list_stands p listed)

  pub only_empty : {A : Type 0} (h : Json → Reading A) {q : ℕ} → m ≡ E.Past q → only_one h t ≡ wrong
  only_empty h {q} z =
      let w : (listed.elements ≡ no_more) × (q ≡ e) = subst (Comes s v listed.elements e) z comes in
      sole_only h t ∙ ap (λ (u : Json). required h (sole_of u)) (listed.is ∙ ap list w.0)

  pub list_begun : {i : ℕ} → m ≡ E.At i → Begun s t v e i
  list_begun {i} z =
      let w : First s v listed.elements e i = subst (Comes s v listed.elements e) z comes in
      record {
        head = w.head;
        tail = w.tail;
        is = listed.is ∙ ap list w.is;
        stop = w.stop;
        at = w.stands;
        follows = w.follows;
        later = w.later;
      }

head_wrong : {A : Type 0} (h : Json → Reading A) (t : Json) (ts : Values) → h t ≡ wrong
    → only_one h (list (also t ts)) ≡ wrong
unfolding only_one
head_wrong h t no_more e = e
head_wrong h t (also u ts) e = refl

module _ {s : List ℕ} {t : Json} {v e i : ℕ} (b : Begun s t v e i) where
  pub begun_rest : {k : ℕ} → k ≡ b.stop → Rest s b.tail k e
  begun_rest z = subst (λ (k : ℕ). Rest s b.tail k e) (sym z) b.follows

  pub begun_cost : cost b.head ≤ cost t
  unfolding cost costs
  begun_cost = omega (arith, ap cost b.is)

  module _ {A : Type 0} (h : Json → Reading A) where
    -- wrong, whatever follows
    pub begun_wrong : h b.head ≡ wrong → only_one h t ≡ wrong
    begun_wrong z = ap (only_one h) b.is ∙ head_wrong h b.head b.tail z

    pub begun_more : (k : ℕ) {j : ℕ} (n : Element) → Comes s k b.tail e n → n ≡ E.At j → only_one h t ≡ wrong
    begun_more k {j} n f z =
        let w : First s k b.tail e j = subst (Comes s k b.tail e) z f in
        sole_only h t ∙ ap (λ (u : Json). required h (sole_of u))
        (b.is ∙ ap (λ (ts : Values). list (also b.head ts)) w.is)

    pub begun_sole : (k : ℕ) {q : ℕ} (n : Element) → Comes s k b.tail e n → n ≡ E.Past q
        → (only_one h t ≡ h b.head) × (q ≡ e)
    begun_sole k {q} n f z =
        let w : (b.tail ≡ no_more) × (q ≡ e) = subst (Comes s k b.tail e) z f in (
          sole_only h t ∙ ap (λ (u : Json). required h (sole_of u))
              (b.is ∙ ap (λ (ts : Values). list (also b.head ts)) w.0),
          w.1,
        )

-- ---- what it says

pub sole_cost : (t u : Json) → sole_of t ≡ one u → cost u ≤ cost t
unfolding cost costs
sole_cost null u e = absurd (let z : ◌≡◌ {A = ℕ} 0 1 = cc in omega arith)
sole_cost (bool b) u e = absurd (let z : ◌≡◌ {A = ℕ} 0 1 = cc in omega arith)
sole_cost (number w) u e = absurd (let z : ◌≡◌ {A = ℕ} 0 1 = cc in omega arith)
sole_cost (string w) u e = absurd (let z : ◌≡◌ {A = ℕ} 0 1 = cc in omega arith)
sole_cost (list no_more) u e = absurd (let z : ◌≡◌ {A = ℕ} 0 1 = cc in omega arith)
sole_cost (list (also t no_more)) u e = let z : t ≡ u = cc in omega (arith, ap cost z)
sole_cost (list (also t (also w ts))) u e = absurd (let z : ◌≡◌ {A = ℕ} 0 1 = cc in omega arith)
sole_cost (object ms) u e = absurd (let z : ◌≡◌ {A = ℕ} 0 1 = cc in omega arith)

required_then : {A B : Type 0} (f : Json → Reading A) (g : A → Reading B) (x : Slot)
    → required (λ t. then (f t) g) x ≡ then (required f x) g
required_then f g none = refl
required_then f g many = refl
required_then f g (one t) = refl

only_then : {B : Type 0} (g : List ℕ → Reading B) (t : Json)
    → only_one (λ u. then (characters_of u) g) t ≡ then (only_one characters_of t) g
only_then g t =
    sole_only (λ u. then (characters_of u) g) t ∙ required_then characters_of g (sole_of t)
    ∙ ap (λ r. then r g) (sym (sole_only characters_of t))

abbrev pub the_one : Slot → Reading (List ℕ)
the_one x = required (only_one characters_of) x

pub action_name_said : (x : Slot) → required (only_one action_name_of) x ≡ formed is_action_name (λ cs. cs) (the_one x)
unfolding action_name_of
action_name_said none = refl
action_name_said many = refl
action_name_said (one t) = only_then _ t

pub resource_arn_said : (t : Json) → only_one resource_arn_of t ≡ formed is_resource_arn (λ cs. cs) (only_one characters_of t)
unfolding resource_arn_of
resource_arn_said t = only_then _ t

pub key_name_said : (t : Json) → key_name_of t ≡ formed is_key_name (λ cs. cs) (characters_of t)
unfolding key_name_of
key_name_said t = refl

-- ---- the one string of a member's list

pub one_absent : {s : List ℕ} {v : ℕ} {x : Slot} → Placed s v x → v ≡ 0 → the_one x ≡ wrong
one_absent p e = ap the_one (placed_absent p e)

-- ---- a resource that is given

pub resource_said : {s : List ℕ} {v : ℕ} {x : Slot} → Placed s v x → (v ≡ 0 → ⊥)
    → optional (42 ∷ []) (only_one resource_arn_of) x ≡ formed is_resource_arn (λ cs. cs) (the_one x)
resource_said p h =
    let f = placed_found p h in
    ap (optional (42 ∷ []) (only_one resource_arn_of)) f.is ∙ resource_arn_said f.what
    ∙ ap (λ x. formed is_resource_arn (λ cs. cs) (the_one x)) (sym f.is)
