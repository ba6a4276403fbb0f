-- What a record charges: every value fits its slot, and its texts are within the limit.
--   request_short    a request that was read has short texts
--   charges_right    each value is one that its slot can be charged with
use mathlib.Core.Path.{◌≡◌, refl, sym, subst}
use mathlib.Core.Bool.{Bool, true, false}
use mathlib.Core.List.{List, [], ◌∷◌, ◌++◌, map}
use Prim.Native.Nat.{ℕ, ◌≤◌}
use native.Mathlib.Omega.{arith}
use lib.Dec.{leb}
use lib.ListN.{length}
use borrow.Author.Tests.{leb-true}
use Rattle.chars.specs.Base.{pick}
use Rattle.text.specs.Json.{Json, null, bool, number, string, list, object, Values, no_more, also}
use Rattle.syntax.specs.Limits.{entry_characters, most_context}
use Rattle.syntax.specs.Words.{action_names_word, resource_arns_word, context_entries_word, context_key_name_word}
use Rattle.syntax.specs.Words.{context_key_type_word, context_key_values_word, string_type_word, numeric_type_word}
use Rattle.syntax.specs.Policy.{Effect, Allow, Deny, Value, text, Row, Statement, Policy, Context, Request}
use Rattle.syntax.specs.Policy as P
use Rattle.syntax.specs.Forms.{Reading, wrong, read, both, either, all, is_vendor, is_arn, same, same_key, number_in}
use Rattle.syntax.specs.Members.{Slot, none, one, many, only, characters_of, is_word, slot, known, required}
use Rattle.syntax.specs.Members.{optional, each, differ}
use Rattle.syntax.specs.RecordLayout.{only_one, short, is_plain, is_action_name, action_name_of, is_resource_arn}
use Rattle.syntax.specs.RecordLayout.{resource_arn_of, key_name_of, as_number, typed_of, context_of, same_context, contexts_of}
use Rattle.syntax.specs.RecordLayout.{request_of}
use Rattle.parts.proofs.Laws.Fits.{wrong_read, then_inv, only_inv, pick_inv, cons_inv}
use Rattle.parts.proofs.Laws.Slots.{both_true}
use Rattle.decision.specs.Decision.{Found, nothing, found, value_at, same_effect, is_none, part_of}
use Rattle.writing.specs.Valid.{Each}
use Rattle.writing.proofs.Laws.TreeRead.{only_test}
use Rattle.candidates.specs.Entries.{Place, in_action, in_resource, in_row, meets_at}
use Rattle.rooms.specs.Rooms as R
use Rattle.rooms.specs.Rooms.{slots_at, row_slots, statement_slots, slots, hit, hits, row_hits, statement_hits}
use Rattle.rooms.specs.Rooms.{is_charged, statement_charges, allowed_charges, by_decision, charges}
use Rattle.rooms.specs.Walking.{Short, RightAt, Right, all_right, one_right}
use Rattle.refine.specs.Sound.{ShortRequest}

-- ---- a request that was read

few : (cs : List ℕ) → short cs ≡ true → length cs ≤ entry_characters
unfolding short
few cs e = leb-true (length cs) entry_characters e

one_only : {A : Type 0} (P : A → Type 0) (f : Json → Reading A) → ((t : Json) (x : A) → f t ≡ read x → P x)
    → (t : Json) (x : A) → only_one f t ≡ read x → P x
unfolding only_one
one_only P f g null x e = wrong_read e
one_only P f g (bool b) x e = wrong_read e
one_only P f g (number w) x e = wrong_read e
one_only P f g (string w) x e = wrong_read e
one_only P f g (list no_more) x e = wrong_read e
one_only P f g (list (also t no_more)) x e = g t x e
one_only P f g (list (also t (also u ts))) x e = wrong_read e
one_only P f g (object ms) x e = wrong_read e

needed : {A : Type 0} (P : A → Type 0) (f : Json → Reading A) → ((t : Json) (x : A) → f t ≡ read x → P x)
    → (s : Slot) (x : A) → required f s ≡ read x → P x
needed P f g none x e = wrong_read e
needed P f g many x e = wrong_read e
needed P f g (one t) x e = g t x e

asked : {A : Type 0} (P : A → Type 0) (d : A) (f : Json → Reading A) → P d → ((t : Json) (x : A) → f t ≡ read x → P x)
    → (s : Slot) (x : A) → optional d f s ≡ read x → P x
asked P d f p g none x e = let y : d ≡ x = cc in subst P y p
asked P d f p g many x e = wrong_read e
asked P d f p g (one t) x e = g t x e

abbrev Few : List ℕ → Type 0
Few cs = length cs ≤ entry_characters

action_few : (t : Json) (cs : List ℕ) → action_name_of t ≡ read cs → Few cs
unfolding action_name_of
action_few t cs e =
    let p = then_inv (characters_of t) (λ cs. only (is_action_name cs) cs) e in
    let ds = p.thing in
    let k = only_test (is_action_name ds) ds p.next in
    let m = both_true (all is_plain ds) (short ds)
    (both_true (is_vendor ds) (both (all is_plain ds) (short ds)) k).1 in
    subst Few (only_inv (is_action_name ds) p.next) (few ds m.1)

resource_few : (t : Json) (cs : List ℕ) → resource_arn_of t ≡ read cs → Few cs
unfolding resource_arn_of
resource_few t cs e =
    let p = then_inv (characters_of t) (λ cs. only (is_resource_arn cs) cs) e in
    let ds = p.thing in
    let k = only_test (is_resource_arn ds) ds p.next in
    let m = both_true (either (same ds (42 ∷ [])) (is_arn ds)) (short ds) k in
    subst Few (only_inv (is_resource_arn ds) p.next) (few ds m.1)

number_short : (x : Reading ℕ) (v : Value) → as_number x ≡ read v → Short v
number_short wrong v e = wrong_read e
number_short (read n) v e = let y : P.number n ≡ v = cc in subst Short y Prim.tt

typed_short : (t : Json) (cs : List ℕ) (v : Value) → typed_of t cs ≡ read v → Short v
unfolding typed_of
typed_short t cs v e = by (is_word string_type_word t) (is_word numeric_type_word t) e
  where
    by : (a b : Bool) → pick a (only (short cs) (text cs)) (pick b (as_number (number_in cs)) wrong) ≡ read v → Short v
    by true b f = subst Short (only_inv (short cs) f) (few cs (only_test (short cs) (text cs) f))
    by false true f = number_short (number_in cs) v f
    by false false f = wrong_read f

context_short : (t : Json) (c : Context) → context_of t ≡ read c → Short c.value
unfolding context_of
context_short null c e = wrong_read e
context_short (bool b) c e = wrong_read e
context_short (number w) c e = wrong_read e
context_short (string w) c e = wrong_read e
context_short (list ts) c e = wrong_read e
context_short (object ms) c e =
    let a = then_inv (required key_name_of (slot context_key_name_word ms)) _
    (pick_inv (known (context_key_name_word ∷ context_key_type_word ∷ context_key_values_word ∷ []) ms) e) in
    let b = then_inv (required (λ t. read t) (slot context_key_type_word ms)) _ a.next in
    let d = then_inv (required (only_one characters_of) (slot context_key_values_word ms)) _ b.next in
    let v = then_inv (typed_of b.thing d.thing) _ d.next in
    let y : record { key = a.thing; value = v.thing } ≡ c = let z = v.next in cc in
    subst (λ (x : Context). Short x.value) y (typed_short b.thing d.thing v.thing v.said)

abbrev Contexts : List Context → Type 0
Contexts cs = Each Context (λ c. Short c.value) cs

each_short : (ts : Values) (cs : List Context) → each context_of ts ≡ read cs → Contexts cs
unfolding each
each_short no_more cs e = let y : [] ≡ cs = cc in subst Contexts y Each.none
each_short (also t ts) cs e =
    let w = cons_inv (context_of t) (each context_of ts) e in
    subst Contexts (sym w.is) (Each.more {x = w.head} {xs = w.tail} (context_short t w.head w.first) (each_short ts w.tail w.others))

contexts_short : (t : Json) (cs : List Context) → contexts_of t ≡ read cs → Contexts cs
unfolding contexts_of
contexts_short null cs e = wrong_read e
contexts_short (bool b) cs e = wrong_read e
contexts_short (number w) cs e = wrong_read e
contexts_short (string w) cs e = wrong_read e
contexts_short (list ts) cs e =
    let p = then_inv (each context_of ts) _ e in
    subst Contexts (only_inv (both (leb (length p.thing) most_context) (differ same_context p.thing)) p.next)
    (each_short ts p.thing p.said)
contexts_short (object ms) cs e = wrong_read e

pub request_short : (t : Json) (q : Request) → request_of t ≡ read q → ShortRequest q
unfolding request_of
request_short null q e = wrong_read e
request_short (bool b) q e = wrong_read e
request_short (number w) q e = wrong_read e
request_short (string w) q e = wrong_read e
request_short (list ts) q e = wrong_read e
request_short (object ms) q e =
    let a = then_inv (required (only_one action_name_of) (slot action_names_word ms)) _
    (pick_inv (known (action_names_word ∷ resource_arns_word ∷ context_entries_word ∷ []) ms) e) in
    let r = then_inv (optional (42 ∷ []) (only_one resource_arn_of) (slot resource_arns_word ms)) _ a.next in
    let c = then_inv (optional [] contexts_of (slot context_entries_word ms)) _ r.next in
    let y : record { action = a.thing; resource = r.thing; context = c.thing } ≡ q = let z = c.next in cc in
    subst ShortRequest y
    (record {
      action = needed Few (only_one action_name_of) (one_only Few action_name_of action_few) (slot action_names_word ms)
          a.thing a.said;
      resource = asked Few (42 ∷ []) (only_one resource_arn_of) (omega arith)
          (one_only Few resource_arn_of resource_few) (slot resource_arns_word ms) r.thing r.said;
      context = asked Contexts [] contexts_of Each.none contexts_short (slot context_entries_word ms) c.thing c.said;
    })

-- ---- each value at its slot

abbrev ShortFound : Found → Type 0
ShortFound nothing = Unit {0}
ShortFound (found y) = Short y

picked_short : (b : Bool) (f g : Found) → ShortFound f → ShortFound g → ShortFound (pick b f g)
picked_short true f g s t = s
picked_short false f g s t = t

value_short : (k : List ℕ) (cs : List Context) → Contexts cs → ShortFound (value_at k cs)
unfolding value_at
value_short k cs Each.none = Prim.tt
value_short k (c ∷ cs) (Each.more s ss) =
    picked_short (same_key k c.key) (found c.value) (value_at k cs) s (value_short k cs ss)

right_append :
    {ss ts : List R.Slot} {fs gs : List Found} → Right ss fs → Right ts gs → Right (ss ++ ts) (fs ++ gs)
right_append all_right r = r
right_append (one_right x q) r = one_right x (right_append q r)

hit_right : (p : Place) (f : Found) (x : Value) → ShortFound f
    → RightAt (record { effect = Allow; place = p; entry = x }) (hit p f x)
hit_right p nothing x s = Prim.tt
hit_right p (found y) x s = by (meets_at p x y) refl
  where
    by : (b : Bool) → meets_at p x y ≡ b
        → RightAt (record { effect = Allow; place = p; entry = x }) (pick b (found y) nothing)
    by true e = record { allows = refl; meets = e; short = s }
    by false e = Prim.tt

hits_right : (p : Place) (f : Found) (xs : List Value) → ShortFound f → Right (slots_at Allow p xs) (hits p f xs)
hits_right p f [] s = all_right
hits_right p f (x ∷ xs) s = one_right (hit_right p f x s) (hits_right p f xs s)

rows_right : (rs : List Row) (cs : List Context) → Contexts cs → Right (row_slots Allow rs) (row_hits rs cs)
unfolding row_slots row_hits
rows_right [] cs s = all_right
rows_right (r ∷ rs) cs s =
    right_append
    (hits_right (in_row r.operator) (value_at r.key cs) r.entries (value_short r.key cs s))
    (rows_right rs cs s)

pub none_right : (ss : List R.Slot) → Right ss (R.none ss)
none_right [] = all_right
none_right (s ∷ ss) = one_right Prim.tt (none_right ss)

module _ (q : Request) (short_q : ShortRequest q) where
  hits_all : (s : Statement) → s.effect ≡ Allow → Right (statement_slots s) (statement_hits s q)
  unfolding statement_slots statement_hits
  hits_all s e =
      subst (λ (a : Effect). Right (slots_at a in_action (map text s.actions)
      ++ (slots_at a in_resource (map text s.resources) ++ row_slots a s.rows)) (statement_hits s q)) (sym e)
      (right_append (hits_right in_action (found (text q.action)) (map text s.actions) short_q.action)
      (right_append (hits_right in_resource (found (text q.resource)) (map text s.resources) short_q.resource)
      (rows_right s.rows q.context short_q.context)))

  allow_only : (e : Effect) (b : Bool) → both (same_effect e Allow) b ≡ true → e ≡ Allow
  allow_only Allow b t = refl
  allow_only Deny b t = let y : ◌≡◌ {A = ℕ} 0 1 = cc in absurd (omega arith)

  statement_right : (s : Statement) → Right (statement_slots s) (statement_charges s q)
  unfolding statement_charges
  statement_right s = by (is_charged s q) refl
    where
      by : (b : Bool) → is_charged s q ≡ b → Right (statement_slots s) (pick b (statement_hits s q)
          (R.none (statement_slots s)))
      by true e = hits_all s (allow_only s.effect (is_none (part_of s q)) e)
      by false e = none_right (statement_slots s)

  pub charges_right : (p : Policy) → Right (slots p) (allowed_charges p q)
  unfolding slots allowed_charges
  charges_right [] = all_right
  charges_right (s ∷ p) = right_append (statement_right s) (charges_right p)
