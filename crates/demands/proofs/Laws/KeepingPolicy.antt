-- A statement that a record was charged to is written, and matches it still; so the record stays allowed.
use mathlib.Core.Path.{◌≡◌, refl, sym, ap, ◌∙◌, subst}
use mathlib.Core.Bool.{Bool, true, false}
use mathlib.Core.List.{List, [], ◌∷◌, ◌++◌, map, append_assoc}
use Prim.Native.Nat.{ℕ, ◌+◌, ◌*◌}
use native.Mathlib.Omega.{arith}
use lib.ListN.{length, drop, length-append}
use lib.Seq.{drop-drop}
use Rattle.chars.specs.Base.{pick}
use Rattle.syntax.specs.Policy.{Effect, Allow, Deny, Value, text, Row, Statement, Policy, Context, Request}
use Rattle.syntax.specs.Forms.{both, either}
use Rattle.held.specs.Held.{any_of}
use Rattle.parts.proofs.Laws.Slots.{both_true}
use Rattle.decision.specs.Matching.{matches}
use Rattle.decision.specs.Decision.{typed, meets, Found, nothing, found, value_at, same_effect, decide}
use Rattle.decision.specs.declared.deciding.Decision.{Decision}
use Rattle.decision.specs.declared.deciding.Decision.TheVariants.{Denied, Allowed, Implicit}
use Rattle.candidates.specs.Entries.{Place, in_action, in_resource, in_row, meets_at, wild_kind, kind_of}
use Rattle.candidates.specs.Rows.{row_numbers}
use Rattle.rooms.specs.Rooms.{Slot, slots_at, row_slots, statement_slots, slots, fits, hits, row_hits, statement_hits, none}
use Rattle.rooms.specs.Rooms.{is_charged, statement_charges, allowed_charges, by_decision, charges}
use Rattle.refined.specs.Finishing.{kept, behind, text_of, kept_texts, kept_rows, has_some, all_some, is_whole, kept_statement}
use Rattle.refined.specs.Finishing.{left_by, refined_policy}
use Rattle.demands.specs.Charges.{Charged}
use Rattle.demands.specs.Narrowing.{is_allowed}
use Rattle.demands.specs.Narrowing as N
use Rattle.demands.proofs.Laws.Rooms.{rows_fit}
use Rattle.demands.proofs.Laws.Logs.{comes_holds}
use Rattle.demands.proofs.Laws.Deciding.{held_by, all_held, matched, part_matched, some, not, allowed_is}
use Rattle.demands.proofs.Laws.Narrowing.{false_true, either_right, any, list_fits, texts_any, kept_any}
use Rattle.demands.proofs.Laws.NarrowingPolicy.{fits_list, behind_texts, skip, slots_allow, effect_kept}
use Rattle.demands.proofs.Laws.NarrowingPolicy.{deny_same, allow_slots}
use Rattle.demands.proofs.Laws.Keeping.{AllCovered, rows_cover, list_keeps}

-- ---- what matches is not empty

any_some : (p : Place) (v : Value) (xs : List Value) → any p v xs ≡ true → has_some xs ≡ true
unfolding any_of
any_some p v [] e = e
any_some p v (x ∷ xs) e = refl

map_some : (xs : List Value) → has_some xs ≡ true → has_some (map text_of xs) ≡ true
map_some [] e = e
map_some (x ∷ xs) e = refl

-- ---- lists of texts

record TextsKept (xs : List (List ℕ)) (a : List ℕ) (ss : List Slot) (fs : List Found) (ns : List ℕ) : Type 0 where
  matches_it : any_of (λ e. matches e a) (kept_texts xs ns) ≡ true
  some_left : has_some (kept_texts xs ns) ≡ true
  others : AllCovered ss fs (behind xs ns)

module _ (p : Place) (kind : (ys : List ℕ) → kind_of p (text ys) ≡ wild_kind p ys)
    (like : (ys a : List ℕ) → meets_at p (text ys) (text a) ≡ matches ys a) (a : List ℕ) where
  texts_kept : (xs : List (List ℕ)) (ss : List Slot) (fs : List Found) (ns : List ℕ)
      → list_fits p (map text xs) ns ≡ true
      → AllCovered (slots_at Allow p (map text xs) ++ ss) (hits p (found (text a)) (map text xs) ++ fs) ns
      → any_of (λ e. matches e a) xs ≡ true → TextsKept xs a ss fs ns
  texts_kept xs ss fs ns f h e =
      let r = list_keeps p (text a) (map text xs) ss fs ns h in
      let k = r.keeps (sym (texts_any p kind like a xs) ∙ e) in
      record {
        matches_it = kept_any p kind like a xs ns f ∙ k;
        some_left = map_some (kept (map text xs) ns) (any_some p (text a) (kept (map text xs) ns) k);
        others = subst (AllCovered ss fs) (behind_texts xs ns) r.others;
      }

-- ---- condition rows

record RowsKept (rs : List Row) (cs : List Context) (ns : List ℕ) : Type 0 where
  held : all_held (kept_rows rs ns) cs ≡ true
  some_left : all_some (kept_rows rs ns) ≡ true

covered_as : {ss ts : List Slot} {fs gs : List Found} (ns : List ℕ) → ss ≡ ts → fs ≡ gs → AllCovered ss fs ns
    → AllCovered ts gs ns
covered_as {ts = ts} {fs = fs} ns e f h =
    subst (λ (l : List Found). AllCovered ts l ns) f (subst (λ (l : List Slot). AllCovered l fs ns) e h)

one_row_lem : (r : Row) (rs : List Row) (cs : List Context) (ss : List Slot) (fs : List Found) (ns : List ℕ) (g : Found)
    → AllCovered (slots_at Allow (in_row r.operator) r.entries ++ ss) (hits (in_row r.operator) g r.entries ++ fs) ns
    → held_by r g ≡ true
    → (held_by (record { operator = r.operator; key = r.key; entries = kept r.entries ns }) g ≡ true)
    × (has_some (kept r.entries ns) ≡ true) × AllCovered ss fs (behind r.entries ns)
one_row_lem r rs cs ss fs ns nothing h e = false_true e
one_row_lem r rs cs ss fs ns (found v) h e =
    let o = r.operator in
    let t = both_true (typed o v) (any_of (λ x. meets o x v) r.entries) e in
    let w = list_keeps (in_row o) v r.entries ss fs ns h in
    let k = w.keeps t.1 in (
      ap (λ (b : Bool). both b (any_of (λ x. meets o x v) (kept r.entries ns))) t.0 ∙ k,
      any_some (in_row o) v (kept r.entries ns) k,
      w.others,
    )

rows_kept : (rs : List Row) (cs : List Context) (ss : List Slot) (fs : List Found) (ns : List ℕ)
    → AllCovered (row_slots Allow rs ++ ss) (row_hits rs cs ++ fs) ns → all_held rs cs ≡ true → RowsKept rs cs ns
unfolding row_slots row_hits kept_rows all_held all_some
rows_kept [] cs ss fs ns h e = record { held = refl; some_left = refl }
rows_kept (r ∷ rs) cs ss fs ns h e =
    let p = in_row r.operator in
    let g = value_at r.key cs in
    let t = both_true (held_by r g) (all_held rs cs) e in
    let w = one_row_lem r rs cs (row_slots Allow rs ++ ss) (row_hits rs cs ++ fs) ns g
    (covered_as ns (append_assoc (slots_at Allow p r.entries) (row_slots Allow rs) ss)
    (append_assoc (hits p g r.entries) (row_hits rs cs) fs) h) t.0 in
    let z = rows_kept rs cs ss fs (behind r.entries ns) w.2 t.1 in
    record {
      held = ap (λ (b : Bool). both b (all_held (kept_rows rs (behind r.entries ns)) cs)) w.0 ∙ z.held;
      some_left = ap (λ (b : Bool). both b (all_some (kept_rows rs (behind r.entries ns)))) w.1 ∙ z.some_left;
    }

-- ---- a statement

record StatementKept (s : Statement) (q : Request) (ns : List ℕ) : Type 0 where
  matches_it : matched (kept_statement s ns) q ≡ true
  whole : is_whole (kept_statement s ns) ≡ true

all_three : {a b c : Bool} → a ≡ true → b ≡ true → c ≡ true → both a (both b c) ≡ true
all_three {a} {b} {c} e f g = ap (λ (x : Bool). both x (both b c)) e ∙ ap (λ (x : Bool). both x c) f ∙ g

statement_kept : (s : Statement) (q : Request) (ss : List Slot) (fs : List Found) (ns : List ℕ)
    → fits (allow_slots s ++ ss) ns ≡ true → AllCovered (allow_slots s ++ ss) (statement_hits s q ++ fs) ns
    → matched s q ≡ true → StatementKept s q ns
unfolding matched kept_statement statement_hits
statement_kept s q ss fs ns f h e =
    let a = slots_at Allow in_action (map text s.actions) in
    let b = slots_at Allow in_resource (map text s.resources) in
    let c = row_slots Allow s.rows in
    let x = hits in_action (found (text q.action)) (map text s.actions) in
    let y = hits in_resource (found (text q.resource)) (map text s.resources) in
    let z = row_hits s.rows q.context in
    let ns1 = behind s.actions ns in
    let ns2 = behind s.resources ns1 in
    let t = both_true (any_of (λ d. matches d q.action) s.actions)
    (both (any_of (λ d. matches d q.resource) s.resources) (all_held s.rows q.context)) e in
    let u = both_true (any_of (λ d. matches d q.resource) s.resources) (all_held s.rows q.context) t.1 in
    let f1 = fits_list in_action (map text s.actions) ((b ++ c) ++ ss) ns
    (sym (ap (λ (l : List Slot). fits l ns) (append_assoc a (b ++ c) ss)) ∙ f) in
    let f2 = fits_list in_resource (map text s.resources) (c ++ ss) ns1
    (sym (ap (λ (l : List Slot). fits l ns1) (append_assoc b c ss))
    ∙ ap (fits ((b ++ c) ++ ss)) (sym (behind_texts s.actions ns)) ∙ f1.1) in
    let k1 = texts_kept in_action (λ ys. refl) (λ ys d. refl) q.action s.actions ((b ++ c) ++ ss)
    ((y ++ z) ++ fs) ns f1.0 (covered_as ns (append_assoc a (b ++ c) ss) (append_assoc x (y ++ z) fs) h) t.0 in
    let k2 = texts_kept in_resource (λ ys. refl) (λ ys d. refl) q.resource s.resources (c ++ ss) (z ++ fs) ns1
    f2.0 (covered_as ns1 (append_assoc b c ss) (append_assoc y z fs) k1.others) u.0 in
    let k3 = rows_kept s.rows q.context ss fs ns2 k2.others u.1 in
    record {
      matches_it = all_three k1.matches_it k2.matches_it k3.held;
      whole = all_three k1.some_left k2.some_left k3.some_left;
    }

-- ---- as many values as slots

hits_many : (e : Effect) (p : Place) (f : Found) (xs : List Value) → length (hits p f xs) ≡ length (slots_at e p xs)
hits_many e p f [] = refl
hits_many e p f (x ∷ xs) = omega (arith, hits_many e p f xs)

rows_many : (e : Effect) (rs : List Row) (cs : List Context) → length (row_hits rs cs) ≡ length (row_slots e rs)
unfolding row_hits row_slots
rows_many e [] cs = refl
rows_many e (r ∷ rs) cs =
    omega (
      arith,
      length-append (hits (in_row r.operator) (value_at r.key cs) r.entries) (row_hits rs cs),
      length-append (slots_at e (in_row r.operator) r.entries) (row_slots e rs),
      hits_many e (in_row r.operator) (value_at r.key cs) r.entries,
      rows_many e rs cs,
    )

none_many : (ss : List Slot) → length (none ss) ≡ length ss
none_many [] = refl
none_many (s ∷ ss) = omega (arith, none_many ss)

hits_statement : (s : Statement) (q : Request) → length (statement_hits s q) ≡ length (statement_slots s)
unfolding statement_hits statement_slots
hits_statement s q =
    let x = hits in_action (found (text q.action)) (map text s.actions) in
    let y = hits in_resource (found (text q.resource)) (map text s.resources) in
    let a = slots_at s.effect in_action (map text s.actions) in
    let b = slots_at s.effect in_resource (map text s.resources) in
    omega (
      arith,
      length-append x (y ++ row_hits s.rows q.context),
      length-append y (row_hits s.rows q.context),
      length-append a (b ++ row_slots s.effect s.rows),
      length-append b (row_slots s.effect s.rows),
      hits_many s.effect in_action (found (text q.action)) (map text s.actions),
      hits_many s.effect in_resource (found (text q.resource)) (map text s.resources),
      rows_many s.effect s.rows q.context,
    )

charges_many : (s : Statement) (q : Request) → length (statement_charges s q) ≡ length (statement_slots s)
unfolding statement_charges
charges_many s q = by (is_charged s q)
  where
    by : (b : Bool) → length (pick b (statement_hits s q) (none (statement_slots s))) ≡ length (statement_slots s)
    by true = hits_statement s q
    by false = none_many (statement_slots s)

covered_skip : (ts ss : List Slot) (gs fs : List Found) (ns : List ℕ) → length gs ≡ length ts
    → AllCovered (ts ++ ss) (gs ++ fs) ns → AllCovered ss fs (drop (row_numbers * length ts) ns)
unfolding AllCovered
covered_skip [] ss [] fs ns n h = h
covered_skip [] ss (g ∷ gs) fs ns n h = absurd (omega (arith, n))
covered_skip (t ∷ ts) ss [] fs ns n h = absurd (omega (arith, n))
covered_skip (t ∷ ts) ss (g ∷ gs) fs ns n h =
    let e : row_numbers + row_numbers * length ts ≡ row_numbers * length (t ∷ ts) = omega arith in
    subst (AllCovered ss fs) (drop-drop (row_numbers * length ts) row_numbers ns ∙ ap (λ (k : ℕ). drop k ns) e)
    (covered_skip ts ss gs fs (drop row_numbers ns) (omega (arith, n)) h.1)

-- ---- the policy

effects_same : (e : Effect) → same_effect Allow e ≡ same_effect e Allow
effects_same Allow = refl
effects_same Deny = refl

allow_is : (e : Effect) → same_effect e Allow ≡ true → e ≡ Allow
allow_is Allow t = refl
allow_is Deny t = false_true t

module _ (s : Statement) (rest : Policy) (q : Request) (ns : List ℕ) where
  -- what is behind stays
  left_behind : some Allow rest q ≡ true → some Allow (left_by s ns rest) q ≡ true
  unfolding some
  left_behind h = by (same_effect s.effect Allow) (is_whole (kept_statement s ns))
    where
      by : (a b : Bool) → some Allow (pick a (pick b (kept_statement s ns ∷ rest) rest) (s ∷ rest)) q ≡ true
      by true true =
          either_right (both (same_effect Allow (kept_statement s ns).effect) (matched (kept_statement s ns) q)) h
      by true false = h
      by false b = either_right (both (same_effect Allow s.effect) (matched s q)) h

  -- a statement that is kept stands there and matches
  left_here : s.effect ≡ Allow → StatementKept s q ns → some Allow (left_by s ns rest) q ≡ true
  unfolding some
  left_here e w =
      ap (λ (a : Effect). some Allow (pick (same_effect a Allow) (pick (is_whole (kept_statement s ns))
      (kept_statement s ns ∷ rest) rest) (s ∷ rest)) q) e
      ∙ ap (λ (b : Bool). some Allow (pick b (kept_statement s ns ∷ rest) rest) q) w.whole
      ∙ ap (λ (b : Bool). either (both (same_effect Allow (kept_statement s ns).effect) b) (some Allow rest q))
      w.matches_it
      ∙ ap (λ (a : Effect). either (both (same_effect Allow a) true) (some Allow rest q)) (effect_kept s ns ∙ e)

charged_is : (s : Statement) (q : Request) → is_charged s q ≡ both (same_effect s.effect Allow) (matched s q)
charged_is s q = ap (both (same_effect s.effect Allow)) (part_matched s q)

hits_are : (s : Statement) (q : Request) → is_charged s q ≡ true → statement_charges s q ≡ statement_hits s q
unfolding statement_charges
hits_are s q t = ap (λ (b : Bool). pick b (statement_hits s q) (none (statement_slots s))) t

here_false : (s : Statement) (q : Request) → is_charged s q ≡ false → both (same_effect Allow s.effect) (matched s q) ≡ false
here_false s q t = ap (λ (b : Bool). both b (matched s q)) (effects_same s.effect) ∙ sym (charged_is s q) ∙ t

statement_left :
    (s : Statement) (p rest : Policy) (q : Request) (fs : List Found) (ns : List ℕ) (ss : List Slot) (b : Bool)
    → is_charged s q ≡ b → fits (statement_slots s ++ ss) ns ≡ true
    → AllCovered (statement_slots s ++ ss) (statement_charges s q ++ fs) ns
    → (some Allow p q ≡ true → some Allow rest q ≡ true)
    → either (both (same_effect Allow s.effect) (matched s q)) (some Allow p q) ≡ true
    → some Allow (left_by s ns rest) q ≡ true
statement_left s p rest q fs ns ss false t f h later e =
    left_behind s rest q ns (later (sym (ap (λ (b : Bool). either b (some Allow p q)) (here_false s q t)) ∙ e))
statement_left s p rest q fs ns ss true t f h later e =
    let u = both_true (same_effect s.effect Allow) (matched s q) (sym (charged_is s q) ∙ t) in
    let a = allow_is s.effect u.0 in
    let c = slots_allow s a in
    left_here s rest q ns a
    (statement_kept s q ss fs ns (sym (ap (λ (l : List Slot). fits (l ++ ss) ns) c) ∙ f)
    (covered_as ns (ap (λ (l : List Slot). l ++ ss) c) (ap (λ (l : List Found). l ++ fs) (hits_are s q t)) h) u.1)

all_kept : (p : Policy) (q : Request) (ns : List ℕ) → fits (slots p) ns ≡ true
    → AllCovered (slots p) (allowed_charges p q) ns → some Allow p q ≡ true → some Allow (refined_policy p ns) q ≡ true
unfolding slots allowed_charges refined_policy some
all_kept [] q ns f h e = e
all_kept (s ∷ p) q ns f h e =
    statement_left s p (refined_policy p (behind (statement_slots s) ns)) q (allowed_charges p q) ns (slots p) (is_charged s q)
    refl f h
    (λ t. all_kept p q (behind (statement_slots s) ns) (skip (statement_slots s) (slots p) ns f)
    (covered_skip (statement_slots s) (slots p) (statement_charges s q) (allowed_charges p q) ns (charges_many s q) h) t) e

-- ---- demand 3: every accepted record that the original allowed

allowed_charges_lem : (p : Policy) (r : Request) → is_allowed (decide p r) ≡ true → charges p r ≡ allowed_charges p r
unfolding charges
allowed_charges_lem p r e = by (decide p r) e
  where
    by : (d : Decision) → is_allowed d ≡ true → by_decision d p r ≡ allowed_charges p r
    by (Allowed n) t = refl
    by (Denied n) t = false_true t
    by Implicit t = false_true t

pub keeps : N.Keeps
keeps policy p log room known_p comes asked among r says e =
    let w = comes_holds known_p comes in
    let t = both_true (not (some Deny p r)) (some Allow p r) (sym (allowed_is p r) ∙ e) in
    let fit = rows_fit (slots p) (Charged p log) room w.rows in
    let cover = rows_cover (slots p) (charges p r) (Charged p log) room w.rows
    (λ k v i. record { asked = asked; among = among; request = r; says = says; charges_it = i }) in
    let kept_one = all_kept p r room fit (subst (λ (l : List Found). AllCovered (slots p) l room)
    (allowed_charges_lem p r e) cover) t.1 in
    allowed_is (refined_policy p room) r
    ∙ ap (λ (b : Bool). both (not b) (some Allow (refined_policy p room) r)) (deny_same p room r)
    ∙ ap (λ (b : Bool). both b (some Allow (refined_policy p room) r)) t.0 ∙ kept_one
