-- A refined policy is valid and within the limits, so what is written of it reads back.
use mathlib.Core.Path.{◌≡◌, refl, sym, ap, ◌∙◌, subst}
use mathlib.Core.Bool.{Bool, true, false, not}
use mathlib.Core.List.{List, [], ◌∷◌, ◌++◌}
use Prim.Native.Nat.{ℕ, ◌+◌, ◌≤◌, ◌<◌}
use native.Mathlib.Omega.{arith}
use native.Mathlib.Decide.{dec_lt}
use lib.Dec.{ltb}
use lib.ListN.{length, take}
use borrow.Author.Tests.{le-ltb, ltb-false}
use Rattle.chars.specs.Base.{pick}
use Rattle.chars.specs.Putting.{lay}
use Rattle.syntax.specs.Limits.{most_statements, most_entries, policy_bytes, result_bytes}
use Rattle.syntax.specs.Policy.{Effect, Allow, Deny, Statement, Policy}
use Rattle.syntax.specs.Forms.{both, either}
use Rattle.syntax.specs.Members.{has_like, differ}
use Rattle.syntax.specs.PolicyLayout.{same_sid}
use Rattle.held.specs.Held.{any_of, statement_over, total_of, statement_entries, entries, over_limit}
use Rattle.policy.specs.Reading.{Outcome, refused, known, policy_comes, policy_rules, Says}
use Rattle.policy.specs.declared.refusals.Refusal.{Refusal}
use Rattle.policy.specs.declared.refusals.Refusal.TheVariants.{PolicyLimit}
use Rattle.policy.proofs.Laws.Reading.{outcome, by_verdict, says_some, says_unique}
use Rattle.parts.proofs.Laws.Slots.{both_true}
use Rattle.decision.specs.Decision.{same_effect}
use Rattle.writing.specs.Valid as Each
use Rattle.writing.specs.Valid.{Each, Some, ValidStatement, Valid}
use Rattle.writing.specs.WrittenForm.{written_policy}
use Rattle.restate.specs.Operations.{handed}
use Rattle.restate.proofs.Laws.Handing.{handed_long, handed_short, handed_whole}
use Rattle.restate.proofs.Laws.Operations.{read_limits, read_valid}
use Rattle.writing.proofs.Laws.Tree.{written_whole, written_policy_lem}
use Rattle.rooms.specs.Rooms.{statement_slots, slots, fits}
use Rattle.refined.specs.Finishing.{behind, is_whole, kept_statement, left_by, refined_policy, has_allow}
use Rattle.refine.specs.Operations.{holds_for}
use Rattle.refine.specs.Operations as O
use Rattle.demands.specs.Logs.{Bytes}
use Rattle.demands.specs.Again.{FinishAgain}
use Rattle.demands.proofs.Laws.Narrowing.{false_true}
use Rattle.demands.proofs.Laws.NarrowingPolicy.{skip, slots_allow}
use Rattle.demands.proofs.Laws.ValidLists.{either_none, both_false}
use Rattle.demands.proofs.Laws.ValidPolicy.{some_each, StatementGood, statement_good, entries_few}

-- ---- what is left of statements

-- whatever holds of the statement and of what is kept of it, holds of what is left
left_each : (P : Statement → Type 0) (s : Statement) (ns : List ℕ) (rest : Policy) → P s
    → (s.effect ≡ Allow → is_whole (kept_statement s ns) ≡ true → P (kept_statement s ns)) → Each Statement P rest
    → Each Statement P (left_by s ns rest)
left_each P s ns rest v k e = by s.effect refl
  where
    whether : s.effect ≡ Allow → (b : Bool) → is_whole (kept_statement s ns) ≡ b
        → Each Statement P (pick b (kept_statement s ns ∷ rest) rest)
    whether a true h = Each.more (k a h) e
    whether a false h = e

    by : (a : Effect) → s.effect ≡ a → Each Statement P (left_by s ns rest)
    by Allow a =
        subst (λ (x : Effect). Each Statement P (pick (same_effect x Allow) (pick (is_whole (kept_statement s ns))
        (kept_statement s ns ∷ rest) rest) (s ∷ rest))) (sym a) (whether a (is_whole (kept_statement s ns)) refl)
    by Deny a =
        subst (λ (x : Effect). Each Statement P (pick (same_effect x Allow) (pick (is_whole (kept_statement s ns))
        (kept_statement s ns ∷ rest) rest) (s ∷ rest))) (sym a) (Each.more v e)

each_left : (p : Policy) (ns : List ℕ) → fits (slots p) ns ≡ true → Each Statement StatementGood p
    → Each Statement StatementGood (refined_policy p ns)
unfolding refined_policy slots
each_left [] ns f e = Each.none
each_left (s ∷ p) ns f (Each.more v vs) =
    left_each StatementGood s ns (refined_policy p (behind (statement_slots s) ns)) v
    (λ a h. statement_good s (slots p) ns (sym (ap (λ l. fits (l ++ slots p) ns) (slots_allow s a)) ∙ f) v h)
    (each_left p (behind (statement_slots s) ns) (skip (statement_slots s) (slots p) ns f) vs)

-- ---- how many

left_few : (size : Statement → ℕ) (s : Statement) (ns : List ℕ) (rest : Policy) (m : ℕ)
    → size (kept_statement s ns) ≤ size s → total_of size rest ≤ m → total_of size (left_by s ns rest) ≤ size s + m
unfolding total_of
left_few size s ns rest m h k = by (same_effect s.effect Allow) (is_whole (kept_statement s ns))
  where
    by : (a b : Bool) → total_of size (pick a (pick b (kept_statement s ns ∷ rest) rest) (s ∷ rest)) ≤ size s + m
    by true true = omega (arith, h, k)
    by true false = omega (arith, k)
    by false b = omega (arith, k)

total_few : (size : Statement → ℕ) → ((s : Statement) (ns : List ℕ) → size (kept_statement s ns) ≤ size s) → (p : Policy)
    (ns : List ℕ) → total_of size (refined_policy p ns) ≤ total_of size p
unfolding refined_policy total_of
total_few size h [] ns = omega arith
total_few size h (s ∷ p) ns =
    left_few size s ns (refined_policy p (behind (statement_slots s) ns)) (total_of size p) (h s ns)
    (total_few size h p (behind (statement_slots s) ns))

abbrev one : Statement → ℕ
one s = 1

count_is : (p : Policy) → total_of one p ≡ length p
unfolding total_of
count_is [] = refl
count_is (s ∷ p) = omega (arith, count_is p)

count_few : (p : Policy) (ns : List ℕ) → length (refined_policy p ns) ≤ length p
count_few p ns =
    omega (arith, count_is (refined_policy p ns), count_is p, total_few one (λ s ms. omega arith) p ns)

any_none : {p : Policy} → Each Statement StatementGood p → any_of statement_over p ≡ false
unfolding any_of
any_none Each.none = refl
any_none (Each.more v vs) = both_false v.short (any_none vs)

limits : (p : Policy) (ns : List ℕ) → fits (slots p) ns ≡ true → Each Statement StatementGood p → over_limit p ≡ false
    → over_limit (refined_policy p ns) ≡ false
unfolding over_limit
limits p ns f e l =
    let q = refined_policy p ns in
    let a = either_none (ltb most_statements (length p)) (either (ltb most_entries (entries p)) (any_of statement_over p)) l in
    let b = either_none (ltb most_entries (entries p)) (any_of statement_over p) a.1 in
    both_false
    (le-ltb most_statements (length q)
    (omega (arith, count_few p ns, ltb-false most_statements (length p) a.0)))
    (both_false
    (le-ltb most_entries (entries q)
    (omega (arith, total_few statement_entries entries_few p ns, ltb-false most_entries (entries p) b.0)))
    (any_none (each_left p ns f e)))

-- ---- Sids

sid_like : (s : Statement) (ns : List ℕ) (q : Policy) → has_like same_sid (kept_statement s ns) q ≡ has_like same_sid s q
unfolding has_like kept_statement
sid_like s ns [] = refl
sid_like s ns (r ∷ q) = ap (either (same_sid s r)) (sid_like s ns q)

sid_one : (x s : Statement) (ns : List ℕ) → same_sid x (kept_statement s ns) ≡ same_sid x s
unfolding kept_statement
sid_one x s ns = refl

left_like : (x s : Statement) (ns : List ℕ) (rest : Policy) → same_sid x s ≡ false → has_like same_sid x rest ≡ false
    → has_like same_sid x (left_by s ns rest) ≡ false
unfolding has_like
left_like x s ns rest h k = by (same_effect s.effect Allow) (is_whole (kept_statement s ns))
  where
    by : (a b : Bool) → has_like same_sid x (pick a (pick b (kept_statement s ns ∷ rest) rest) (s ∷ rest)) ≡ false
    by true true = both_false (sid_one x s ns ∙ h) k
    by true false = k
    by false b = both_false h k

like_left : (x : Statement) (p : Policy) (ns : List ℕ) → has_like same_sid x p ≡ false
    → has_like same_sid x (refined_policy p ns) ≡ false
unfolding refined_policy has_like
like_left x [] ns h = refl
like_left x (s ∷ p) ns h =
    let t = either_none (same_sid x s) (has_like same_sid x p) h in
    left_like x s ns (refined_policy p (behind (statement_slots s) ns)) t.0
    (like_left x p (behind (statement_slots s) ns) t.1)

not_true : (b : Bool) → not b ≡ true → b ≡ false
not_true true e = false_true e
not_true false e = refl

left_differ : (s : Statement) (ns : List ℕ) (rest : Policy) → has_like same_sid s rest ≡ false → differ same_sid rest ≡ true
    → differ same_sid (left_by s ns rest) ≡ true
unfolding differ
left_differ s ns rest h k = by (same_effect s.effect Allow) (is_whole (kept_statement s ns))
  where
    by : (a b : Bool) → differ same_sid (pick a (pick b (kept_statement s ns ∷ rest) rest) (s ∷ rest)) ≡ true
    by true true = ap (λ (x : Bool). both (not x) (differ same_sid rest)) (sid_like s ns rest ∙ h) ∙ k
    by true false = k
    by false b = ap (λ (x : Bool). both (not x) (differ same_sid rest)) h ∙ k

differ_left : (p : Policy) (ns : List ℕ) → differ same_sid p ≡ true → differ same_sid (refined_policy p ns) ≡ true
unfolding refined_policy differ
differ_left [] ns e = refl
differ_left (s ∷ p) ns e =
    let t = both_true (not (has_like same_sid s p)) (differ same_sid p) e in
    let rest = behind (statement_slots s) ns in
    left_differ s ns (refined_policy p rest) (like_left s p rest (not_true (has_like same_sid s p) t.0))
    (differ_left p rest t.1)

-- ---- a refined policy

good : (p : Policy) → Each Statement ValidStatement p → any_of statement_over p ≡ false → Each Statement StatementGood p
unfolding any_of
good p Each.none l = Each.none
good (s ∷ p) (Each.more v vs) l =
    let t = either_none (statement_over s) (any_of statement_over p) l in
    Each.more (record { valid = v; short = t.0 }) (good p vs t.1)

valid_each : {p : Policy} → Each Statement StatementGood p → Each Statement ValidStatement p
valid_each Each.none = Each.none
valid_each (Each.more v vs) = Each.more v.valid (valid_each vs)

some_of : (p : Policy) → has_allow p ≡ true → Each Statement ValidStatement p → Some Statement ValidStatement p
unfolding any_of
some_of [] h e = false_true h
some_of (s ∷ p) h (Each.more v vs) = Each.first v vs

over_none : (p : Policy) → over_limit p ≡ false → any_of statement_over p ≡ false
unfolding over_limit
over_none p l =
    let a = either_none (ltb most_statements (length p)) (either (ltb most_entries (entries p)) (any_of statement_over p)) l in
    (either_none (ltb most_entries (entries p)) (any_of statement_over p) a.1).1

refined_valid : (p : Policy) (ns : List ℕ) → fits (slots p) ns ≡ true → Valid p → over_limit p ≡ false
    → has_allow (refined_policy p ns) ≡ true → Valid (refined_policy p ns)
refined_valid p ns f v l h =
    let g = each_left p ns f (good p (some_each v.statements) (over_none p l)) in
    record { statements = some_of (refined_policy p ns) h (valid_each g); sids = differ_left p ns v.sids }

-- ---- what is written reads back

written_outcome : (p : Policy) → Valid p → over_limit p ≡ false → length (written_policy p) ≤ result_bytes
    → outcome policy_rules (written_policy p) ≡ known p
unfolding outcome by_verdict
written_outcome p v l short =
    rw (le-ltb policy_bytes (length (written_policy p)) (omega arith), written_whole p v)
    (ap policy_comes (written_policy_lem p v) ∙ ap (λ (b : Bool). pick b (refused PolicyLimit) (known p)) l)

written_says : (p : Policy) → Valid p → over_limit p ≡ false → length (written_policy p) ≤ result_bytes
    → Says policy_rules (written_policy p) (known p)
written_says p v l short =
    subst (Says policy_rules (written_policy p)) (written_outcome p v l short) (says_some policy_rules (written_policy p))

-- ---- what was handed out

record Whole (bs : Bytes) (n : ℕ) (after : Bytes) : Type 0 where
  short : length bs ≤ result_bytes
  is : take n after ≡ bs

lay_take : (bs out : Bytes) → length bs ≤ length out → take (length bs) (lay bs out) ≡ bs
unfolding lay
lay_take [] out h = refl
lay_take (b ∷ bs) [] h = absurd (omega arith)
lay_take (b ∷ bs) (o ∷ out) h = ap (λ (l : List ℕ). b ∷ l) (lay_take bs out (omega (arith, h)))

never : {A B : Type 0} {f : Refusal} {a : A} → ◌≡◌ {A = Outcome A} (known a) (refused f) → B
never e = let y : ◌≡◌ {A = ℕ} 0 1 = cc in absurd (omega arith)

handed_is : (bs out : Bytes) {n : ℕ} {after : Bytes} → ◌≡◌ {A = Outcome ℕ × List ℕ} (known n, after) (handed bs out)
    → Whole bs n after
handed_is bs out {n} {after} e = by (dec_lt result_bytes (length bs)) (dec_lt (length out) (length bs))
  where
    by : Dec (result_bytes < length bs) → Dec (length out < length bs) → Whole bs n after
    by (yes h) k = never (ap (λ (r : Outcome ℕ × List ℕ). r.0) (e ∙ sym (handed_long bs out h)))
    by (no h) (yes k) = never (ap (λ (r : Outcome ℕ × List ℕ). r.0) (e ∙ sym (handed_short bs out (omega (arith, h)) k)))
    by (no h) (no k) =
        let f = e ∙ sym (handed_whole bs out (omega (arith, h)) (omega (arith, k))) in
        let g : known n ≡ known (length bs) = ap (λ (r : Outcome ℕ × List ℕ). r.0) f in
        let i : n ≡ length bs = cc in
        record {
          short = omega (arith, h);
          is = ap (λ (m : ℕ). take m after) i ∙ ap (λ (r : Outcome ℕ × List ℕ). take (length bs) r.1) f
              ∙ lay_take bs out (omega (arith, k));
        }

-- ---- demand 2

again : {policy out after : Bytes} {room : List ℕ} {x : Outcome ℕ} (n : ℕ) (p : Policy)
    → Says policy_rules policy (known p) → O.Finishes policy room out x after → x ≡ known n
    → Says policy_rules (take n after) (known (refined_policy p room))
again n p a (O.no_room e) q = never (sym q)
again n p a (O.no_policy e b) q = never (sym q)
again n p a (O.no_content e b h) q = never (sym q)
again n p a (O.no_allow e b h m) q = never (sym q)
again {policy} {out} {after} {room} n p a (O.finishes {p = r} e b h m g) q =
    let i : r ≡ p = let z = says_unique policy_rules policy (known r) (known p) b a in cc in
    let w = handed_is (written_policy (refined_policy r room)) out
    (ap (λ (y : Outcome ℕ). (y, after)) (sym q) ∙ g) in
    let v = refined_valid r room h (read_valid r b) (read_limits r b) m in
    let l = limits r room h (good r (some_each (read_valid r b).statements) (over_none r (read_limits r b)))
    (read_limits r b) in
    subst (λ (z : Policy). Says policy_rules (take n after) (known (refined_policy z room))) i
    (subst (λ (bs : Bytes). Says policy_rules bs (known (refined_policy r room))) (sym w.is)
    (written_says (refined_policy r room) v l w.short))

pub finish_again : FinishAgain
finish_again policy out after room n p a f = again n p a f refl
