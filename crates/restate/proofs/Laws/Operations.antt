-- Restate comes to one outcome, keeps the output where it refuses, and writes what reads back as the same policy.
use mathlib.Core.Path.{◌≡◌, refl, sym, ap, ◌∙◌, subst}
use mathlib.Core.Bool.{Bool, true, false}
use mathlib.Core.List.{List, [], ◌∷◌}
use Prim.Native.Nat.{ℕ, ◌≤◌, ◌<◌}
use native.Mathlib.Omega.{arith}
use native.Mathlib.Decide.{dec_lt}
use lib.ListN.{length, take}
use borrow.Author.Tests.{le-ltb}
use Rattle.chars.specs.Base.{pick}
use Rattle.text.specs.Json.{Json, JsonText}
use Rattle.chars.specs.Putting.{lay}
use Rattle.text.proofs.Laws.Printing.{says_sound}
use Rattle.syntax.specs.Limits.{policy_bytes, result_bytes}
use Rattle.syntax.specs.Policy.{Policy}
use Rattle.syntax.specs.Forms.{Reading, wrong, read}
use Rattle.syntax.specs.PolicyLayout.{policy_of}
use Rattle.held.specs.Held.{over_limit}
use Rattle.policy.specs.Reading.{Outcome, refused, known, policy_comes, policy_rules, Says, long, broken}
use Rattle.policy.specs.Reading.{deep, text}
use Rattle.policy.specs.declared.refusals.Refusal.{Refusal}
use Rattle.policy.specs.declared.refusals.Refusal.TheVariants.{PolicyLimit}
use Rattle.policy.proofs.Laws.Reading.{by_verdict, outcome, says_some, says_is, says_unique}
use Rattle.decide.specs.Operations.{Decides, record_refused, decided}
use Rattle.decide.specs.Operations as D
use Rattle.decision.specs.declared.deciding.Decision.{Decision}
use Rattle.writing.specs.WrittenForm.{written_policy}
use Rattle.writing.specs.Valid.{Valid}
use Rattle.restate.specs.Operations.{handed, Restates, policy_refused, restated}
use Rattle.restate.specs.Restating.{RestatesSome, RestatesUnique, RefusedKeeps, Again, RestatesAgain}
use Rattle.writing.proofs.Laws.Tree.{written_whole, written_policy_lem}
use Rattle.writing.proofs.Laws.TreeReadPolicy.{policy_valid}
use Rattle.restate.proofs.Laws.Handing.{handed_long, handed_short, handed_whole}

-- ---- one outcome

-- the outcome as a function of what the text comes to
abbrev pub answer : Outcome Policy → List ℕ → Outcome ℕ × List ℕ
answer (refused f) out = (refused f, out)
answer (known p) out = handed (written_policy p) out

-- so the relation is one equation
pub restates_is :
    {policy out after : List ℕ} {x : Outcome ℕ} → Restates policy out x after
    → ◌≡◌ {A = Outcome ℕ × List ℕ} (x, after) (answer (outcome policy_rules policy) out)
restates_is {policy} {out} (policy_refused a) = ap (λ (y : Outcome Policy). answer y out) (says_is policy_rules policy a)
restates_is {policy} {out} (restated a e) = e ∙ ap (λ (y : Outcome Policy). answer y out) (says_is policy_rules policy a)

by_outcome :
    (policy out : List ℕ) (y : Outcome Policy) → Says policy_rules policy y
    → Restates policy out (answer y out).0 (answer y out).1
by_outcome policy out (refused f) a = policy_refused a
by_outcome policy out (known p) a = restated a refl

pub restates_some : RestatesSome
restates_some policy out =
    record {
      answer = (answer (outcome policy_rules policy) out).0;
      after = (answer (outcome policy_rules policy) out).1;
      restates = by_outcome policy out (outcome policy_rules policy) (says_some policy_rules policy);
    }

pub restates_unique : RestatesUnique
restates_unique policy out x y after behind a b = restates_is a ∙ sym (restates_is b)

-- ---- what is handed out

never : {A B : Type 0} {f : Refusal} {a : A} → ◌≡◌ {A = Outcome A} (refused f) (known a) → B
never e = let y : ◌≡◌ {A = ℕ} 0 1 = cc in absurd (omega arith)

-- what a written result is
record Whole (bs out : List ℕ) (n : ℕ) (after : List ℕ) : Type 0 where
  short : length bs ≤ result_bytes
  within : n ≤ length out
  is : take n after ≡ bs

module _ (bs out : List ℕ) where
  pub handed_kept :
      {f : Refusal} {after : List ℕ} → ◌≡◌ {A = Outcome ℕ × List ℕ} (refused f, after) (handed bs out) → after ≡ out
  handed_kept {f} {after} e = by (dec_lt result_bytes (length bs)) (dec_lt (length out) (length bs))
    where
      by : Dec (result_bytes < length bs) → Dec (length out < length bs) → after ≡ out
      by (yes h) k = ap (λ (r : Outcome ℕ × List ℕ). r.1) (e ∙ sym (handed_long bs out h))
      by (no h) (yes k) = ap (λ (r : Outcome ℕ × List ℕ). r.1) (e ∙ sym (handed_short bs out (omega arith) k))
      by (no h) (no k) =
          never (ap (λ (r : Outcome ℕ × List ℕ). r.0) (e ∙ sym (handed_whole bs out (omega arith) (omega arith))))

lay_take : (bs out : List ℕ) → length bs ≤ length out → take (length bs) (lay bs out) ≡ bs
unfolding lay
lay_take [] out h = refl
lay_take (b ∷ bs) [] h = absurd (omega arith)
lay_take (b ∷ bs) (o ∷ out) h = ap (λ (l : List ℕ). b ∷ l) (lay_take bs out (omega arith))

handed_is :
    (bs out : List ℕ) {n : ℕ} {after : List ℕ} → ◌≡◌ {A = Outcome ℕ × List ℕ} (known n, after) (handed bs out)
    → Whole bs out n after
handed_is bs out {n} {after} e = by (dec_lt result_bytes (length bs)) (dec_lt (length out) (length bs))
  where
    by : Dec (result_bytes < length bs) → Dec (length out < length bs) → Whole bs out n after
    by (yes h) k = never (sym (ap (λ (r : Outcome ℕ × List ℕ). r.0) (e ∙ sym (handed_long bs out h))))
    by (no h) (yes k) =
        never (sym (ap (λ (r : Outcome ℕ × List ℕ). r.0) (e ∙ sym (handed_short bs out (omega arith) k))))
    by (no h) (no k) =
        let f = e ∙ sym (handed_whole bs out (omega arith) (omega arith)) in
        let g : known n ≡ known (length bs) = ap (λ (r : Outcome ℕ × List ℕ). r.0) f in
        let i : n ≡ length bs = cc in
        record {
          short = omega arith;
          within = omega arith;
          is = ap (λ (m : ℕ). take m after) i
              ∙ ap (λ (r : Outcome ℕ × List ℕ). take (length bs) r.1) f ∙ lay_take bs out (omega arith);
        }

-- and it is inside the output
pub handed_within :
    (bs out : List ℕ) {n : ℕ} {after : List ℕ} → ◌≡◌ {A = Outcome ℕ × List ℕ} (known n, after) (handed bs out)
    → n ≤ length out
handed_within bs out e = (handed_is bs out e).within

kept : {policy out after : List ℕ} {x : Outcome ℕ} (f : Refusal) → Restates policy out x after → x ≡ refused f → after
    ≡ out
kept f (policy_refused b) e = refl
kept {out = out} {after = after} f (restated {p} b q) e =
    handed_kept (written_policy p) out (ap (λ (y : Outcome ℕ). (y, after)) (sym e) ∙ q)

pub refused_keeps : RefusedKeeps
refused_keeps policy out after f a = kept f a refl

-- ---- what was written

record Known (s : List ℕ) (p : Policy) : Type 0 where
  tree : Json
  says : JsonText s tree
  comes : policy_comes (policy_of tree) ≡ known p

said_known : {s : List ℕ} {x : Outcome Policy} → Says policy_rules s x → (p : Policy) → x ≡ known p → Known s p
said_known (long h) p e = never e
said_known (broken h b) p e = never e
said_known (deep h b) p e = never e
said_known (text h x) p e = record { tree = x.tree; says = x.says; comes = e }

-- the policy is as the layout and the limits have it
record Within (t : Json) (p : Policy) : Type 0 where
  layout : policy_of t ≡ read p
  limits : over_limit p ≡ false

within : (t : Json) (p : Policy) → policy_comes (policy_of t) ≡ known p → Within t p
within t p e = by (policy_of t) refl e
  where
    under : (q : Policy) (b : Bool) → over_limit q ≡ b → policy_of t ≡ read q
        → pick b (refused PolicyLimit) (known q) ≡ known p → Within t p
    under q true l r c = never c
    under q false l r c =
        let i : q ≡ p = cc in
        record { layout = r ∙ ap read i; limits = ap over_limit (sym i) ∙ l }

    by : (x : Reading Policy) → policy_of t ≡ x → policy_comes x ≡ known p → Within t p
    by wrong r c = never c
    by (read q) r c = under q (over_limit q) refl r c

-- a policy that was read
module _ {s : List ℕ} (p : Policy) (a : Says policy_rules s (known p)) where
  abbrev told : Known s p
  told = said_known a p refl

  abbrev laid : Within told.tree p
  laid = within told.tree p told.comes

  pub read_limits : over_limit p ≡ false
  read_limits = laid.limits

  pub read_valid : Valid p
  read_valid = policy_valid told.tree (says_sound told.says) p laid.layout

  module _ (short : length (written_policy p) ≤ result_bytes) where
    written_outcome : outcome policy_rules (written_policy p) ≡ known p
    unfolding outcome by_verdict
    written_outcome =
        rw (le-ltb policy_bytes (length (written_policy p)) (omega arith), written_whole p read_valid)
        (ap policy_comes (written_policy_lem p read_valid)
        ∙ ap (λ (b : Bool). pick b (refused PolicyLimit) (known p)) laid.limits)

    written_says : Says policy_rules (written_policy p) (known p)
    written_says =
        subst (Says policy_rules (written_policy p)) written_outcome (says_some policy_rules (written_policy p))

-- two texts of one policy
module _ {s t : List ℕ} (p : Policy) (a : Says policy_rules s (known p)) (b : Says policy_rules t (known p)) where
  restated_alike : (out : List ℕ) (x : Outcome ℕ) (after : List ℕ) → Restates s out x after → Restates t out x after
  restated_alike out x after r =
      let e = restates_is r ∙ ap (λ (y : Outcome Policy). answer y out) (sym (says_is policy_rules s a)) in
      restated b e

  decided_alike : (asked : List ℕ) (x : Outcome Decision) → Decides s asked x → Decides t asked x
  decided_alike asked x (D.policy_refused c) = never (says_unique policy_rules s _ _ c a)
  decided_alike asked x (record_refused c d) = record_refused b d
  decided_alike asked x (decided {p = q} c d) =
      let e : known q ≡ known p = says_unique policy_rules s (known q) (known p) c a in
      let i : q ≡ p = cc in
      decided (subst (λ (z : Policy). Says policy_rules t (known z)) (sym i) b) d

again :
    {policy out after : List ℕ} {x : Outcome ℕ} (n : ℕ) → Restates policy out x after → x ≡ known n
    → Again policy (take n after)
again n (policy_refused b) e = never e
again {out = out} {after = after} n (restated {p} b q) e =
    let w = handed_is (written_policy p) out (ap (λ (y : Outcome ℕ). (y, after)) (sym e) ∙ q) in
    let back = subst (λ (l : List ℕ). Says policy_rules l (known p)) (sym w.is) (written_says p b w.short) in
    record {
      thing = p;
      reads = b;
      reads_back = back;
      restated = restated_alike p b back;
      decided = decided_alike p b back;
    }

pub restates_again : RestatesAgain
restates_again policy out after n a = again n a refl
