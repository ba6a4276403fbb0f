-- Decide comes to one answer; what the two readers tell of it.
use mathlib.Core.Path.{◌≡◌, sym, ap, ◌∙◌, subst}
use mathlib.Core.List.{List, ◌++◌}
use Prim.Native.Nat.{ℕ, ◌≤◌}
use native.Mathlib.Omega.{arith}
use lib.ListN.{length, drop, take-append-drop}
use Rattle.syntax.specs.Policy.{Policy, Request}
use Rattle.decision.specs.Decision.{decide}
use Rattle.syntax.specs.Limits.{run_numbers}
use Rattle.held.specs.Lying.{Lies}
use Rattle.policy.specs.Reading.{Outcome, refused, known, Rules, policy_rules, record_rules, Says, Knows}
use Rattle.decide.specs.Operations.{Decides, policy_refused, record_refused, decided, RecordDecides, refuses}
use Rattle.decide.specs.Operations.{decides}
use Rattle.policy.specs.declared.refusals.Refusal.{Refusal}
use Rattle.decision.specs.declared.deciding.Decision.{Decision}
use Rattle.std.specs.Prelude.{Result, Err}
use Rattle.std.specs.Result.{IsErrAnd}
use Rattle.std.proofs.lemmas.Result.{err_from_is_err_and}
use Rattle.policy.proofs.Laws.Reading.{outcome, says_some, says_is}

-- ---- one answer

-- the answer as a function of what the two texts come to
abbrev pub behind_policy : Policy → Outcome Request → Outcome Decision
behind_policy p (refused f) = refused f
behind_policy p (known r) = known (decide p r)

abbrev pub answer : Outcome Policy → Outcome Request → Outcome Decision
answer (refused f) x = refused f
answer (known p) x = behind_policy p x

-- so the relation is one equation
pub decides_is : {policy asked : List ℕ} {x : Outcome Decision} → Decides policy asked x
    → x ≡ answer (outcome policy_rules policy) (outcome record_rules asked)
decides_is {policy} {asked} (policy_refused a) =
    ap (λ (y : Outcome Policy). answer y (outcome record_rules asked)) (says_is policy_rules policy a)
decides_is {policy} {asked} (record_refused {p} {f} a b) =
    ap (behind_policy p) (says_is record_rules asked b)
    ∙ ap (λ (y : Outcome Policy). answer y (outcome record_rules asked)) (says_is policy_rules policy a)
decides_is {policy} {asked} (decided {p} {r} a b) =
    ap (behind_policy p) (says_is record_rules asked b)
    ∙ ap (λ (y : Outcome Policy). answer y (outcome record_rules asked)) (says_is policy_rules policy a)

by_outcomes : (policy asked : List ℕ) (y : Outcome Policy) (z : Outcome Request) → Says policy_rules policy y
    → Says record_rules asked z → Decides policy asked (answer y z)
by_outcomes policy asked (refused f) z a b = policy_refused a
by_outcomes policy asked (known p) (refused f) a b = record_refused a b
by_outcomes policy asked (known p) (known r) a b = decided a b

-- all bytes come to an answer, and to no other
pub decides_some : (policy asked : List ℕ)
    → Decides policy asked (answer (outcome policy_rules policy) (outcome record_rules asked))
decides_some policy asked =
    by_outcomes policy asked (outcome policy_rules policy) (outcome record_rules asked)
    (says_some policy_rules policy) (says_some record_rules asked)

pub decides_unique : (policy asked : List ℕ) (x y : Outcome Decision) → Decides policy asked x
    → Decides policy asked y → x ≡ y
decides_unique policy asked x y a b = decides_is a ∙ sym (decides_is b)

-- ---- the runs

-- the answer where `?` hands a refusal on
pub handed_on : {T : Type 0} (r : Result T Refusal) {f : Refusal} → IsErrAnd r (λ e. e ≡ f) → r ≡ Err f
handed_on r e = let p = err_from_is_err_and r e in cc

-- what was read lies at the run's beginning
pub knows_lies : {A : Type 0} (k : Rules A) (h : A → List ℕ) (s run : List ℕ) {n : ℕ} → length run ≤ run_numbers
    → (a : Knows k h s run n) → Lies run 0 (h a.thing)
knows_lies k h s run {n} b a =
    record {
      behind = drop n run;
      is = sym (take-append-drop n run) ∙ ap (λ (l : List ℕ). l ++ drop n run) a.is;
      within = omega arith;
      bounded = b;
    }

-- ---- the record, then the whole

pub behind_refused : {policy asked : List ℕ} {p : Policy} {x : Outcome Decision} → Says policy_rules policy (known p)
    → RecordDecides p asked x → Decides policy asked x
behind_refused a (refuses b) = record_refused a b
behind_refused a (decides b) = decided a b

pub record_decided : {asked : List ℕ} {p : Policy} {r : Request} {d : Decision} → Says record_rules asked (known r)
    → d ≡ decide p r → RecordDecides p asked (known d)
record_decided {asked} {p} {r} a e = subst (λ (x : Decision). RecordDecides p asked (known x)) (sym e) (decides a)
