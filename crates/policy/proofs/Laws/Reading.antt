-- Bytes come to one outcome, by either rules; what the readers of whole texts need of it.
use Rattle.std.specs.Prelude.{Option, Some, None}
use mathlib.Core.Path.{◌≡◌, refl, sym, ap, ◌∙◌, subst}
use mathlib.Core.Bool.{Bool, true, false}
use mathlib.Core.List.{List}
use Prim.Native.Nat.{ℕ, ◌+◌, ◌≤◌, ◌<◌}
use native.Mathlib.Omega.{arith}
use native.Mathlib.Decide.{dec_lt}
use lib.Dec.{ltb}
use lib.ListN.{length, take}
use lib.Seq.{length-take-le}
use borrow.Author.Tests.{lt-ltb, le-ltb}
use Rattle.chars.specs.Base.{pick}
use Rattle.text.specs.Json.{Json, levels}
use Rattle.text.specs.Verdicts.{Verdict, Text, Means}
use Rattle.text.specs.Machine.{verdict}
use Rattle.text.specs.Contents.{Stands, Rooted}
use Rattle.std.specs.Prelude.{Ok, Err}
use Rattle.text.specs.declared.fault.Fault.{Fault}
use Rattle.text.specs.declared.fault.Fault.TheVariants.{Breaks, Deep}
use Rattle.text.proofs.Laws.Meaning.{verdict_means, verdict_unique}
use Rattle.text.proofs.Laws.Contents.{contents, contents_is, stands_done}
use Rattle.syntax.specs.Policy.{Policy}
use Rattle.syntax.specs.Forms.{Reading, wrong, read}
use Rattle.syntax.specs.PolicyLayout.{policy_of}
use Rattle.syntax.specs.RecordLayout.{request_of}
use Rattle.held.specs.Held.{held, held_request, over_limit}
use Rattle.parts.specs.Room.{cost}
use Rattle.parts.specs.Holding.{Laid, Extends}
use Rattle.held.specs.Lying.{Lies}
use Rattle.policy.specs.Reading.{Outcome, refused, known, Rules, policy_comes, request_comes, policy_rules}
use Rattle.policy.specs.Reading.{record_rules, Says, long, broken, deep, text, Knows, Lent, Fit}
use Rattle.policy.specs.declared.refusals.Refusal.TheVariants.{PolicyLayout, PolicyLimit, RecordLayout}
use Rattle.objects.specs.Telling.{TakenText, TakesText}
use Rattle.parts.proofs.Laws.Room.{cost_within}
use Rattle.parts.proofs.Laws.Extends.{extends_within, extends_lies}

-- ---- one outcome

module _ {A : Type 0} (k : Rules A) where
  unfoldable pub by_verdict : List ℕ → Verdict → Outcome A
  by_verdict s (Ok x) = k.comes (contents s)
  by_verdict s (Err (Breaks p)) = refused (k.not_json p)
  by_verdict s (Err Deep) = refused k.not_layout

  -- the outcome as a function
  unfoldable pub outcome : List ℕ → Outcome A
  outcome s = pick (ltb k.most (length s)) (refused k.too_long) (by_verdict s (verdict s))

  outcome_short : (s : List ℕ) (v : Verdict) → length s ≤ k.most → Means s v → outcome s ≡ by_verdict s v
  unfolding outcome
  outcome_short s v h m =
      rw (le-ltb k.most (length s) h) (ap (by_verdict s) (sym (verdict_unique s v m)))

  pub says_is : (s : List ℕ) {x : Outcome A} → Says k s x → x ≡ outcome s
  unfolding outcome by_verdict
  says_is s (long h) = rw (lt-ltb k.most (length s) h) refl
  says_is s (broken {p} h b) = sym (outcome_short s (Err (Breaks p)) h b)
  says_is s (deep h b) = sym (outcome_short s (Err Deep) h b)
  says_is s (text h x) =
      ap k.comes (sym (contents_is s x.tree (sym (verdict_unique s (Ok tt) x)) x.says))
      ∙ sym (outcome_short s (Ok tt) h x)

  by_some : (s : List ℕ) (v : Verdict) → length s ≤ k.most → Means s v → Says k s (by_verdict s v)
  unfolding by_verdict
  by_some s (Ok x) h m =
      subst (λ (t : Json). Says k s (k.comes t))
      (sym (contents_is s m.tree (sym (verdict_unique s (Ok tt) m)) m.says)) (text h m)
  by_some s (Err (Breaks p)) h m = broken h m
  by_some s (Err Deep) h m = deep h m

  -- every text has an outcome, and no two
  pub says_some : (s : List ℕ) → Says k s (outcome s)
  says_some s = by (dec_lt k.most (length s))
    where
      by : Dec (k.most < length s) → Says k s (outcome s)
      by (yes h) = subst (Says k s) (says_is s (long h)) (long h)
      by (no h) =
          subst (Says k s) (sym (outcome_short s (verdict s) (omega arith) (verdict_means s)))
          (by_some s (verdict s) (omega arith) (verdict_means s))

  pub says_unique : (s : List ℕ) (x y : Outcome A) → Says k s x → Says k s y → x ≡ y
  says_unique s x y p q = says_is s p ∙ sym (says_is s q)

  -- ---- what the scan tells

  pub says_long : (s : List ℕ) → k.most < length s → Says k s (refused k.too_long)
  says_long s h = long h

  pub says_broken : (s : List ℕ) (p : ℕ) {f : Fault} → length s ≤ k.most → Err f ≡ verdict s → f ≡ Breaks p
      → Says k s (refused (k.not_json p))
  says_broken s p h e q = broken h (subst (Means s) (sym e ∙ ap Err q) (verdict_means s))

  pub says_deep : (s : List ℕ) {f : Fault} → length s ≤ k.most → Err f ≡ verdict s → f ≡ Deep
      → Says k s (refused k.not_layout)
  says_deep s h e q = deep h (subst (Means s) (sym e ∙ ap Err q) (verdict_means s))

  -- no two answers about the same bytes, and no two held runs
  pub answers_unique :
      (h : A → List ℕ) (s run run' : List ℕ) (n n' : ℕ) → Knows k h s run n → Knows k h s run' n'
      → (n ≡ n') × (take n run ≡ take n' run')
  answers_unique h s run run' n n' p q =
      let e : known p.thing ≡ known q.thing = says_unique s (known p.thing) (known q.thing) p.says
      q.says in
      let t : p.thing ≡ q.thing = cc in
      let same : take n run ≡ take n' run' = p.is ∙ ap h t ∙ sym q.is in
      let l = ap length same in
      (omega (arith, l, length-take-le n run p.inside, length-take-le n' run' q.inside), same)

-- ---- a whole text

module _ {s : List ℕ} (e : verdict s ≡ Ok tt) where
  pub verdict_text : Text levels s
  verdict_text = subst (Means s) e (verdict_means s)

  pub rooted : {v : ℕ} (r : Rooted s v) → Stands s verdict_text.tree v r.stop
  rooted r = r.stands verdict_text.tree verdict_text.says

module _ {most extra : ℕ} {s run : List ℕ} (f : Fit most extra s run) where
  abbrev pub whole_text : Text levels s
  whole_text = verdict_text f.whole

  pub root_stands : {v : ℕ} (r : Rooted s v) → Stands s whole_text.tree v r.stop
  root_stands r = rooted f.whole r

  pub root_cost : {v : ℕ} → Rooted s v → cost whole_text.tree ≤ length s + 1
  root_cost r =
      let p = root_stands r in
      let d = stands_done p in
      omega (arith, cost_within p, d.high)

  pub root_room : {v : ℕ} → Rooted s v → cost whole_text.tree + extra ≤ length run + 1
  root_room r = omega (arith, root_cost r, f.lent.enough f.short)

-- what was held from the beginning lies there
pub held_lies : {A : Type 0} {h : A → List ℕ} {run run' : List ℕ} {x : Reading A} {n : ℕ} → length run ≤ 16384
    → (d : Laid h run run' 0 x n) → Lies run' 0 (h d.thing)
held_lies b d = extends_lies d.extends (omega arith) b

held_is : {run run' : List ℕ} {xs : List ℕ} {n : ℕ} → Extends run run' 0 xs n → take n run' ≡ xs
held_is e = e.is

module _ {s : List ℕ} (short : length s ≤ 16384) (x : Text levels s) where
  abbrev tree : Json
  tree = x.tree

  comes : Says policy_rules s (policy_comes (policy_of tree))
  comes = text short x

  pub policy_wrong : policy_of tree ≡ wrong → Says policy_rules s (refused PolicyLayout)
  policy_wrong e = subst (Says policy_rules s) (ap policy_comes e) comes

  limited : (p : Policy) (b : Bool) → policy_of tree ≡ read p → over_limit p ≡ b
      → Says policy_rules s (pick b (refused PolicyLimit) (known p))
  limited p b e l =
      subst (Says policy_rules s)
      (ap policy_comes e ∙ ap (λ (t : Bool). pick t (refused PolicyLimit) (known p)) l) comes

  pub policy_over : (p : Policy) → policy_of tree ≡ read p → over_limit p ≡ true → Says policy_rules s
      (refused PolicyLimit)
  policy_over p e l = limited p true e l

  pub policy_known :
      {run run' : List ℕ} {n : ℕ} (d : Laid held run run' 0 (policy_of tree) n) → over_limit d.thing ≡ false
      → Knows policy_rules held s run' n
  policy_known d l =
      record {
        thing = d.thing;
        says = limited d.thing false d.said l;
        is = held_is d.extends;
        inside = extends_within d.extends (omega arith);
      }

module _ {s : List ℕ} (short : length s ≤ 8192) (x : Text levels s) where
  request : Says record_rules s (request_comes (request_of x.tree))
  request = text short x

  pub record_wrong : request_of x.tree ≡ wrong → Says record_rules s (refused RecordLayout)
  record_wrong e = subst (Says record_rules s) (ap request_comes e) request

  pub record_known :
      {run run' : List ℕ} {n : ℕ} (d : Laid held_request run run' 0 (request_of x.tree) n)
      → Knows record_rules held_request s run' n
  record_known d =
      record {
        thing = d.thing;
        says = subst (Says record_rules s) (ap request_comes d.said) request;
        is = held_is d.extends;
        inside = extends_within d.extends (omega arith);
      }

-- ---- a text in the usual form

module _ {A : Type 0} (h : A → List ℕ) (f : Json → Reading A) (s run run' : List ℕ) where
  pub text_past : {r : Option ℕ} {n : ℕ} → TakesText h f s run run' r → r ≡ Some n → TakenText h f s run run' n
  text_past t k = subst (TakesText h f s run run') k t

  pub text_wrong : {r : Option ℕ} → TakesText h f s run run' r → r ≡ None → length run' ≡ length run
  text_wrong t k = subst (TakesText h f s run run') k t

-- the run that was written on is lent again
pub lent_again : {most extra : ℕ} {s run run' : List ℕ} → Lent most extra s run → length run' ≡ length run
    → Lent most extra s run'
lent_again l e =
    record { enough = λ k. omega (arith, e, l.enough k); bounded = omega (arith, e, l.bounded) }
