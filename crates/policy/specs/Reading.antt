-- Reading: what an operation knows of a policy text or of a record, for all bytes: document 01, "Numbered refusals", the
-- refusals 2 to 5 and 7 to 9, in their order.
--   Rules              what differs between the two: how long a text may be, the refusals, what a tree comes to
--   Says k s x         by the rules k the bytes s come to x: a refusal, or what was read
--   Answers k h s run r   an answer tells what s comes to, and the run holds what was read as h holds it
--   Foretells s r         a refusal that is told before a run is made is what the policy text s comes to
--   told r                the outcome that an operation answers
-- Differs from 01: nowhere.  Pinned by: `says_some` and `says_unique` of Laws/Reading: bytes come to one outcome.
use Rattle.std.specs.Prelude.{◌≡◌, List, ℕ, ◌+◌, ◌≤◌, ◌<◌, length, take, Result, Ok, Err}
use Rattle.std.specs.Borrow.{MutBor}
use Rattle.std.specs.Fn.{Mut, CalledAtMut}
use Rattle.chars.specs.Base.{pick}
use Rattle.text.specs.Json.{Json, levels}
use Rattle.text.specs.Verdicts.{Text, BreaksAt, Sinks}
use Rattle.text.specs.Machine.{verdict}
use Rattle.syntax.specs.Limits.{policy_bytes, record_bytes, run_numbers}
use Rattle.syntax.specs.Policy.{Policy, Request}
use Rattle.syntax.specs.Forms.{Reading, wrong, read}
use Rattle.syntax.specs.PolicyLayout.{policy_of}
use Rattle.syntax.specs.RecordLayout.{request_of}
use Rattle.held.specs.Held.{over_limit}
use Rattle.policy.specs.declared.refusals.Refusal.{Refusal}
use Rattle.policy.specs.declared.refusals.Refusal.TheVariants.{PolicyLength, PolicyText, PolicyLayout}
use Rattle.policy.specs.declared.refusals.Refusal.TheVariants.{PolicyLimit, RecordLength, RecordText}
use Rattle.policy.specs.declared.refusals.Refusal.TheVariants.{RecordLayout}
use Rattle.policy.specs.declared.soon.Look.{Look}
use Rattle.policy.specs.declared.soon.Look.TheVariants as L

-- a refusal, or what was read
pub data Outcome (A : Type 0) : Type 0 where
  refused : Refusal → Outcome A
  known : A → Outcome A

pub record Rules (A : Type 0) : Type 0 where
  pub most : ℕ
  pub too_long : Refusal
  pub not_json : ℕ → Refusal
  pub not_layout : Refusal
  pub comes : Json → Outcome A

-- ---- trees

-- 5 exactly where the layout holds and a limit does not
abbrev pub policy_comes : Reading Policy → Outcome Policy
policy_comes wrong = refused PolicyLayout
policy_comes (read p) = pick (over_limit p) (refused PolicyLimit) (known p)

abbrev pub request_comes : Reading Request → Outcome Request
request_comes wrong = refused RecordLayout
request_comes (read r) = known r

abbrev pub policy_rules : Rules Policy
policy_rules =
    record {
      most = policy_bytes;
      too_long = PolicyLength;
      not_json = λ p. PolicyText p;
      not_layout = PolicyLayout;
      comes = λ t. policy_comes (policy_of t);
    }

abbrev pub record_rules : Rules Request
record_rules =
    record {
      most = record_bytes;
      too_long = RecordLength;
      not_json = λ p. RecordText p;
      not_layout = RecordLayout;
      comes = λ t. request_comes (request_of t);
    }

-- ---- bytes

-- a seventeenth level opened first is against the layout
pub data Says {A : Type 0} (k : Rules A) (s : List ℕ) : Outcome A → Type 0 where
  long : k.most < length s → Says k s (refused k.too_long)
  broken : {p : ℕ} → length s ≤ k.most → BreaksAt s p → Says k s (refused (k.not_json p))
  deep : length s ≤ k.most → Sinks s → Says k s (refused k.not_layout)
  text : length s ≤ k.most → (x : Text levels s) → Says k s (k.comes x.tree)

-- ---- answers

-- what was read lies at the run's beginning, up to place n
pub record Knows {A : Type 0} (k : Rules A) (h : A → List ℕ) (s run : List ℕ) (n : ℕ) : Type 0 where
  pub thing : A
  pub says : Says k s (known thing)
  pub is : take n run ≡ h thing
  pub inside : n ≤ length run

abbrev pub Answers : {A : Type 0} → Rules A → (A → List ℕ) → List ℕ → List ℕ → Result ℕ Refusal → Type 0
Answers k h s run (Ok n) = Knows k h s run n
Answers k h s run (Err f) = Says k s (refused f)

abbrev pub Foretells : List ℕ → Result Look Refusal → Type 0
Foretells s (Err f) = Says policy_rules s (refused f)
Foretells s (Ok L.Usual) = Unit {0}
Foretells s (Ok L.Whole) = verdict s ≡ Ok tt

-- an operation's answer is its outcome
abbrev pub told : {A : Type 0} → Result A Refusal → Outcome A
told (Ok x) = known x
told (Err f) = refused f

-- a run long enough for a text that is not too long
pub record Lent (most extra : ℕ) (s run : List ℕ) : Type 0 where
  pub enough : length s ≤ most → length s + extra ≤ length run
  pub bounded : length run ≤ run_numbers

-- f was called, and lent a run of n numbers
pub record Lends {F R : Type 0} (g : Mut F (MutBor (List ℕ) × Unit {0}) (R × (MutBor (List ℕ) × Unit {0})))
    (n : ℕ) (f : F) (r : R) (f' : F) : Type 0 where
  pub run : List ℕ
  pub after : List ℕ
  pub size : length run ≡ n
  pub called : CalledAtMut g f run r f' after

-- f was called, and lent such a run
pub record LendsRun {F R : Type 0} (g : Mut F (MutBor (List ℕ) × Unit {0}) (R × (MutBor (List ℕ) × Unit {0})))
    (most extra : ℕ) (s : List ℕ) (f : F) (r : R) (f' : F) : Type 0 where
  pub run : List ℕ
  pub after : List ℕ
  pub lent : Lent most extra s run
  pub called : CalledAtMut g f run r f' after

-- and the text is whole and not too long
pub record Fit (most extra : ℕ) (s run : List ℕ) : Type 0 where
  pub whole : verdict s ≡ Ok tt
  pub short : length s ≤ most
  pub lent : Lent most extra s run
