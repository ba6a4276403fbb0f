-- Every operation comes to an outcome, for all bytes and numbers; and where it refuses, the room, or Finish's output, is
-- as it was.
use mathlib.Core.Path.{◌≡◌, refl, sym, ap, ◌∙◌}
use mathlib.Core.Bool.{Bool, true, false}
use mathlib.Core.List.{List}
use Prim.Native.Nat.{ℕ}
use native.Mathlib.Omega.{arith}
use Rattle.syntax.specs.Policy.{Policy, Request}
use Rattle.policy.specs.Reading.{Outcome, refused, known, policy_rules, record_rules, Says}
use Rattle.policy.specs.declared.refusals.Refusal.{Refusal}
use Rattle.policy.proofs.Laws.Reading.{outcome, says_some}
use Rattle.decision.specs.declared.deciding.Decision.{Decision}
use Rattle.writing.specs.WrittenForm.{written_policy}
use Rattle.restate.specs.Operations.{handed}
use Rattle.restate.proofs.Laws.Operations.{handed_kept}
use Rattle.refined.specs.Finishing.{refined_policy, has_allow}
use Rattle.refine.specs.Operations.{is_room, holds_for, Done, done}
use Rattle.refine.specs.Operations as O

-- an outcome of a relation between answers and what is left
pub record Comes {A : Type 0} (R : Outcome A → List ℕ → Type 0) : Type 0 where
  pub answer : Outcome A
  pub after : List ℕ
  pub holds : R answer after

abbrev come :
    {A : Type 0} {R : Outcome A → List ℕ → Type 0} (x : Outcome A) (after : List ℕ) → R x after → Comes R
come x after h = record { answer = x; after = after; holds = h }

-- ---- Feed

module _ (policy asked room : List ℕ) where
  abbrev FeedComes : Type 0
  FeedComes = Comes (O.Feeds policy asked room)

  module _ (e : is_room room ≡ true) (p : Policy) (a : Says policy_rules policy (known p)) where
    feeds_asked :
        (n : holds_for p room ≡ true) (z : Outcome Request) → Says record_rules asked z → FeedComes
    feeds_asked n (refused f) b = come _ _ (O.no_record e a n b)
    feeds_asked n (known r) b = come _ _ (O.feeds e a n b)

    feeds_held : (t : Bool) → holds_for p room ≡ t → FeedComes
    feeds_held true n = feeds_asked n (outcome record_rules asked) (says_some record_rules asked)
    feeds_held false n = come _ _ (O.no_content e a n)

  feeds_read : is_room room ≡ true → (y : Outcome Policy) → Says policy_rules policy y → FeedComes
  feeds_read e (refused f) a = come _ _ (O.no_policy e a)
  feeds_read e (known p) a = feeds_held e p a (holds_for p room) refl

  feeds_room : (t : Bool) → is_room room ≡ t → FeedComes
  feeds_room true e = feeds_read e (outcome policy_rules policy) (says_some policy_rules policy)
  feeds_room false e = come _ _ (O.no_room e)

  pub feeds_some : FeedComes
  feeds_some = feeds_room (is_room room) refl

-- ---- Join

module _ (policy room other : List ℕ) where
  abbrev JoinComes : Type 0
  JoinComes = Comes (O.Joins policy room other)

  module _ (e : is_room room ≡ true) (g : is_room other ≡ true) where
    joins_held :
        (p : Policy) → Says policy_rules policy (known p) → (t u : Bool) → holds_for p room ≡ t → holds_for p other ≡ u
        → JoinComes
    joins_held p a true true n m = come _ _ (O.joins e g a n m)
    joins_held p a true false n m = come _ _ (O.no_other_content e g a n m)
    joins_held p a false u n m = come _ _ (O.no_content e g a n)

    joins_read : (y : Outcome Policy) → Says policy_rules policy y → JoinComes
    joins_read (refused f) a = come _ _ (O.no_policy e g a)
    joins_read (known p) a = joins_held p a (holds_for p room) (holds_for p other) refl refl

  joins_room : (t u : Bool) → is_room room ≡ t → is_room other ≡ u → JoinComes
  joins_room true true e g = joins_read e g (outcome policy_rules policy) (says_some policy_rules policy)
  joins_room true false e g = come _ _ (O.no_other e g)
  joins_room false u e g = come _ _ (O.no_room e)

  pub joins_some : JoinComes
  joins_some = joins_room (is_room room) (is_room other) refl refl

-- ---- Finish

module _ (policy room out : List ℕ) where
  abbrev FinishComes : Type 0
  FinishComes = Comes (O.Finishes policy room out)

  module _ (e : is_room room ≡ true) (p : Policy) (a : Says policy_rules policy (known p)) where
    finishes_left : (t u : Bool) → holds_for p room ≡ t → has_allow (refined_policy p room) ≡ u → FinishComes
    finishes_left true true n m =
        record {
          answer = (handed (written_policy (refined_policy p room)) out).0;
          after = (handed (written_policy (refined_policy p room)) out).1;
          holds = O.finishes e a n m refl;
        }
    finishes_left true false n m = come _ _ (O.no_allow e a n m)
    finishes_left false u n m = come _ _ (O.no_content e a n)

  finishes_read : is_room room ≡ true → (y : Outcome Policy) → Says policy_rules policy y → FinishComes
  finishes_read e (refused f) a = come _ _ (O.no_policy e a)
  finishes_read e (known p) a = finishes_left e p a (holds_for p room) (has_allow (refined_policy p room)) refl refl

  finishes_room : (t : Bool) → is_room room ≡ t → FinishComes
  finishes_room true e = finishes_read e (outcome policy_rules policy) (says_some policy_rules policy)
  finishes_room false e = come _ _ (O.no_room e)

  pub finishes_some : FinishComes
  finishes_some = finishes_room (is_room room) refl

-- ---- refused

never : {A B : Type 0} {f : Refusal} {a : A} → ◌≡◌ {A = Outcome A} (known a) (refused f) → B
never e = let y : ◌≡◌ {A = ℕ} 0 1 = cc in absurd (omega arith)

feed_kept :
    {policy asked room after : List ℕ} {x : Outcome Decision} (f : Refusal) → O.Feeds policy asked room x after
    → x ≡ refused f → after ≡ room
feed_kept f (O.no_room e) q = refl
feed_kept f (O.no_policy e a) q = refl
feed_kept f (O.no_content e a n) q = refl
feed_kept f (O.no_record e a n b) q = refl
feed_kept f (O.feeds e a n b) q = never q

pub feed_keeps :
    (policy asked room after : List ℕ) (f : Refusal) → O.Feeds policy asked room (refused f) after → after ≡ room
feed_keeps policy asked room after f a = feed_kept f a refl

join_kept :
    {policy room other after : List ℕ} {x : Outcome Done} (f : Refusal) → O.Joins policy room other x after
    → x ≡ refused f → after ≡ room
join_kept f (O.no_room e) q = refl
join_kept f (O.no_other e g) q = refl
join_kept f (O.no_policy e g a) q = refl
join_kept f (O.no_content e g a n) q = refl
join_kept f (O.no_other_content e g a n m) q = refl
join_kept f (O.joins e g a n m) q = never q

pub join_keeps :
    (policy room other after : List ℕ) (f : Refusal) → O.Joins policy room other (refused f) after → after ≡ room
join_keeps policy room other after f a = join_kept f a refl

finish_kept :
    {policy room out after : List ℕ} {x : Outcome ℕ} (f : Refusal) → O.Finishes policy room out x after
    → x ≡ refused f → after ≡ out
finish_kept f (O.no_room e) q = refl
finish_kept f (O.no_policy e a) q = refl
finish_kept f (O.no_content e a n) q = refl
finish_kept f (O.no_allow e a n m) q = refl
finish_kept {room = room} {out = out} {after = after} f (O.finishes {p} e a n m g) q =
    handed_kept (written_policy (refined_policy p room)) out (ap (λ (y : Outcome ℕ). (y, after)) (sym q) ∙ g)

pub finish_keeps :
    (policy room out after : List ℕ) (f : Refusal) → O.Finishes policy room out (refused f) after → after ≡ out
finish_keeps policy room out after f a = finish_kept f a refl
