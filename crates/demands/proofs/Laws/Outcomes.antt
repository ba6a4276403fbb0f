-- The six operations end, each with one outcome, and keep what was lent where they refuse.
use mathlib.Core.Path.{◌≡◌, refl, sym, ap, ◌∙◌, subst}
use mathlib.Core.Bool.{Bool, true, false}
use mathlib.Core.List.{List, []}
use Prim.Native.Nat.{ℕ}
use native.Mathlib.Omega.{arith}
use Rattle.chars.specs.Base.{pick}
use Rattle.policy.specs.Reading.{Outcome, refused, known, policy_rules, record_rules}
use Rattle.policy.specs.declared.refusals.Refusal.{Refusal}
use Rattle.policy.specs.declared.refusals.Refusal.TheVariants.{RoomLength}
use Rattle.policy.proofs.Laws.Reading.{outcome}
use Rattle.decision.specs.Decision.{decide}
use Rattle.decide.specs.Operations.{Decides, decided}
use Rattle.decision.specs.declared.deciding.Decision.{Decision}
use Rattle.decide.proofs.Laws.Operations.{answer, decides_some, decides_unique}
use Rattle.restate.specs.Operations.{Restates}
use Rattle.restate.proofs.Laws.Operations.{restates_some, restates_unique, refused_keeps}
use Rattle.refine.specs.Operations.{Done, done, is_room, room_numbers, Feeds, Joins, Finishes, freshened}
use Rattle.refine.specs.Operations as O
use Rattle.refine.proofs.Laws.Operations.{feeds_unique, joins_unique, finishes_unique}
use Rattle.refine.proofs.Laws.Outcomes.{feeds_some, joins_some, finishes_some, feed_keeps, join_keeps, finish_keeps}
use Rattle.demands.specs.Logs.{Bytes}
use Rattle.demands.specs.Outcomes.{Determined, DecidesOnly, AllEnd, DecideAnswers, FeedAnswers}

-- ---- one law: an outcome, no other, and refused ones keep

split : {A : Type 0} {x y : Outcome A} {c d : List ℕ} → ◌≡◌ {A = Outcome A × List ℕ} (x, c) (y, d) → (x ≡ y) × (c ≡ d)
split e = (ap (λ r. r.0) e, ap (λ r. r.1) e)

determined :
    {A : Type 0} (before : List ℕ) (R : Outcome A → List ℕ → Type 0) (x : Outcome A) (c : List ℕ) → R x c
    → ((y : Outcome A) (d : List ℕ) → R y d → ◌≡◌ {A = Outcome A × List ℕ} (y, d) (x, c))
    → ((f : Refusal) (d : List ℕ) → R (refused f) d → d ≡ before) → Determined before R
determined before R x c h once keeps =
    record { outcome = x; after = c; comes = h; once = λ y d r. split (once y d r); keeps = keeps }

-- ---- the six

fresh_by : (room zeros : List ℕ) (b : Bool) (f : Refusal) (d : List ℕ)
    → ◌≡◌ {A = Outcome Done × List ℕ} (refused f, d) (pick b (known done, zeros) (refused RoomLength, room)) → d ≡ room
fresh_by room zeros true f d q =
    let e : refused f ≡ known done = (split q).0 in let z : ◌≡◌ {A = ℕ} 0 1 = cc in absurd (omega arith)
fresh_by room zeros false f d q = (split q).1

fresh_keeps : (room : List ℕ) (f : Refusal) (d : List ℕ) → ◌≡◌ {A = Outcome Done × List ℕ} (refused f, d) (freshened room)
    → d ≡ room
unfolding freshened
fresh_keeps room f d q = fresh_by room _ (is_room room) f d q

decide_once : (policy asked : Bytes) (x y : Outcome Decision) (c d : List ℕ) → DecidesOnly policy asked x c
    → DecidesOnly policy asked y d → ◌≡◌ {A = Outcome Decision × List ℕ} (x, c) (y, d)
decide_once policy asked x y c d h g =
    ap (λ (z : Outcome Decision). (z, c)) (decides_unique policy asked x y h.decides g.decides)
    ∙ ap (λ (l : List ℕ). (y, l)) (h.nothing ∙ sym g.nothing)

pub all_end : AllEnd
all_end policy asked out room other =
    let f = feeds_some policy asked room in
    let j = joins_some policy room other in
    let n = finishes_some policy room out in
    let r = restates_some policy out in
    let told = answer (outcome policy_rules policy) (outcome record_rules asked) in
    let d : DecidesOnly policy asked told [] = record { decides = decides_some policy asked; nothing = refl } in
    record {
      decide_ends = determined [] (DecidesOnly policy asked) told [] d
          (λ y c h. decide_once policy asked y told c [] h d) (λ g c h. h.nothing);
      feed_ends = determined room (Feeds policy asked room) f.answer f.after f.holds
          (λ y c h. feeds_unique policy asked room y f.answer c f.after h f.holds)
          (λ g c h. feed_keeps policy asked room c g h);
      join_ends = determined room (Joins policy room other) j.answer j.after j.holds
          (λ y c h. joins_unique policy room other y j.answer c j.after h j.holds)
          (λ g c h. join_keeps policy room other c g h);
      finish_ends = determined out (Finishes policy room out) n.answer n.after n.holds
          (λ y c h. finishes_unique policy room out y n.answer c n.after h n.holds)
          (λ g c h. finish_keeps policy room out c g h);
      restate_ends = determined out (Restates policy out) r.answer r.after r.restates
          (λ y c h. restates_unique policy out y r.answer c r.after h r.restates)
          (λ g c h. refused_keeps policy out c g h);
      fresh_ends = determined room (λ x after. (x, after) ≡ freshened room) (freshened room).0 (freshened room).1 refl
          (λ y c h. h) (fresh_keeps room);
    }

-- ---- what the decision is

pub decide_answers : DecideAnswers
decide_answers policy asked p r a b x h = decides_unique policy asked x (known (decide p r)) h (decided a b)

refused_known : {A B : Type 0} {f : Refusal} {a : A} → ◌≡◌ {A = Outcome A} (refused f) (known a) → B
refused_known e = let z : ◌≡◌ {A = ℕ} 0 1 = cc in absurd (omega arith)

pub feed_answers : FeedAnswers
feed_answers policy asked room after x (O.no_room e) d q = refused_known q
feed_answers policy asked room after x (O.no_policy e a) d q = refused_known q
feed_answers policy asked room after x (O.no_content e a n) d q = refused_known q
feed_answers policy asked room after x (O.no_record e a n b) d q = refused_known q
feed_answers policy asked room after x (O.feeds e a n b) d q = subst (Decides policy asked) q (decided a b)
