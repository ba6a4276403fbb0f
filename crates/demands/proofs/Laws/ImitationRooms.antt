-- What the operations come to, of a policy and records that are known.
--   fed_is, met_is, laid_is    the one outcome of Feed, Join and Finish, as the definitions have it
--   one_left, two_left         the room that a log of one record, or of two, leaves
--   finish_lays                what Finish writes, laid over the output
--   written_at                 a run that begins with two texts: both have the same bytes
use mathlib.Core.Path.{◌≡◌, refl, sym, ap, ◌∙◌, subst}
use mathlib.Core.Bool.{true}
use mathlib.Core.List.{List, [], ◌∷◌}
use Prim.Native.Nat.{ℕ, zero, suc, ◌≤◌, ◌<◌}
use native.Mathlib.Omega.{arith}
use native.Mathlib.Decide.{dec_lt}
use lib.ListN.{length, get_or, take, drop}
use Rattle.chars.specs.Putting.{lay}
use Rattle.syntax.specs.Limits.{result_bytes}
use Rattle.syntax.specs.Policy.{Policy, Request}
use Rattle.policy.specs.Reading.{Outcome, refused, known, policy_rules, record_rules, Says}
use Rattle.policy.specs.declared.refusals.Refusal.{Refusal}
use Rattle.decision.specs.Decision.{decide}
use Rattle.decision.specs.declared.deciding.Decision.{Decision}
use Rattle.writing.specs.WrittenForm.{written_policy}
use Rattle.restate.specs.Operations.{handed}
use Rattle.restate.proofs.Laws.Handing.{handed_long, handed_short, handed_whole}
use Rattle.rooms.specs.Rooms.{slots, charges, fed, met}
use Rattle.refined.specs.Finishing.{refined_policy, has_allow}
use Rattle.refine.specs.Operations.{Done, done, is_room, holds_for, Feeds, Joins, Finishes}
use Rattle.refine.specs.Operations as O
use Rattle.refine.proofs.Laws.Operations.{feeds_unique, joins_unique, finishes_unique}
use Rattle.demands.specs.Logs.{Bytes, empty_room, Walks, walked, Comes}
use Rattle.demands.specs.Logs as L
use Rattle.demands.specs.Charges.{Charged}
use Rattle.demands.proofs.Laws.Rooms.{rows_fit}
use Rattle.demands.proofs.Laws.Logs.{comes_holds}

pub nothing_fed : {policy : Bytes} → Comes policy [] empty_room
nothing_fed = L.walk walked

-- ---- the one outcome

module _ {policy : Bytes} {p : Policy} (known_p : Says policy_rules policy (known p)) where
  pub room_is : {log : List Bytes} {room : List ℕ} → Comes policy log room → is_room room ≡ true
  room_is c = (comes_holds known_p c).size

  pub room_fits : {log : List Bytes} {room : List ℕ} → Comes policy log room → holds_for p room ≡ true
  room_fits {log} {room} c = rows_fit (slots p) (Charged p log) room (comes_holds known_p c).rows

  module _ {log : List Bytes} {room : List ℕ} (c : Comes policy log room) where
    pub fed_is : {asked : Bytes} {q : Request} {x : Outcome Decision} {after : List ℕ}
        → Says record_rules asked (known q) → Feeds policy asked room x after
        → (x ≡ known (decide p q)) × (after ≡ fed (slots p) (charges p q) room)
    fed_is {asked} {q} {x} {after} b f =
        let e = feeds_unique policy asked room x (known (decide p q)) after (fed (slots p) (charges p q) room) f
        (O.feeds (room_is c) known_p (room_fits c) b) in
        (ap (λ r. r.0) e, ap (λ r. r.1) e)

    pub met_is : {others : List Bytes} {other : List ℕ} {x : Outcome Done} {after : List ℕ} → Comes policy others other
        → Joins policy room other x after → (x ≡ known done) × (after ≡ met (slots p) room other)
    met_is {other = other} {x = x} {after = after} d f =
        let e = joins_unique policy room other x (known done) after (met (slots p) room other) f
        (O.joins (room_is c) (room_is d) known_p (room_fits c) (room_fits d)) in
        (ap (λ r. r.0) e, ap (λ r. r.1) e)

    pub laid_is : {out after : Bytes} {x : Outcome ℕ} → has_allow (refined_policy p room) ≡ true
        → Finishes policy room out x after
        → ◌≡◌ {A = Outcome ℕ × List ℕ} (x, after) (handed (written_policy (refined_policy p room)) out)
    laid_is {out} {after} {x} h f =
        finishes_unique policy room out x (handed (written_policy (refined_policy p room)) out).0 after
        (handed (written_policy (refined_policy p room)) out).1 f
        (O.finishes (room_is c) known_p (room_fits c) h refl)

  -- ---- logs of one record and of two

  pub one_left : {asked : Bytes} {q : Request} {room : List ℕ} → Says record_rules asked (known q)
      → Walks policy empty_room (asked ∷ []) room → room ≡ fed (slots p) (charges p q) empty_room
  one_left b (L.fed f walked) = (fed_is nothing_fed b f).1

  pub two_left : {asked then : Bytes} {q r : Request} {room : List ℕ} → Says record_rules asked (known q)
      → Says record_rules then (known r) → Walks policy empty_room (asked ∷ then ∷ []) room
      → room ≡ fed (slots p) (charges p r) (fed (slots p) (charges p q) empty_room)
  two_left {r = r} b c (L.fed f (L.fed g walked)) =
      (fed_is (L.walk (L.fed f walked)) c g).1
      ∙ ap (fed (slots p) (charges p r)) (fed_is nothing_fed b f).1

-- ---- what an output takes

never : {A B : Type 0} {f : Refusal} {a : A} → ◌≡◌ {A = Outcome A} (known a) (refused f) → B
never e = let y : ◌≡◌ {A = ℕ} 0 1 = cc in absurd (omega arith)

pub record Laid (bs out after : Bytes) : Type 0 where
  pub enough : length bs ≤ length out
  pub is : after ≡ lay bs out

pub laid : (bs out : Bytes) {n : ℕ} {after : Bytes} → ◌≡◌ {A = Outcome ℕ × List ℕ} (known n, after) (handed bs out)
    → Laid bs out after
laid bs out {n} {after} e = by (dec_lt result_bytes (length bs)) (dec_lt (length out) (length bs))
  where
    by : Dec (result_bytes < length bs) → Dec (length out < length bs) → Laid bs out after
    by (yes h) k = never (ap (λ (r : Outcome ℕ × List ℕ). r.0) (e ∙ sym (handed_long bs out h)))
    by (no h) (yes k) =
        never (ap (λ (r : Outcome ℕ × List ℕ). r.0) (e ∙ sym (handed_short bs out (omega (arith, h)) k)))
    by (no h) (no k) =
        record {
          enough = omega (arith, k);
          is = ap (λ (r : Outcome ℕ × List ℕ). r.1)
              (e ∙ sym (handed_whole bs out (omega (arith, h)) (omega (arith, k))));
        }

pub finish_lays :
    {policy out after : Bytes} {p : Policy} (r : Policy) {log : List Bytes} {room : List ℕ} {n : ℕ}
    → Says policy_rules policy (known p) → Comes policy log room → refined_policy p room ≡ r → has_allow r ≡ true
    → Finishes policy room out (known n) after → Laid (written_policy r) out after
finish_lays {out = out} {after = after} {p = p} r {room = room} a c e h f =
    subst (λ (q : Policy). Laid (written_policy q) out after) e
    (laid (written_policy (refined_policy p room)) out (laid_is a c (ap has_allow e ∙ h) f))

-- two texts that one run begins with have the same bytes as far as both go
pub written_at : (bs cs out : Bytes) → length bs ≤ length out → take (length cs) (lay bs out) ≡ cs → (k : ℕ)
    → k < length bs → k < length cs → get_or bs k 0 ≡ get_or cs k 0
unfolding lay
written_at [] cs out h e k i j = absurd (omega arith)
written_at (b ∷ bs) cs [] h e k i j = absurd (omega (arith, h))
written_at (b ∷ bs) [] (o ∷ out) h e k i j = absurd (omega (arith, j))
written_at (b ∷ bs) (c ∷ cs) (o ∷ out) h e zero i j = ap (λ (l : List ℕ). get_or l 0 0) e
written_at (b ∷ bs) (c ∷ cs) (o ∷ out) h e (suc k) i j =
    written_at bs cs out (omega (arith, h)) (ap (λ (l : List ℕ). drop 1 l) e) k
    (omega (arith, i)) (omega (arith, j))
