-- A room that comes of a log holds, row by row, the least candidate of what the log's records charge: so how the log was
-- cut, in which order its parts were joined and how often makes no difference.
use mathlib.Core.Path.{◌≡◌, refl, sym, ap, ◌∙◌, subst}
use mathlib.Core.Bool.{Bool, true, false}
use mathlib.Core.Logic.{◌⊎◌, inl, inr}
use mathlib.Core.List.Memᴰ
use mathlib.Core.List.{List, [], ◌∷◌, ◌++◌, Memᴰ}
use Prim.Native.Nat.{ℕ}
use native.Mathlib.Omega.{arith}
use lib.Dec.{eqb}
use lib.ListN.{length, replicate, length-replicate}
use borrow.Author.Tests.{eq-eqb}
use Rattle.syntax.specs.Policy.{Value, Policy, Request}
use Rattle.policy.specs.Reading.{Outcome, refused, known, Rules, policy_rules, record_rules, Says}
use Rattle.policy.specs.declared.refusals.Refusal.{Refusal}
use Rattle.policy.proofs.Laws.Reading.{outcome, says_some, says_unique}
use Rattle.decision.specs.declared.deciding.Decision.{Decision}
use Rattle.candidates.specs.Candidates.{Alike}
use Rattle.rooms.specs.Rooms.{slots, charges, fed, met}
use Rattle.refine.specs.Operations.{done, room_numbers, is_room, holds_for, Feeds, Joins, Finishes}
use Rattle.refine.specs.Operations as O
use Rattle.refine.proofs.Laws.Held.{sound_read, rows_enough, room_size, right_charges}
use Rattle.refine.proofs.Laws.Operations.{finishes_unique}
use Rattle.demands.specs.Logs.{Bytes, empty_room, Walks, walked, Comes, SameRecords, SameRoom, SameResult}
use Rattle.demands.specs.Logs as L
use Rattle.rooms.specs.Rooms.{found_at}
use Rattle.demands.specs.Charges.{Charged}
use Rattle.demands.proofs.Laws.Rooms.{Charging, RowsHold, rows_fit, rows_alike, rows_fed, rows_met, rows_empty}
use Rattle.demands.proofs.Laws.Rooms.{rows_same, fed_length, met_length}
use Rattle.demands.proofs.Laws.Rows.{And}

-- ---- what a log charges

apart : {A B : Type 0} {f : Refusal} {a : A} → ◌≡◌ {A = Outcome A} (known a) (refused f) → B
apart e = let y : ◌≡◌ {A = ℕ} 0 1 = cc in absurd (omega arith)

known_one : {A : Type 0} {k : Rules A} {s : Bytes} {a b : A} → Says k s (known a) → Says k s (known b) → a ≡ b
known_one {k = k} {s = s} {a = a} {b = b} p q = let e = says_unique k s (known a) (known b) p q in cc

never_both : {A B : Type 0} {k : Rules A} {s : Bytes} {a : A} {f : Refusal} → Says k s (known a) → Says k s (refused f) → B
never_both {k = k} {s = s} {a = a} {f = f} p q = apart (says_unique k s (known a) (refused f) p q)

not_both : {A : Type 0} {b : Bool} → b ≡ true → b ≡ false → A
not_both e f = let t : true ≡ false = sym e ∙ f in let y : ◌≡◌ {A = ℕ} 0 1 = cc in absurd (omega arith)

nobody : {A : Type 0} {p : Policy} {k : ℕ} {v : Value} → Charged p [] k v → A
nobody w = by w.among
  where
    by : {A : Type 0} → Memᴰ w.asked [] → A
    by m = elim m [ ]

charged_by : {p : Policy} {a : List Bytes} {k : ℕ} {v : Value} (w : Charged p a k v) (b : List Bytes)
    → Memᴰ w.asked b → Charged p b k v
charged_by w b m =
    record { asked = w.asked; among = m; request = w.request; says = w.says; charges_it = w.charges_it }

-- ---- an empty room

empty_zeros : empty_room ≡ replicate room_numbers 0
unfolding empty_room
empty_zeros = refl

empty_length : length empty_room ≡ room_numbers
empty_length = ap length empty_zeros ∙ length-replicate {A = ℕ} room_numbers 0

empty_is_room : is_room empty_room ≡ true
empty_is_room = eq-eqb (length empty_room) room_numbers empty_length

-- ---- one record

module _ {policy : Bytes} {p : Policy} (known_p : Says policy_rules policy (known p)) where
  -- what a room is, if it is right for S
  pub record RoomHolds (S : Charging) (room : List ℕ) : Type 0 where
    pub size : is_room room ≡ true
    pub rows : RowsHold (slots p) S room

  room_alike : {S R : Charging} {room : List ℕ} → ((k : ℕ) → Alike (S k) (R k)) → RoomHolds S room → RoomHolds R room
  room_alike {S} {R} {room} a w = record { size = w.size; rows = rows_alike (slots p) S R room a w.rows }

  room_fits : {S : Charging} {room : List ℕ} → RoomHolds S room → holds_for p room ≡ true
  room_fits {S} {room} w = rows_fit (slots p) S room w.rows

  -- beside what a record charges
  abbrev After : Charging → List Bytes → Charging
  After S log k v = S k v ⊎ Charged p log k v

  only_one_lem : {r asked : Bytes} → Memᴰ r (asked ∷ []) → r ≡ asked
  only_one_lem (Memᴰ.head e) = e
  only_one_lem (Memᴰ.tail m) = elim m [ ]

  -- what the record says, by whoever asks
  said : {asked : Bytes} {k : ℕ} {v : Value} (w : Charged p (asked ∷ []) k v) → Says record_rules asked (known w.request)
  said w = subst (λ (r : Bytes). Says record_rules r (known w.request)) (only_one_lem w.among) w.says

  -- the record was refused: nothing is charged
  refused_alike : (S : Charging) {asked : Bytes} {f : Refusal} → Says record_rules asked (refused f)
      → (k : ℕ) → Alike (S k) (After S (asked ∷ []) k)
  refused_alike S {asked} b k = record { to = λ v x. inl x; from = from_it }
    where
      from_it : (v : Value) → After S (asked ∷ []) k v → S k v
      from_it v (inl x) = x
      from_it v (inr w) = never_both (said w) b

  -- it was fed: what it charges is charged
  fed_alike : (S : Charging) {asked : Bytes} {q : Request} → Says record_rules asked (known q)
      → (k : ℕ) → Alike (And (S k) (found_at k (charges p q))) (After S (asked ∷ []) k)
  fed_alike S {asked} {q} b k = record { to = to_it; from = from_it }
    where
      to_it : (v : Value) → And (S k) (found_at k (charges p q)) v → After S (asked ∷ []) k v
      to_it v (inl x) = inl x
      to_it v (inr e) =
          inr (record { asked = asked; among = Memᴰ.head refl; request = q; says = b; charges_it = e })

      from_it : (v : Value) → After S (asked ∷ []) k v → And (S k) (found_at k (charges p q)) v
      from_it v (inl x) = inl x
      from_it v (inr w) =
          inr (ap (λ (r : Request). found_at k (charges p r)) (known_one b (said w)) ∙ w.charges_it)

  room_fed : (S : Charging) {asked : Bytes} {q : Request} (room : List ℕ) → Says record_rules asked (known q)
      → RoomHolds S room → RoomHolds (After S (asked ∷ [])) (fed (slots p) (charges p q) room)
  room_fed S {asked} {q} room b w =
      let r = right_charges p q b in
      room_alike (fed_alike S b)
      (record {
        size = ap (λ (n : ℕ). eqb n room_numbers) (fed_length (slots p) (charges p q) S room r w.rows) ∙ w.size;
        rows = rows_fed (slots p) (charges p q) S room r w.rows;
      })

  feed_step : (S : Charging) {asked : Bytes} {x : Outcome Decision} {room mid : List ℕ} → Feeds policy asked room x mid
      → RoomHolds S room → RoomHolds (After S (asked ∷ [])) mid
  feed_step S (O.no_room e) w = not_both w.size e
  feed_step S (O.no_policy e a) w = never_both known_p a
  feed_step S {room = room} (O.no_content {p = r} e a n) w =
      not_both (subst (λ (z : Policy). holds_for z room ≡ true) (known_one known_p a) (room_fits w)) n
  feed_step S (O.no_record e a h b) w = room_alike (refused_alike S b) w
  feed_step S {asked} {room = room} (O.feeds {p = r} {r = q} e a h b) w =
      subst (λ (z : Policy). RoomHolds (After S (asked ∷ [])) (fed (slots z) (charges z q) room)) (known_one known_p a)
      (room_fed S room b w)

  -- ---- a log

  none_alike : (S : Charging) (k : ℕ) → Alike (S k) (After S [] k)
  none_alike S k = record { to = λ v x. inl x; from = from_it }
    where
      from_it : (v : Value) → After S [] k v → S k v
      from_it v (inl x) = x
      from_it v (inr w) = nobody w

  more_alike : (S : Charging) (asked : Bytes) (log : List Bytes) (k : ℕ)
      → Alike (After (After S (asked ∷ [])) log k) (After S (asked ∷ log) k)
  more_alike S asked log k = record { to = to_it; from = from_it }
    where
      to_it : (v : Value) → After (After S (asked ∷ [])) log k v → After S (asked ∷ log) k v
      to_it v (inl (inl x)) = inl x
      to_it v (inl (inr w)) = inr (charged_by w (asked ∷ log) (Memᴰ.append_left log w.among))
      to_it v (inr w) = inr (charged_by w (asked ∷ log) (Memᴰ.tail w.among))

      parted : (v : Value) (w : Charged p (asked ∷ log) k v)
          → Memᴰ w.asked (asked ∷ []) ⊎ Memᴰ w.asked log → After (After S (asked ∷ [])) log k v
      parted v w (inl m) = inl (inr (charged_by w (asked ∷ []) m))
      parted v w (inr m) = inr (charged_by w log m)

      from_it : (v : Value) → After S (asked ∷ log) k v → After (After S (asked ∷ [])) log k v
      from_it v (inl x) = inl (inl x)
      from_it v (inr w) = parted v w (Memᴰ.append_cases (asked ∷ []) w.among)

  walk_holds : (S : Charging) {room after : List ℕ} {log : List Bytes} → Walks policy room log after
      → RoomHolds S room → RoomHolds (After S log) after
  walk_holds S walked w = room_alike (none_alike S) w
  walk_holds S (L.fed {asked = asked} {log = log} f rest) w =
      room_alike (more_alike S asked log) (walk_holds (After S (asked ∷ [])) rest (feed_step S f w))

  -- ---- rooms that come of a log

  empty_room_lem : RoomHolds (λ k v. ⊥) empty_room
  empty_room_lem =
      record {
        size = empty_is_room;
        rows = subst (RowsHold (slots p) (λ k v. ⊥)) (sym empty_zeros)
            (rows_empty (slots p) room_numbers
            (omega (arith, rows_enough empty_room (sound_read known_p) empty_is_room, empty_length)));
      }

  start_alike : (log : List Bytes) (k : ℕ) → Alike (After (λ j v. ⊥) log k) (Charged p log k)
  start_alike log k = record { to = to_it; from = λ v w. inr w }
    where
      to_it : (v : Value) → After (λ j v. ⊥) log k v → Charged p log k v
      to_it v (inl x) = absurd x
      to_it v (inr w) = w

  both_alike : (a b : List Bytes) (k : ℕ) → Alike (λ v. Charged p a k v ⊎ Charged p b k v) (Charged p (a ++ b) k)
  both_alike a b k = record { to = to_it; from = λ v w. parted v w (Memᴰ.append_cases a w.among) }
    where
      to_it : (v : Value) → Charged p a k v ⊎ Charged p b k v → Charged p (a ++ b) k v
      to_it v (inl w) = charged_by w (a ++ b) (Memᴰ.append_left b w.among)
      to_it v (inr w) = charged_by w (a ++ b) (Memᴰ.append_right a w.among)

      parted : (v : Value) (w : Charged p (a ++ b) k v) → Memᴰ w.asked a ⊎ Memᴰ w.asked b
          → Charged p a k v ⊎ Charged p b k v
      parted v w (inl m) = inl (charged_by w a m)
      parted v w (inr m) = inr (charged_by w b m)

  room_met : (S R : Charging) (room other : List ℕ) → RoomHolds S room → RoomHolds R other
      → RoomHolds (λ k v. S k v ⊎ R k v) (met (slots p) room other)
  room_met S R room other w z =
      record {
        size = ap (λ (n : ℕ). eqb n room_numbers) (met_length (slots p) S R room other w.rows z.rows) ∙ w.size;
        rows = rows_met (slots p) S R room other w.rows z.rows;
      }

  pub comes_holds : {log : List Bytes} {room : List ℕ} → Comes policy log room → RoomHolds (Charged p log) room
  comes_holds {log} (L.walk w) = room_alike (start_alike log) (walk_holds (λ k v. ⊥) w empty_room_lem)
  comes_holds (L.join {a = a} {b = b} {room = room} {other = other} x y (O.joins {p = r} e g k n m)) =
      room_alike (both_alike a b)
      (subst (λ (z : Policy). RoomHolds (λ k v. Charged p a k v ⊎ Charged p b k v) (met (slots z) room other))
      (known_one known_p k) (room_met (Charged p a) (Charged p b) room other (comes_holds x) (comes_holds y)))

  same_alike : {a b : List Bytes} → SameRecords a b → (k : ℕ) → Alike (Charged p a k) (Charged p b k)
  same_alike {a} {b} s k =
      record {
        to = λ v w. charged_by w b (s.to w.asked w.among);
        from = λ v w. charged_by w a (s.from w.asked w.among);
      }

  same_known : {a b : List Bytes} {room other : List ℕ} → Comes policy a room → Comes policy b other → SameRecords a b
      → room ≡ other
  same_known {a} {b} {room} {other} x y s =
      let w = comes_holds x in
      let z = comes_holds y in
      rows_same (slots p) (Charged p a) (Charged p b) room other (same_alike s)
      (room_size room w.size ∙ sym (room_size other z.size)) w.rows z.rows

-- ---- a policy that is refused

module _ {policy : Bytes} {f : Refusal} (refuses : Says policy_rules policy (refused f)) where
  feed_stays : {asked : Bytes} {x : Outcome Decision} {room mid : List ℕ} → Feeds policy asked room x mid → mid ≡ room
  feed_stays (O.no_room e) = refl
  feed_stays (O.no_policy e a) = refl
  feed_stays (O.no_content e a n) = refl
  feed_stays (O.no_record e a h b) = refl
  feed_stays (O.feeds e a h b) = never_both a refuses

  walk_stays : {room after : List ℕ} {log : List Bytes} → Walks policy room log after → after ≡ room
  walk_stays walked = refl
  walk_stays (L.fed x rest) = walk_stays rest ∙ feed_stays x

  joined_never : {room other after : List ℕ} → Joins policy room other (known done) after → after ≡ empty_room
  joined_never (O.joins e g a n m) = never_both a refuses

  comes_empty : {log : List Bytes} {room : List ℕ} → Comes policy log room → room ≡ empty_room
  comes_empty (L.walk w) = walk_stays w
  comes_empty (L.join x y j) = joined_never j

-- ---- the same room, and the same result

pub same_room : SameRoom
same_room policy a b room other x y s = by (outcome policy_rules policy) (says_some policy_rules policy)
  where
    by : (z : Outcome Policy) → Says policy_rules policy z → room ≡ other
    by (known p) k = same_known k x y s
    by (refused f) k = comes_empty k x ∙ sym (comes_empty k y)

pub same_result : SameResult
same_result policy out a b room other x y s u v c d g h =
    let e = same_room policy a b room other x y s in
    let q = finishes_unique policy other out u v c d (subst (λ (r : List ℕ). Finishes policy r out u c) e g) h in
    (ap (λ (r : Outcome ℕ × List ℕ). r.0) q, ap (λ (r : Outcome ℕ × List ℕ). r.1) q)
