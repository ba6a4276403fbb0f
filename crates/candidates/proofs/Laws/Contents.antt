-- A row is determined by the set of values charged to it, since a least candidate is unique: so order and repeats
-- change nothing, nor does cutting the values into parts and joining the parts' rows.
--   held_least, held_same, held_parts_lem   what is held is right for the values; the same for the same; part by part
--   joined_comm, joined_assoc, joined_idem, joined_empty   of rows that are empty or hold a candidate
use mathlib.Core.Path.{◌≡◌, refl, ap}
use mathlib.Core.Bool.{true}
use mathlib.Core.Logic.{◌⊎◌, inl, inr, ⊎_elim}
use mathlib.Core.List.Memᴰ
use mathlib.Core.List.{List, [], ◌∷◌, ◌++◌}
use Rattle.syntax.specs.Policy.{Value}
use Rattle.candidates.specs.Candidates.{Candidate, Content, empty, holds, Kind, Covers, Under, Least, Lawful}
use Rattle.candidates.specs.Candidates.{joined, charged, held_from, held, is_content, Among, Matched, Alike, Holds}
use Rattle.candidates.specs.Candidates.{nothing, least}

-- ---- least candidates

module _ {k : Kind} where
  pub least_alike : {S R : Value → Type 0} {c : Candidate} → Alike S R → Least k S c → Least k R c
  least_alike e l =
      record {
        among = l.among;
        all = λ v r. l.all v (e.from v r);
        least = λ d i h. l.least d i (λ v s. h v (e.to v s));
      }

  pub holds_alike : {S R : Value → Type 0} {r : Content} → Alike S R → Holds k S r → Holds k R r
  holds_alike e (nothing n) = nothing (λ v s. n v (e.from v s))
  holds_alike e (least {v = v} s l) = least (e.to v s) (least_alike e l)

  pub holds_content : {S : Value → Type 0} {r : Content} → Holds k S r → is_content k r ≡ true
  holds_content (nothing n) = refl
  holds_content (least s l) = l.among

module _ {k : Kind} (w : Lawful k) where
  pub least_unique : {S R : Value → Type 0} {c d : Candidate} → Alike S R → Least k S c → Least k R d → c ≡ d
  least_unique {S} {R} {c} {d} e l m =
      w.same c d l.among m.among (l.least d m.among (λ v s. m.all v (e.to v s)))
      (m.least c l.among (λ v r. l.all v (e.from v r)))

  -- a candidate that covers all that the entry does is the entry
  pub whole_unique : (c : Candidate) → k.is c ≡ true → Under k k.whole c → c ≡ k.whole
  whole_unique c i u = w.same c k.whole i w.whole (w.inside c i) u

  pub holds_unique : {S R : Value → Type 0} {a b : Content} → Alike S R → Holds k S a → Holds k R b → a ≡ b
  holds_unique e (nothing n) (nothing m) = refl
  holds_unique e (nothing n) (least {v = v} s l) = absurd (n v (e.from v s))
  holds_unique e (least {v = v} s l) (nothing n) = absurd (n v (e.to v s))
  holds_unique e (least s l) (least t m) = ap holds (least_unique e l m)

  -- ---- joining

  -- least for two sets, least for both
  least_both : {S R : Value → Type 0} {a b : Candidate} → Least k S a → Least k R b
      → Least k (λ v. S v ⊎ R v) (k.join a b)
  least_both {S} {R} {a} {b} l m =
      let j = w.join a b l.among m.among in
      record {
        among = j.among;
        all = λ v s. j.all v (⊎_elim (λ x. inl (l.all v x)) (λ y. inr (m.all v y)) s);
        least =
            λ d i h. j.least d i
            (λ v s. ⊎_elim (l.least d i (λ u x. h u (inl x)) v) (m.least d i (λ u y. h u (inr y)) v) s);
      }

  pub joined_holds : {S R : Value → Type 0} {a b : Content} → Holds k S a → Holds k R b
      → Holds k (λ v. S v ⊎ R v) (joined k a b)
  joined_holds (nothing n) (nothing m) = nothing (λ v s. ⊎_elim (n v) (m v) s)
  joined_holds (nothing n) (least s l) =
      holds_alike (record { to = λ v y. inr y; from = λ v e. ⊎_elim (λ x. absurd (n v x)) (λ y. y) e }) (least s l)
  joined_holds (least s l) (nothing n) =
      holds_alike (record { to = λ v x. inl x; from = λ v e. ⊎_elim (λ x. x) (λ y. absurd (n v y)) e }) (least s l)
  joined_holds (least s l) (least t m) = least (inl s) (least_both l m)

  -- ---- what is held

  one_least : (v : Value) → Covers k k.whole v → Holds k (λ u. u ≡ v) (holds (k.least v))
  one_least v h = least {v = v} refl (w.least v h)

  from_least : {S : Value → Type 0} (r : Content) (vs : List Value) → Holds k S r → Matched k vs
      → Holds k (λ v. S v ⊎ Among vs v) (held_from k r vs)
  unfolding held_from
  from_least r [] h m = holds_alike (record { to = λ v s. inl s; from = λ v e. ⊎_elim (λ s. s) (elim [ ]) e }) h
  from_least {S} r (v ∷ vs) h m =
      holds_alike (record { to = there; from = back })
      (from_least (charged k r v) vs (joined_holds h (one_least v (m v (Memᴰ.head refl))))
      (λ u i. m u (Memᴰ.tail i)))
    where
      there : (u : Value) → (S u ⊎ (u ≡ v)) ⊎ Among vs u → S u ⊎ Among (v ∷ vs) u
      there u (inl (inl s)) = inl s
      there u (inl (inr e)) = inr (Memᴰ.head e)
      there u (inr i) = inr (Memᴰ.tail i)

      back : (u : Value) → S u ⊎ Among (v ∷ vs) u → (S u ⊎ (u ≡ v)) ⊎ Among vs u
      back u (inl s) = inl (inl s)
      back u (inr (Memᴰ.head e)) = inl (inr e)
      back u (inr (Memᴰ.tail i)) = inr i

  -- least for exactly the values charged
  pub held_least : (vs : List Value) → Matched k vs → Holds k (Among vs) (held k vs)
  held_least vs m =
      holds_alike {S = λ v. ⊥ ⊎ Among vs v}
      (record { to = λ v e. ⊎_elim (λ n. absurd n) (λ i. i) e; from = λ v i. inr i })
      (from_least {S = λ v. ⊥} empty vs (nothing (λ v n. n)) m)

  -- whatever the order, and however often
  pub held_same : (vs us : List Value) → Matched k vs → Matched k us → Alike (Among vs) (Among us)
      → held k vs ≡ held k us
  held_same vs us m n e = holds_unique e (held_least vs m) (held_least us n)

  -- and however cut into parts
  pub held_parts_lem : (vs us : List Value) → Matched k vs → Matched k us
      → held k (vs ++ us) ≡ joined k (held k vs) (held k us)
  held_parts_lem vs us m n =
      holds_unique
      (record {
        to = λ v i. Memᴰ.append_cases vs i;
        from = λ v e. ⊎_elim (λ i. Memᴰ.append_left us i) (λ i. Memᴰ.append_right vs i) e;
      })
      (held_least (vs ++ us) (λ v i. ⊎_elim (m v) (n v) (Memᴰ.append_cases vs i)))
      (joined_holds (held_least vs m) (held_least us n))

  -- ---- rows that hold candidates

  own : (c : Candidate) → k.is c ≡ true → Least k (Covers k c) c
  own c i = record { among = i; all = λ v h. h; least = λ d j h. h }

  pub join_idem : (a : Candidate) → k.is a ≡ true → k.join a a ≡ a
  join_idem a i =
      least_unique (record { to = λ v e. ⊎_elim (λ x. x) (λ x. x) e; from = λ v x. inl x }) (w.join a a i i) (own a i)

  pub join_comm : (a b : Candidate) → k.is a ≡ true → k.is b ≡ true → k.join a b ≡ k.join b a
  join_comm a b i j =
      least_unique (record { to = λ v e. turn e; from = λ v e. turn e }) (w.join a b i j) (w.join b a j i)
    where
      turn : {X Y : Type 0} → X ⊎ Y → Y ⊎ X
      turn (inl x) = inr x
      turn (inr y) = inl y

  pub join_assoc : (a b c : Candidate) → k.is a ≡ true → k.is b ≡ true → k.is c ≡ true
      → k.join (k.join a b) c ≡ k.join a (k.join b c)
  join_assoc a b c i j h =
      least_unique (record { to = λ v e. on e; from = λ v e. off e })
      (least_both (w.join a b i j) (own c h)) (least_both (own a i) (w.join b c j h))
    where
      on : {X Y Z : Type 0} → (X ⊎ Y) ⊎ Z → X ⊎ (Y ⊎ Z)
      on (inl (inl x)) = inl x
      on (inl (inr y)) = inr (inl y)
      on (inr z) = inr (inr z)

      off : {X Y Z : Type 0} → X ⊎ (Y ⊎ Z) → (X ⊎ Y) ⊎ Z
      off (inl x) = inl (inl x)
      off (inr (inl y)) = inl (inr y)
      off (inr (inr z)) = inr z

  pub joined_content : (a b : Content) → is_content k a ≡ true → is_content k b ≡ true → is_content k (joined k a b) ≡ true
  joined_content empty b i j = j
  joined_content (holds a) empty i j = i
  joined_content (holds a) (holds b) i j = (w.join a b i j).among

  pub joined_empty : (a : Content) → joined k a empty ≡ a
  joined_empty empty = refl
  joined_empty (holds a) = refl

  pub joined_idem : (a : Content) → is_content k a ≡ true → joined k a a ≡ a
  joined_idem empty i = refl
  joined_idem (holds a) i = ap holds (join_idem a i)

  pub joined_comm : (a b : Content) → is_content k a ≡ true → is_content k b ≡ true → joined k a b ≡ joined k b a
  joined_comm empty empty i j = refl
  joined_comm empty (holds b) i j = refl
  joined_comm (holds a) empty i j = refl
  joined_comm (holds a) (holds b) i j = ap holds (join_comm a b i j)

  pub joined_assoc : (a b c : Content) → is_content k a ≡ true → is_content k b ≡ true → is_content k c ≡ true
      → joined k (joined k a b) c ≡ joined k a (joined k b c)
  joined_assoc empty b c i j h = refl
  joined_assoc (holds a) empty c i j h = refl
  joined_assoc (holds a) (holds b) empty i j h = refl
  joined_assoc (holds a) (holds b) (holds c) i j h = ap holds (join_assoc a b c i j h)
