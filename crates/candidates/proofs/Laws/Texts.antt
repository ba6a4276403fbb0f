-- `texts` is lawful, whatever is legal, where `Texts` holds: a single text is the narrowest that covers it, and among
-- beginnings the longest is.
use mathlib.Core.Path.{◌≡◌, refl, sym, subst}
use mathlib.Core.Bool.{Bool, true, false}
use mathlib.Core.Logic.{◌⊎◌, inl, inr, ⊎_elim}
use mathlib.Core.List.{List}
use Prim.Native.Nat.{ℕ}
use lib.ListN.{length}
use Rattle.syntax.specs.Policy.{Value, text, number}
use Rattle.parts.proofs.Laws.Slots.{true_false, both_true}
use Rattle.syntax.proofs.Laws.Same.{same_sound, same_complete}
use Rattle.candidates.specs.Candidates.{Candidate, itself, single, under, up_to, Kind, Covers, Under, Least, Lawful}
use Rattle.candidates.specs.Beginnings.{begins, shared, longest}
use Rattle.candidates.specs.Kinds.{texts, text_of, one_text, join_of_texts, least_of_text}
use Rattle.candidates.specs.Kinds.{never, only}
use Rattle.candidates.proofs.Laws.Bounds.{pick_case}
use Rattle.candidates.proofs.Laws.Beginnings.{both_is, begins_trans, begins_length}
use Rattle.candidates.proofs.Laws.Beginnings.{shared_left, shared_right, shared_longest}
use Rattle.candidates.proofs.Laws.Beginnings.{Longest, found, none, longest_is}
use Rattle.candidates.proofs.Laws.TextsCover.{Texts, nil, by_single, inside, narrow, begun, known, alike}

module _ (m : Value → Bool) (one wide : List ℕ → Bool) (h : Texts m one wide) where
  abbrev k : Kind
  k = texts m one wide

  -- ---- the longest beginning is least

  -- values that the entry matches, as do all beginnings of t, and that no single and no other beginning covers
  record Spread (S : Value → Type 0) (t : List ℕ) : Type 0 where
    matched : (v : Value) → S v → m v ≡ true
    longer : (q : List ℕ) → wide q ≡ true → begins q t ≡ true → (v : Value) → S v → Covers k (under q) v
    many : (s : List ℕ) → k.is (single s) ≡ true → ((v : Value) → S v → Covers k (single s) v) → ⊥
    shorter : (p : List ℕ) → wide p ≡ true → ((v : Value) → S v → Covers k (under p) v) → begins p t ≡ true

  module _ {S : Value → Type 0} {t : List ℕ} (s : Spread S t) where
    over : {c : Candidate} → Longest wide t (length t) c → (d : Candidate) → k.is d ≡ true
        → ((v : Value) → S v → Covers k d v) → k.is c ≡ true → Under k c d
    over {c} l itself i a j = inside m one wide h c j
    over l (single u) i a j = absurd (s.many u i a)
    over (found {q = q} w b n) (under p) i a j =
        known m one wide h (under q) p j i (n p i (s.shorter p i a) (begins_length p t (s.shorter p i a)))
    over (none n) (under p) i a j = absurd (n p i (s.shorter p i a) (begins_length p t (s.shorter p i a)))
    over l (up_to n) i a j = absurd (true_false i refl)

    longest_least : {c : Candidate} → Longest wide t (length t) c → Least k S c
    longest_least (found w b n) =
        record { among = w; all = s.longer _ w b; least = λ d i a. over (found w b n) d i a w }
    longest_least (none n) = record { among = refl; all = s.matched; least = λ d i a. over (none n) d i a refl }

  -- ---- one value

  of_number_lem : (n : ℕ) (d : Candidate) → Covers k d (number n) → Under k itself d
  of_number_lem n itself c v e = e
  of_number_lem n (single t) c v e = absurd (true_false c refl)
  of_number_lem n (under q) c v e = absurd (true_false c refl)
  of_number_lem n (up_to i) c v e = absurd (true_false c refl)

  alone : (t : List ℕ) → m (text t) ≡ true → one t ≡ true → Least k (λ v. v ≡ text t) (single t)
  alone t c o =
      record {
        among = both_is c o;
        all = λ v e. subst (λ (x : Value). Covers k (single t) x) (sym e) (same_complete {a = t} refl);
        least = λ d i a. by_single m one wide h t d (a (text t) refl);
      }

  spread_one : (t : List ℕ) → m (text t) ≡ true → one t ≡ false → Spread (λ v. v ≡ text t) t
  spread_one t c o =
      record {
        matched = λ v e. subst (λ (x : Value). m x ≡ true) (sym e) c;
        longer = λ q w b v e. subst (λ (x : Value). Covers k (under q) x) (sym e) b;
        many = λ s i a. true_false (passes s (same_sound s t (a (text t) refl)) i) o;
        shorter = λ p w a. a (text t) refl;
      }
    where
      passes : (s : List ℕ) → s ≡ t → k.is (single s) ≡ true → one t ≡ true
      passes s e i = subst (λ (x : List ℕ). one x ≡ true) e (both_true (m (text s)) (one s) i).1

  least_one : (v : Value) → m v ≡ true → Least k (λ u. u ≡ v) (least_of_text one wide v)
  least_one (text t) c =
      pick_case (Least k (λ u. u ≡ text t)) (one t) (single t) (longest wide t) (alone t c)
      (λ o. longest_least (spread_one t c o) (longest_is wide t (nil m one wide h)))
  least_one (number n) c =
      record {
        among = refl;
        all = λ v e. subst (λ (x : Value). m x ≡ true) (sym e) c;
        least = λ d i a. of_number_lem n d (a (number n) refl);
      }

  -- ---- two candidates

  abbrev Either : Candidate → Candidate → Value → Type 0
  Either a b v = Covers k a v ⊎ Covers k b v

  one_text_lem : (a b : Candidate) (s : List ℕ) → a ≡ single s → b ≡ single s → one_text a b ≡ true
  one_text_lem a b s e f = rw (e, f) (same_complete {a = s} refl)

  spread_two : (a b : Candidate) → k.is a ≡ true → k.is b ≡ true → one_text a b ≡ false
      → Spread (Either a b) (shared (text_of a) (text_of b))
  spread_two a b i j n =
      record {
        matched = λ v e. ⊎_elim (inside m one wide h a i v) (inside m one wide h b j v) e;
        longer = λ q w c v e. ⊎_elim (known m one wide h a q i w (left q c) v)
            (known m one wide h b q j w (right q c) v) e;
        many = λ s g c. true_false
            (one_text_lem a b s (narrow m one wide h a s i g (λ v e. c v (inl e)))
            (narrow m one wide h b s j g (λ v e. c v (inr e))))
            n;
        shorter = λ p w c. shared_longest p (text_of a) (text_of b) (begun m one wide h a p i w (λ v e. c v (inl e)))
            (begun m one wide h b p j w (λ v e. c v (inr e)));
      }
    where
      left : (q : List ℕ) → begins q (shared (text_of a) (text_of b)) ≡ true → begins q (text_of a) ≡ true
      left q c = begins_trans q (shared (text_of a) (text_of b)) (text_of a) c (shared_left (text_of a) (text_of b))

      right : (q : List ℕ) → begins q (shared (text_of a) (text_of b)) ≡ true → begins q (text_of b) ≡ true
      right q c = begins_trans q (shared (text_of a) (text_of b)) (text_of b) c (shared_right (text_of a) (text_of b))

  both_single : (a b : Candidate) → k.is a ≡ true → one_text a b ≡ true → Least k (Either a b) a
  both_single itself b i e = absurd (true_false e refl)
  both_single (single s) itself i e = absurd (true_false e refl)
  both_single (single s) (single t) i e =
      record {
        among = i;
        all = λ v c. ⊎_elim (λ x. x) (by_single m one wide h t (single s) e v) c;
        least = λ d j a. by_single m one wide h s d (a (text s) (inl (same_complete {a = s} refl)));
      }
  both_single (single s) (under q) i e = absurd (true_false e refl)
  both_single (single s) (up_to n) i e = absurd (true_false e refl)
  both_single (under q) b i e = absurd (true_false e refl)
  both_single (up_to n) b i e = absurd (true_false e refl)

  join : (a b : Candidate) → k.is a ≡ true → k.is b ≡ true → Least k (Either a b) (join_of_texts wide a b)
  join a b i j =
      pick_case (Least k (Either a b)) (one_text a b) a (longest wide (shared (text_of a) (text_of b)))
      (both_single a b i)
      (λ n. longest_least (spread_two a b i j n) (longest_is wide (shared (text_of a) (text_of b)) (nil m one wide h)))

  pub texts_lawful : Lawful k
  texts_lawful =
      record {
        whole = refl;
        inside = inside m one wide h;
        least = least_one;
        join = join;
        same = alike m one wide h;
      }

pub only_lawful : (m : Value → Bool) → Lawful (only m)
only_lawful m =
    texts_lawful m never never
    (record {
      inside = λ q t w b. absurd (true_false w refl);
      wider = λ q w. absurd (true_false w refl);
      several = λ s o. absurd (true_false o refl);
    })
