-- What a candidate is written as is right (refines): it matches what the candidate covers, is valid where the entry
-- was, and keeps to the limit of characters.
use mathlib.Core.Path.{◌≡◌, refl, sym, ap, ◌∙◌, subst}
use mathlib.Core.Bool.{Bool, true, false}
use mathlib.Core.List.{List, [], ◌∷◌, ◌++◌, map, append-nil}
use Prim.Native.Nat.{ℕ}
use native.Mathlib.Omega.{arith}
use lib.Dec.{eqb, leb}
use lib.ListN.{length}
use borrow.Author.Tests.{leb-true, le-ltb}
use Rattle.syntax.specs.Limits.{entry_characters}
use Rattle.syntax.specs.Policy.{star, Operator, StringEquals, StringLike, NumericLessThanEquals, Value, text, number}
use Rattle.syntax.specs.Forms.{both, all}
use Rattle.held.specs.Held.{long_value}
use Rattle.parts.proofs.Laws.Slots.{true_false, both_true}
use Rattle.decision.specs.Matching.{matches}
use Rattle.writing.specs.WrittenForm.{bare}
use Rattle.writing.specs.Valid.{Each, none, more, ValidAction, ValidResource, ValidValue, like, at_most}
use Rattle.candidates.specs.Candidates.{Candidate, itself, single, under, up_to, Kind}
use Rattle.candidates.specs.Kinds.{texts, only, never, bounds}
use Rattle.candidates.specs.Entries.{Place, in_action, in_resource, in_row, comparison, meets_at, wildcards, last_of}
use Rattle.candidates.specs.Entries.{before, refined, is_legal, has_form, is_plain, legal_text, legal_beginning}
use Rattle.candidates.specs.Entries.{wild_kind, kind_of}
use Rattle.candidates.proofs.Laws.Bounds.{pick_case}
use Rattle.candidates.proofs.Laws.Wildcards.{plain_matches, star_matches}
use Rattle.candidates.proofs.Laws.Plain.{Sign, final, signs, no_wildcards, symbols, all_back}
use Rattle.candidates.proofs.Laws.Entries.{beginning_inv}

-- what a valid policy asks of an entry where it stands
abbrev pub ValidAt : Place → Value → Type 0
ValidAt in_action (text ys) = ValidAction ys
ValidAt in_action (number n) = ⊥
ValidAt in_resource (text ys) = ValidResource ys
ValidAt in_resource (number n) = ⊥
ValidAt (in_row o) x = ValidValue o x

pub record Refines (p : Place) (x : Value) (k : Kind) (c : Candidate) : Type 0 where
  pub meets : (v : Value) → meets_at p (refined x c) v ≡ k.covers c v
  pub valid : ValidAt p x → ValidAt p (refined x c)
  pub short : long_value x ≡ false → long_value (refined x c) ≡ false

-- ---- valid where it stands

sound : (p : Place) → comparison p ≡ StringLike → (ys : List ℕ) → Each ℕ (Sign p) ys → has_form p ys ≡ true
    → ValidAt p (text ys)
sound in_action e ys s f = record { chars = map bare ys; is = all_back s; right = f }
sound in_resource e ys s f = record { symbols = symbols in_resource s; right = f }
sound (in_row o) e ys s f = subst (λ (o : Operator). ValidValue o (text ys)) (sym e) (like (symbols (in_row o) s))

within_limit : (ys : List ℕ) → leb (length ys) entry_characters ≡ true → long_value (text ys) ≡ false
within_limit ys e = le-ltb entry_characters (length ys) (leb-true (length ys) entry_characters e)

-- ---- candidates of texts

module _ (p : Place) (k : comparison p ≡ StringLike) (x : Value) (m : Value → Bool) (one wide : List ℕ → Bool) where
  legal_refines : (ys : List ℕ) (c : Candidate) → refined x c ≡ text ys → Each ℕ (Sign p) ys → is_legal p ys ≡ true
      → ((t : List ℕ) → matches ys t ≡ (texts m one wide).covers c (text t))
      → ((n : ℕ) → false ≡ (texts m one wide).covers c (number n)) → Refines p x (texts m one wide) c
  legal_refines ys c e s l f g =
      let h = both_true (has_form p ys) (leb (length ys) entry_characters) l in
      record {
        meets = λ v. ap (λ (y : Value). meets_at p y v) e ∙ met v;
        valid = λ a. subst (ValidAt p) (sym e) (sound p k ys s h.0);
        short = λ a. ap long_value e ∙ within_limit ys h.1;
      }
    where
      met : (v : Value) → meets_at p (text ys) v ≡ (texts m one wide).covers c v
      met (text t) = rw k (f t)
      met (number n) = rw k (g n)

  texts_refines : m ≡ meets_at p x
      → ((t : List ℕ) → one t ≡ true → legal_text p t ≡ true)
      → ((q : List ℕ) → wide q ≡ true → (all (is_plain p) q ≡ true) × (is_legal p (q ++ (star ∷ [])) ≡ true))
      → (c : Candidate) → (texts m one wide).is c ≡ true → Refines p x (texts m one wide) c
  unfolding legal_text
  texts_refines e f g itself i =
      record { meets = λ v. ap (λ (h : Value → Bool). h v) (sym e); valid = λ a. a; short = λ a. a }
  texts_refines e f g (single t) i =
      let h = both_true (all (is_plain p) t) (is_legal p t) (f t (both_true (m (text t)) (one t) i).1) in
      legal_refines t (single t) refl (subst (Each ℕ (Sign p)) (append-nil t) (signs p t [] h.0 none)) h.1
      (λ u. plain_matches t u (no_wildcards p t h.0)) (λ n. refl)
  texts_refines e f g (under q) i =
      let h = g q i in
      legal_refines (q ++ (star ∷ [])) (under q) refl (signs p q (star ∷ []) h.0 (more final none)) h.1
      (λ u. star_matches q u (no_wildcards p q h.0)) (λ n. refl)
  texts_refines e f g (up_to n) i = absurd (true_false i refl)

only_refines : (p : Place) (x : Value) (c : Candidate) → (only (meets_at p x)).is c ≡ true
    → Refines p x (only (meets_at p x)) c
only_refines p x itself i = record { meets = λ v. refl; valid = λ a. a; short = λ a. a }
only_refines p x (single t) i = absurd (true_false (both_true (meets_at p x (text t)) false i).1 refl)
only_refines p x (under q) i = absurd (true_false i refl)
only_refines p x (up_to n) i = absurd (true_false i refl)

-- ---- all entries

abbrev Right : Place → Value → Kind → Type 0
Right p x k = (c : Candidate) → k.is c ≡ true → Refines p x k c

wild_refines : (p : Place) (ys : List ℕ) → comparison p ≡ StringLike → Right p (text ys) (wild_kind p ys)
unfolding wild_kind
wild_refines p ys k =
    pick_case (Right p (text ys)) (eqb (wildcards ys) 0) _ _ (λ e. only_refines p (text ys))
    (λ n. pick_case (Right p (text ys)) (both (eqb (wildcards ys) 1) (eqb (last_of ys) star)) _ _
    (λ e. texts_refines p k (text ys) (meets_at p (text ys)) (legal_text p) (legal_beginning p (before ys)) refl (λ t o. o)
    (λ q w. let l = beginning_inv p (before ys) q w in (l.plain, l.legal)))
    (λ e. texts_refines p k (text ys) (meets_at p (text ys)) (legal_text p) never refl (λ t o. o)
    (λ q w. absurd (true_false w refl))))

bound_refines : (n : ℕ) → Right (in_row NumericLessThanEquals) (number n) (bounds leb n)
bound_refines n itself i = absurd (true_false i refl)
bound_refines n (single t) i = absurd (true_false i refl)
bound_refines n (under q) i = absurd (true_false i refl)
bound_refines n (up_to m) i = record { meets = met; valid = valid; short = λ a. refl }
  where
    met : (v : Value) → meets_at (in_row NumericLessThanEquals) (number m) v ≡ (bounds leb n).covers (up_to m) v
    met (text t) = refl
    met (number a) = refl

    valid : ValidValue NumericLessThanEquals (number n) → ValidValue NumericLessThanEquals (number m)
    valid (at_most h) = at_most {n = m} (let l = leb-true m n i in omega arith)

pub refines : (p : Place) (x : Value) (c : Candidate) → (kind_of p x).is c ≡ true → Refines p x (kind_of p x) c
refines in_action (text ys) c i = wild_refines in_action ys refl c i
refines in_action (number n) c i = only_refines in_action (number n) c i
refines in_resource (text ys) c i = wild_refines in_resource ys refl c i
refines in_resource (number n) c i = only_refines in_resource (number n) c i
refines (in_row StringEquals) x c i = only_refines (in_row StringEquals) x c i
refines (in_row StringLike) (text ys) c i = wild_refines (in_row StringLike) ys refl c i
refines (in_row StringLike) (number n) c i = only_refines (in_row StringLike) (number n) c i
refines (in_row NumericLessThanEquals) (text ys) c i = only_refines (in_row NumericLessThanEquals) (text ys) c i
refines (in_row NumericLessThanEquals) (number n) c i = bound_refines n c i
