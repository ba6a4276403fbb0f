-- What the loops of `decode` and `same` keep: the text of all bytes is what was read, and the text from the place on.
use mathlib.Core.Path.{◌≡◌, refl, sym, ap, ◌∙◌, subst}
use mathlib.Core.Bool.{Bool, true, false}
use mathlib.Core.List.{List, [], ◌∷◌, ◌++◌, append_assoc, append-nil}
use Prim.Native.Nat.{ℕ, zero, suc, ◌+◌, ◌-◌, ◌≤◌, ◌<◌}
use native.Mathlib.Numerals.{add-one}
use native.Mathlib.Omega.{arith}
use native.Mathlib.Decide.{dec_lt}
use lib.Dec.{eqb, leb}
use lib.ListN.{length, get_or, drop, set, length-append, length-drop, length-set, drop_of_length-le}
use lib.Seq.{drop-cons}
use borrow.Author.Tests.{le-leb, lt-leb, eq-eqb, ne_eqb}
use Rattle.chars.specs.Base.{pick, within}
use Rattle.chars.specs.Strings.{Unit, plain, coded}
use Rattle.chars.specs.Putting.{lay}
use Rattle.chars.specs.Decoding.{Text, whole, lone, ahead, units_behind, meaning, text_of, decoded_of, equal}
use Rattle.chars.specs.Decoding.{same_text, Decodes, Read, read, read_of, on_read, paired_with}
use Rattle.chars.specs.Steps.{Reads, Plain, SameEight, joined, Sofar, Moves, Match}
use Rattle.std.specs.Prelude.{Option, Some, None, Ok, Err}
use Rattle.chars.specs.declared.strings.Character.{Character}
use Rattle.chars.specs.declared.strings.DecodeError.TheVariants.{Lone, Short}
use Rattle.chars.proofs.Laws.Putting.{lay_length, lay_snoc}
use Rattle.chars.proofs.Laws.Strings.Reading.{read_sequence, sequence_one, text_plain}

text_end : (w : List ℕ) (i : ℕ) → length w ≤ i → text_of (drop i w) ≡ whole
unfolding text_of units_behind meaning
text_end w i h = ap text_of (drop_of_length-le w h)

-- a byte of ASCII that begins no escape is its own character
plain_text : (w : List ℕ) (i : ℕ) → i < length w → Plain (get_or w i 0)
    → text_of (drop i w) ≡ ahead (get_or w i 0) (text_of (drop (i + 1) w))
plain_text w i h p =
    let b = get_or w i 0 in
    let v = drop (suc i) w in
    ap text_of (drop-cons w i 0 h)
    ∙ text_plain (b ∷ v) (omega arith) (read_sequence (b ∷ v) p.no_escape ∙ sequence_one (b ∷ v) b p.ascii)
    ∙ ap (λ (n : ℕ). ahead b (text_of (drop n w))) (sym (add-one i))

pub reads_plain : {w : List ℕ} {i : ℕ} → i < length w → Plain (get_or w i 0)
    → Reads w i (Some (record { c = get_or w i 0; past = i + 1 }))
reads_plain {w} {i} h p = record { text = plain_text w i h p; on = (omega arith, omega arith) }

-- what the place says, where the character there is known
pub reads_char : {w : List ℕ} {i : ℕ} {r : Option Character} {x : Character} → Reads w i r → r ≡ Some x
    → Reads w i (Some x)
reads_char {w} {i} t e = subst (Reads w i) e t

pub reads_none : {w : List ℕ} {i : ℕ} {r : Option Character} → Reads w i r → r ≡ None → Reads w i None
reads_none {w} {i} t e = subst (Reads w i) e t

-- ---- decode

pub sofar_start : (w before : List ℕ) → Sofar w before before 0 0
unfolding lay
sofar_start w before = record { chars = []; text = refl; count = refl; laid = refl; low = omega arith }

module _ {w before after : List ℕ} {i n : ℕ} (p : Sofar w before after i n) where
  pub sofar_length : length after ≡ length before
  sofar_length = ap length p.laid ∙ lay_length p.chars before

  sofar_ahead : {c j : ℕ} {next : List ℕ} → text_of (drop i w) ≡ ahead c (text_of (drop j w)) → i < j
      → next ≡ set after n c → Sofar w before next j (n + 1)
  sofar_ahead {c} {j} e k s =
      record {
        chars = p.chars ++ (c ∷ []);
        text = p.text ∙ ap (joined p.chars) e
            ∙ ap (λ (l : List ℕ). record { chars = l; sound = (text_of (drop j w)).sound })
            (sym (append_assoc p.chars (c ∷ []) (text_of (drop j w)).chars));
        count = omega (arith, length-append p.chars (c ∷ []), p.count);
        laid = s ∙ rw (p.laid, ← p.count) (sym (lay_snoc p.chars before c));
        low = omega (arith, p.low);
      }

  pub sofar_char : {x : Character} {next : List ℕ} → Reads w i (Some x) → next ≡ set after n x.c
      → Sofar w before next x.past (n + 1)
  sofar_char t s = sofar_ahead t.text t.on.0 s

  pub sofar_plain : i < length w → Plain (get_or w i 0) → Sofar w before (set after n (get_or w i 0)) (i + 1) (n + 1)
  sofar_plain h b = sofar_ahead (plain_text w i h b) (omega arith) refl

  -- nothing but the end is left
  ended : (t : Text) → text_of (drop i w) ≡ t → t.chars ≡ [] → text_of w ≡ record { chars = p.chars; sound = t.sound }
  ended t e h =
      p.text ∙ ap (joined p.chars) e ∙ ap (λ (l : List ℕ). record { chars = p.chars ++ l; sound = t.sound }) h
      ∙ ap (λ (l : List ℕ). record { chars = l; sound = t.sound }) (append-nil p.chars)

  laid_all : {b : Bool} → text_of w ≡ record { chars = p.chars; sound = b } → after ≡ lay (text_of w).chars before
  laid_all e = p.laid ∙ ap (λ (t : Text). lay t.chars before) (sym e)

  pub sofar_lone : Reads w i None → Decodes w before (Err Lone) after
  unfolding decoded_of
  sofar_lone t =
      let all = ended lone t.text refl in
      record { told = sym (ap (λ (t : Text). decoded_of t (length before)) all); laid = laid_all all }

  module _ (h : length w ≤ i) where
    all_read : text_of w ≡ record { chars = p.chars; sound = true }
    all_read = ended whole (text_end w i h) refl

    pub sofar_count : n ≤ length after → Decodes w before (Ok n) after
    unfolding decoded_of
    sofar_count k =
        let room : length p.chars ≤ length before = omega (arith, p.count, sofar_length) in
        record {
          told =
              sym (ap (λ (t : Text). decoded_of t (length before)) all_read
              ∙ rw (le-leb (length p.chars) (length before) room) (ap Ok p.count));
          laid = laid_all all_read;
        }

    pub sofar_short : length after < n → Decodes w before (Err Short) after
    unfolding decoded_of
    sofar_short k =
        let room : length before < length p.chars = omega (arith, p.count, sofar_length) in
        record {
          told =
              sym (ap (λ (t : Text). decoded_of t (length before)) all_read
              ∙ rw (lt-leb (length p.chars) (length before) room));
          laid = laid_all all_read;
        }

-- as many characters as were told stand in the run
pub decoded_within : {w before after : List ℕ} {n : ℕ} → Decodes w before (Ok n) after → n ≤ length after
unfolding decoded_of
decoded_within {w} {before} {after} {n} p =
    by (text_of w).sound (dec_lt (length before) (length (text_of w).chars)) p.told
  where
    size : length after ≡ length before
    size = ap length p.laid ∙ lay_length (text_of w).chars before

    by : (t : Bool) → Dec (length before < length (text_of w).chars)
        → Ok n ≡ pick t (pick (leb (length (text_of w).chars) (length before)) (Ok (length (text_of w).chars)) (Err Short)) (Err Lone)
        → n ≤ length after
    by false d e = cc
    by true (yes h) e = let over = rw (lt-leb (length (text_of w).chars) (length before) h) at e in cc
    by true (no h) e =
        let fit = rw (le-leb (length (text_of w).chars) (length before) (omega arith)) at e in
        let count : n ≡ length (text_of w).chars = cc in
        omega (arith, size, count)

-- ---- eight at once

pub sofar_on : {w before run run' : List ℕ} {i n r : ℕ} → Sofar w before run i n → Moves w run run' i n r
    → Sofar w before run' r (n + (r - i))
sofar_on {w} {before} p m = m.goes before p

pub moves_at : {w run run' : List ℕ} {i n r q : ℕ} → Moves w run run' i n r → r ≡ q → Moves w run run' i n q
moves_at {w} {run} {run'} {i} {n} m e = subst (λ (j : ℕ). Moves w run run' i n j) e m

-- nothing, and one stretch behind another
pub moves_none : {w run : List ℕ} {i n : ℕ} → i ≤ length w → Moves w run run i n i
moves_none {w} {run} {i} {n} h =
    let z : n ≡ n + (i - i) = omega arith in
    record {
      on = omega arith;
      inside = h;
      size = refl;
      goes = λ before p. subst (λ (m : ℕ). Sofar w before run i m) z p;
    }

pub moves_then : {w a b c : List ℕ} {i n k r q : ℕ} → Moves w a b i n r → k ≡ n + (r - i) → Moves w b c r k q
    → Moves w a c i n q
moves_then {w} {a} {b} {c} {i} {n} {k} {r} {q} m e o =
    let y : k + (q - r) ≡ n + (q - i) = omega (arith, m.on, o.on) in
    record {
      on = omega (arith, m.on, o.on);
      inside = o.inside;
      size = o.size ∙ m.size;
      goes = λ before p.
          let s = subst (λ (l : ℕ). Sofar w before b r l) (sym e) (m.goes before p) in
          subst (λ (l : ℕ). Sofar w before c q l) y (o.goes before s);
    }

pub moves_byte : {w run run' : List ℕ} {i n c : ℕ} (j : ℕ) → Moves w run run' i n (i + j) → i + j < length w
    → Plain (get_or w (i + j) 0) → c ≡ get_or w (i + j) 0 → Moves w run (set run' (n + j) c) i n (i + j + 1)
moves_byte {w} {run} {run'} {i} {n} {c} j m h b e =
    let z : n + (i + j - i) ≡ n + j = omega arith in
    let y : n + j + 1 ≡ n + (i + j + 1 - i) = omega arith in
    record {
      on = omega arith;
      inside = omega arith;
      size = length-set run' (n + j) c ∙ m.size;
      goes = λ before p.
          let q = subst (λ (k : ℕ). Sofar w before run' (i + j) k) z (m.goes before p) in
          subst (λ (k : ℕ). Sofar w before (set run' (n + j) c) (i + j + 1) k) y (rw e (sofar_plain q h b));
    }

-- one byte more, n characters on
pub moves_next : {w run run' : List ℕ} {i from r n c : ℕ} → Moves w run run' i from r → n ≡ from + (r - i) → r < length w
    → Plain (get_or w r 0) → c ≡ get_or w r 0 → Moves w run (set run' n c) i from (r + 1)
moves_next {w} {run} {run'} {i} {from} {r} {n} {c} m z h b e =
    let y : from + (r - i) + 1 ≡ from + (r + 1 - i) = omega (arith, m.on) in
    record {
      on = omega (arith, m.on);
      inside = omega arith;
      size = length-set run' n c ∙ m.size;
      goes = λ before p.
          subst (λ (k : ℕ). Sofar w before (set run' n c) (r + 1) k) y
          (rw (z, e) (sofar_plain (m.goes before p) h b));
    }

-- ---- same

-- a text that begins with something is not the empty one
never : (b : Bool) → pick b false false ≡ false
never true = refl
never false = refl

abbrev Some_text : Text → Type 0
Some_text t = same_text t [] ≡ false

some_ahead : (c : ℕ) (t : Text) → Some_text (ahead c t)
unfolding same_text equal
some_ahead c t = never t.sound

some_lone : Some_text lone
unfolding same_text
some_lone = refl

some_pick : (b : Bool) (t u : Text) → Some_text t → Some_text u → Some_text (pick b t u)
some_pick true t u p q = p
some_pick false t u p q = q

some_paired : (h : ℕ) (us : List Unit) → Some_text (paired_with h us)
unfolding meaning
some_paired h [] = some_lone
some_paired h (plain c ∷ us) = some_lone
some_paired h (coded l ∷ us) = some_pick (within 56320 57343 l) _ _ (some_ahead _ (meaning us)) some_lone

some_meaning : (u : Unit) (us : List Unit) → Some_text (meaning (u ∷ us))
unfolding meaning
some_meaning (plain c) us = some_ahead c (meaning us)
some_meaning (coded u) us =
    some_pick (within 55296 56319 u) _ _ (some_paired u us)
    (some_pick (within 56320 57343 u) _ _ some_lone (some_ahead u (meaning us)))

some_read : (r : Read) (f : ℕ → List Unit) → Some_text (meaning (on_read r f))
some_read (read u n) f = some_meaning u (f n)

some_text : (w : List ℕ) → 0 < length w → Some_text (text_of w)
unfolding text_of units_behind
some_text [] h = absurd (omega arith)
some_text (b ∷ w) h = some_read (read_of (b ∷ w)) (λ n. units_behind n w)

module _ {w v : List ℕ} {i j : ℕ} (p : Match w v i j) where
  onward : (t : Text) (l : List ℕ) → text_of (drop i w) ≡ t → drop j v ≡ l → same_text (text_of w) v ≡ same_text t l
  onward t l e f = p.is ∙ ap (λ (u : Text). same_text u (drop j v)) e ∙ ap (same_text t) f

  pub match_lone : Reads w i None → false ≡ same_text (text_of w) v
  unfolding same_text
  match_lone t = sym (onward lone (drop j v) t.text refl)

  -- one of v's bytes is left
  module _ (h : j < length v) where
    next : drop j v ≡ get_or v j 0 ∷ drop (j + 1) v
    next = drop-cons v j 0 h ∙ ap (λ (n : ℕ). get_or v j 0 ∷ drop n v) (sym (add-one j))

    pub match_short : length w ≤ i → false ≡ same_text (text_of w) v
    unfolding same_text equal
    match_short k = sym (onward whole _ (text_end w i k) next)

    module _ {x : Character} (t : Reads w i (Some x)) where
      pub match_other : (x.c ≡ get_or v j 0 → ⊥) → false ≡ same_text (text_of w) v
      unfolding same_text equal
      match_other d =
          sym (onward _ _ t.text next ∙ rw (ne_eqb x.c (get_or v j 0) d) (never (text_of (drop x.past w)).sound))

      pub match_next : x.c ≡ get_or v j 0 → Match w v x.past (j + 1)
      unfolding same_text equal
      match_next d = record { is = onward _ _ t.text next ∙ rw (eq-eqb x.c (get_or v j 0) d); high = omega arith }

  pub match_plain : i < length w → j < length v → Plain (get_or w i 0) → get_or w i 0 ≡ get_or v j 0 → Match w v (i + 1) (j + 1)
  match_plain h k b e = match_next k (reads_plain h b) e

  pub match_end : i ≤ length w → length v ≤ j → eqb i (length w) ≡ same_text (text_of w) v
  unfolding same_text equal
  match_end h k = sym (onward _ [] refl (drop_of_length-le v k) ∙ by (dec_lt i (length w)))
    where
      by : Dec (i < length w) → same_text (text_of (drop i w)) [] ≡ eqb i (length w)
      by (yes g) =
          some_text (drop i w) (omega (arith, length-drop i w)) ∙ sym (ne_eqb i (length w) (omega arith))
      by (no g) =
          ap (λ (t : Text). same_text t []) (text_end w i (omega arith)) ∙ sym (eq-eqb i (length w) (omega arith))

match_run : {w v : List ℕ} (i n : ℕ) → Match w v i i → i + n ≤ length w → i + n ≤ length v
    → ((k : ℕ) → k < n → (Plain (get_or w (i + k) 0)) × (get_or w (i + k) 0 ≡ get_or v (i + k) 0)) → Match w v (i + n) (i + n)
match_run {w} {v} i zero m h g f = let z : i ≡ i + 0 = omega arith in subst (λ (k : ℕ). Match w v k k) z m
match_run {w} {v} i (suc n) m h g f =
    let z : i + n + 1 ≡ i + suc n = omega arith in
    let last = f n (omega arith) in
    let before = match_run i n m (omega arith) (omega arith) (λ k l. f k (omega arith)) in
    subst (λ (k : ℕ). Match w v k k) z (match_plain before (omega arith) (omega arith) last.0 last.1)

pub match_eight : {w v : List ℕ} {i : ℕ} → Match w v i i → i + 8 ≤ length w → i + 8 ≤ length v → SameEight w v i
    → Match w v (i + 8) (i + 8)
match_eight {w} {v} {i} m h g f = match_run i 8 m h g f
