-- What the loops keep that convert a run in place: the places passed hold what was read, the others what they held.
use mathlib.Core.Path.{◌≡◌, refl, ap, sym, ◌∙◌}
use mathlib.Core.Bool.{Bool, true, false}
use mathlib.Core.List.{List, [], ◌∷◌, ◌++◌, append_assoc, append-nil, map}
use Prim.Native.Nat.{ℕ, zero, suc, ◌+◌, ◌≤◌, ◌<◌}
use native.Mathlib.Numerals.{add-one}
use native.Mathlib.Omega.{arith}
use lib.ListN.{length, get_or, drop, set, length-append, drop_of_length-le}
use Rattle.chars.specs.Putting.{lay}
use Rattle.chars.proofs.Laws.Putting.{lay_length, lay_snoc}
use Rattle.std.specs.Prelude.{Option, Some, None}
use Rattle.syntax.specs.declared.symbols.Said.{Said}
use Rattle.syntax.specs.Forms.{Reading, wrong, read, wildcard, symbol, ahead, symbols_behind, symbols_of}
use Rattle.syntax.specs.Told.{converted, is_read, NoDollar, Says}
use Rattle.syntax.proofs.Laws.Symbols.{symbols_plain, says_on, says_text, says_wrong}

-- ---- wildcards

-- the first n are converted
unfoldable pub turned : ℕ → List ℕ → List ℕ
turned zero l = l
turned (suc n) [] = []
turned (suc n) (x ∷ l) = wildcard x ∷ turned n l

turned_length : (n : ℕ) (l : List ℕ) → length (turned n l) ≡ length l
unfolding turned
turned_length zero l = refl
turned_length (suc n) [] = refl
turned_length (suc n) (x ∷ l) = ap suc (turned_length n l)

turned_next : (n : ℕ) (l : List ℕ) → set (turned n l) n (wildcard (get_or (turned n l) n 0)) ≡ turned (suc n) l
unfolding turned
turned_next zero [] = refl
turned_next zero (x ∷ l) = refl
turned_next (suc n) [] = refl
turned_next (suc n) (x ∷ l) = ap (λ (m : List ℕ). wildcard x ∷ m) (turned_next n l)

turned_all : (n : ℕ) (l : List ℕ) → length l ≤ n → turned n l ≡ map wildcard l
unfolding turned
turned_all zero [] h = refl
turned_all zero (x ∷ l) h = absurd (omega arith)
turned_all (suc n) [] h = refl
turned_all (suc n) (x ∷ l) h = ap (λ (m : List ℕ). wildcard x ∷ m) (turned_all n l (omega arith))

pub record Turned (before after : List ℕ) (i : ℕ) : Type 0 where
  pub is : after ≡ turned i before

pub turned_start : (l : List ℕ) → Turned l l 0
unfolding turned
turned_start l = record { is = refl }

module _ {before after : List ℕ} {i : ℕ} (p : Turned before after i) where
  pub turned_same : length after ≡ length before
  turned_same = ap length p.is ∙ turned_length i before

  pub turned_more : {c : ℕ} → c ≡ wildcard (get_or after i 0) → Turned before (set after i c) (i + 1)
  turned_more {c} e =
      record {
        is =
            ap (set after i) e ∙ ap (λ (l : List ℕ). set l i (wildcard (get_or l i 0))) p.is ∙ turned_next i before
            ∙ ap (λ (n : ℕ). turned n before) (sym (add-one i));
      }

  pub turned_end : length after ≤ i → after ≡ map wildcard before
  turned_end h = p.is ∙ turned_all i before (omega (arith, turned_same))

-- ---- symbols

-- symbols ahead of a reading
unfoldable pub joined : List ℕ → Reading (List ℕ) → Reading (List ℕ)
joined xs wrong = wrong
joined xs (read ys) = read (xs ++ ys)

joined_none : (t : Reading (List ℕ)) → t ≡ joined [] t
unfolding joined
joined_none wrong = refl
joined_none (read ys) = refl

joined_ahead : (xs : List ℕ) (c : ℕ) (t : Reading (List ℕ)) → joined xs (ahead c t) ≡ joined (xs ++ (c ∷ [])) t
unfolding joined ahead
joined_ahead xs c wrong = refl
joined_ahead xs c (read ys) = ap read (sym (append_assoc xs (c ∷ []) ys))

drop_lay : (xs out : List ℕ) (i : ℕ) → length xs ≤ i → drop i (lay xs out) ≡ drop i out
unfolding lay
drop_lay [] out i h = refl
drop_lay (x ∷ xs) [] i h = refl
drop_lay (x ∷ xs) (o ∷ out) zero h = absurd (omega arith)
drop_lay (x ∷ xs) (o ∷ out) (suc i) h = drop_lay xs out i (omega arith)

pub record Sofar (w : Bool) (before after : List ℕ) (i n : ℕ) : Type 0 where
  pub said : List ℕ
  pub text : symbols_of w before ≡ joined said (symbols_of w (drop i before))
  pub count : length said ≡ n
  pub laid : after ≡ lay said before
  pub low : n ≤ i
  pub right : is_read (symbols_of w before) ≡ true

pub sofar_start : (w : Bool) (l : List ℕ) → is_read (symbols_of w l) ≡ true → Sofar w l l 0 0
unfolding lay
sofar_start w l e =
    record { said = []; text = joined_none _; count = refl; laid = refl; low = omega arith; right = e }

-- a wrong escape leaves the run as it is
pub converted_wrong : (w : Bool) (l : List ℕ) → is_read (symbols_of w l) ≡ false
    → (None, l) ≡ converted (symbols_of w l) l
converted_wrong w l e = by (symbols_of w l) e
  where
    by : (t : Reading (List ℕ)) → is_read t ≡ false → (None, l) ≡ converted t l
    by wrong e = refl
    by (read ys) e = cc

module _ {w : Bool} {before after : List ℕ} {i n : ℕ} (p : Sofar w before after i n) where
  pub sofar_length : length after ≡ length before
  sofar_length = ap length p.laid ∙ lay_length p.said before

  unread : (j : ℕ) → i ≤ j → drop j after ≡ drop j before
  unread j h = ap (drop j) p.laid ∙ drop_lay p.said before j (omega (arith, p.count, p.low))

  at : (j : ℕ) → i ≤ j → symbols_of w (drop j before) ≡ symbols_of w (drop j after)
  at j h = ap (symbols_of w) (sym (unread j h))

  module _ {r : Option Said} (q : Says w after i r) where
    pub sofar_next : {c past : ℕ} → r ≡ Some (record { c = c; past = past }) → Sofar w before (set after n c) past (n + 1)
    sofar_next {c} {past} e =
        let on : i < past = says_on q e in
        record {
          said = p.said ++ (c ∷ []);
          text =
              p.text ∙ ap (joined p.said) (at i (omega arith) ∙ says_text q e) ∙ joined_ahead p.said c _
              ∙ ap (joined (p.said ++ (c ∷ []))) (sym (at past (omega arith)));
          count = omega (arith, length-append p.said (c ∷ []), p.count);
          laid =
              ap (λ (l : List ℕ). set l n c) p.laid ∙ ap (λ (k : ℕ). set (lay p.said before) k c) (sym p.count)
              ∙ sym (lay_snoc p.said before c);
          low = omega (arith, p.low);
          right = p.right;
        }

    pub sofar_right : r ≡ None → ⊥
    unfolding joined
    sofar_right e =
        let wrongly : symbols_of w before ≡ wrong =
        p.text ∙ ap (joined p.said) (at i (omega arith) ∙ says_wrong q e) in
        let never : false ≡ true = sym (ap is_read wrongly) ∙ p.right in
        let z : ◌≡◌ {A = ℕ} 0 1 = cc in
        omega arith

  pub sofar_end : length after ≤ i → (Some n, after) ≡ converted (symbols_of w before) before
  unfolding joined symbols_behind
  sofar_end h =
      let all : symbols_of w before ≡ read p.said =
      p.text
      ∙ ap (λ (l : List ℕ). joined p.said (symbols_of w l))
      (drop_of_length-le before {i = i} (omega (arith, sofar_length)))
      ∙ ap read (append-nil p.said) in
      let end : converted (symbols_of w before) before ≡ (Some (length p.said), lay p.said before) =
      ap (λ (t : Reading (List ℕ)). converted t before) all in
      cc (end, p.count, p.laid)

-- ---- no escapes

plain_read : (w : Bool) (cs : List ℕ) → NoDollar cs → symbols_of w cs ≡ read (map (symbol w) cs)
unfolding symbols_behind ahead
plain_read w [] n = refl
plain_read w (c ∷ cs) n =
    symbols_plain w c cs (n 0 (omega arith)) ∙ ap (ahead (symbol w c)) (plain_read w cs (λ k h. n (suc k) (omega arith)))

lay_all : (xs out : List ℕ) → length xs ≡ length out → lay xs out ≡ xs
unfolding lay
lay_all [] [] h = refl
lay_all [] (o ∷ out) h = absurd (omega (arith, h))
lay_all (x ∷ xs) [] h = absurd (omega (arith, h))
lay_all (x ∷ xs) (o ∷ out) h = ap (λ (l : List ℕ). x ∷ l) (lay_all xs out (omega (arith, h)))

length_mapped : (f : ℕ → ℕ) (cs : List ℕ) → length (map f cs) ≡ length cs
length_mapped f [] = refl
length_mapped f (c ∷ cs) = ap suc (length_mapped f cs)

map_same : (cs : List ℕ) → map (symbol false) cs ≡ cs
map_same [] = refl
map_same (c ∷ cs) = ap (λ (l : List ℕ). c ∷ l) (map_same cs)

module _ (cs : List ℕ) (n : NoDollar cs) where
  plain_converted : (w : Bool) → (Some (length cs), map (symbol w) cs) ≡ converted (symbols_of w cs) cs
  plain_converted w =
      let size = length_mapped (symbol w) cs in
      let all : converted (symbols_of w cs) cs ≡ (Some (length (map (symbol w) cs)), lay (map (symbol w) cs) cs) =
      ap (λ (t : Reading (List ℕ)). converted t cs) (plain_read w cs n) in
      cc (all, size, lay_all (map (symbol w) cs) cs size)

  pub plain_wild : {w : Bool} {after : List ℕ} → w ≡ true → after ≡ map wildcard cs
      → (Some (length after), after) ≡ converted (symbols_of w cs) cs
  plain_wild {w} {after} e h =
      let size : length after ≡ length cs = ap length h ∙ length_mapped wildcard cs in
      rw (e, size, h) (plain_converted true)

  pub plain_still : {w : Bool} → w ≡ false → (Some (length cs), cs) ≡ converted (symbols_of w cs) cs
  plain_still {w} e = rw (e) (cc (plain_converted false, map_same cs))
