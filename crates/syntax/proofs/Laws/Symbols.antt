-- Symbols, one step at a time.
use mathlib.Core.Path.{◌≡◌, refl, ap, sym, ◌∙◌}
use mathlib.Core.Bool.{Bool, true, false}
use mathlib.Core.List.{List, [], ◌∷◌}
use Prim.Native.Nat.{ℕ, zero, suc, ◌+◌, ◌≤◌, ◌<◌}
use native.Mathlib.Omega.{arith}
use native.Mathlib.Decide.{dec_lt}
use lib.Dec.{eqb}
use lib.ListN.{length, get_or, drop, drop_of_length-le, get_or-eq_default}
use lib.Seq.{drop-drop, get_or-drop}
use borrow.Author.Tests.{eq-eqb, ne_eqb}
use Rattle.chars.specs.Base.{one_of}
use Rattle.std.specs.Prelude.{Option, Some, None}
use Rattle.syntax.specs.declared.symbols.Said.{Said}
use Rattle.syntax.specs.Forms.{Reading, wrong, read, both, wildcard, symbol, ahead, symbols_behind, symbols_of}
use Rattle.syntax.specs.Told.{is_read, Opened, onward, past_of, Says}
use Rattle.syntax.proofs.Laws.Forms.{drop_next}

pub symbol_wild : (w : Bool) (c : ℕ) → w ≡ true → wildcard c ≡ symbol w c
symbol_wild w c e = rw e

pub symbol_plain : (w : Bool) (c : ℕ) → w ≡ false → c ≡ symbol w c
symbol_plain w c e = rw e

-- ---- one step, on a list

behind_drop : (n : ℕ) (w : Bool) (cs : List ℕ) → symbols_behind n w cs ≡ symbols_of w (drop n cs)
unfolding symbols_behind
behind_drop zero w cs = refl
behind_drop (suc n) w [] = refl
behind_drop (suc n) w (c ∷ cs) = behind_drop n w cs

never : (t : Bool) → both t false ≡ false
never true = refl
never false = refl

abbrev known : List ℕ
known = 36 ∷ 42 ∷ 63 ∷ []

module _ (w : Bool) (c : ℕ) (t : List ℕ) where
  pub symbols_plain : (c ≡ 36 → ⊥) → symbols_of w (c ∷ t) ≡ ahead (symbol w c) (symbols_of w t)
  unfolding symbols_behind
  symbols_plain n = rw (ne_eqb c 36 n)

  symbols_dollar : (get_or t 0 0 ≡ 123 → ⊥) → symbols_of w (c ∷ t) ≡ ahead (symbol w c) (symbols_of w t)
  unfolding symbols_behind
  symbols_dollar n = rw (ne_eqb (get_or t 0 0) 123 n, never (eqb c 36))

  module _ (d : c ≡ 36) (b : get_or t 0 0 ≡ 123) where
    symbols_escape : one_of known (get_or t 1 0) ≡ true → get_or t 2 0 ≡ 125
        → symbols_of w (c ∷ t) ≡ ahead (get_or t 1 0) (symbols_of w (drop 3 t))
    unfolding symbols_behind
    symbols_escape k e =
        rw (eq-eqb c 36 d, eq-eqb (get_or t 0 0) 123 b, k, eq-eqb (get_or t 2 0) 125 e)
        (ap (ahead (get_or t 1 0)) (behind_drop 3 w t))

    symbols_unknown : one_of known (get_or t 1 0) ≡ false → symbols_of w (c ∷ t) ≡ wrong
    unfolding symbols_behind
    symbols_unknown k = rw (eq-eqb c 36 d, eq-eqb (get_or t 0 0) 123 b, k)

    symbols_unclosed : (get_or t 2 0 ≡ 125 → ⊥) → symbols_of w (c ∷ t) ≡ wrong
    unfolding symbols_behind
    symbols_unclosed n =
        rw (eq-eqb c 36 d, eq-eqb (get_or t 0 0) 123 b, ne_eqb (get_or t 2 0) 125 n, never (one_of known (get_or t 1 0)))

-- ---- one step, at a place

module _ (w : Bool) (cs : List ℕ) (i : ℕ) where
  behind : i < length cs → (k : ℕ) → get_or (drop i cs) (suc k) 0 ≡ get_or (drop (i + 1) cs) k 0
  behind h k = ap (λ (l : List ℕ). get_or l (suc k) 0) (drop_next cs i h)

  pub says_plain : {x : ℕ} → i < length cs → (get_or cs i 0 ≡ 36 → ⊥) → x ≡ symbol w (get_or cs i 0)
      → Says w cs i (Some (record { c = x; past = (i + 1) }))
  says_plain {x} h n e =
      record {
        text =
            ap (symbols_of w) (drop_next cs i h) ∙ symbols_plain w (get_or cs i 0) (drop (i + 1) cs) n
            ∙ ap (λ (y : ℕ). ahead y (symbols_of w (drop (i + 1) cs))) (sym e);
        on = omega arith;
        inside = omega arith;
      }

  pub says_dollar : {x : ℕ} → i < length cs → (get_or (drop i cs) 1 0 ≡ 123 → ⊥) → x ≡ symbol w (get_or cs i 0)
      → Says w cs i (Some (record { c = x; past = (i + 1) }))
  says_dollar {x} h n e =
      record {
        text =
            ap (symbols_of w) (drop_next cs i h)
            ∙ symbols_dollar w (get_or cs i 0) (drop (i + 1) cs) (λ z. n (behind h 0 ∙ z))
            ∙ ap (λ (y : ℕ). ahead y (symbols_of w (drop (i + 1) cs))) (sym e);
        on = omega arith;
        inside = omega arith;
      }

  module _ (p : Opened cs i) where
    open_brace : get_or (drop (i + 1) cs) 0 0 ≡ 123
    open_brace = sym (behind p.inside 0) ∙ p.brace

    wrong_here : symbols_of w (get_or cs i 0 ∷ drop (i + 1) cs) ≡ wrong → Says w cs i None
    wrong_here e =
        record {
          text = ap (symbols_of w) (drop_next cs i p.inside) ∙ e;
          on = omega arith;
          inside = omega (arith, p.inside);
        }

    pub says_unclosed : (get_or (drop i cs) 3 0 ≡ 125 → ⊥) → Says w cs i None
    says_unclosed n =
        wrong_here
        (symbols_unclosed w (get_or cs i 0) (drop (i + 1) cs) p.dollar open_brace (λ z. n (behind p.inside 2 ∙ z)))

    pub says_unknown : one_of known (get_or (drop i cs) 2 0) ≡ false → Says w cs i None
    says_unknown k =
        wrong_here
        (symbols_unknown w (get_or cs i 0) (drop (i + 1) cs) p.dollar open_brace
        (ap (one_of known) (sym (behind p.inside 1)) ∙ k))

    closed_inside : get_or (drop i cs) 3 0 ≡ 125 → i + 4 ≤ length cs
    closed_inside e = by (dec_lt (i + 3) (length cs))
      where
        by : Dec (i + 3 < length cs) → i + 4 ≤ length cs
        by (yes h) = omega arith
        by (no h) =
            let out : get_or cs (i + 3) 0 ≡ 0 = get_or-eq_default cs 0 (omega arith) in
            absurd (omega (arith, sym (get_or-drop i cs 3 0) ∙ e, out))

    pub says_escape : {x : ℕ} → get_or (drop i cs) 3 0 ≡ 125 → x ≡ get_or (drop i cs) 2 0 → one_of known x ≡ true
        → Says w cs i (Some (record { c = x; past = (i + 4) }))
    says_escape {x} e f k =
        let same : x ≡ get_or (drop (i + 1) cs) 1 0 = f ∙ behind p.inside 1 in
        let far : i + 1 + 3 ≡ i + 4 = omega arith in
        record {
          text =
              ap (symbols_of w) (drop_next cs i p.inside)
              ∙ symbols_escape w (get_or cs i 0) (drop (i + 1) cs) p.dollar open_brace
              (ap (one_of known) (sym same) ∙ k) (sym (behind p.inside 2) ∙ e)
              ∙ ap (λ (y : ℕ). ahead y (symbols_of w (drop 3 (drop (i + 1) cs)))) (sym same)
              ∙ ap (λ (l : List ℕ). ahead x (symbols_of w l))
              (drop-drop 3 (i + 1) cs ∙ ap (λ (k : ℕ). drop k cs) far);
          on = omega arith;
          inside = closed_inside e;
        }

module _ {w : Bool} {cs : List ℕ} {i : ℕ} {r : Option Said} (p : Says w cs i r) where
  pub says_on : {c past : ℕ} → r ≡ Some (record { c = c; past = past }) → i < past
  says_on {c} {past} e = omega (arith, p.on, ap (λ (s : Option Said). past_of s i) e)

  pub says_text : {c past : ℕ} → r ≡ Some (record { c = c; past = past }) → symbols_of w (drop i cs) ≡ ahead c (symbols_of w (drop past cs))
  says_text e = p.text ∙ ap (λ (s : Option Said). onward s w cs) e

  pub says_wrong : r ≡ None → symbols_of w (drop i cs) ≡ wrong
  says_wrong e = p.text ∙ ap (λ (s : Option Said). onward s w cs) e

  -- ---- looking at all escapes

  read_ahead : (c : ℕ) (t : Reading (List ℕ)) → is_read (ahead c t) ≡ is_read t
  unfolding ahead
  read_ahead c wrong = refl
  read_ahead c (read ys) = refl

  pub right_next : {c past : ℕ} → r ≡ Some (record { c = c; past = past })
      → is_read (symbols_of w (drop i cs)) ≡ is_read (symbols_of w (drop past cs))
  right_next e = ap is_read (says_text e) ∙ read_ahead _ _

  pub right_stop : r ≡ None → is_read (symbols_of w (drop i cs)) ≡ false
  right_stop e = ap is_read (says_wrong e)

pub right_end : (w : Bool) (cs : List ℕ) (i : ℕ) → length cs ≤ i → is_read (symbols_of w (drop i cs)) ≡ true
unfolding symbols_behind
right_end w cs i h = ap (λ (l : List ℕ). is_read (symbols_of w l)) (drop_of_length-le cs h)
