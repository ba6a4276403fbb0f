-- Bytes that stand for themselves in a string: they are its body, and what it says.
use mathlib.Core.Path.{◌≡◌, refl, ap, ◌∙◌}
use mathlib.Core.Bool.{Bool, true, not}
use mathlib.Core.List.{List, [], ◌∷◌, ◌++◌, map}
use Prim.Native.Nat.{ℕ, ◌≤◌}
use native.Mathlib.Omega.{arith}
use lib.Dec.{eqb, leb}
use borrow.Author.Tests.{leb-true, le-leb, eqb-false, ne_eqb, not-true}
use Rattle.chars.specs.Utf8.{ascii}
use Rattle.chars.specs.Strings.{Body, end, more, unescaped, plain}
use Rattle.chars.specs.Decoding.{Text, ahead, units_behind, meaning, text_of}
use Rattle.chars.proofs.Laws.Strings.Reading.{read_sequence, sequence_one, text_plain}
use Rattle.syntax.specs.Forms.{read, both}
use Rattle.syntax.specs.Members.{only, characters}
use Rattle.parts.proofs.Laws.Slots.{both_true}
use Rattle.straight.specs.Marks.{bare, all_bare}

-- ---- one byte

pub record BareByte (b : ℕ) : Type 0 where
  pub low : 32 ≤ b
  pub high : b ≤ 127
  pub no_quote : b ≡ 34 → ⊥
  pub no_escape : b ≡ 92 → ⊥

pub bare_facts : (b : ℕ) → bare b ≡ true → BareByte b
bare_facts b e =
    let p = both_true (both (leb 32 b) (leb b 127)) (both (not (eqb b 34)) (not (eqb b 92))) e in
    let range = both_true (leb 32 b) (leb b 127) p.0 in
    let others = both_true (not (eqb b 34)) (not (eqb b 92)) p.1 in
    record {
      low = leb-true 32 b range.0;
      high = leb-true b 127 range.1;
      no_quote = eqb-false b 34 (not-true (eqb b 34) others.0);
      no_escape = eqb-false b 92 (not-true (eqb b 92) others.1);
    }

pub bare_true : {b : ℕ} → BareByte b → bare b ≡ true
bare_true {b} p =
    rw (le-leb 32 b p.low, le-leb b 127 p.high, ne_eqb b 34 p.no_quote, ne_eqb b 92 p.no_escape)

-- ---- several

module _ (b : ℕ) (w : List ℕ) where
  all_bare_parts : all_bare (b ∷ w) ≡ true → (bare b ≡ true) × (all_bare w ≡ true)
  unfolding all_bare
  all_bare_parts e = both_true (bare b) (all_bare w) e

  pub all_bare_first : all_bare (b ∷ w) ≡ true → BareByte b
  all_bare_first e = bare_facts b (all_bare_parts e).0

  pub all_bare_rest : all_bare (b ∷ w) ≡ true → all_bare w ≡ true
  all_bare_rest e = (all_bare_parts e).1

  pub all_bare_cons : BareByte b → all_bare w ≡ true → all_bare (b ∷ w) ≡ true
  unfolding all_bare
  all_bare_cons p e = ap (λ (t : Bool). both t (all_bare w)) (bare_true p) ∙ e

pub all_bare_append : (u w : List ℕ) → all_bare u ≡ true → all_bare w ≡ true → all_bare (u ++ w) ≡ true
all_bare_append [] w p q = q
all_bare_append (b ∷ u) w p q =
    all_bare_cons b (u ++ w) (all_bare_first b u p) (all_bare_append u w (all_bare_rest b u p) q)

pub all_bare_body : (w : List ℕ) → all_bare w ≡ true → Body w (map plain w)
all_bare_body [] e = end
all_bare_body (b ∷ w) e =
    let p = all_bare_first b w e in
    more {bs = b ∷ []} (unescaped (ascii p.high) p.low p.no_quote p.no_escape)
    (all_bare_body w (all_bare_rest b w e))

pub all_bare_text : (w : List ℕ) → all_bare w ≡ true → text_of w ≡ record { chars = w; sound = true }
unfolding text_of units_behind meaning
all_bare_text [] e = refl
all_bare_text (b ∷ w) e =
    let p = all_bare_first b w e in
    text_plain (b ∷ w) (omega arith)
    (read_sequence (b ∷ w) p.no_escape ∙ sequence_one (b ∷ w) b (omega (arith, p.high)))
    ∙ ap (ahead b) (all_bare_text w (all_bare_rest b w e))

pub all_bare_characters : (w : List ℕ) → all_bare w ≡ true → characters w ≡ read w
unfolding characters
all_bare_characters w e = ap (λ (t : Text). only t.sound t.chars) (all_bare_text w e)
