-- A first byte that is no ASCII begins one of the rows of UTF-8 that its number tells, or is refused.
use mathlib.Core.Path.{◌≡◌, refl, sym, ◌∙◌, subst}
use mathlib.Core.List.{List, [], ◌∷◌, ◌++◌}
use Prim.Native.Nat.{ℕ, ◌+◌, ◌≤◌, ◌<◌}
use native.Mathlib.Omega.{arith}
use native.Mathlib.Decide.{dec_lt, ℕ_discrete}
use lib.ListN.{length, get_or}
use Rattle.chars.specs.Base.{In}
use Rattle.chars.specs.Utf8.{Sequence, Tail, two, three, four, c2_df, e0, e1_ec, ed, ee_ef, f0, f1_f3, f4}
use Rattle.chars.specs.Strings.{plain, unescaped}
use Rattle.text.specs.Machine.{Item, bad, go, range, char, sequence, high}
use Rattle.text.proofs.Laws.Places.{Alive}
use Rattle.text.proofs.Laws.Parts.{spelt_one, spelt_cons}
use Rattle.text.proofs.Laws.Taking.Items.{Took, here, alive_takes, alive_refuses, alive_range}
use Rattle.text.proofs.Laws.Moves.Strings.{char_high, high_e0, high_ed, high_f0, high_f4, high_four, high_none}
use Rattle.text.proofs.Laws.Moves.Strings.{high_tail, high_three, high_two}
use Rattle.text.proofs.Laws.Taking.Escapes.{AChar}

big : {bs : List ℕ} (c : ℕ) → 128 ≤ c → Sequence bs c → AChar bs
big c h s = record { unit = plain c; is = unescaped s (omega arith) (omega arith) (omega arith) }

-- what a first byte that is no ASCII begins
data Row (a : ℕ) : Type 0 where
  no_row : high a ≡ bad → Row a
  row_two : high a ≡ sequence 128 191 0 → ((b : ℕ) → Tail b → AChar (a ∷ b ∷ [])) → Row a
  row_three : (lo hi : ℕ) → high a ≡ sequence lo hi 1 → ((b c : ℕ) → In lo hi b → Tail c → AChar (a ∷ b ∷ c ∷ []))
      → Row a
  row_four : (lo hi : ℕ) → high a ≡ sequence lo hi 2
      → ((b c d : ℕ) → In lo hi b → Tail c → Tail d → AChar (a ∷ b ∷ c ∷ d ∷ [])) → Row a

e0_row : Row 224
e0_row = row_three 160 191 (high_e0 224 refl) (λ b c p q. big (three 224 b c) (omega (arith, p.low)) (e0 p q))

ed_row : Row 237
ed_row = row_three 128 159 (high_ed 237 refl) (λ b c p q. big (three 237 b c) (omega arith) (ed p q))

f0_row : Row 240
f0_row = row_four 144 191 (high_f0 240 refl) (λ b c d p q r. big (four 240 b c d) (omega (arith, p.low)) (f0 p q r))

f4_row : Row 244
f4_row = row_four 128 143 (high_f4 244 refl) (λ b c d p q r. big (four 244 b c d) (omega arith) (f4 p q r))

module _ (a : ℕ) where
  two_row : 194 ≤ a → a < 224 → Row a
  two_row l u =
      row_two (high_two a l u)
      (λ b p. big (two a b) (omega (arith, p.low)) (c2_df (record { low = l; high = omega arith }) p))

  three_row : (a ≡ 224 → ⊥) → (a ≡ 237 → ⊥) → 224 ≤ a → a < 240 → Row a
  three_row n m l u = row_three 128 191 (high_three a n m l u) (by (dec_lt a 237))
    where
      by : Dec (a < 237) → (b c : ℕ) → Tail b → Tail c → AChar (a ∷ b ∷ c ∷ [])
      by (yes d) b c p q =
          big (three a b c) (omega arith) (e1_ec (record { low = omega arith; high = omega arith }) p q)
      by (no d) b c p q =
          big (three a b c) (omega arith) (ee_ef (record { low = omega arith; high = omega arith }) p q)

  four_row : (a ≡ 240 → ⊥) → 240 ≤ a → a < 244 → Row a
  four_row n l u =
      row_four 128 191 (high_four a n l u)
      (λ b c d p q r.
      big (four a b c d) (omega arith) (f1_f3 (record { low = omega arith; high = omega arith }) p q r))

  row : Row a
  row =
      by (dec_lt a 194) (dec_lt a 224) (ℕ_discrete a 224) (ℕ_discrete a 237) (dec_lt a 240) (ℕ_discrete a 240)
      (dec_lt a 244) (ℕ_discrete a 244)
    where
      by : Dec (a < 194) → Dec (a < 224) → Dec (a ≡ 224) → Dec (a ≡ 237) → Dec (a < 240) → Dec (a ≡ 240)
          → Dec (a < 244) → Dec (a ≡ 244) → Row a
      by (yes u) d2 d3 d4 d5 d6 d7 d8 = no_row (high_tail a u)
      by (no l) (yes u) d3 d4 d5 d6 d7 d8 = two_row (omega arith) u
      by (no l) (no k) (yes e) d4 d5 d6 d7 d8 = subst Row (sym e) e0_row
      by (no l) (no k) (no n) (yes e) d5 d6 d7 d8 = subst Row (sym e) ed_row
      by (no l) (no k) (no n) (no m) (yes u) d6 d7 d8 = three_row n m (omega arith) u
      by (no l) (no k) (no n) (no m) (no j) (yes e) d7 d8 = subst Row (sym e) f0_row
      by (no l) (no k) (no n) (no m) (no j) (no g) (yes u) d8 = four_row g (omega arith) u
      by (no l) (no k) (no n) (no m) (no j) (no g) (no f) (yes e) = subst Row (sym e) f4_row
      by (no l) (no k) (no n) (no m) (no j) (no g) (no f) (no h) = no_row (high_none a h (omega arith))

pub took_high : {s : List ℕ} {i : ℕ} (ys : List Item) → i < length s → Alive s (char ∷ ys) i → 128 ≤ get_or s i 0
    → Took AChar s ys i
took_high {s} {i} ys h v m = by (row (get_or s i 0))
  where
    began : (xs : List Item) → high (get_or s i 0) ≡ go xs → Alive s (xs ++ ys) (i + 1)
    began xs e = alive_takes char ys v xs h (char_high (get_or s i 0) m ∙ e)

    by : Row (get_or s i 0) → Took AChar s ys i
    by (no_row e) = absurd (alive_refuses char ys v h (char_high (get_or s i 0) m ∙ e))
    by (row_two e make) =
        let p = alive_range 128 191 ys (began (range 128 191 ∷ []) e) in
        record {
          word = get_or s i 0 ∷ p.byte ∷ [];
          stop = i + 1 + 1;
          spelt = spelt_cons (here s i h) (spelt_one p.at);
          good = make p.byte p.good;
          next = p.next;
        }
    by (row_three lo hi e make) =
        let p = alive_range lo hi (range 128 191 ∷ ys) (began (range lo hi ∷ range 128 191 ∷ []) e) in
        let q = alive_range 128 191 ys p.next in
        record {
          word = get_or s i 0 ∷ p.byte ∷ q.byte ∷ [];
          stop = i + 1 + 1 + 1;
          spelt = spelt_cons (here s i h) (spelt_cons p.at (spelt_one q.at));
          good = make p.byte q.byte p.good q.good;
          next = q.next;
        }
    by (row_four lo hi e make) =
        let a = began (range lo hi ∷ range 128 191 ∷ range 128 191 ∷ []) e in
        let p = alive_range lo hi (range 128 191 ∷ range 128 191 ∷ ys) a in
        let q = alive_range 128 191 (range 128 191 ∷ ys) p.next in
        let r = alive_range 128 191 ys q.next in
        record {
          word = get_or s i 0 ∷ p.byte ∷ q.byte ∷ r.byte ∷ [];
          stop = i + 1 + 1 + 1 + 1;
          spelt = spelt_cons (here s i h) (spelt_cons p.at (spelt_cons q.at (spelt_one r.at)));
          good = make p.byte q.byte r.byte p.good q.good r.good;
          next = r.next;
        }
