-- An escape that is owed is one of the grammar's, since every other byte is refused.
use mathlib.Core.Path.{◌≡◌, refl, sym, subst}
use mathlib.Core.Logic.{⊎_elim}
use mathlib.Core.List.{List, [], ◌∷◌}
use Prim.Native.Nat.{ℕ, ◌+◌, ◌*◌, ◌-◌, ◌<◌}
use native.Mathlib.Omega.{arith}
use native.Mathlib.Decide.{dec_lt, ℕ_discrete}
use lib.ListN.{length, get_or, replicate}
use Rattle.chars.specs.Base.{At}
use Rattle.chars.specs.Strings.{Unit, plain, coded, Short, quote, reverse_solidus, solidus, backspace, form_feed}
use Rattle.chars.specs.Strings.{line_feed, carriage_return, tab, Hex, digit, upper, lower, Char, escaped, hexed}
use Rattle.text.specs.Machine.{Item, bad, hex, escape, move, optional}
use Rattle.text.proofs.Laws.Places.{Alive, alive_inside}
use Rattle.text.proofs.Laws.Parts.{spelt_one, spelt_cons}
use Rattle.text.proofs.Laws.Chars.{short_is, hex_is}
use Rattle.text.proofs.Laws.Taking.Items.{Took, here, alive_takes, alive_refuses}
use Rattle.text.proofs.Laws.Moves.Strings.{escape_hex, escape_not, hex_above, hex_below, hex_between, hex_gap}

-- the bytes of some character
pub record AChar (bs : List ℕ) : Type 0 where
  pub unit : Unit
  pub is : Char bs unit

data HexOr (b : ℕ) : Type 0 where
  is_hex : (v : ℕ) → Hex b v → HexOr b
  no_hex : move hex b ≡ bad → HexOr b

hex_or : (b : ℕ) → HexOr b
hex_or b = by (dec_lt b 48) (dec_lt b 58) (dec_lt b 65) (dec_lt b 71) (dec_lt b 97) (dec_lt b 103)
  where
    by : Dec (b < 48) → Dec (b < 58) → Dec (b < 65) → Dec (b < 71) → Dec (b < 97) → Dec (b < 103) → HexOr b
    by (yes p) q r t u w = no_hex (hex_below b p)
    by (no p) (yes q) r t u w = is_hex (b - 48) (digit {b = b} (record { low = omega arith; high = omega arith }))
    by (no p) (no q) (yes r) t u w = no_hex (hex_between b (omega arith) r)
    by (no p) (no q) (no r) (yes t) u w =
        is_hex (b - 65 + 10) (upper {b = b} (record { low = omega arith; high = omega arith }))
    by (no p) (no q) (no r) (no t) (yes u) w = no_hex (hex_gap b (omega arith) u)
    by (no p) (no q) (no r) (no t) (no u) (yes w) =
        is_hex (b - 97 + 10) (lower {b = b} (record { low = omega arith; high = omega arith }))
    by (no p) (no q) (no r) (no t) (no u) (no w) = no_hex (hex_above b (omega arith))

record Hexed (s : List ℕ) (ys : List Item) (i : ℕ) : Type 0 where
  byte : ℕ
  value : ℕ
  at : At s i byte
  good : Hex byte value
  next : Alive s ys (i + 1)

alive_hex : {s : List ℕ} {i : ℕ} (ys : List Item) → Alive s (hex ∷ ys) i → Hexed s ys i
unfolding optional
alive_hex {s} {i} ys v = by (alive_inside hex ys refl v) (hex_or (get_or s i 0))
  where
    by : i < length s → HexOr (get_or s i 0) → Hexed s ys i
    by h (is_hex x g) =
        record { byte = get_or s i 0; value = x; at = here s i h; good = g; next = alive_takes hex ys v [] h (hex_is g) }
    by h (no_hex e) = absurd (alive_refuses hex ys v h e)

data ShortOr (b : ℕ) : Type 0 where
  is_short : (c : ℕ) → Short b c → ShortOr b
  is_long : b ≡ 117 → ShortOr b
  is_none : move escape b ≡ bad → ShortOr b

short_or : (b : ℕ) → ShortOr b
short_or b =
    by (ℕ_discrete b 34) (ℕ_discrete b 47) (ℕ_discrete b 92) (ℕ_discrete b 98) (ℕ_discrete b 102) (ℕ_discrete b 110)
    (ℕ_discrete b 114) (ℕ_discrete b 116) (ℕ_discrete b 117)
  where
    short : (x c : ℕ) → b ≡ x → Short x c → ShortOr b
    short x c e g = is_short c (subst (λ (y : ℕ). Short y c) (sym e) g)

    by : Dec (b ≡ 34) → Dec (b ≡ 47) → Dec (b ≡ 92) → Dec (b ≡ 98) → Dec (b ≡ 102) → Dec (b ≡ 110) → Dec (b ≡ 114)
        → Dec (b ≡ 116) → Dec (b ≡ 117) → ShortOr b
    by (yes e) d2 d3 d4 d5 d6 d7 d8 d9 = short 34 34 e quote
    by (no n1) (yes e) d3 d4 d5 d6 d7 d8 d9 = short 47 47 e solidus
    by (no n1) (no n2) (yes e) d4 d5 d6 d7 d8 d9 = short 92 92 e reverse_solidus
    by (no n1) (no n2) (no n3) (yes e) d5 d6 d7 d8 d9 = short 98 8 e backspace
    by (no n1) (no n2) (no n3) (no n4) (yes e) d6 d7 d8 d9 = short 102 12 e form_feed
    by (no n1) (no n2) (no n3) (no n4) (no n5) (yes e) d7 d8 d9 = short 110 10 e line_feed
    by (no n1) (no n2) (no n3) (no n4) (no n5) (no n6) (yes e) d8 d9 = short 114 13 e carriage_return
    by (no n1) (no n2) (no n3) (no n4) (no n5) (no n6) (no n7) (yes e) d9 = short 116 9 e tab
    by (no n1) (no n2) (no n3) (no n4) (no n5) (no n6) (no n7) (no n8) (yes e) = is_long e
    by (no n1) (no n2) (no n3) (no n4) (no n5) (no n6) (no n7) (no n8) (no n9) =
        is_none (escape_not b (⊎_elim n1 (⊎_elim n2 (⊎_elim n3 (⊎_elim n4 (⊎_elim n5 (⊎_elim n6 (⊎_elim n7 n8))))))) n9)

pub took_escape : {s : List ℕ} {i : ℕ} (ys : List Item) → At s i 92 → Alive s (escape ∷ ys) (i + 1) → Took AChar s ys i
unfolding optional
took_escape {s} {i} ys o v = by (alive_inside escape ys refl v) (short_or (get_or s (i + 1) 0))
  where
    by : i + 1 < length s → ShortOr (get_or s (i + 1) 0) → Took AChar s ys i
    by h (is_none e) = absurd (alive_refuses escape ys v h e)
    by h (is_short c g) =
        record {
          word = 92 ∷ get_or s (i + 1) 0 ∷ [];
          stop = i + 1 + 1;
          spelt = spelt_cons o (spelt_one (here s (i + 1) h));
          good = record { unit = plain c; is = escaped g };
          next = alive_takes escape ys v [] h (short_is g);
        }
    by h (is_long e) =
        let a = alive_takes escape ys v (replicate 4 hex) h (escape_hex (get_or s (i + 1) 0) e) in
        let p = alive_hex (hex ∷ hex ∷ hex ∷ ys) a in
        let q = alive_hex (hex ∷ hex ∷ ys) p.next in
        let r = alive_hex (hex ∷ ys) q.next in
        let t = alive_hex ys r.next in
        record {
          word = 92 ∷ 117 ∷ p.byte ∷ q.byte ∷ r.byte ∷ t.byte ∷ [];
          stop = i + 1 + 1 + 1 + 1 + 1 + 1;
          spelt = spelt_cons o
              (spelt_cons (record { inside = h; is = e })
              (spelt_cons p.at (spelt_cons q.at (spelt_cons r.at (spelt_one t.at)))));
          good = record {
            unit = coded (p.value * 4096 + q.value * 256 + r.value * 16 + t.value);
            is = hexed p.good q.good r.good t.good;
          };
          next = t.next;
        }
