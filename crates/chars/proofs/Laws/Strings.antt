-- Laws of Strings and Decoding: on the body of a string, the functions of Decoding say what the relations say.
--   body_unique                  a body has one list of units, units_of
--   text_complete, text_sound    text_of finds exactly the characters that a body means
--   text_lone, text_lone_inv     and tells exactly the bodies that mean nothing
--   means_scalar                 what a body means are scalar values
use mathlib.Core.Path.{◌≡◌, refl, sym, ap, ◌∙◌, subst}
use mathlib.Core.Bool.{Bool, true, false}
use mathlib.Core.List.{List, [], ◌∷◌}
use Prim.Native.Nat.{ℕ, ◌≤◌, ◌<◌}
use native.Mathlib.Omega.{arith}
use native.Mathlib.Decide.{dec_lt}
use Rattle.chars.specs.Base.{In}
use Rattle.chars.specs.Utf8.{Sequence, ascii, c2_df, e0, e1_ec, ed, ee_ef, f0, f1_f3, f4}
use Rattle.chars.specs.Strings.{Unit, plain, coded, Short, quote, reverse_solidus, solidus, backspace, form_feed}
use Rattle.chars.specs.Strings.{line_feed, carriage_return, tab, Hex, digit, upper, lower, Char, unescaped}
use Rattle.chars.specs.Strings.{escaped, hexed, Body, end, more, High, paired, Means, none, one, below, above}
use Rattle.chars.specs.Strings.{pair}
use Rattle.chars.specs.Decoding.{Text, lone, ahead, meaning, paired_with, text_of}
use Rattle.chars.specs.Written.{Scalar, low, high, Scalars}
use Rattle.chars.specs.Written as W
use Rattle.chars.proofs.Laws.Strings.Digits.{Outside, under, over}
use Rattle.chars.proofs.Laws.Strings.Reading.{meaning_apart, meaning_high, meaning_low, paired_low, paired_apart}
use Rattle.chars.proofs.Laws.Strings.Units.{units_complete}
pub mod Digits
pub mod Lengths
pub mod Reading
pub mod Runs
pub mod Steps
pub mod Units

pub body_unique : {w : List ℕ} {us vs : List Unit} → Body w us → Body w vs → us ≡ vs
body_unique p q = sym (units_complete p) ∙ units_complete q

-- ---- characters

abbrev pub said : List ℕ → Text
said cs = record { chars = cs; sound = true }

means_complete : {us : List Unit} {cs : List ℕ} → Means us cs → meaning us ≡ said cs
unfolding meaning
means_complete none = refl
means_complete (one {c} m) = ap (ahead c) (means_complete m)
means_complete (below {u} {us} h m) = meaning_apart u us (under h) ∙ ap (ahead u) (means_complete m)
means_complete (above {u} {us} h m) = meaning_apart u us (over h) ∙ ap (ahead u) (means_complete m)
means_complete (pair {h} {l} {us} p q m) =
    meaning_high h (coded l ∷ us) p ∙ paired_low h l us q ∙ ap (ahead (paired h l)) (means_complete m)

-- a number is below lo, from lo to hi, or above hi
data Place (lo hi u : ℕ) : Type 0 where
  inside : In lo hi u → Place lo hi u
  outside : Outside lo hi u → Place lo hi u

place : (lo hi u : ℕ) → Place lo hi u
place lo hi u = by (dec_lt u lo) (dec_lt hi u)
  where
    by : Dec (u < lo) → Dec (hi < u) → Place lo hi u
    by (yes h) k = outside (under h)
    by (no h) (yes k) = outside (over k)
    by (no h) (no k) = inside (record { low = omega arith; high = omega arith })

-- what the functions find, the relation says
abbrev Finds : List Unit → Text → Type 0
Finds us t = t.sound ≡ true → Means us t.chars

found : {us : List Unit} {t t' : Text} → t ≡ t' → Finds us t' → Finds us t
found {us} e f = subst (Finds us) (sym e) f

found_lone : {us : List Unit} → Finds us lone
found_lone e = let z : ◌≡◌ {A = ℕ} 0 1 = cc in let n : ⊥ = omega arith in elim n [ ]

coded_sound : (u : ℕ) (us : List Unit) → Finds us (meaning us) → (High u → Finds (coded u ∷ us) (paired_with u us))
    → Finds (coded u ∷ us) (meaning (coded u ∷ us))
coded_sound u us f g = by (place 55296 57343 u) (place 55296 56319 u)
  where
    alone : Outside 55296 57343 u → Finds (coded u ∷ us) (ahead u (meaning us))
    alone (under h) e = below h (f e)
    alone (over h) e = above h (f e)

    by : Place 55296 57343 u → Place 55296 56319 u → Finds (coded u ∷ us) (meaning (coded u ∷ us))
    by (outside o) k = found (meaning_apart u us o) (alone o)
    by (inside i) (inside j) = found (meaning_high u us j) (g j)
    by (inside i) (outside (under h)) = let n : ⊥ = omega (arith, i.low) in elim n [ ]
    by (inside i) (outside (over h)) = found (meaning_low u us (record { low = h; high = i.high })) found_lone

pair_sound : (h l : ℕ) (us : List Unit) → High h → Finds us (meaning us)
    → Finds (coded h ∷ coded l ∷ us) (paired_with h (coded l ∷ us))
pair_sound h l us p f = by (place 56320 57343 l)
  where
    by : Place 56320 57343 l → Finds (coded h ∷ coded l ∷ us) (paired_with h (coded l ∷ us))
    by (inside q) = found (paired_low h l us q) (λ e. pair p q (f e))
    by (outside o) = found (paired_apart h l us o) found_lone

mutual
  unfolding meaning

  means_sound : (us : List Unit) → Finds us (meaning us)
  means_sound [] = λ e. none
  means_sound (plain c ∷ us) = λ e. one (means_sound us e)
  means_sound (coded u ∷ us) = coded_sound u us (means_sound us) (λ p. paired_sound u us p)

  paired_sound : (h : ℕ) (us : List Unit) → High h → Finds (coded h ∷ us) (paired_with h us)
  paired_sound h [] p = found_lone
  paired_sound h (plain c ∷ us) p = found_lone
  paired_sound h (coded l ∷ us) p = pair_sound h l us p (means_sound us)

text_meaning : {w : List ℕ} {us : List Unit} → Body w us → text_of w ≡ meaning us
unfolding text_of
text_meaning b = ap meaning (units_complete b)

module _ {w : List ℕ} {us : List Unit} (b : Body w us) where
  pub text_complete : {cs : List ℕ} → Means us cs → text_of w ≡ said cs
  text_complete m = text_meaning b ∙ means_complete m

  pub text_sound : {cs : List ℕ} → text_of w ≡ said cs → Means us cs
  text_sound {cs} e =
      subst (λ (t : Text). Finds us t) e (found (text_meaning b) (means_sound us)) refl

  pub text_lone : {cs : List ℕ} → (text_of w).sound ≡ false → Means us cs → ⊥
  text_lone e m = let z : ◌≡◌ {A = ℕ} 0 1 = cc (text_complete m) in omega arith

  pub text_lone_inv : ((cs : List ℕ) → Means us cs → ⊥) → (text_of w).sound ≡ false
  text_lone_inv k = by (text_of w).sound refl
    where
      by : (t : Bool) → (text_of w).sound ≡ t → (text_of w).sound ≡ false
      by true e = elim (k (text_of w).chars (found (text_meaning b) (means_sound us) e)) [ ]
      by false e = e

-- ---- scalar values

scalar_low : {c : ℕ} → c ≤ 55295 → Scalar c
scalar_low h = low h

scalar_high : {c : ℕ} → 57344 ≤ c → c ≤ 1114111 → Scalar c
scalar_high l h = high (record { low = l; high = h })

sequence_scalar : {bs : List ℕ} {c : ℕ} → Sequence bs c → Scalar c
sequence_scalar (ascii p) = scalar_low (omega arith)
sequence_scalar (c2_df p q) = scalar_low (omega (arith, p.high, q.high))
sequence_scalar (e0 p q) = scalar_low (omega (arith, p.high, q.high))
sequence_scalar (e1_ec p q r) = scalar_low (omega (arith, p.high, q.high, r.high))
sequence_scalar (ed p q) = scalar_low (omega (arith, p.high, q.high))
sequence_scalar (ee_ef p q r) = scalar_high (omega (arith, p.low)) (omega (arith, p.high, q.high, r.high))
sequence_scalar (f0 p q r) = scalar_high (omega (arith, p.low)) (omega (arith, p.high, q.high, r.high))
sequence_scalar (f1_f3 p q r s) =
    scalar_high (omega (arith, p.low)) (omega (arith, p.high, q.high, r.high, s.high))
sequence_scalar (f4 p q r) = scalar_high (omega arith) (omega (arith, p.high, q.high, r.high))

short_scalar : {x c : ℕ} → Short x c → Scalar c
short_scalar quote = scalar_low (omega arith)
short_scalar reverse_solidus = scalar_low (omega arith)
short_scalar solidus = scalar_low (omega arith)
short_scalar backspace = scalar_low (omega arith)
short_scalar form_feed = scalar_low (omega arith)
short_scalar line_feed = scalar_low (omega arith)
short_scalar carriage_return = scalar_low (omega arith)
short_scalar tab = scalar_low (omega arith)

hex_below : {b n : ℕ} → Hex b n → n < 16
hex_below (digit p) = omega (arith, p.high)
hex_below (upper p) = omega (arith, p.high)
hex_below (lower p) = omega (arith, p.high)

plain_scalar : {bs : List ℕ} {c : ℕ} → Char bs (plain c) → Scalar c
plain_scalar (unescaped s h p q) = sequence_scalar s
plain_scalar (escaped s) = short_scalar s

coded_below : {bs : List ℕ} {u : ℕ} → Char bs (coded u) → u ≤ 65535
coded_below (hexed p q r s) = omega (arith, hex_below p, hex_below q, hex_below r, hex_below s)

pub means_scalar : {w : List ℕ} {us : List Unit} {cs : List ℕ} → Body w us → Means us cs → Scalars cs
means_scalar end none = W.none
means_scalar (more c b) (one m) = W.more (plain_scalar c) (means_scalar b m)
means_scalar (more c b) (below {u} h m) = W.more (scalar_low {c = u} (omega arith)) (means_scalar b m)
means_scalar (more c b) (above {u} h m) =
    W.more (scalar_high {c = u} h (omega (arith, coded_below c))) (means_scalar b m)
means_scalar (more c (more d b)) (pair {h} {l} p q m) =
    W.more (scalar_high {c = paired h l} (omega (arith, p.low)) (omega (arith, p.high, q.high))) (means_scalar b m)
