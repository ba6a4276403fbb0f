-- The twin takes each character of a string, and all of a string with its closing quote.
use mathlib.Core.Path.{◌≡◌, refl, ap, ◌∙◌}
use mathlib.Core.List.{List, [], ◌∷◌, ◌++◌, append_assoc}
use Prim.Native.Nat.{ℕ, suc, ◌+◌, ◌≤◌}
use native.Mathlib.Omega.{arith}
use lib.ListN.{length, length-append, replicate, drop}
use lib.Seq.{drop-cons}
use Rattle.chars.specs.Base.{In, At, one_of}
use Rattle.chars.specs.Utf8.{Sequence, Tail, ascii, c2_df, e0, e1_ec, ed, ee_ef, f0, f1_f3, f4}
use Rattle.chars.specs.Strings.{Unit, Short, quote, reverse_solidus, solidus, backspace, form_feed, line_feed}
use Rattle.chars.specs.Strings.{carriage_return, tab, Hex, digit, upper, lower, Char, unescaped, escaped, hexed}
use Rattle.chars.specs.Strings.{Body, end, more}
use Rattle.text.specs.Json.{Spelt}
use Rattle.text.specs.Machine.{Item, Move, go, range, hex, text, escape, sequence, high, owing, move, run, from}
use Rattle.text.specs.Reading.{Done}
use Rattle.text.proofs.Laws.Parts.{spelt_drop, spelt_length}
use Rattle.text.proofs.Laws.Eating.{run_takes}
use Rattle.text.proofs.Laws.Moves.Strings.{char_escape, char_high, char_plain, escape_hex, hex_digit_lem, hex_lower}
use Rattle.text.proofs.Laws.Moves.Strings.{hex_upper, high_e0, high_ed, high_f0, high_f4, high_four, high_three}
use Rattle.text.proofs.Laws.Moves.Strings.{high_two, text_char, text_quote}
use Rattle.text.proofs.Laws.Moves.Bytes.{range_is}

-- a string goes on so behind the bytes bs of one character
abbrev Onward : List ℕ → Type 0
Onward bs = (k : List Item) (r : List ℕ) (at : ℕ) → run (text ∷ k) (bs ++ r) at ≡ run (text ∷ k) r (at + length bs)

-- ---- sequences of UTF-8

-- a first byte that is no ASCII owes what `high` says, and the rest of the string behind it
lead : (a : ℕ) (m : Move) → 128 ≤ a → high a ≡ m → move text a ≡ owing m (text ∷ [])
lead a m h e = text_char a (omega arith) ∙ ap (λ (x : Move). owing x (text ∷ [])) (char_high a h ∙ e)

module _ (k : List Item) (r : List ℕ) where
  tail : (lo hi b at : ℕ) → In lo hi b → run (range lo hi ∷ k) (b ∷ r) at ≡ run k r (at + 1)
  tail lo hi b at h = run_takes (range lo hi) k r at b [] (range_is b lo hi h.low h.high)

one_onward : (a : ℕ) → a ≤ 127 → 32 ≤ a → (a ≡ 34 → ⊥) → (a ≡ 92 → ⊥) → Onward (a ∷ [])
one_onward a h l q e k r at =
    run_takes text k r at a (text ∷ [])
    (text_char a q ∙ ap (λ (x : Move). owing x (text ∷ [])) (char_plain a e l (omega arith)))

two_onward : (a b lo hi : ℕ) → 128 ≤ a → high a ≡ sequence lo hi 0 → In lo hi b → Onward (a ∷ b ∷ [])
two_onward a b lo hi h e p k r at =
    run_takes text k (b ∷ r) at a (range lo hi ∷ text ∷ []) (lead a (sequence lo hi 0) h e)
    ∙ tail (text ∷ k) r lo hi b (at + 1) p
    ∙ ap (run (text ∷ k) r) (omega arith)

three_onward : (a b c lo hi : ℕ) → 128 ≤ a → high a ≡ sequence lo hi 1 → In lo hi b → Tail c → Onward (a ∷ b ∷ c ∷ [])
three_onward a b c lo hi h e p q k r at =
    run_takes text k (b ∷ c ∷ r) at a (range lo hi ∷ range 128 191 ∷ text ∷ []) (lead a (sequence lo hi 1) h e)
    ∙ tail (range 128 191 ∷ text ∷ k) (c ∷ r) lo hi b (at + 1) p
    ∙ tail (text ∷ k) r 128 191 c (at + 1 + 1) q
    ∙ ap (run (text ∷ k) r) (omega arith)

four_onward : (a b c d lo hi : ℕ) → 128 ≤ a → high a ≡ sequence lo hi 2 → In lo hi b → Tail c → Tail d
    → Onward (a ∷ b ∷ c ∷ d ∷ [])
four_onward a b c d lo hi h e p q u k r at =
    run_takes text k (b ∷ c ∷ d ∷ r) at a (range lo hi ∷ range 128 191 ∷ range 128 191 ∷ text ∷ [])
    (lead a (sequence lo hi 2) h e)
    ∙ tail (range 128 191 ∷ range 128 191 ∷ text ∷ k) (c ∷ d ∷ r) lo hi b (at + 1) p
    ∙ tail (range 128 191 ∷ text ∷ k) (d ∷ r) 128 191 c (at + 1 + 1) q
    ∙ tail (text ∷ k) r 128 191 d (at + 1 + 1 + 1) u
    ∙ ap (run (text ∷ k) r) (omega arith)

sequence_onward : {bs : List ℕ} {c : ℕ} → Sequence bs c → 32 ≤ c → (c ≡ 34 → ⊥) → (c ≡ 92 → ⊥) → Onward bs
sequence_onward (ascii {a} h) l q e = one_onward a h l q e
sequence_onward (c2_df {a} {b} h p) l q e =
    two_onward a b 128 191 (let z = h.low in omega arith) (high_two a h.low (let z = h.high in omega arith)) p
sequence_onward (e0 {b} {c} p t) l q e = three_onward 224 b c 160 191 (omega arith) (high_e0 224 refl) p t
sequence_onward (e1_ec {a} {b} {c} h p t) l q e =
    three_onward a b c 128 191 (let z = h.low in omega arith) (mid a h.low h.high) p t
  where
    mid : (a : ℕ) → 225 ≤ a → a ≤ 236 → high a ≡ sequence 128 191 1
    mid a x y = high_three a (omega arith) (omega arith) (omega arith) (omega arith)
sequence_onward (ed {b} {c} p t) l q e = three_onward 237 b c 128 159 (omega arith) (high_ed 237 refl) p t
sequence_onward (ee_ef {a} {b} {c} h p t) l q e =
    three_onward a b c 128 191 (let z = h.low in omega arith) (late a h.low h.high) p t
  where
    late : (a : ℕ) → 238 ≤ a → a ≤ 239 → high a ≡ sequence 128 191 1
    late a x y = high_three a (omega arith) (omega arith) (omega arith) (omega arith)
sequence_onward (f0 {b} {c} {d} p t u) l q e = four_onward 240 b c d 144 191 (omega arith) (high_f0 240 refl) p t u
sequence_onward (f1_f3 {a} {b} {c} {d} h p t u) l q e =
    four_onward a b c d 128 191 (let z = h.low in omega arith)
    (let x = h.low in let y = h.high in high_four a (omega arith) (omega arith) (omega arith)) p t u
sequence_onward (f4 {b} {c} {d} p t u) l q e = four_onward 244 b c d 128 143 (omega arith) (high_f4 244 refl) p t u

-- ---- escapes

backslash : (k : List Item) (r : List ℕ) (at : ℕ) → run (text ∷ k) (92 ∷ r) at ≡ run (escape ∷ text ∷ k) r (at + 1)
backslash k r at =
    run_takes text k r at 92 (escape ∷ text ∷ [])
    (text_char 92 (omega arith) ∙ ap (λ (x : Move). owing x (text ∷ [])) (char_escape 92 refl))

pub short_is : {x c : ℕ} → Short x c → move escape x ≡ go []
unfolding move one_of
short_is quote = refl
short_is reverse_solidus = refl
short_is solidus = refl
short_is backspace = refl
short_is form_feed = refl
short_is line_feed = refl
short_is carriage_return = refl
short_is tab = refl

pub hex_is : {b v : ℕ} → Hex b v → move hex b ≡ go []
hex_is (digit {b} h) = hex_digit_lem b h.low (let z = h.high in omega arith)
hex_is (upper {b} h) = hex_upper b h.low (let z = h.high in omega arith)
hex_is (lower {b} h) = hex_lower b h.low (let z = h.high in omega arith)

char_onward : {bs : List ℕ} {u : Unit} → Char bs u → Onward bs
char_onward (unescaped s l q e) k r at = sequence_onward s l q e k r at
char_onward (escaped {x} h) k r at =
    backslash k (x ∷ r) at
    ∙ run_takes escape (text ∷ k) r (at + 1) x [] (short_is h)
    ∙ ap (run (text ∷ k) r) (omega arith)
char_onward (hexed {a} {b} {c} {d} p q s t) k r at =
    backslash k (117 ∷ a ∷ b ∷ c ∷ d ∷ r) at
    ∙ run_takes escape (text ∷ k) (a ∷ b ∷ c ∷ d ∷ r) (at + 1) 117 (replicate 4 hex) (escape_hex 117 refl)
    ∙ run_takes hex (hex ∷ hex ∷ hex ∷ text ∷ k) (b ∷ c ∷ d ∷ r) (at + 1 + 1) a [] (hex_is p)
    ∙ run_takes hex (hex ∷ hex ∷ text ∷ k) (c ∷ d ∷ r) (at + 1 + 1 + 1) b [] (hex_is q)
    ∙ run_takes hex (hex ∷ text ∷ k) (d ∷ r) (at + 1 + 1 + 1 + 1) c [] (hex_is s)
    ∙ run_takes hex (text ∷ k) r (at + 1 + 1 + 1 + 1 + 1) d [] (hex_is t)
    ∙ ap (run (text ∷ k) r) (omega arith)

-- ---- strings

pub text_eat : {w : List ℕ} {us : List Unit} → Body w us → (k : List Item) (r : List ℕ) (at : ℕ)
    → run (text ∷ k) (w ++ (34 ∷ r)) at ≡ run k r (at + length w + 1)
text_eat end k r at = run_takes text k r at 34 [] (text_quote 34 refl) ∙ ap (run k r) (omega arith)
text_eat (more {bs} {w} c b) k r at =
    ap (λ (l : List ℕ). run (text ∷ k) l at) (append_assoc bs w (34 ∷ r))
    ∙ char_onward c k (w ++ (34 ∷ r)) at
    ∙ text_eat b k r (at + length bs)
    ∙ ap (run k r) (omega (arith, length-append bs w))

-- a string's rest is done behind its closing quote
pub rest_done : {s w : List ℕ} {us : List Unit} {a c : ℕ} → Spelt s w a c → Body w us → At s c 34
    → Done s (text ∷ []) a (c + 1)
unfolding from
rest_done {s} {w} {us} {a} {c} p b o =
    let l = spelt_length p in
    let h = o.inside in
    let there : a + length w + 1 ≡ c + 1 = omega arith in
    let past : suc c ≡ c + 1 = omega arith in
    let quote : drop c s ≡ 34 ∷ drop (suc c) s = drop-cons s c 0 h ∙ rw o.is in
    let all : drop a s ≡ w ++ (34 ∷ drop (suc c) s) = spelt_drop p ∙ ap (λ (x : List ℕ). w ++ x) quote in
    record {
      low = omega (arith, p.order);
      high = omega arith;
      goes = λ k. ap (λ (x : List ℕ). run (text ∷ k) x a) all
          ∙ text_eat b k (drop (suc c) s) a
          ∙ ap (run k (drop (suc c) s)) there
          ∙ ap (λ (n : ℕ). run k (drop n s) (c + 1)) past;
    }
