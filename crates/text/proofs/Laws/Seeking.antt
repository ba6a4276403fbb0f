-- A string ends at the first quote that is no part of an escape, by induction on its characters: only a reverse solidus
-- and the byte behind it may be a quote or a reverse solidus.
use mathlib.Core.Path.{◌≡◌, refl, sym, ◌∙◌, subst}
use mathlib.Core.Bool.{false, ◌||◌}
use mathlib.Core.List.{List, [], ◌∷◌, ◌++◌, map}
use Prim.Native.Nat.{ℕ, ◌+◌, ◌≤◌, ◌<◌}
use native.Mathlib.Omega.{arith}
use lib.Dec.{eqb}
use lib.ListN.{length, get_or, drop}
use borrow.Author.Tests.{eqb-false}
use Rattle.chars.specs.Base.{In, At}
use Rattle.chars.specs.Utf8.{Sequence, ascii, c2_df, e0, e1_ec, ed, ee_ef, f0, f1_f3, f4}
use Rattle.chars.specs.Strings.{Unit, Hex, digit, upper, lower, Char, unescaped, escaped, hexed, Body, end, more}
use Rattle.chars.proofs.Laws.Tests.{neither}
use Rattle.text.specs.Json.{Spelt}
use Rattle.text.specs.Machine.{byte, text}
use Rattle.text.specs.Reading.{Done}
use Rattle.text.specs.Seeking.{Unmarked, Seeks, quote, pair, other, Nears, Quoting}
use Rattle.text.proofs.Laws.Places.{done_alive, done_unique}
use Rattle.text.proofs.Laws.Parts.{spelt_length, spelt_first, spelt_rest}
use Rattle.text.proofs.Laws.Chars.{rest_done}
use Rattle.text.proofs.Laws.Taking.Strings.{alive_text}

-- ---- bytes that are no marks

data Unmarkeds : List ℕ → Type 0 where
  none : Unmarkeds []
  then : {b : ℕ} {w : List ℕ} → Unmarked b → Unmarkeds w → Unmarkeds (b ∷ w)

above : (b : ℕ) → 92 < b → Unmarked b
above b h = record { no_quote = omega arith; no_solidus = omega arith }

in_above : {lo hi b : ℕ} → 92 < lo → In lo hi b → Unmarked b
in_above {lo} {hi} {b} h p = let l = p.low in above b (omega arith)

hex_unmarked : {b v : ℕ} → Hex b v → Unmarked b
hex_unmarked (digit {b} h) =
    let l = h.low in let g = h.high in record { no_quote = omega arith; no_solidus = omega arith }
hex_unmarked (upper {b} h) =
    let l = h.low in let g = h.high in record { no_quote = omega arith; no_solidus = omega arith }
hex_unmarked (lower {b} h) = in_above (omega arith) h

sequence_unmarked : {bs : List ℕ} {c : ℕ} → Sequence bs c → (c ≡ 34 → ⊥) → (c ≡ 92 → ⊥) → Unmarkeds bs
sequence_unmarked (ascii h) q e = then (record { no_quote = q; no_solidus = e }) none
sequence_unmarked (c2_df h p) q e = then (in_above (omega arith) h) (then (in_above (omega arith) p) none)
sequence_unmarked (e0 p t) q e =
    then (above 224 (omega arith)) (then (in_above (omega arith) p) (then (in_above (omega arith) t) none))
sequence_unmarked (e1_ec h p t) q e =
    then (in_above (omega arith) h) (then (in_above (omega arith) p) (then (in_above (omega arith) t) none))
sequence_unmarked (ed p t) q e =
    then (above 237 (omega arith)) (then (in_above (omega arith) p) (then (in_above (omega arith) t) none))
sequence_unmarked (ee_ef h p t) q e =
    then (in_above (omega arith) h) (then (in_above (omega arith) p) (then (in_above (omega arith) t) none))
sequence_unmarked (f0 p t u) q e =
    then (above 240 (omega arith))
    (then (in_above (omega arith) p) (then (in_above (omega arith) t) (then (in_above (omega arith) u) none)))
sequence_unmarked (f1_f3 h p t u) q e =
    then (in_above (omega arith) h)
    (then (in_above (omega arith) p) (then (in_above (omega arith) t) (then (in_above (omega arith) u) none)))
sequence_unmarked (f4 p t u) q e =
    then (above 244 (omega arith))
    (then (in_above (omega arith) p) (then (in_above (omega arith) t) (then (in_above (omega arith) u) none)))

-- ---- characters and strings

module _ {s : List ℕ} where
  after_pair : {i e : ℕ} → At s i 92 → Seeks s (i + 1 + 1) e → Seeks s i e
  after_pair {i} {e} p q = pair p (subst (λ (n : ℕ). Seeks s n e) (omega arith) q)

  -- bytes in front of the bytes w, from which on the quote is found
  unmarked_seeks : {v w : List ℕ} {a c e : ℕ} → Unmarkeds v → Spelt s (v ++ w) a c
      → ((i : ℕ) → Spelt s w i c → Seeks s i e) → Seeks s a e
  unmarked_seeks {a = a} none p f = f a p
  unmarked_seeks (then m ms) p f = other (spelt_first p) m (unmarked_seeks ms (spelt_rest p) f)

  char_seeks : {bs w : List ℕ} {u : Unit} {a c e : ℕ} → Char bs u → Spelt s (bs ++ w) a c
      → ((i : ℕ) → Spelt s w i c → Seeks s i e) → Seeks s a e
  char_seeks (unescaped x l q e) p f = unmarked_seeks (sequence_unmarked x q e) p f
  char_seeks {a = a} (escaped h) p f = after_pair (spelt_first p) (f (a + 1 + 1) (spelt_rest (spelt_rest p)))
  char_seeks (hexed x y z t) p f =
      after_pair (spelt_first p)
      (unmarked_seeks
      (then (hex_unmarked x) (then (hex_unmarked y) (then (hex_unmarked z) (then (hex_unmarked t) none))))
      (spelt_rest (spelt_rest p))
      f)

  body_seeks : {w : List ℕ} {us : List Unit} {a c : ℕ} → Body w us → Spelt s w a c → At s c 34 → Seeks s a (c + 1)
  body_seeks {a = a} {c = c} end p o =
      let l = spelt_length p in subst (λ (n : ℕ). Seeks s n (c + 1)) (omega arith) (quote o)
  body_seeks (more x b) p o = char_seeks x p (λ i q. body_seeks b q o)

  pub done_seeks : {a e : ℕ} → Done s (text ∷ []) a e → Seeks s a e
  done_seeks {a} {e} d =
      let r = alive_text (map byte (drop e s)) (done_alive d) in
      subst (Seeks s a) (done_unique (text ∷ []) (rest_done r.spelt r.body r.closes) d)
      (body_seeks r.body r.spelt r.closes)

  -- ---- as the code takes it

  pub seeks_inside : {i e : ℕ} → Seeks s i e → i < length s
  seeks_inside (quote p) = p.inside
  seeks_inside (pair p q) = p.inside
  seeks_inside (other p m q) = p.inside

  pub seeks_quote : {i e : ℕ} → get_or s i 0 ≡ 34 → Seeks s i e → i + 1 ≡ e
  seeks_quote z (quote p) = refl
  seeks_quote z (pair p q) = let y = p.is in absurd (omega arith)
  seeks_quote z (other p m q) = absurd (m.no_quote (sym p.is ∙ z))

  seeks_pair : {i e : ℕ} → get_or s i 0 ≡ 92 → Seeks s i e → Seeks s (i + 2) e
  seeks_pair z (quote p) = let y = p.is in absurd (omega arith)
  seeks_pair z (pair p q) = q
  seeks_pair z (other p m q) = absurd (m.no_solidus (sym p.is ∙ z))

  seeks_other : {i e : ℕ} → Unmarked (get_or s i 0) → Seeks s i e → Seeks s (i + 1) e
  seeks_other m (quote p) = absurd (m.no_quote p.is)
  seeks_other m (pair p q) = absurd (m.no_solidus p.is)
  seeks_other m (other p n q) = q

  pub nears_none : {a : ℕ} → a ≤ length s → Nears s a a
  nears_none h = record { low = omega arith; high = h; goes = λ e p. p }

  pub nears_seq : {a i j : ℕ} → Nears s a i → Nears s i j → Nears s a j
  nears_seq p q = record { low = omega (arith, p.low, q.low); high = q.high; goes = λ e r. q.goes e (p.goes e r) }

  pub nears_at : {a i j : ℕ} → Nears s a i → i ≡ j → Nears s a j
  nears_at {a} p e = subst (Nears s a) e p

  pub nears_other : {a i : ℕ} → Nears s a i → i < length s → Unmarked (get_or s i 0) → Nears s a (i + 1)
  nears_other p h m =
      record { low = omega (arith, p.low); high = omega arith; goes = λ e r. seeks_other m (p.goes e r) }

  module _ {a : ℕ} (q : Quoting s a) where
    pub quoting_high : a ≤ length s
    quoting_high = omega (arith, q.is.low, q.is.high)

    pub nears_inside : {i : ℕ} → Nears s a i → i < length s
    nears_inside p = seeks_inside (p.goes q.stop (done_seeks q.is))

    pub pair_inside : {i : ℕ} → Nears s a i → get_or s i 0 ≡ 92 → i + 2 < length s
    pair_inside p z = seeks_inside (seeks_pair z (p.goes q.stop (done_seeks q.is)))

    pub nears_pair : {i : ℕ} → Nears s a i → get_or s i 0 ≡ 92 → Nears s a (i + 2)
    nears_pair p z =
        record {
          low = omega (arith, p.low);
          high = omega (arith, pair_inside p z);
          goes = λ e r. seeks_pair z (p.goes e r);
        }

  -- the quote found is the string's
  pub nears_quote : {a i : ℕ} → Nears s a i → get_or s i 0 ≡ 34 → (e : ℕ) → Done s (text ∷ []) a e → i + 1 ≡ e
  nears_quote p z e d = seeks_quote z (p.goes e (done_seeks d))

-- where the place found is the string's end, the string is done there
pub found_done : {s : List ℕ} {a r : ℕ} → Quoting s a → ((e : ℕ) → Done s (text ∷ []) a e → r ≡ e)
    → Done s (text ∷ []) a r
found_done {s} {a} q f = subst (Done s (text ∷ []) a) (sym (f q.stop q.is)) q.is

-- what the test told of a byte
pub not_mark : (b : ℕ) → (eqb b 34 || eqb b 92) ≡ false → Unmarked b
not_mark b h =
    let p = neither _ _ h in
    record { no_quote = eqb-false b 34 p.0; no_solidus = eqb-false b 92 p.1 }
