-- Each character that is owed is one of the grammar's, up to the closing quote.
use mathlib.Core.Path.{◌≡◌, refl, ◌∙◌}
use mathlib.Core.List.{List, [], ◌∷◌, ◌++◌}
use Prim.Native.Nat.{ℕ, ◌+◌, ◌≤◌, ◌<◌}
use native.Mathlib.Omega.{arith}
use native.Mathlib.Decide.{dec_lt, ℕ_discrete}
use lib.ListN.{length, get_or}
use Rattle.chars.specs.Base.{At}
use Rattle.chars.specs.Utf8.{Sequence, ascii, c2_df, e0, e1_ec, ed, ee_ef, f0, f1_f3, f4}
use Rattle.chars.specs.Strings.{Unit, plain, Char, unescaped, escaped, hexed, Body, end, more}
use Rattle.text.specs.Json.{Spelt, Quoted}
use Rattle.text.specs.Machine.{Item, text, char, escape, optional}
use Rattle.text.proofs.Laws.Reading.{alike}
use Rattle.text.proofs.Laws.Places.{Alive, alive_seq, alive_inside}
use Rattle.text.proofs.Laws.Parts.{spelt_none, spelt_one, spelt_append, spelt_length}
use Rattle.text.proofs.Laws.Taking.Items.{Took, from_end, here, alive_takes, alive_refuses}
use Rattle.text.proofs.Laws.Moves.Strings.{char_escape, char_low, char_plain, high_tail, text_quote}
use Rattle.text.proofs.Laws.Moves.Owing.{text_one}
use Rattle.text.proofs.Laws.Taking.Escapes.{AChar, took_escape}
use Rattle.text.proofs.Laws.Taking.Sequences.{took_high}

pub took_char : {s : List ℕ} {i : ℕ} (ys : List Item) → (get_or s i 0 ≡ 34 → ⊥) → Alive s (char ∷ ys) i
    → Took AChar s ys i
unfolding optional
took_char {s} {i} ys n v =
    by (alive_inside char ys refl v) (ℕ_discrete (get_or s i 0) 92) (dec_lt (get_or s i 0) 32) (dec_lt (get_or s i 0) 128)
  where
    by : i < length s → Dec (get_or s i 0 ≡ 92) → Dec (get_or s i 0 < 32) → Dec (get_or s i 0 < 128) → Took AChar s ys i
    by h (yes e) d2 d3 =
        let a = alive_takes char ys v (escape ∷ []) h (char_escape (get_or s i 0) e) in
        took_escape ys (record { inside = h; is = e }) a
    by h (no n1) (yes p) d3 =
        absurd (alive_refuses char ys v h (char_low (get_or s i 0) p ∙ high_tail (get_or s i 0) (omega arith)))
    by h (no n1) (no p) (yes q) =
        record {
          word = get_or s i 0 ∷ [];
          stop = i + 1;
          spelt = spelt_one (here s i h);
          good = record {
            unit = plain (get_or s i 0);
            is = unescaped (ascii {a = get_or s i 0} (omega arith)) (omega arith) n n1;
          };
          next = alive_takes char ys v [] h (char_plain (get_or s i 0) n1 (omega arith) q);
        }
    by h (no n1) (no p) (no q) = took_high ys h v (omega arith)

-- a character has a byte at least
char_length : {bs : List ℕ} {u : Unit} → Char bs u → 0 < length bs
char_length (unescaped s l q e) = by s
  where
    by : {bs : List ℕ} {c : ℕ} → Sequence bs c → 0 < length bs
    by (ascii h) = omega arith
    by (c2_df h p) = omega arith
    by (e0 p q) = omega arith
    by (e1_ec h p q) = omega arith
    by (ed p q) = omega arith
    by (ee_ef h p q) = omega arith
    by (f0 p q r) = omega arith
    by (f1_f3 h p q r) = omega arith
    by (f4 p q r) = omega arith
char_length (escaped h) = omega arith
char_length (hexed p q r t) = omega arith

char_later : {s bs : List ℕ} {i e : ℕ} → AChar bs → Spelt s bs i e → i < e
char_later c p = let l = spelt_length p in let n = char_length c.is in omega arith

-- ---- strings

-- a string's rest behind its opening quote
pub record Closed (s : List ℕ) (ys : List Item) (i : ℕ) : Type 0 where
  pub word : List ℕ
  pub units : List Unit
  pub close : ℕ
  pub spelt : Spelt s word i close
  pub body : Body word units
  pub closes : At s close 34
  pub next : Alive s ys (close + 1)

text_step : {s : List ℕ} {i : ℕ} (ys : List Item) → Alive s (text ∷ ys) i
    → ((j : ℕ) → i < j → j ≤ length s → Alive s (text ∷ ys) j → Closed s ys j) → Closed s ys i
unfolding optional
text_step {s} {i} ys v on = by (alive_inside text ys refl v) (ℕ_discrete (get_or s i 0) 34)
  where
    by : i < length s → Dec (get_or s i 0 ≡ 34) → Closed s ys i
    by h (yes e) =
        record {
          word = [];
          units = [];
          close = i;
          spelt = spelt_none v.high;
          body = end;
          closes = record { inside = h; is = e };
          next = alive_takes text ys v [] h (text_quote (get_or s i 0) e);
        }
    by h (no n) =
        let a = alike (text ∷ ys) (char ∷ text ∷ ys) h (λ k. text_one (get_or s i 0) n (ys ++ k)) in
        let c = took_char (text ∷ ys) n (alive_seq v a) in
        let r = on c.stop (char_later c.good c.spelt) c.spelt.inside c.next in
        record {
          word = c.word ++ r.word;
          units = c.good.unit ∷ r.units;
          close = r.close;
          spelt = spelt_append c.spelt r.spelt;
          body = more c.good.is r.body;
          closes = r.closes;
          next = r.next;
        }

pub alive_text : {s : List ℕ} {i : ℕ} (ys : List Item) → Alive s (text ∷ ys) i → Closed s ys i
alive_text {s} {i} ys v =
    from_end s (λ j. Alive s (text ∷ ys) j → Closed s ys j) (λ j h on w. text_step ys w on) i v.high v

-- with its opening quote
pub closed_quoted : {s : List ℕ} {ys : List Item} {i : ℕ} → At s i 34 → (r : Closed s ys (i + 1))
    → Quoted s r.word i (r.close + 1)
closed_quoted o r =
    record {
      opens = o;
      close = r.close;
      units = r.units;
      spelt = r.spelt;
      body = r.body;
      closes = r.closes;
      past = refl;
    }
