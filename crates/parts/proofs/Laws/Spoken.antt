-- A string is a word as the part between its quotes is; words are tried in their turn.
use mathlib.Core.Path.{◌≡◌, refl, sym, ap, ◌∙◌, subst}
use mathlib.Core.Bool.{Bool, true, false}
use mathlib.Core.List.{List}
use Prim.Native.Nat.{ℕ}
use Rattle.chars.specs.Base.{part}
use Rattle.text.specs.Json.{Json, null, bool, number, string, list, object}
use Rattle.text.specs.Contents.{kind_of, Stands, Raw}
use Rattle.chars.specs.Decoding.{text_of, same_text}
use Rattle.text.specs.declared.walk.Span.{Span}
use Rattle.syntax.specs.Policy as P
use Rattle.syntax.specs.Forms.{wrong, read}
use Rattle.syntax.specs.Words.{allow_word, deny_word, string_equals_word, string_like_word, numeric_less_than_equals_word}
use Rattle.syntax.specs.Words.{string_type_word, numeric_type_word}
use Rattle.syntax.specs.Members.{is_word}
use Rattle.syntax.specs.PolicyLayout.{effect_of, operator_of}
use Rattle.parts.specs.Holding.{is_text}
use Rattle.parts.specs.Requests.{type_named}
use Rattle.parts.specs.declared.words.ValueType.TheVariants as V
use Rattle.std.specs.Prelude.{Some, None}
use Rattle.std.specs.Bool.{then_some}
use Rattle.parts.specs.Spoken.{told_effect}
use Rattle.parts.specs.declared.words.Effect.TheVariants as E
use Rattle.parts.proofs.Laws.Holding.{is_string, never}

pub word_no : (n : List ℕ) (t : Json) → is_text (kind_of t) ≡ false → is_word n t ≡ false
unfolding is_word
word_no n null e = refl
word_no n (bool true) e = refl
word_no n (bool false) e = refl
word_no n (number w) e = refl
word_no n (string w) e = never (sym e)
word_no n (list ts) e = refl
word_no n (object ms) e = refl

pub word_said :
    {s : List ℕ} {v e : ℕ} {t : Json} (n : List ℕ) (q : Span) → Stands s t v e → is_text (kind_of t) ≡ true
    → ((w : List ℕ) (f : ℕ) → Stands s (string w) v f → Raw s w f q)
    → is_word n t ≡ same_text (text_of (part s q.from q.to)) n
unfolding is_word
word_said {s} {v} {e} {t} n q p h f =
    let a = is_string t h in
    let r = f a.raw e (subst (λ (u : Json). Stands s u v e) a.is p) in
    ap (is_word n) a.is ∙ ap (λ (w : List ℕ). same_text (text_of w) n) (sym r.is)

-- the type that a string names
pub type_no : (t : Json) → is_text (kind_of t) ≡ false → type_named t ≡ None
type_no t e = rw (word_no string_type_word t e, word_no numeric_type_word t e)

pub type_said :
    {s : List ℕ} {v e : ℕ} {t : Json} (q : Span) → Stands s t v e → is_text (kind_of t) ≡ true
    → ((w : List ℕ) (f : ℕ) → Stands s (string w) v f → Raw s w f q)
    → type_named t ≡ type_named (string (part s q.from q.to))
type_said {s} {v} {e} {t} q p h f =
    let a = is_string t h in
    let r = f a.raw e (subst (λ (u : Json). Stands s u v e) a.is p) in
    ap type_named a.is ∙ ap (λ (w : List ℕ). type_named (string w)) (sym r.is)

module _ (w : List ℕ) where
  pub raw_text : same_text (text_of w) string_type_word ≡ true → type_named (string w) ≡ Some V.Text
  unfolding is_word
  raw_text e = rw e

  pub raw_number : same_text (text_of w) string_type_word ≡ false → same_text (text_of w) numeric_type_word ≡ true
      → type_named (string w) ≡ Some V.Number
  unfolding is_word
  raw_number e f = rw (e, f)

  pub raw_none : same_text (text_of w) string_type_word ≡ false → same_text (text_of w) numeric_type_word ≡ false
      → type_named (string w) ≡ None
  unfolding is_word
  raw_none e f = rw (e, f)

-- ---- in their turn

pub effect_allow : (t : Json) → is_word allow_word t ≡ true → effect_of t ≡ read P.Allow
unfolding effect_of
effect_allow t h = rw h

pub effect_rest : (t : Json) → is_word allow_word t ≡ false → (b : Bool) → b ≡ is_word deny_word t
    → told_effect (then_some b E.Deny) ≡ effect_of t
unfolding effect_of
effect_rest t g true h = rw (g, ← h)
effect_rest t g false h = rw (g, ← h)

pub operator_equals : (w : List ℕ) → same_text (text_of w) string_equals_word ≡ true → operator_of w ≡ read P.StringEquals
unfolding operator_of
operator_equals w h = rw h

pub operator_like :
    (w : List ℕ) → same_text (text_of w) string_equals_word ≡ false → same_text (text_of w) string_like_word ≡ true
    → operator_of w ≡ read P.StringLike
unfolding operator_of
operator_like w g h = rw (g, h)

pub operator_numeric :
    (w : List ℕ) → same_text (text_of w) string_equals_word ≡ false → same_text (text_of w) string_like_word ≡ false
    → same_text (text_of w) numeric_less_than_equals_word ≡ true → operator_of w ≡ read P.NumericLessThanEquals
unfolding operator_of
operator_numeric w f g h = rw (f, g, h)

pub operator_wrong :
    (w : List ℕ) → same_text (text_of w) string_equals_word ≡ false → same_text (text_of w) string_like_word ≡ false
    → same_text (text_of w) numeric_less_than_equals_word ≡ false → operator_of w ≡ wrong
unfolding operator_of
operator_wrong w f g h = rw (f, g, h)
