-- A value's kind is told by its first byte, since no two kinds share one.
use mathlib.Core.Path.{◌≡◌, sym, ap, ◌∙◌}
use mathlib.Core.List.{List}
use Prim.Native.Nat.{ℕ}
use native.Mathlib.Omega.{arith}
use lib.Dec.{eqb}
use lib.ListN.{get_or}
use borrow.Author.Tests.{ne_eqb}
use Rattle.chars.specs.Base.{pick}
use Rattle.text.specs.Json.{Json, a_value, Reads, a_null}
use Rattle.text.specs.Json.{a_true, a_false, a_number, a_string, empty_list, some_list, empty_object, some_object}
use Rattle.text.specs.Contents.{Stands, kind_of}
use Rattle.text.specs.declared.walk.Kind.{Kind}
use Rattle.text.specs.declared.walk.Kind.TheVariants as K
use Rattle.text.proofs.Laws.Parts.{spelt_first}
use Rattle.text.proofs.Laws.Starts.{Numeral, number_first}

unfoldable pub kind_by : ℕ → Kind
kind_by b =
    pick (eqb b 34) K.Text
    (pick (eqb b 91) K.List
    (pick (eqb b 102) K.False
    (pick (eqb b 110) K.Null
    (pick (eqb b 116) K.True
    (pick (eqb b 123) K.Object K.Number)))))

kind_number : (b : ℕ) → (b ≡ 34 → ⊥) → (b ≡ 91 → ⊥) → (b ≡ 102 → ⊥) → (b ≡ 110 → ⊥) → (b ≡ 116 → ⊥) → (b ≡ 123 → ⊥)
    → kind_by b ≡ K.Number
unfolding kind_by
kind_number b n1 n2 n3 n4 n5 n6 =
    rw (ne_eqb b 34 n1, ne_eqb b 91 n2, ne_eqb b 102 n3, ne_eqb b 110 n4, ne_eqb b 116 n5, ne_eqb b 123 n6)

kind_low : {s : List ℕ} {i : ℕ} → Numeral s i → kind_by (get_or s i 0) ≡ K.Number
kind_low {s} {i} b =
    let z = b.at.is in
    kind_number _ (omega arith) (omega arith) (omega arith) (omega arith) (omega arith) (omega arith)

kind_first : {s : List ℕ} {t : Json} {v e : ℕ} → Reads s (a_value t) v e → kind_by (get_or s v 0) ≡ kind_of t
unfolding kind_by
kind_first (a_null p) = rw (spelt_first p).is
kind_first (a_true p) = rw (spelt_first p).is
kind_first (a_false p) = rw (spelt_first p).is
kind_first (a_number p n) = kind_low (number_first n p)
kind_first (a_string p) = rw p.opens.is
kind_first (empty_list o w p) = rw o.is
kind_first (some_list o w r) = rw o.is
kind_first (empty_object o w p) = rw o.is
kind_first (some_object o w r) = rw o.is

module _ {s : List ℕ} {t : Json} {v e : ℕ} (p : Stands s t v e) where
  pub kind_is : (b : ℕ) (k : Kind) → kind_by b ≡ k → get_or s v 0 ≡ b → k ≡ kind_of t
  kind_is b k m z = sym m ∙ ap kind_by (sym z) ∙ kind_first p.reads

  pub kind_else : (get_or s v 0 ≡ 34 → ⊥) → (get_or s v 0 ≡ 91 → ⊥) → (get_or s v 0 ≡ 102 → ⊥) → (get_or s v 0 ≡ 110 → ⊥)
      → (get_or s v 0 ≡ 116 → ⊥) → (get_or s v 0 ≡ 123 → ⊥) → K.Number ≡ kind_of t
  kind_else a b c d f g = sym (kind_number (get_or s v 0) a b c d f g) ∙ kind_first p.reads
