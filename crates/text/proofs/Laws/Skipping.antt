-- A walk that counts brackets and passes strings whole leaves a list or an object where it ends, by induction on the
-- reading: outside strings, brackets stand in pairs.
use mathlib.Core.Path.{◌≡◌, refl, sym, ap, ◌∙◌, subst}
use mathlib.Core.List.{List, [], ◌∷◌}
use Prim.Native.Nat.{ℕ, suc, ◌+◌}
use native.Mathlib.Omega.{arith}
use lib.ListN.{get_or}
use Rattle.chars.specs.Base.{At}
use Rattle.text.specs.Json.{Json, Space, no_space, white, Spelt, Quoted, Piece, a_value, elements, rest, members}
use Rattle.text.specs.Json.{more, Reads, a_null, a_true, a_false, a_number, a_string, empty_list, some_list}
use Rattle.text.specs.Json.{element, close_list, comma_list, empty_object, some_object, member, close_object}
use Rattle.text.specs.Json.{comma_object}
use Rattle.text.specs.Contents.{Stands}
use Rattle.text.specs.Skipping.{level, Steps, Closes, over, on, Plain}
use Rattle.text.proofs.Laws.Parts.{spelt_length, spelt_first, spelt_rest}
use Rattle.text.proofs.Laws.Complete.{body_done}
use Rattle.text.proofs.Laws.Once.Inner.{Listed, listed, none, some, Objected, objected}
use Rattle.text.proofs.Laws.Contents.{stands_inside}
use Rattle.text.proofs.Laws.Skipping.Bytes.{Plains, empty, then, low, white_plain, number_plain}
use Rattle.text.proofs.Laws.Skipping.Bytes.{null_plain, true_plain, false_plain}
pub mod Bytes
pub mod Walking

-- the brackets open behind a piece: elements and members end with their closing bracket
abbrev under : Piece → ℕ → ℕ
under (a_value t) n = suc n
under (elements ts) n = n
under (rest ts) n = n
under (members ms) n = n
under (more ms) n = n

-- ---- one step

module _ {s : List ℕ} where
  steps_byte : {i b : ℕ} → At s i b → (b ≡ 34 → ⊥) → Steps s i (i + 1)
  steps_byte p h = record { quote = λ z. absurd (h (sym p.is ∙ z)); other = λ z. refl }

  steps_quoted : {w : List ℕ} {i q : ℕ} → Quoted s w i q → Steps s i q
  steps_quoted p = record { quote = λ z. body_done p; other = λ h. absurd (h p.opens.is) }

  -- past a byte, a string, white space, the bytes of a number or a word
  byte : {n m i b k : ℕ} → At s i b → (b ≡ 34 → ⊥) → level b (suc n) ≡ m → Closes s m (i + 1) k → Closes s (suc n) i k
  byte {n} {m} {i} {b} {k} p h e c =
      on {n = suc n} (omega arith) p.inside (steps_byte p h)
      (subst (λ (l : ℕ). Closes s l (i + 1) k) (sym (ap (λ (x : ℕ). level x (suc n)) p.is ∙ e)) c)

  plain : {n i b k : ℕ} → At s i b → Plain b → Closes s (suc n) (i + 1) k → Closes s (suc n) i k
  plain {n} p h c = byte p h.no_quote (h.keeps (suc n)) c

  opens_list : {n i k : ℕ} → At s i 91 → Closes s (suc (suc n)) (i + 1) k → Closes s (suc n) i k
  unfolding level
  opens_list p c = byte p (omega arith) (omega arith) c

  opens_object : {n i k : ℕ} → At s i 123 → Closes s (suc (suc n)) (i + 1) k → Closes s (suc n) i k
  unfolding level
  opens_object p c = byte p (omega arith) (omega arith) c

  shuts_list : {n i k : ℕ} → At s i 93 → Closes s n (i + 1) k → Closes s (suc n) i k
  unfolding level
  shuts_list p c = byte p (omega arith) (omega arith) c

  shuts_object : {n i k : ℕ} → At s i 125 → Closes s n (i + 1) k → Closes s (suc n) i k
  unfolding level
  shuts_object p c = byte p (omega arith) (omega arith) c

  comma : {n i k : ℕ} → At s i 44 → Closes s (suc n) (i + 1) k → Closes s (suc n) i k
  comma p c = plain p (low 44 (omega arith) (omega arith)) c

  colon : {n i k : ℕ} → At s i 58 → Closes s (suc n) (i + 1) k → Closes s (suc n) i k
  colon p c = plain p (low 58 (omega arith) (omega arith)) c

  quoted : {w : List ℕ} {n i q k : ℕ} → Quoted s w i q → Closes s (suc n) q k → Closes s (suc n) i k
  unfolding level
  quoted {w} {n} {i} {q} {k} p c =
      on {n = suc n} (omega arith) p.opens.inside (steps_quoted p)
      (subst (λ (x : ℕ). Closes s (level x (suc n)) q k) (sym p.opens.is) c)

  spaces : {n i j k : ℕ} → Space s i j → Closes s (suc n) j k → Closes s (suc n) i k
  spaces (no_space h) c = c
  spaces (white p v r) c = plain p (white_plain v) (spaces r c)

  word : {n i e k : ℕ} (w : List ℕ) → Plains w → Spelt s w i e → Closes s (suc n) e k → Closes s (suc n) i k
  word {n} {i} {e} {k} [] empty p c =
      let z = spelt_length p in subst (λ (l : ℕ). Closes s (suc n) l k) (omega arith) c
  word {n} {i} {e} {k} (b ∷ w) (then h g) p c =
      plain (spelt_first p) h (word {n = n} {i = i + 1} {e = e} {k = k} w g (spelt_rest p) c)

  -- ---- pieces

  -- with so many brackets open behind a piece, the walk from its first place goes on at its end
  passed : {p : Piece} {i e : ℕ} → Reads s p i e → (n k : ℕ) → Closes s (under p n) e k → Closes s (suc n) i k
  passed (a_null p) n k c = word _ null_plain p c
  passed (a_true p) n k c = word _ true_plain p c
  passed (a_false p) n k c = word _ false_plain p c
  passed (a_number p h) n k c = word _ (number_plain h) p c
  passed (a_string p) n k c = quoted p c
  passed (empty_list o w p) n k c = opens_list o (spaces w (shuts_list p c))
  passed (some_list o w r) n k c = opens_list o (spaces w (passed r (suc n) k c))
  passed (element v r) n k c = passed v n k (passed r n k c)
  passed (close_list w p) n k c = spaces w (shuts_list p c)
  passed (comma_list w o x r) n k c = spaces w (comma o (spaces x (passed r n k c)))
  passed (empty_object o w p) n k c = opens_object o (spaces w (shuts_object p c))
  passed (some_object o w r) n k c = opens_object o (spaces w (passed r (suc n) k c))
  passed (member q w o x v r) n k c = quoted q (spaces w (colon o (spaces x (passed v n k (passed r n k c)))))
  passed (close_object w p) n k c = spaces w (shuts_object p c)
  passed (comma_object w o x r) n k c = spaces w (comma o (spaces x (passed r n k c)))

  -- ---- a list or an object is closed where it ends

  list_by : {t : Json} {v e : ℕ} → Listed s t v e → Closes s 1 (v + 1) e
  list_by {t} {v} {e} (none z y w p) =
      subst (λ (l : ℕ). Closes s 1 (v + 1) l) (sym y) (spaces w (shuts_list p over))
  list_by {t} {v} {e} (some ts z w r) = spaces w (passed r 0 e over)

  object_by : {t : Json} {v e : ℕ} → Objected s t v e → Closes s 1 (v + 1) e
  object_by {t} {v} {e} (none z y w p) =
      subst (λ (l : ℕ). Closes s 1 (v + 1) l) (sym y) (spaces w (shuts_object p over))
  object_by {t} {v} {e} (some ms z w r) = spaces w (passed r 0 e over)

  pub list_closes : {t : Json} {v e : ℕ} → get_or s v 0 ≡ 91 → Stands s t v e → Closes s 1 (v + 1) e
  list_closes z p = list_by (listed (record { inside = stands_inside p; is = z }) p.reads)

  pub object_closes : {t : Json} {v e : ℕ} → get_or s v 0 ≡ 123 → Stands s t v e → Closes s 1 (v + 1) e
  object_closes z p = object_by (objected (record { inside = stands_inside p; is = z }) p.reads)
