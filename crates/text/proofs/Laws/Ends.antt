-- What follows a value in a text stops every number: white space, a byte of structure or the end.
use mathlib.Core.Path.{◌≡◌, refl, sym, ap, ◌∙◌, subst}
use mathlib.Core.List.{List}
use mathlib.Core.Logic.{◌⊎◌, inl, inr, ⊎_elim}
use Prim.Native.Nat.{ℕ, ◌<◌}
use native.Mathlib.Omega.{arith}
use native.Mathlib.Decide.{dec_lt}
use lib.ListN.{length, drop}
use lib.Seq.{drop-cons, drop-length}
use Rattle.chars.specs.Base.{At}
use Rattle.text.specs.Json.{Values, Members, White, tab, line_feed, carriage_return, space, Space, no_space}
use Rattle.text.specs.Json.{white, rest, more, Reads, close_list, comma_list, close_object, comma_object}
use Rattle.text.specs.Contents.{Ends, with_text, before}
use Rattle.text.specs.Machine.{pass, move, optional}
use Rattle.text.specs.Machine as M
use Rattle.text.proofs.Laws.Eating.{Passed, Calm}
use Rattle.text.proofs.Laws.Moves.Numbers.{digits_over, digits_under, exponent_not, fraction_not}

-- where a number ends, the twin's items for more of it are done
pub ends_calm : {s : List ℕ} {e : ℕ} → Ends s e → Calm (drop e s)
unfolding Passed optional
ends_calm {s} {e} (with_text q) =
    subst Calm (sym (ap (λ (n : ℕ). drop n s) q ∙ drop-length s))
    record { on_digits = refl; on_fraction = refl; on_exponent = refl }
ends_calm {s} {e} (before {b} p n f u l) =
    subst Calm (sym (drop-cons s e 0 p.inside))
    record {
      on_digits = ap (move M.digits) p.is ∙ by (dec_lt b 48);
      on_fraction = ap (move M.fraction) p.is ∙ fraction_not b f ∙ exponent_not b (⊎_elim u l);
      on_exponent = ap (move M.exponent) p.is ∙ exponent_not b (⊎_elim u l);
    }
  where
    by : Dec (b < 48) → move M.digits b ≡ pass
    by (yes h) = digits_under b h
    by (no h) = digits_over b (over (dec_lt 57 b))
      where
        over : Dec (57 < b) → 57 < b
        over (yes g) = g
        over (no g) = absurd (n (record { low = omega arith; high = omega arith }))

ends_byte : {s : List ℕ} {e : ℕ} (b : ℕ) → At s e b → (b < 46 ⊎ 101 < b) ⊎ (b ≡ 93) → Ends s e
ends_byte b p (inl (inl h)) = before p (λ i. let z = i.low in omega arith) (omega arith) (omega arith) (omega arith)
ends_byte b p (inl (inr h)) = before p (λ i. let z = i.high in omega arith) (omega arith) (omega arith) (omega arith)
ends_byte b p (inr h) = before p (λ i. let z = i.high in omega arith) (omega arith) (omega arith) (omega arith)

ends_white : {s : List ℕ} {e b : ℕ} → At s e b → White b → Ends s e
ends_white p tab = ends_byte 9 p (inl (inl (omega arith)))
ends_white p line_feed = ends_byte 10 p (inl (inl (omega arith)))
ends_white p carriage_return = ends_byte 13 p (inl (inl (omega arith)))
ends_white p space = ends_byte 32 p (inl (inl (omega arith)))

-- a byte of structure ends a number, with white space before it or without
pub ends_space : {s : List ℕ} {i e : ℕ} (b : ℕ) → (b < 46 ⊎ 101 < b) ⊎ (b ≡ 93) → Space s i e → At s e b → Ends s i
ends_space b h (no_space g) p = ends_byte b p h
ends_space b h (white q v r) p = ends_white q v

pub ends_rest : {s : List ℕ} {i e : ℕ} {ts : Values} → Reads s (rest ts) i e → Ends s i
ends_rest (close_list w o) = ends_space 93 (inr refl) w o
ends_rest (comma_list w o x r) = ends_space 44 (inl (inl (omega arith))) w o

pub ends_more : {s : List ℕ} {i e : ℕ} {ms : Members} → Reads s (more ms) i e → Ends s i
ends_more (close_object w o) = ends_space 125 (inl (inr (omega arith))) w o
ends_more (comma_object w o x r) = ends_space 44 (inl (inl (omega arith))) w o

pub ends_after : {s : List ℕ} {i : ℕ} → Space s i (length s) → Ends s i
ends_after (no_space h) = with_text refl
ends_after (white p v r) = ends_white p v
