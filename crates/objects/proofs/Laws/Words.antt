-- Words that stand for themselves, and the numbers that are given to them; a value that is a whole text.
use mathlib.Core.Path.{◌≡◌, refl, subst}
use mathlib.Core.List.{List}
use Prim.Native.Nat.{ℕ, ◌≤◌}
use lib.ListN.{length}
use native.Mathlib.Omega.{arith}
use Rattle.chars.specs.Decoding.{sequence_of, read_of, units_behind, meaning, text_of, equal, same_text}
use Rattle.text.specs.Json.{Json, string, depth, levels, Space, Quoted, a_string}
use Rattle.syntax.specs.Forms.{Reading}
use Rattle.syntax.specs.Words.{string_type_word, numeric_type_word, allow_word, deny_word}
use Rattle.syntax.specs.Members.{is_word}
use Rattle.std.specs.Prelude.{Option, Some, None, Result, Ok}
use Rattle.std.specs.Option.{ok_or}
use Rattle.straight.specs.Taking.{Taken}
use Rattle.objects.specs.Telling.{Told, effect_named, type_told, TakenText}

-- a word that stands for itself, to which g gives a number
pub quoted_told : {g : Json → Option ℕ} {s : List ℕ} {v e : ℕ} (w : List ℕ) (k : ℕ) → Quoted s w v e → Some k ≡ g (string w)
    → Told g s v k e
unfolding depth
quoted_told w k q i =
    record { tree = string w; reads = a_string q; shallow = omega arith; is = i }

-- ---- types

pub string_type : Some 1 ≡ type_told (string string_type_word)
unfolding is_word same_text text_of meaning units_behind read_of sequence_of equal
string_type = refl

pub numeric_type : Some 2 ≡ type_told (string numeric_type_word)
unfolding is_word same_text text_of meaning units_behind read_of sequence_of equal
numeric_type = refl

-- ---- effects

pub allow_named : Some 1 ≡ effect_named (string allow_word)
unfolding is_word same_text text_of meaning units_behind read_of sequence_of equal
allow_named = refl

pub deny_named : Some 2 ≡ effect_named (string deny_word)
unfolding is_word same_text text_of meaning units_behind read_of sequence_of equal
deny_named = refl

-- ---- whole texts

-- a value between white space, of few enough levels
pub text_taken :
    {A : Type 0} {h : A → List ℕ} {f : Json → Reading A} {n : ℕ} {s run run' : List ℕ} {v p e z : ℕ}
    → n ≤ levels → Space s 0 v → Taken h f n s run run' v 0 p e → Space s e z → z ≡ length s
    → TakenText h f s run run' p
text_taken {s = s} {v = v} {e = e} few before t after all =
    record {
      text = record {
        tree = t.tree;
        says = record {
          from = v;
          past = e;
          before = before;
          reads = t.reads;
          after = subst (Space s e) all after;
        };
        shallow = omega (arith, t.shallow);
      };
      laid = t.laid;
    }

-- ---- answers made a result

pub ok_or_some : {T E : Type 0} (o : Option T) (e : E) {r : Result T E} {x : T} → r ≡ ok_or o e → r ≡ Ok x → o ≡ Some x
ok_or_some (Some y) e p q = cc
ok_or_some None e p q = cc
