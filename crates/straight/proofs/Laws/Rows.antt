-- Rows in one walk: a row from its key and its values, and the rows of an operator, no two of one key.
use mathlib.Core.Path.{◌≡◌, refl, sym, ap, ◌∙◌, subst}
use mathlib.Core.Bool.{Bool, true}
use mathlib.Core.List.{List, ◌∷◌, ◌++◌}
use Prim.Native.Nat.{ℕ, ◌+◌, ◌-◌, ◌≤◌, ◌<◌}
use native.Mathlib.Omega.{arith}
use lib.ListN.{length, set}
use borrow.Rule.Slice.PartMut.{mid_of}
use Rattle.text.specs.Json.{Json, null, bool, number, string, list, object, Members, no_members, named, Quoted, a_value}
use Rattle.text.specs.Json.{Reads, a_string, member}
use Rattle.syntax.specs.Policy.{Operator, Row}
use Rattle.syntax.specs.Forms.{read, is_key}
use Rattle.syntax.specs.Members.{characters_of, one_or_more, differ}
use Rattle.syntax.specs.Members as S
use Rattle.syntax.specs.PolicyLayout.{key_of, value_of, row_of, same_row, rows_of}
use Rattle.held.specs.Held.{held_text, held_list, held_value, held_row, operator_number}
use Rattle.parts.specs.Holding.{Extends}
use Rattle.parts.proofs.Laws.Holding.{AString}
use Rattle.parts.proofs.Laws.Extends.{extends_then, extends_front}
use Rattle.parts.proofs.Laws.Differ.{same_row_symmetric}
use Rattle.parts.proofs.Laws.Fits.{wrong_read}
use Rattle.parts.proofs.Laws.Formed.{formed_yes, part_told, past_first, then_read}
use Rattle.parts.proofs.Laws.Sofar.{apart_read}
use Rattle.straight.specs.Marks.{Parted}
use Rattle.straight.specs.Taking.{Taken, TakenMember}
use Rattle.straight.proofs.Laws.Reads.{reads_inside, reads_later, parted_later}
use Rattle.straight.proofs.Laws.Lists.{members_of}
use Rattle.straight.proofs.Laws.Differing.{Kind}

-- ---- a row

-- a value with characters is a string
has_word : (t : Json) {cs : List ℕ} → characters_of t ≡ read cs → AString t
has_word (string w) e = record { raw = w; is = refl }
has_word null e = wrong_read e
has_word (bool b) e = wrong_read e
has_word (number w) e = wrong_read e
has_word (list ts) e = wrong_read e
has_word (object ms) e = wrong_read e

string_quoted : {s w : List ℕ} {i e : ℕ} → Reads s (a_value (string w)) i e → Quoted s w i e
string_quoted (a_string q) = q

module _ {s run run₁ : List ℕ} {i at p e : ℕ} (low : at < length run)
    (t : Taken held_text characters_of 0 s run run₁ i (at + 1) p e) where
  word : AString t.tree
  word = has_word t.tree t.laid.said

  quoted : Quoted s word.raw i e
  quoted = string_quoted (subst (λ (x : Json). Reads s (a_value x) i e) word.is t.reads)

  pub key_first : at + 2 ≤ p
  key_first = omega (arith, past_first (omega arith) t.laid)

  key_said : {b : Bool} → b ≡ is_key (mid_of (at + 2) (p - (at + 2)) run₁) → b ≡ true
      → key_of word.raw ≡ read t.laid.thing
  unfolding key_of
  key_said {b} q y =
      let k : at + 2 ≡ at + 1 + 1 = omega arith in
      let told = q ∙ ap (λ (n : ℕ). is_key (mid_of n (p - n) run₁)) k in
      formed_yes is_key (λ cs. cs) (ap characters_of (sym word.is) ∙ t.laid.said)
      (part_told (omega arith) t.laid is_key told y)

  pub row_taken : (o : Operator) (n : ℕ) {run₂ : List ℕ} {v q z : ℕ} {b : Bool}
      → b ≡ is_key (mid_of (at + 2) (p - (at + 2)) run₁) → b ≡ true → Parted s 58 e v
      → Taken (held_list held_value) (one_or_more (value_of o)) 1 s run₁ run₂ v p q z → n ≡ operator_number o
      → TakenMember held_row (row_of o) 1 s run (set run₂ at n) i at q z
  unfolding row_of held_row
  row_taken o n {run₂} {v} {q} {z} told y c g k =
      record {
        raw = word.raw;
        tree = g.tree;
        reads = λ ms x r. member quoted c.before c.at c.after g.reads r;
        later = omega (arith, reads_later t.reads, parted_later c, reads_later g.reads);
        inside = reads_inside g.reads;
        shallow = g.shallow;
        laid = record {
          thing = record { operator = o; key = t.laid.thing; entries = g.laid.thing };
          said = then_read _ (key_said told y) ∙ then_read _ g.laid.said;
          extends = subst (λ (m : ℕ). Extends run (set run₂ at n) at
              (m ∷ (held_text t.laid.thing ++ held_list held_value g.laid.thing)) q) k
              (extends_front n low (extends_then t.laid.extends g.laid.extends));
        };
      }

-- ---- the rows of an operator

abbrev pub rows_by : Operator → Kind Members Row
rows_by o = record { frame = members_of held_row (row_of o) 1; alike = same_row; symmetric = same_row_symmetric }

pub rows_mean : (o : Operator) (us : Members) (xs : List Row) → (us ≡ no_members → ⊥)
    → S.members (row_of o) us ≡ read xs → differ same_row xs ≡ true → rows_of o (object us) ≡ read xs
unfolding rows_of
rows_mean o no_members xs n said still = absurd (n refl)
rows_mean o (named w t ms) xs n said still =
    apart_read same_row same_row_symmetric (S.members (row_of o) (named w t ms)) xs said still
