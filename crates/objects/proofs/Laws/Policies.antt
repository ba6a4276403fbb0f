-- A policy in one walk: its statements one behind the other, no two of one Sid, between the members of an object.
--   statements                   how one is held and read, and when two are alike
--   listed_laid, lone_laid                      statements behind their number, in a list or by itself
--   version_first_taken, statement_first_taken  the object that has them as a member
use mathlib.Core.Path.{◌≡◌, refl, ap, ◌∙◌, subst}
use mathlib.Core.Bool.{true}
use mathlib.Core.List.{List, [], ◌∷◌}
use Prim.Native.Nat.{ℕ, ◌<◌}
use native.Mathlib.Omega.{arith}
use lib.ListN.{length, set}
use Rattle.chars.specs.Decoding.{text_of, same_text, meaning, units_behind, read_of, sequence_of, equal}
use Rattle.text.specs.Json.{Json, null, bool, number, string, list, object, Values, no_more, no_members, named, depth}
use Rattle.text.specs.Json.{depthm, Quoted}
use Rattle.text.specs.Json.{a_string}
use Rattle.syntax.specs.Policy.{Statement}
use Rattle.syntax.specs.Forms.{Reading, read}
use Rattle.syntax.specs.Words.{version_word, statement_word, edition_word}
use Rattle.syntax.specs.Members.{then, is_word, slot, is_among, known, each, one_or_more, cons, has_like, differ}
use Rattle.syntax.specs.Members.{differing}
use Rattle.syntax.specs.PolicyLayout.{statement_of, same_sid, policy_in, policy_of}
use Rattle.held.specs.Held.{held_each, held_statement, held}
use Rattle.parts.specs.Holding.{Extends}
use Rattle.parts.proofs.Laws.Extends.{extends_front}
use Rattle.parts.proofs.Laws.Fits.{wrong_read}
use Rattle.parts.proofs.Laws.Differ.{same_sid_symmetric}
use Rattle.parts.proofs.Laws.Sofar.{apart_read}
use Rattle.straight.specs.Marks.{Closed, First, Next}
use Rattle.straight.specs.Taking.{Taken, TakenSeveral}
use Rattle.straight.proofs.Laws.Reads.{first_reads, next_reads, object_last}
use Rattle.straight.proofs.Laws.Laying.{several_taken}
use Rattle.straight.proofs.Laws.Lists.{elements_of, more_are}
use Rattle.straight.proofs.Laws.Differing.{Kind}
use Rattle.objects.specs.Leaving.{policy_from}
use Rattle.objects.proofs.Laws.Settling.{append_nothing}

-- ---- statements

abbrev pub statements : Kind Values Statement
statements = record { frame = elements_of held_statement statement_of 4; alike = same_sid; symmetric = same_sid_symmetric }

pub statements_mean : (us : Values) (xs : List Statement) → (us ≡ no_more → ⊥) → each statement_of us ≡ read xs
    → differ same_sid xs ≡ true → policy_from (list us) ≡ read xs
statements_mean us xs n said still =
    apart_read same_sid same_sid_symmetric (one_or_more statement_of (list us)) xs
    (more_are held_statement statement_of 4 us n ∙ said) still

pub listed_laid : {s run run₁ : List ℕ} {v p e n : ℕ} → 0 < length run
    → TakenSeveral held_statement policy_from 5 s run run₁ v 1 p e n
    → Taken held policy_from 5 s run (set run₁ 0 n) v 0 p e
unfolding held
listed_laid low t = several_taken low t

-- ---- the object

policy_is : (t : Json)
    → policy_of (object (named version_word (string edition_word) (named statement_word t no_members))) ≡ policy_from t
unfolding policy_of policy_in is_word known is_among slot text_of same_text meaning units_behind read_of sequence_of equal
policy_is t = refl

pub version_first_taken : {s run run₁ : List ℕ} {v a i b p j e : ℕ} → First s version_word v a → Quoted s edition_word a i
    → Next s statement_word i b → Taken held policy_from 5 s run run₁ b 0 p j → Closed s 125 j e
    → Taken held policy_of 6 s run run₁ v 0 p e
unfolding depth depthm
version_first_taken f q n t c =
    record {
      tree = object (named version_word (string edition_word) (named statement_word t.tree no_members));
      reads = first_reads f (a_string q) (next_reads n t.reads (object_last c));
      shallow = omega (arith, t.shallow);
      laid = record {
        thing = t.laid.thing;
        said = policy_is t.tree ∙ t.laid.said;
        extends = t.laid.extends;
      };
    }

other_is : (t : Json)
    → policy_of (object (named statement_word t (named version_word (string edition_word) no_members))) ≡ policy_from t
unfolding policy_of policy_in is_word known is_among slot text_of same_text meaning units_behind read_of sequence_of equal
other_is t = refl

pub statement_first_taken : {s run run₁ : List ℕ} {v a i b p j e : ℕ} → First s statement_word v b
    → Taken held policy_from 5 s run run₁ b 0 p j → Next s version_word j a → Quoted s edition_word a i → Closed s 125 i e
    → Taken held policy_of 6 s run run₁ v 0 p e
unfolding depth depthm
statement_first_taken f t n q c =
    record {
      tree = object (named statement_word t.tree (named version_word (string edition_word) no_members));
      reads = first_reads f t.reads (next_reads n (a_string q) (object_last c));
      shallow = omega (arith, t.shallow);
      laid = record {
        thing = t.laid.thing;
        said = other_is t.tree ∙ t.laid.said;
        extends = t.laid.extends;
      };
    }

-- ---- a statement by itself

lone_is : (t : Json) (x : Statement) → statement_of t ≡ read x → policy_from t ≡ read (x ∷ [])
unfolding statement_of one_or_more differ has_like
lone_is null x e = wrong_read e
lone_is (bool b) x e = wrong_read e
lone_is (number w) x e = wrong_read e
lone_is (string w) x e = wrong_read e
lone_is (list ts) x e = wrong_read e
lone_is (object ms) x e = ap (λ (y : Reading Statement). then (cons y (read [])) (differing same_sid)) e

lone_held : (x : Statement) → 1 ∷ held_statement x ≡ held (x ∷ [])
unfolding held held_each
lone_held x = ap (λ (l : List ℕ). 1 ∷ l) (append_nothing (held_statement x))

pub lone_laid : {s run run₁ : List ℕ} {v p e : ℕ} → 0 < length run
    → Taken held_statement statement_of 4 s run run₁ v 1 p e → Taken held policy_from 5 s run (set run₁ 0 1) v 0 p e
lone_laid {run = run} {run₁} {p = p} low t =
    record {
      tree = t.tree;
      reads = t.reads;
      shallow = omega (arith, t.shallow);
      laid = record {
        thing = t.laid.thing ∷ [];
        said = lone_is t.tree t.laid.thing t.laid.said;
        extends = subst (λ (xs : List ℕ). Extends run (set run₁ 0 1) 0 xs p) (lone_held t.laid.thing)
            (extends_front 1 low t.laid.extends);
      };
    }
