-- A policy from the members of its object: one statement or a list of at least one, no two with the same Sid.
--   single_laid, several_laid ..   the statements behind their number
--   no_version, no_statements      where a member is missing or wrong there is no policy
--   not_members                    nor where one is unknown or repeated
--   policy_is                      else it is what its statements are
use Rattle.std.specs.Prelude.{Option}
use mathlib.Core.Path.{◌≡◌, refl, sym, ap, ◌∙◌, subst}
use mathlib.Core.Bool.{Bool, true, false}
use mathlib.Core.Logic.{◌⊎◌, ⊎_elim}
use mathlib.Core.List.{List, [], ◌∷◌}
use Prim.Native.Nat.{ℕ, zero, suc, ◌+◌, ◌<◌}
use native.Mathlib.Omega.{arith}
use lib.ListN.{length, set}
use Rattle.text.specs.Json.{Json, null, bool, number, string, list, object, Values, no_more, also, Members}
use Rattle.text.specs.Contents.{kind_of}
use Rattle.syntax.specs.Policy.{Statement}
use Rattle.syntax.specs.Forms.{Reading, wrong, read}
use Rattle.syntax.specs.Words.{version_word, statement_word, edition_word}
use Rattle.syntax.specs.Members.{then, only, is_word, Slot, none, many, one, slot, known, required, cons}
use Rattle.syntax.specs.Members.{each, some, one_or_more, has_like, differ, differing}
use Rattle.parts.specs.Slots.{words_of, word_at, Turn, Repeated}
use Rattle.syntax.specs.PolicyLayout.{statement_of, same_sid, policy_in, policy_of}
use Rattle.held.specs.Held.{held_each, held_statement, held}
use Rattle.parts.specs.Room.{cost, costm, HoldableObject}
use Rattle.parts.specs.Holding.{is_list, is_object, Extends, Laid, Left, Gathered, Holds}
use Rattle.policy.specs.Statements.{statements_of, HoldablePolicy}
use Rattle.parts.specs.declared.members.Layout.TheVariants as L
use Rattle.parts.proofs.Laws.Holding.{never}
use Rattle.parts.proofs.Laws.Extends.{extends_front}
use Rattle.parts.proofs.Laws.Formed.{then_wrong, then_read, left_then}
use Rattle.parts.proofs.Laws.Several.{one_is, one_left, is_object_lem, object_stands}
use Rattle.parts.proofs.Laws.Sofar.{held_one}
use Rattle.parts.proofs.Laws.Fits.{then_inv, only_inv, cons_inv}
use Rattle.policy.proofs.Laws.StatementsRead.{pick_no, pick_wrong, pick_yes}

-- ---- one statement

pub single_left : {run run' : List ℕ} (t : Json) → is_list (kind_of t) ≡ false → Left run run' (statement_of t)
    → Left run run' (statements_of t)
single_left t e l = left_then (differing same_sid) (one_left held_statement statement_of t e l)

one_apart : (x : Statement) → differ same_sid (x ∷ []) ≡ true
unfolding differ has_like
one_apart x = refl

pub single_laid :
    {run run' : List ℕ} {p : ℕ} (t : Json) → is_list (kind_of t) ≡ false → 0 < length run
    → Laid held_statement run run' 1 (statement_of t) p → Laid held run (set run' 0 1) 0 (statements_of t) p
unfolding held
single_laid {run} {run'} {p} t e low d =
    record {
      thing = d.thing ∷ [];
      said = then_read (differing same_sid)
          (one_is held_statement statement_of t e ∙ ap (λ x. cons x (read [])) d.said)
          ∙ ap (λ (b : Bool). only b (d.thing ∷ [])) (one_apart d.thing);
      extends = subst (λ (l : List ℕ). Extends run (set run' 0 1) 0 (1 ∷ l) p) (sym (held_one held_statement d.thing))
          (extends_front 1 low d.extends);
    }

-- ---- a list

-- the statements of a list, if no two have the same Sid
abbrev pub apart_of : Values → Reading (List Statement)
apart_of ts = then (each statement_of ts) (differing same_sid)

apart_some : (ts : Values) (xs : List Statement) → apart_of ts ≡ read xs → (length xs ≡ 0 → ⊥)
    → then (some statement_of ts) (differing same_sid) ≡ read xs
unfolding some each differ
apart_some no_more xs e n = absurd (n (sym (let y : [] ≡ xs = cc in ap length y)))
apart_some (also t ts) xs e n = e

apart_none : (ts : Values) (xs : List Statement) → apart_of ts ≡ read xs → length xs ≡ 0
    → then (some statement_of ts) (differing same_sid) ≡ wrong
unfolding some each
apart_none no_more xs e n = refl
apart_none (also t ts) xs e n =
    let i = then_inv (cons (statement_of t) (each statement_of ts)) (differing same_sid) e in
    let c = cons_inv (statement_of t) (each statement_of ts) i.said in
    let q = only_inv (differ same_sid i.thing) i.next in
    absurd (omega (arith, n, ap length q, ap length c.is))

apart_wrongly : (ts : Values) → apart_of ts ≡ wrong → then (some statement_of ts) (differing same_sid) ≡ wrong
unfolding some each
apart_wrongly no_more e = refl
apart_wrongly (also t ts) e = e

module _ {t : Json} {ts : Values} (l : t ≡ list ts) where
  several_is : statements_of t ≡ then (some statement_of ts) (differing same_sid)
  unfolding one_or_more
  several_is = ap statements_of l

  pub several_left : {run run' : List ℕ} → Left run run' (apart_of ts) → Left run run' (statements_of t)
  several_left w = record { size = w.size; said = several_is ∙ apart_wrongly ts w.said }

  pub several_none : {run run' : List ℕ} {at p n : ℕ} → n ≡ 0 → Gathered held_statement run run' at (apart_of ts) p n
      → Left run run' (statements_of t)
  several_none e g =
      record { size = g.extends.size; said = several_is ∙ apart_none ts g.things g.said (sym g.count ∙ e) }

  pub several_laid :
      {run run' : List ℕ} {p n : ℕ} → (n ≡ 0 → ⊥) → 0 < length run
      → Gathered held_statement run run' 1 (apart_of ts) p n → Laid held run (set run' 0 n) 0 (statements_of t) p
  unfolding held
  several_laid {run} {run'} {p} {n} z low g =
      record {
        thing = g.things;
        said = several_is ∙ apart_some ts g.things g.said (λ k. z (g.count ∙ k));
        extends = subst (λ (k : ℕ). Extends run (set run' 0 n) 0 (k ∷ held_each held_statement g.things) p) g.count
            (extends_front n low g.extends);
      }

-- ---- only an object is a policy

pub policy_not : (t : Json) → is_object (kind_of t) ≡ false → policy_of t ≡ wrong
unfolding policy_of
policy_not null e = refl
policy_not (bool b) e = refl
policy_not (number w) e = refl
policy_not (string w) e = refl
policy_not (list ts) e = refl
policy_not (object ms) e = never (sym e)

-- an object has room for its members behind the number of statements
pub policy_holdable : {s : List ℕ} {v : ℕ} {run : List ℕ} (p : HoldablePolicy s v run)
    → is_object (kind_of p.what) ≡ true → HoldableObject s v run 1
unfolding cost
policy_holdable {s} {v} {run} p h =
    let a = is_object_lem p.what h in
    let c : cost p.what ≡ 2 + costm a.inside = ap cost a.is in
    record {
      what = a.inside;
      stop = p.stop;
      is = object_stands p.is h;
      roomy = record { room = omega (arith, c, p.room); bounded = p.bounded };
    }

pub policy_alike :
    (run run' : List ℕ) (r : Option ℕ) (t : Json) (h : is_object (kind_of t) ≡ true)
    → Holds held run run' 0 (policy_of (object (is_object_lem t h).inside)) r → Holds held run run' 0 (policy_of t) r
policy_alike run run' r t h g =
    subst (λ (u : Json). Holds held run run' 0 (policy_of u) r) (sym (is_object_lem t h).is) g

-- ---- no policy

abbrev pub version_of : Json → Reading Json
version_of t = only (is_word edition_word t) t

module _ (ms : Members) where
  pub no_version : required version_of (slot version_word ms) ≡ wrong → policy_of (object ms) ≡ wrong
  unfolding policy_of policy_in
  no_version e = pick_wrong (known (words_of L.Policy) ms) (then_wrong _ e)

  both_said : (x : Slot)
      → then (required (one_or_more statement_of) x) (differing same_sid) ≡ required statements_of x
  both_said none = refl
  both_said many = refl
  both_said (one t) = refl

  pub no_statements : required statements_of (slot statement_word ms) ≡ wrong → policy_of (object ms) ≡ wrong
  unfolding policy_of policy_in
  no_statements e =
      pick_wrong (known (words_of L.Policy) ms) (by (required version_of (slot version_word ms)))
    where
      by : (x : Reading Json)
          → then x (λ v. then (required (one_or_more statement_of) (slot statement_word ms)) (λ p. differing same_sid p))
          ≡ wrong
      by wrong = refl
      by (read v) = both_said (slot statement_word ms) ∙ e

  unknown_none : known (words_of L.Policy) ms ≡ false → policy_of (object ms) ≡ wrong
  unfolding policy_of
  unknown_none e = pick_no (policy_in ms) e

  repeated_none : Repeated (words_of L.Policy) ms → policy_of (object ms) ≡ wrong
  repeated_none r = by r.turn r.among r.many_times
    where
      by : (k : ℕ) → Turn (words_of L.Policy) k → slot (word_at (words_of L.Policy) k) ms ≡ many
          → policy_of (object ms) ≡ wrong
      by zero k e = absurd (omega (arith, k.from))
      by (suc zero) k e = no_version (ap (required version_of) e)
      by (suc (suc zero)) k e = no_statements (ap (required statements_of) e)
      by (suc (suc (suc n))) k e = absurd (omega (arith, k.to))

  pub not_members : (known (words_of L.Policy) ms ≡ false) ⊎ Repeated (words_of L.Policy) ms
      → policy_of (object ms) ≡ wrong
  not_members f = ⊎_elim unknown_none repeated_none f

  -- ---- a policy

  pub policy_is :
      {u x : Json} → known (words_of L.Policy) ms ≡ true → slot version_word ms ≡ one u → is_word edition_word u ≡ true
      → slot statement_word ms ≡ one x → policy_of (object ms) ≡ statements_of x
  unfolding policy_of policy_in
  policy_is {u} {x} k v e y =
      pick_yes (policy_in ms) k
      ∙ then_read _ (ap (required version_of) v ∙ ap (λ (c : Bool). only c u) e)
      ∙ ap (λ (z : Slot). then (required (one_or_more statement_of) z) (differing same_sid)) y
