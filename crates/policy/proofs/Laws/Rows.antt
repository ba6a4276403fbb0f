-- Condition rows: a row from its key and its values, rows of one operator with different keys.
use mathlib.Core.Path.{◌≡◌, refl, ap, ◌∙◌, subst}
use mathlib.Core.Bool.{true, false}
use mathlib.Core.List.{List, [], ◌∷◌, ◌++◌}
use Prim.Native.Nat.{ℕ, ◌+◌, ◌≤◌, ◌<◌}
use native.Mathlib.Omega.{arith}
use lib.ListN.{length, set}
use Rattle.chars.specs.Base.{part}
use Rattle.text.specs.Json.{Json, object, Members}
use Rattle.text.specs.Contents.{Stands, Others, Continuing, Leads, Leader}
use Rattle.text.specs.declared.walk.Member.{Member}
use Rattle.text.specs.declared.walk.Member.TheVariants as M
use Rattle.syntax.specs.Policy.{Operator, Row}
use Rattle.syntax.specs.Forms.{Reading, read, is_key}
use Rattle.syntax.specs.Members.{then, characters, one_or_more, members, has_like, differ, differing}
use Rattle.syntax.specs.PolicyLayout.{key_of, value_of, row_of, same_row}
use Rattle.held.specs.Held.{held_text, held_each, held_list, held_value, held_row, operator_number}
use Rattle.parts.specs.Room.{HoldableMember, HoldableObject}
use Rattle.parts.specs.Holding.{Extends, Laid, Left, Gathered}
use Rattle.held.specs.Lying.{Lies, Lying, LyingMany}
use Rattle.parts.proofs.Laws.Extends.{extends_front, extends_then, extends_lies, extends_within}
use Rattle.parts.proofs.Laws.Formed.{then_wrong, then_read, left_then}
use Rattle.parts.proofs.Laws.Fits.{then_inv, only_inv, characters_few, row_fits_lem}
use Rattle.parts.proofs.Laws.Walking.{left_of}
use Rattle.parts.proofs.Laws.Differ.{differ_snoc, same_row_symmetric}
use Rattle.parts.proofs.Laws.Sofar.{snoc_length, sofar_same, twice_wrong, apart_read}
use Rattle.held.proofs.Laws.Runs.{lies_front}
use Rattle.policy.proofs.Laws.Collecting.{Collecting, collecting_start, whole_told, collecting_read, next}
use Rattle.policy.proofs.Laws.Collecting.{collecting_past}
use Rattle.policy.proofs.Laws.Collecting.{next_cost, next_members, next_member, next_continuing}
use Rattle.policy.proofs.Laws.Collecting.{next_wrong, collecting_more, collecting_less}

-- ---- a row

pub key_few : (w k : List ℕ) → key_of w ≡ read k → length k ≤ length w
unfolding key_of
key_few w k e =
    let i = then_inv (characters w) _ e in
    let q : i.thing ≡ k = only_inv (is_key i.thing) i.next in
    let z = ap length q in
    omega (arith, z, characters_few w i.thing i.said)

module _ (o : Operator) (w : List ℕ) (t : Json) where
  pub row_left : {run run' : List ℕ} → Left run run' (key_of w) → Left run run' (row_of o w t)
  unfolding row_of
  row_left l = left_then _ l

  module _ {run run₁ : List ℕ} (at : ℕ) {p : ℕ} (k : Laid held_text run run₁ (at + 1) (key_of w) p) where
    pub key_place : p ≤ at + 2 + length w
    key_place = omega (arith, k.extends.place, key_few w k.thing k.said)

    pub row_entries_left : {run' : List ℕ} → Left run₁ run' (one_or_more (value_of o) t) → Left run run' (row_of o w t)
    unfolding row_of
    row_entries_left l =
        record {
          size = l.size ∙ k.extends.size;
          said = then_read _ k.said ∙ then_wrong _ l.said;
        }

    pub row_laid :
        {run₂ : List ℕ} {q : ℕ} (n : ℕ) → n ≡ operator_number o → at < length run
        → Laid (held_list held_value) run₁ run₂ p (one_or_more (value_of o) t) q
        → Laid held_row run (set run₂ at n) at (row_of o w t) q
    unfolding row_of held_row
    row_laid {run₂} {q} n e low d =
        record {
          thing = record { operator = o; key = k.thing; entries = d.thing };
          said = then_read _ k.said ∙ then_read _ d.said;
          extends = subst (λ (i : ℕ). Extends run (set run₂ at n) at
              (i ∷ (held_text k.thing ++ held_list held_value d.thing)) q) e
              (extends_front n low (extends_then k.extends d.extends));
        }

-- ---- the rows of one operator

module _ (o : Operator) where
  abbrev rows_read : Members → Reading (List Row)
  rows_read ms = then (members (row_of o) ms) (differing same_row)

  -- held so far, with different keys
  pub record Apart (s : List ℕ) (v : ℕ) (run₀ : List ℕ) (at : ℕ) (run : List ℕ) (m : Member) (p n : ℕ) : Type 0 where
    pub rows : List Row
    pub going : Collecting held_row (row_of o) (row_fits_lem o) s v run₀ at run m p n rows
    pub count : n ≡ length rows
    pub apart : differ same_row rows ≡ true

  pub apart_start :
      {s : List ℕ} {v at : ℕ} {run : List ℕ} (p : HoldableObject s v run at) (m : Member)
      → Leads s v p.what p.stop m → Apart s v run at run m at 0
  unfolding differ
  apart_start p m c =
      record {
        rows = [];
        going = collecting_start held_row (row_of o) (row_fits_lem o) p m c;
        count = refl;
        apart = refl;
      }

  module _ {s : List ℕ} {v at : ℕ} {run₀ run : List ℕ} {m : Member} {p n : ℕ} (g : Apart s v run₀ at run m p n) where
    abbrev told : (P : Members → Type 0) → P g.going.whole → (ms : Members) (e : ℕ) → Stands s (object ms) v e → P
        ms
    told = whole_told held_row (row_of o) (row_fits_lem o) g.going

    pub apart_end :
        (q : ℕ) → m ≡ M.Past q → (ms : Members) (e : ℕ) → Stands s (object ms) v e
        → Gathered held_row run₀ run at (rows_read ms) p n
    apart_end q e =
        told (λ x. Gathered held_row run₀ run at (rows_read x) p n)
        (record {
          things = g.rows;
          said = apart_read same_row same_row_symmetric (members (row_of o) g.going.whole) g.rows
              (collecting_read held_row (row_of o) (row_fits_lem o) g.going q e) g.apart;
          count = g.count;
          extends = g.going.sofar.extends;
        })

    -- where it ends
    pub apart_past : (q : ℕ) → m ≡ M.Past q → (ms : Members) (e : ℕ) → Stands s (object ms) v e → q ≡ e
    apart_past = collecting_past held_row (row_of o) (row_fits_lem o) g.going

    module _ (a b i : ℕ) (q : m ≡ M.Named a b i) where
      abbrev pub here : Leader s g.going.low g.going.left g.going.stop a b i
      here = next held_row (row_of o) (row_fits_lem o) g.going a b i q

      pub here_member : HoldableMember s a b i run p
      here_member = next_member held_row (row_of o) (row_fits_lem o) g.going a b i q

      pub here_continuing : {e : ℕ} → e ≡ here.stop → Continuing s e
      here_continuing = next_continuing held_row (row_of o) (row_fits_lem o) g.going a b i q

      pub here_less :
          (m' : Member) (e : ℕ) → e ≡ here.stop → ((ms : Members) (y : ℕ) → Others s ms e y → Leads s e ms y m')
          → left_of s m' < left_of s m
      here_less = collecting_less held_row (row_of o) (row_fits_lem o) g.going a b i q

      pub apart_wrong :
          {run' : List ℕ} → Left run run' (row_of o (part s a b) here.head) → (ms : Members) (e : ℕ)
          → Stands s (object ms) v e → Left run₀ run' (rows_read ms)
      apart_wrong {run'} l =
          told (λ x. Left run₀ run' (rows_read x))
          (left_then (differing same_row) (next_wrong held_row (row_of o) (row_fits_lem o) g.going a b i q l))

      module _ {run' : List ℕ} {p' : ℕ} (d : Laid held_row run run' p (row_of o (part s a b) here.head) p') where
        all : Extends run₀ run' at (held_each held_row g.rows ++ held_row d.thing) p'
        all = extends_then g.going.sofar.extends d.extends

        -- the rows before it and the new row lie in the run
        pub rows_lie : Lies run' at (held_each held_row g.rows)
        rows_lie =
            lies_front (held_each held_row g.rows) (held_row d.thing)
            (extends_lies all g.going.sofar.starts g.going.sofar.bounded)

        pub row_lies : Lies run' p (held_row d.thing)
        row_lies =
            let x = g.going.sofar in
            extends_lies d.extends
            (omega (arith, extends_within x.extends x.starts))
            (omega (arith, x.bounded, x.extends.size))

        pub row_lying : (LyingMany held_row run' at n) × (Lying held_row run' p)
        row_lying = (
          record { things = g.rows; count = g.count; lies = rows_lie },
          record { thing = d.thing; lies = row_lies },
        )

        pub apart_size : length run' ≡ length run₀
        apart_size = all.size

        pub apart_twice :
            has_like same_row d.thing g.rows ≡ true → (ms : Members) (e : ℕ) → Stands s (object ms) v e
            → Left run₀ run' (rows_read ms)
        apart_twice l =
            told (λ x. Left run₀ run' (rows_read x))
            (record {
              size = apart_size;
              said = twice_wrong same_row same_row_symmetric (members (row_of o) g.going.whole)
                  (members (row_of o) here.tail) g.rows d.thing
                  (sofar_same held_row g.going.sofar (row_of o (part s a b) here.head)
                  (members (row_of o) here.tail)
                  (next_members held_row (row_of o) (row_fits_lem o) g.going a b i q) d.thing d.said) l;
            })

        pub apart_few : n + 1 ≤ 16384
        apart_few =
            let x = g.going.sofar in
            omega (arith, next_cost held_row (row_of o) (row_fits_lem o) g.going a b i q, x.few, x.bounded)

        pub apart_more :
            has_like same_row d.thing g.rows ≡ false → (m' : Member) (e : ℕ) → e ≡ here.stop
            → ((ms : Members) (y : ℕ) → Others s ms e y → Leads s e ms y m')
            → Apart s v run₀ at run' m' p' (n + 1)
        apart_more l m' e k c =
            record {
              rows = g.rows ++ (d.thing ∷ []);
              going = collecting_more held_row (row_of o) (row_fits_lem o) g.going a b i q d (omega arith) m' e k c;
              count = omega (arith, snoc_length g.rows d.thing, g.count);
              apart = differ_snoc same_row same_row_symmetric g.rows d.thing g.apart l;
            }
