-- Tests of what is left: whether one of some rows holds something, and walks over things whose rows are passed.
use mathlib.Core.Path.{◌≡◌, refl, sym, ap, ◌∙◌}
use mathlib.Core.Bool.{Bool, true, false}
use mathlib.Core.List.{List, [], ◌∷◌}
use Prim.Native.Nat.{ℕ, zero, suc, ◌+◌, ◌-◌, ◌*◌, ◌≤◌, ◌<◌}
use native.Mathlib.Omega.{arith}
use lib.Dec.{eqb}
use lib.ListN.{length, get_or, take, drop, length-append}
use lib.Seq.{get_or-take, get_or-drop}
use borrow.Author.Tests.{eq-eqb, ne_eqb}
use Rattle.chars.specs.Base.{pick}
use Rattle.syntax.specs.Policy.{Value, Row}
use Rattle.held.specs.Held.{held_each, held_list}
use Rattle.syntax.specs.Forms.{both}
use Rattle.held.specs.Lying.{Lies, Lying}
use Rattle.held.proofs.Laws.Runs.{lies_first, lies_next}
use Rattle.held.proofs.Laws.Coming.{Coming, coming, coming_now, coming_lying, coming_next, coming_end}
use Rattle.candidates.specs.Candidates.{itself, single, under, up_to, empty, holds}
use Rattle.candidates.specs.Rows.{row_numbers, content_of, text_in, number_in}
use Rattle.refined.specs.Finishing.{kept_by, kept, has_some, behind, kept_rows, all_some}
use Rattle.refined.specs.Keeping.{from, row_values}
use Rattle.refined.proofs.Laws.KeepingLists.{from_on, from_next}

-- ---- does one of n rows hold something?

unfoldable pub any_held : ℕ → List ℕ → Bool
any_held zero ns = false
any_held (suc n) ns = pick (eqb (get_or ns 0 0) 0) (any_held n (drop row_numbers ns)) true

some_first :
    (ms : List ℕ) (x : Value) (zs : List Value)
    → has_some (kept_by (content_of ms) x zs) ≡ pick (eqb (get_or ms 0 0) 0) (has_some zs) true
unfolding content_of
some_first ms x zs = by (eqb (get_or ms 0 0) 0) (eqb (get_or ms 0 0) 1) (eqb (get_or ms 0 0) 2) (eqb (get_or ms 0 0) 3)
  where
    by : (a b c d : Bool)
        → has_some (kept_by (pick a empty (pick b (holds itself) (pick c (holds (single (text_in ms)))
        (pick d (holds (under (text_in ms))) (holds (up_to (number_in ms))))))) x zs) ≡ pick a (has_some zs) true
    by true b c d = refl
    by false true c d = refl
    by false false true d = refl
    by false false false true = refl
    by false false false false = refl

some_held : (xs : List Value) (ns : List ℕ) → has_some (kept xs ns) ≡ any_held (length xs) ns
unfolding kept any_held
some_held [] ns = refl
some_held (x ∷ xs) ns =
    some_first (take row_numbers ns) x (kept xs (drop row_numbers ns))
    ∙ ap (λ (m : ℕ). pick (eqb m 0) (has_some (kept xs (drop row_numbers ns))) true)
    (get_or-take row_numbers ns 0 0 (omega arith))
    ∙ ap (λ (b : Bool). pick (eqb (get_or ns 0 0) 0) b true) (some_held xs (drop row_numbers ns))

-- of n rows from row s on i are empty, and row j comes next
pub record Seeking (room : List ℕ) (s n i j : ℕ) : Type 0 where
  pub place : j ≡ s + i
  pub few : i ≤ n
  pub same : any_held (n - i) (from room j) ≡ any_held n (from room s)

pub seeking_start : (room : List ℕ) (s n : ℕ) → Seeking room s n 0 s
seeking_start room s n =
    let e : n - 0 ≡ n = omega arith in
    record { place = omega arith; few = omega arith; same = ap (λ (m : ℕ). any_held m (from room s)) e }

module _ {room : List ℕ} {s n i j : ℕ} (w : Seeking room s n i j) where
  first_is : get_or room (j * 256) 0 ≡ get_or (from room j) 0 0
  first_is =
      let e : j * 256 ≡ row_numbers * j + 0 = omega arith in
      ap (λ (k : ℕ). get_or room k 0) e ∙ sym (get_or-drop (row_numbers * j) room 0 0)

  seek : i < n
      → pick (eqb (get_or room (j * 256) 0) 0) (any_held (n - (i + 1)) (from room (j + 1))) true ≡ any_held n (from room s)
  unfolding any_held
  seek h =
      let e : suc (n - (i + 1)) ≡ n - i = omega (arith, h) in
      ap (λ (m : ℕ). pick (eqb m 0) (any_held (n - (i + 1)) (from room (j + 1))) true) first_is
      ∙ ap (λ (l : List ℕ). pick (eqb (get_or (from room j) 0 0) 0) (any_held (n - (i + 1)) l) true)
      (sym (from_next room j))
      ∙ ap (λ (m : ℕ). any_held m (from room j)) e ∙ w.same

  pub seeking_next : i < n → get_or room (j * 256) 0 ≡ 0 → Seeking room s n (i + 1) (j + 1)
  seeking_next h e =
      record {
        place = omega (arith, w.place);
        few = omega arith;
        same = ap (λ (b : Bool). pick b (any_held (n - (i + 1)) (from room (j + 1))) true)
            (sym (eq-eqb (get_or room (j * 256) 0) 0 e)) ∙ seek h;
      }

  module _ (xs : List Value) (count : n ≡ length xs) where
    told_some : any_held n (from room s) ≡ has_some (kept xs (from room s))
    told_some = ap (λ (m : ℕ). any_held m (from room s)) count ∙ sym (some_held xs (from room s))

    pub seeking_found : i < n → (get_or room (j * 256) 0 ≡ 0 → ⊥) → true ≡ has_some (kept xs (from room s))
    seeking_found h e =
        ap (λ (b : Bool). pick b (any_held (n - (i + 1)) (from room (j + 1))) true)
        (sym (ne_eqb (get_or room (j * 256) 0) 0 e)) ∙ seek h ∙ told_some

    pub seeking_none : n ≤ i → false ≡ has_some (kept xs (from room s))
    unfolding any_held
    seeking_none h =
        let e : 0 ≡ n - i = omega arith in
        ap (λ (m : ℕ). any_held m (from room j)) e ∙ w.same ∙ told_some

-- ---- tests of things whose rows are passed

module _ {A : Type 0} (h : A → List ℕ) (values : List A → List Value) (test : List A → List ℕ → Bool)
    (run room : List ℕ) where
  abbrev pub seen : ℕ → List A → Bool × ℕ
  seen a xs = (test xs (from room a), a + length (values xs))

  -- of all n things i are passed, and row a is the next one's, s being the first one's: what the test tells of all is
  -- what it tells of those to come, and all have rows up to where those do
  pub record Looking (s : ℕ) (all : List A) (n i p a : ℕ) : Type 0 where
    pub coming : Coming h run n i p (seen a) (seen s all)

-- whichever n things lie there
abbrev pub Lookings :
    {A : Type 0} → (A → List ℕ) → (List A → List Value) → (List A → List ℕ → Bool) → (run room : List ℕ)
    (at s n i p a : ℕ) → Type 0
Lookings {A} h values test run room at s n i p a =
    (all : List A) → n ≡ length all → Lies run at (held_each h all)
    → Looking h values test run room s all n i p a

module _ {A : Type 0} {h : A → List ℕ} {values : List A → List Value} {test : List A → List ℕ → Bool}
    {run room : List ℕ} where
  pub looking_start :
      {n p a : ℕ} (all : List A) → n ≡ length all → Lies run p (held_each h all)
      → Looking h values test run room a all n 0 p a
  looking_start all c l = record { coming = coming all c l }

  -- of a list, behind its number
  pub list_looked :
      {at s i p a : ℕ} (xs : List A) → Lies run at (held_list h xs)
      → Lookings h values test run room (at + 1) s (get_or run at 0) i p a
      → Looking h values test run room s xs (get_or run at 0) i p a
  list_looked xs l w = w xs (lies_first l) (lies_next l)

  module _ {s n i p a : ℕ} {all : List A} (w : Looking h values test run room s all n i p a) where
    -- the next thing and those behind it have rows
    pub record Sight : Type 0 where
      pub head : A
      pub tail : List A
      pub lies : Lies run p (h head)
      pub enough : row_numbers * (a + length (values (head ∷ tail))) ≤ length room

    pub sight : row_numbers * (s + length (values all)) ≤ length room → i < n → Sight
    sight few t =
        let y = coming_now w.coming t in
        record {
          head = y.head;
          tail = y.tail;
          lies = y.lies;
          enough = omega (arith, few, ap (λ (z : Bool × ℕ). z.1) y.same);
        }

    pub looking_lying : i < n → Lying h run p
    looking_lying t = coming_lying w.coming t

    pub looking_decided :
        i < n → (v : Bool) → ((x : A) (xs : List A) → Lies run p (h x) → test (x ∷ xs) (from room a) ≡ v)
        → v ≡ test all (from room s)
    looking_decided t v f =
        let y = coming_now w.coming t in
        sym (f y.head y.tail y.lies) ∙ ap (λ (z : Bool × ℕ). z.0) y.same

    pub looking_next :
        i < n → (q m : ℕ) → ((x : A) → Lies run p (h x) → q ≡ p + length (h x))
        → ((x : A) (xs : List A) → Lies run p (h x) → test (x ∷ xs) (from room a) ≡ test xs (from room (a + m)))
        → ((x : A) (xs : List A) → Lies run p (h x) → length (values (x ∷ xs)) ≡ m + length (values xs))
        → Looking h values test run room s all n (i + 1) q (a + m)
    looking_next t q m far f c =
        record {
          coming = coming_next w.coming t q (seen h values test run room (a + m)) far
              (λ x l xs. let e : a + length (values (x ∷ xs)) ≡ a + m + length (values xs) = omega (arith, c x xs l) in
              ap (λ (u : Bool). (u, a + length (values (x ∷ xs)))) (f x xs l)
              ∙ ap (λ (k : ℕ). (test xs (from room (a + m)), k)) e);
        }

    pub looking_end : n ≤ i → test [] (from room a) ≡ test all (from room s)
    looking_end t = ap (λ (z : Bool × ℕ). z.0) (coming_end w.coming t)

    pub looking_many : n ≤ i → a + length (values []) ≡ s + length (values all)
    looking_many t = ap (λ (z : Bool × ℕ). z.1) (coming_end w.coming t)

-- ---- has each row an entry left?

abbrev pub rows_test : List Row → List ℕ → Bool
rows_test xs ns = all_some (kept_rows xs ns)

pub rows_count :
    (x : Row) (xs : List Row) {m : ℕ} → m ≡ length x.entries
    → length (row_values (x ∷ xs)) ≡ m + length (row_values xs)
unfolding row_values
rows_count x xs e = omega (arith, length-append x.entries (row_values xs), e)

pub rows_none :
    (ns : List ℕ) (x : Row) (xs : List Row) {b : Bool} → b ≡ has_some (kept x.entries ns) → b ≡ false
    → rows_test (x ∷ xs) ns ≡ false
unfolding kept_rows all_some
rows_none ns x xs e f = ap (λ (t : Bool). both t (rows_test xs (behind x.entries ns))) (sym e ∙ f)

module _ (room : List ℕ) (a : ℕ) (x : Row) (xs : List Row) where
  rows_first :
      (m : ℕ) → m ≡ length x.entries
      → rows_test (x ∷ xs) (from room a)
      ≡ both (has_some (kept x.entries (from room a))) (rows_test xs (from room (a + m)))
  unfolding kept_rows all_some
  rows_first m e =
      ap (λ (l : List ℕ). both (has_some (kept x.entries (from room a))) (all_some (kept_rows xs l)))
      (from_on room a (length x.entries) ∙ ap (λ (z : ℕ). from room (a + z)) (sym e))

  pub rows_on :
      {b : Bool} {m : ℕ} → m ≡ length x.entries → b ≡ has_some (kept x.entries (from room a)) → b ≡ true
      → rows_test (x ∷ xs) (from room a) ≡ rows_test xs (from room (a + m))
  rows_on {m = m} g e f =
      rows_first m g ∙ ap (λ (t : Bool). both t (rows_test xs (from room (a + m)))) (sym e ∙ f)
