-- Lists of entries that are left: those that are put one behind the other, and the rows that are passed.
use mathlib.Core.Path.{◌≡◌, refl, sym, ap, ◌∙◌, subst}
use mathlib.Core.List.{List, [], ◌∷◌, ◌++◌, append-nil, append_assoc}
use Prim.Native.Nat.{ℕ, suc, ◌+◌, ◌-◌, ◌*◌, ◌≤◌, ◌<◌}
use native.Mathlib.Omega.{arith}
use lib.ListN.{length, get_or, take, drop, length-append}
use lib.Seq.{drop-drop}
use borrow.Rule.Slice.PartMut.{mid_of}
use Rattle.syntax.specs.Limits.{run_numbers}
use Rattle.syntax.specs.Policy.{Value}
use Rattle.held.specs.Held.{held_value, held_list}
use Rattle.held.specs.Lying.{Lies, Lying}
use Rattle.held.proofs.Laws.Runs.{lies_next, lies_short, list_long, value_long}
use Rattle.writing.specs.declared.sink.Sink.{Sink}
use Rattle.writing.specs.Showing.{Adds}
use Rattle.writing.specs.Bytes.{between, listed, entry_bytes}
use Rattle.writing.proofs.Laws.Showing.{adds_none, adds_then, adds_as}
use Rattle.writing.proofs.Laws.Telling.{Telling, Tellings, Piece, telling_now, list_told}
use Rattle.candidates.specs.Candidates.{Content, empty, holds}
use Rattle.candidates.specs.Entries.{refined}
use Rattle.candidates.specs.Rows.{row_numbers, content_of}
use Rattle.refined.specs.Finishing.{kept_by, kept}
use Rattle.refined.specs.Keeping.{from, Writ, WritRows, a_row, no_rows, Ready, Kept, Reaches, entries_of}
use Rattle.refined.proofs.Laws.KeepingEntries.{content_none, Holding}

-- ---- put behind others

pub listed_on :
    {A : Type 0} (f : A → List ℕ) (k : ℕ) (ys zs : List A)
    → listed f k (ys ++ zs) ≡ listed f k ys ++ listed f (k + length ys) zs
unfolding listed
listed_on f k [] zs = let e : k ≡ k + 0 = omega arith in ap (λ (m : ℕ). listed f m zs) e
listed_on f k (y ∷ ys) zs =
    let e : suc k + length ys ≡ k + suc (length ys) = omega arith in
    ap (λ (l : List ℕ). between k ++ (f y ++ l)) (listed_on f (suc k) ys zs
    ∙ ap (λ (m : ℕ). listed f (suc k) ys ++ listed f m zs) e)
    ∙ ap (λ (l : List ℕ). between k ++ l) (sym (append_assoc (f y) (listed f (suc k) ys) _))
    ∙ sym (append_assoc (between k) (f y ++ listed f (suc k) ys) _)

module _ {A : Type 0} (f : A → List ℕ) where
  pub reach_none :
      {ys : List A} {u : Sink} {k : ℕ} → ys ≡ [] → Reaches f ys k k u u
  unfolding listed
  reach_none {u = u} {k = k} e =
      record {
        adds = adds_as (ap (listed f k) (sym e)) (adds_none u);
        count = omega (arith, ap length e);
      }

  pub reach_one :
      {ys : List A} {v : A} {t u w : Sink} {k : ℕ} → ys ≡ v ∷ [] → Adds (between k) t u → Adds (f v) u w
      → Reaches f ys k (k + 1) t w
  unfolding listed
  reach_one {v = v} {k = k} e a b =
      record {
        adds = adds_as (ap (λ (l : List ℕ). between k ++ l) (sym (append-nil (f v))) ∙ ap (listed f k) (sym e))
            (adds_then a b);
        count = omega (arith, ap length e);
      }

module _ {f : Value → List ℕ} {t : Sink} {k : ℕ} where
  pub reaches_none :
      (xs : List ℕ) (x : Value) → get_or xs 0 0 ≡ 0
      → Reaches f (kept_by (content_of xs) x []) k k t t
  reaches_none xs x e = reach_none f (ap (λ (c : Content). kept_by c x []) (content_none xs e))

  pub reaches_held :
      {run xs : List ℕ} {u w : Sink} {e : ℕ} {x : Value} (y : Holding run e xs x) → Adds (between k) t u
      → Adds (f (refined y.held.entry y.held.candidate)) u w
      → Reaches f (kept_by (content_of xs) x []) k (k + 1) t w
  reaches_held {x = x} y a b =
      let c = y.held.candidate in
      reach_one f
      (ap (λ (d : Content). kept_by d x []) y.is ∙ ap (λ (z : Value). refined z c ∷ []) (sym y.same)) a b

-- one thing of a walk, of which ys are put
abbrev pub told : {A B : Type 0} → (B → List ℕ) → (ℕ → List A → List B) → ℕ × ℕ → List A → List ℕ
told f g s xs = listed f s.0 (g s.1 xs)

module _ {A B : Type 0} {h : A → List ℕ} (f : B → List ℕ) (g : ℕ → List A → List B) (P : ℕ × ℕ → List A → Type 0) where
  pub reached_piece :
      {run total : List ℕ} {s₀ s t : Sink} {n i p k j q j' r : ℕ} {ys : List B}
      (w : Telling h (told f g) P run total s₀ n i p (k, j) s) (x : A) (xs : List A) → q ≡ p + length (h x)
      → Reaches f ys k r s t → g j (x ∷ xs) ≡ ys ++ g j' xs → P (r, j') xs → Piece w x xs q (r, j') t
  reached_piece {k = k} {j' = j'} {r = r} {ys = ys} w x xs far y e v =
      record {
        far = far;
        piece = listed f k ys;
        adds = y.adds;
        tells = ap (listed f k) e ∙ listed_on f k ys (g j' xs)
            ∙ ap (λ (m : ℕ). listed f k ys ++ listed f m (g j' xs)) (sym y.count);
        known = v;
      }

-- the next thing of a walk, and those behind it
pub record Turn {A : Type 0} (h : A → List ℕ) (P : List A → Type 0) (run : List ℕ) (p : ℕ) : Type 0 where
  pub head : A
  pub tail : List A
  pub lies : Lies run p (h head)
  pub known : P (head ∷ tail)

pub turn_lying :
    {A : Type 0} {h : A → List ℕ} {P : List A → Type 0} {run : List ℕ} {p : ℕ} → Turn h P run p → Lying h run p
turn_lying y = record { thing = y.head; lies = y.lies }

pub turn :
    {A S : Type 0} {h : A → List ℕ} {t : S → List A → List ℕ} {P : S → List A → Type 0} {run total : List ℕ}
    {u₀ u : Sink} {n i p : ℕ} {s : S} → Telling h t P run total u₀ n i p s u → i < n → Turn h (P s) run p
turn w k = let y = telling_now w k in record { head = y.head; tail = y.tail; lies = y.lies; known = y.known }

-- ---- rows one behind the other

pub from_on : (room : List ℕ) (j m : ℕ) → drop (row_numbers * m) (from room j) ≡ from room (j + m)
from_on room j m =
    let e : row_numbers * j + row_numbers * m ≡ row_numbers * (j + m) = omega arith in
    drop-drop (row_numbers * m) (row_numbers * j) room ∙ ap (λ (k : ℕ). drop k room) e

pub from_next : (room : List ℕ) (j : ℕ) → drop row_numbers (from room j) ≡ from room (j + 1)
from_next room j = from_on room j 1

-- a row as the code cuts it out
abbrev pub cut : List ℕ → ℕ → List ℕ
cut room j = mid_of (j * 256) (j * 256 + 256 - j * 256) room

pub cut_is : (room : List ℕ) (j : ℕ) → cut room j ≡ take row_numbers (from room j)
cut_is room j =
    let n : j * 256 + 256 - j * 256 ≡ row_numbers = omega arith in
    let a : j * 256 ≡ row_numbers * j = omega arith in
    ap (λ (k : ℕ). take k (drop (j * 256) room)) n ∙ ap (λ (k : ℕ). take row_numbers (drop k room)) a

-- ---- rows that can be written, in parts

pub writ_head : {x : Value} {xs : List Value} {ns : List ℕ} → WritRows (x ∷ xs) ns → Writ x (take row_numbers ns)
writ_head (a_row w ws) = w

pub writ_tail : {x : Value} {xs : List Value} {ns : List ℕ} → WritRows (x ∷ xs) ns → WritRows xs (drop row_numbers ns)
writ_tail (a_row w ws) = ws

pub writ_front : (xs ys : List Value) {ns : List ℕ} → WritRows (xs ++ ys) ns → WritRows xs ns
writ_front [] ys w = no_rows
writ_front (x ∷ xs) ys w = a_row (writ_head w) (writ_front xs ys (writ_tail w))

pub writ_back :
    (xs ys : List Value) {ns : List ℕ} → WritRows (xs ++ ys) ns
    → WritRows ys (drop (row_numbers * length xs) ns)
writ_back [] ys w = w
writ_back (x ∷ xs) ys {ns} w =
    let e : row_numbers + row_numbers * length xs ≡ row_numbers * suc (length xs) = omega arith in
    subst (WritRows ys) (drop-drop (row_numbers * length xs) row_numbers ns ∙ ap (λ (k : ℕ). drop k ns) e)
    (writ_back xs ys (writ_tail w))

module _ {room : List ℕ} {j : ℕ} (xs ys : List Value) (r : Ready room j (xs ++ ys)) where
  pub ready_front : Ready room j xs
  ready_front =
      record {
        enough = omega (arith, r.enough, length-append xs ys);
        writ = writ_front xs ys r.writ;
      }

  pub ready_back : Ready room (j + length xs) ys
  ready_back =
      record {
        enough = omega (arith, r.enough, length-append xs ys);
        writ = subst (WritRows ys) (from_on room j (length xs)) (writ_back xs ys r.writ);
      }

-- ---- a list of entries

-- k others stand before those still to come, and row j is the first one's
pub record Waiting (room : List ℕ) (s : ℕ × ℕ) (xs : List Value) : Type 0 where
  pub ready : Ready room s.1 xs
  pub few : s.0 + length xs ≤ run_numbers

abbrev pub kept_from : List ℕ → ℕ → List Value → List Value
kept_from room j xs = kept xs (from room j)

abbrev pub tell_kept : ℕ → List ℕ → ℕ × ℕ → List Value → List ℕ
tell_kept kind room = told (entry_bytes kind) (kept_from room)

pub waiting_start :
    {run room : List ℕ} {at s : ℕ} (y : Kept (held_list held_value) entries_of run at room s) → Waiting room (0, s)
    y.thing
waiting_start y =
    record {
      ready = y.ready;
      few = omega (arith, list_long held_value value_long y.thing, lies_short (lies_next y.lies));
    }

module _ {t : ℕ × ℕ → List Value → List ℕ} {run room : List ℕ} {u₀ u : Sink} {at s i e k j : ℕ}
    (y : Kept (held_list held_value) entries_of run at room s)
    (w : Tellings held_value t (Waiting room) (0, s) run (at + 1) u₀ (get_or run at 0) i e (k, j) u) where
  pub kept_told : Telling held_value t (Waiting room) run (t (0, s) y.thing) u₀ (get_or run at 0) i e (k, j) u
  kept_told = list_told y.thing y.lies (waiting_start y) w

  pub kept_turn : i < get_or run at 0 → Turn held_value (Waiting room (k, j)) run e
  kept_turn h = turn kept_told h

module _ {room : List ℕ} {k j : ℕ} {x : Value} {xs : List Value} (v : Waiting room (k, j) (x ∷ xs)) where
  pub waiting_writ : Writ x (cut room j)
  waiting_writ = subst (Writ x) (sym (cut_is room j)) (writ_head v.ready.writ)

  pub waiting_few : k < run_numbers
  waiting_few = omega (arith, v.few)

  pub waiting_ends : j * 256 + 256 ≤ length room
  waiting_ends = omega (arith, v.ready.enough)

  waiting_next : (c : Content) (m : ℕ) → m ≡ k + length (kept_by c x []) → Waiting room (m, j + 1) xs
  waiting_next c m e =
      record {
        ready = record {
          enough = omega (arith, v.ready.enough);
          writ = subst (WritRows xs) (from_next room j) (writ_tail v.ready.writ);
        };
        few = omega (arith, v.few, e, at_most_one c);
      }
    where
      at_most_one : (c : Content) → length (kept_by c x []) ≤ 1
      at_most_one empty = omega arith
      at_most_one (holds d) = omega arith

  kept_next : kept_from room j (x ∷ xs) ≡ kept_by (content_of (cut room j)) x [] ++ kept_from room (j + 1) xs
  unfolding kept
  kept_next =
      ap (λ (l : List ℕ). kept_by (content_of l) x (kept xs (drop row_numbers (from room j)))) (sym (cut_is room j))
      ∙ ap (λ (l : List ℕ). kept_by (content_of (cut room j)) x (kept xs l)) (from_next room j)
      ∙ apart (content_of (cut room j)) (kept_from room (j + 1) xs)
    where
      apart : (c : Content) (zs : List Value) → kept_by c x zs ≡ kept_by c x [] ++ zs
      apart empty zs = refl
      apart (holds d) zs = refl

  pub kept_piece :
      (kind : ℕ) {run total : List ℕ} {u₀ u t : Sink} {n i p q r : ℕ}
      (w : Telling held_value (tell_kept kind room) (Waiting room) run total u₀ n i p (k, j) u)
      → q ≡ p + length (held_value x)
      → Reaches (entry_bytes kind) (kept_by (content_of (cut room j)) x []) k r u t → Piece w x xs q (r, j + 1) t
  kept_piece kind {r = r} w far y =
      reached_piece (entry_bytes kind) (kept_from room) (Waiting room) w x xs far y kept_next
      (waiting_next (content_of (cut room j)) r y.count)
