-- Condition rows that are left, put one behind the other.
use mathlib.Core.Path.{◌≡◌, refl, sym, ap, ◌∙◌, subst}
use mathlib.Core.List.{List, [], ◌∷◌, ◌++◌, append_assoc}
use Prim.Native.Nat.{ℕ, ◌+◌, ◌*◌, ◌≤◌, ◌<◌}
use native.Mathlib.Omega.{arith}
use lib.ListN.{length, get_or, drop}
use Rattle.chars.specs.Written.{written_text}
use Rattle.syntax.specs.Policy.{Row}
use Rattle.held.specs.Held.{held_list, held_row, operator_number}
use Rattle.writing.specs.declared.sink.Sink.{Sink}
use Rattle.writing.specs.Showing.{Adds}
use Rattle.writing.specs.Bytes.{name, list_bytes, turning, row_bytes, rows_from}
use Rattle.writing.proofs.Laws.Showing.{adds_as, adds_then}
use Rattle.writing.proofs.Laws.Telling.{Telling, Tellings, Piece, list_told}
use Rattle.candidates.specs.Rows.{row_numbers}
use Rattle.refined.specs.Finishing.{behind, kept_rows}
use Rattle.refined.specs.Keeping.{from, Ready, Kept, row_values, kept_row}
use Rattle.refined.proofs.Laws.KeepingLists.{from_on, ready_front, ready_back, Turn, turn}

pub kept_rows_many : (xs : List Row) (ns : List ℕ) → length (kept_rows xs ns) ≡ length xs
unfolding kept_rows
kept_rows_many [] ns = refl
kept_rows_many (x ∷ xs) ns = omega (arith, kept_rows_many xs (behind x.entries ns))

-- ---- put one behind the other

pub row_adds :
    (r : Row) {t u w : Sink} {k : ℕ} → k ≡ operator_number r.operator → Adds (name (written_text r.key)) t u
    → Adds (list_bytes k r.entries) u w → Adds (row_bytes r) t w
unfolding row_bytes
row_adds r e a b = adds_then a (adds_as (ap (λ (k : ℕ). list_bytes k r.entries) e) b)

-- what is told of rows behind one of the operator k, row a of the room being the first one's
abbrev pub tell_rows : List ℕ → ℕ × ℕ → List Row → List ℕ
tell_rows room s xs = rows_from s.0 (kept_rows xs (from room s.1))

pub record RowsReady (room : List ℕ) (s : ℕ × ℕ) (xs : List Row) : Type 0 where
  pub ready : Ready room s.1 (row_values xs)

module _ {t : ℕ × ℕ → List Row → List ℕ} {run room : List ℕ} {u₀ u : Sink} {at s i p k a : ℕ}
    (y : Kept (held_list held_row) row_values run at room s)
    (w : Tellings held_row t (RowsReady room) (0, s) run (at + 1) u₀ (get_or run at 0) i p (k, a) u) where
  pub rows_told : Telling held_row t (RowsReady room) run (t (0, s) y.thing) u₀ (get_or run at 0) i p (k, a) u
  rows_told = list_told y.thing y.lies (record { ready = y.ready }) w

  pub rows_turn : i < get_or run at 0 → Turn held_row (RowsReady room (k, a)) run p
  rows_turn h = turn rows_told h

module _ {room : List ℕ} {k a : ℕ} {x : Row} {xs : List Row} (v : RowsReady room (k, a) (x ∷ xs)) where
  both_ready : Ready room a (x.entries ++ row_values xs)
  unfolding row_values
  both_ready = v.ready

  pub row_ready : Ready room a x.entries
  row_ready = ready_front x.entries (row_values xs) both_ready

  pub row_few : {m : ℕ} → m ≡ length x.entries → row_numbers * (a + m) ≤ length room
  row_few e = omega (arith, row_ready.enough, e)

  pub kept_row_piece :
      {run total : List ℕ} {u₀ u t z : Sink} {n i p q k' m : ℕ}
      (w : Telling held_row (tell_rows room) (RowsReady room) run total u₀ n i p (k, a) u)
      → q ≡ p + length (held_row x) → k' ≡ operator_number x.operator → m ≡ length x.entries
      → Adds (turning k k') u t → Adds (row_bytes (kept_row x (from room a))) t z → Piece w x xs q (k', a + m) z
  unfolding rows_from kept_rows
  kept_row_piece {k' = k'} {m = m} w far g e b c =
      let r = row_bytes (kept_row x (from room a)) in
      let on : drop (row_numbers * length x.entries) (from room a) ≡ from room (a + m)
      = from_on room a (length x.entries) ∙ ap (λ (z : ℕ). from room (a + z)) (sym e) in
      record {
        far = far;
        piece = turning k k' ++ r;
        adds = adds_then b c;
        tells = ap (λ (j : ℕ). turning k j ++ (r ++ rows_from j (kept_rows xs (behind x.entries (from room a)))))
            (sym g)
            ∙ ap (λ (l : List ℕ). turning k k' ++ (r ++ rows_from k' (kept_rows xs l))) on
            ∙ sym (append_assoc (turning k k') r (rows_from k' (kept_rows xs (from room (a + m)))));
        known = record {
          ready = subst (λ (z : ℕ). Ready room (a + z) (row_values xs)) (sym e)
              (ready_back x.entries (row_values xs) both_ready);
        };
      }
