-- White space owed is the grammar's, from the end of the text back.
use mathlib.Core.Path.{◌≡◌, refl, sym, subst}
use mathlib.Core.Logic.{⊎_elim}
use mathlib.Core.List.{List, [], ◌∷◌}
use Prim.Native.Nat.{ℕ, ◌+◌, ◌≤◌, ◌<◌}
use native.Mathlib.Omega.{arith}
use native.Mathlib.Decide.{dec_lt, ℕ_discrete}
use lib.ListN.{length, get_or}
use Rattle.text.specs.Json.{White, tab, line_feed, carriage_return, space, Space, no_space, white}
use Rattle.text.specs.Machine.{Item, pass, ws, move, optional}
use Rattle.text.proofs.Laws.Places.{Alive}
use Rattle.text.proofs.Laws.Spaces.{white_moves}
use Rattle.text.proofs.Laws.Moves.Bytes.{ws_over, ws_under}
use Rattle.text.proofs.Laws.Taking.Items.{from_end, alive_takes, alive_passes, alive_skips, here}

pub record Spaced (s : List ℕ) (ys : List Item) (i : ℕ) : Type 0 where
  pub stop : ℕ
  pub space : Space s i stop
  pub next : Alive s ys stop

-- a byte is white space or passed as none
data WhiteOr (b : ℕ) : Type 0 where
  is_white : White b → WhiteOr b
  is_black : move ws b ≡ pass → WhiteOr b

white_or : (b : ℕ) → WhiteOr b
white_or b = by (ℕ_discrete b 9) (ℕ_discrete b 10) (ℕ_discrete b 13) (ℕ_discrete b 32) (dec_lt b 9)
  where
    by : Dec (b ≡ 9) → Dec (b ≡ 10) → Dec (b ≡ 13) → Dec (b ≡ 32) → Dec (b < 9) → WhiteOr b
    by (yes e) d f g l = is_white (subst White (sym e) tab)
    by (no c) (yes e) f g l = is_white (subst White (sym e) line_feed)
    by (no c) (no d) (yes e) g l = is_white (subst White (sym e) carriage_return)
    by (no c) (no d) (no f) (yes e) l = is_white (subst White (sym e) space)
    by (no c) (no d) (no f) (no g) (yes l) = is_black (ws_under b l (⊎_elim f g))
    by (no c) (no d) (no f) (no g) (no l) = is_black (ws_over b (omega arith) (⊎_elim f g))

space_step : {s : List ℕ} {i : ℕ} (ys : List Item) → Alive s (ws ∷ ys) i
    → ((j : ℕ) → i < j → j ≤ length s → Alive s (ws ∷ ys) j → Spaced s ys j) → Spaced s ys i
unfolding optional
space_step {s} {i} ys v on = by (dec_lt i (length s)) (white_or (get_or s i 0))
  where
    by : Dec (i < length s) → WhiteOr (get_or s i 0) → Spaced s ys i
    by (no h) w = record { stop = i; space = no_space v.high; next = alive_skips ws ys v h refl }
    by (yes h) (is_black m) = record { stop = i; space = no_space v.high; next = alive_passes ws ys v h m }
    by (yes h) (is_white w) =
        let r = on (i + 1) (omega arith) (omega arith) (alive_takes ws ys v (ws ∷ []) h (white_moves w)) in
        record { stop = r.stop; space = white (here s i h) w r.space; next = r.next }

pub alive_space : {s : List ℕ} {i : ℕ} (ys : List Item) → Alive s (ws ∷ ys) i → Spaced s ys i
alive_space {s} {i} ys v =
    from_end s (λ j. Alive s (ws ∷ ys) j → Spaced s ys j) (λ j h on w. space_step ys w on) i v.high v
