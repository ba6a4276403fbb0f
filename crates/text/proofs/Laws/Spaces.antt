-- White space is passed up to the first byte that is none, so it ends at one place.
use mathlib.Core.Path.{◌≡◌, refl, sym, ap, ◌∙◌}
use mathlib.Core.List.{List, [], ◌∷◌}
use Prim.Native.Nat.{ℕ, ◌≤◌}
use native.Mathlib.Omega.{arith}
use lib.ListN.{length, get_or}
use Rattle.chars.specs.Base.{At, one_of}
use Rattle.text.specs.Json.{White, tab, line_feed, carriage_return, space, Space, no_space, white}
use Rattle.text.specs.Machine.{pass, go, ws, move, optional}
use Rattle.text.specs.Reading.{Done}
use Rattle.text.proofs.Laws.Reading.{seq, skips, takes_at, passes_at}
use Rattle.text.proofs.Laws.Places.{done_unique}

pub white_moves : {b : ℕ} → White b → move ws b ≡ go (ws ∷ [])
unfolding move one_of
white_moves tab = refl
white_moves line_feed = refl
white_moves carriage_return = refl
white_moves space = refl

-- all of it, before a byte that is none
pub space_done : {s : List ℕ} {i e b : ℕ} → Space s i e → At s e b → move ws b ≡ pass → Done s (ws ∷ []) i e
space_done (no_space h) p m = passes_at ws [] p m
space_done (white q v r) p m = seq (takes_at ws [] q (ws ∷ []) (white_moves v)) (space_done r p m)

-- all of it, to the end of the text
space_until : {s : List ℕ} {i e : ℕ} → Space s i e → e ≡ length s → Done s (ws ∷ []) i e
unfolding optional
space_until (no_space h) q = skips ws [] q refl
space_until (white p v r) q = seq (takes_at ws [] p (ws ∷ []) (white_moves v)) (space_until r q)

pub space_end : {s : List ℕ} {i : ℕ} → Space s i (length s) → Done s (ws ∷ []) i (length s)
space_end p = space_until p refl

pub space_low : {s : List ℕ} {i e : ℕ} → Space s i e → i ≤ e
space_low (no_space h) = omega arith
space_low (white p v r) = let z = space_low r in omega arith

-- white space ends at one place, before what is none
pub space_once : {s : List ℕ} {i j k b c : ℕ} → Space s i j → At s j b → move ws b ≡ pass → Space s i k → At s k c
    → move ws c ≡ pass → j ≡ k
space_once w p m x q n = done_unique (ws ∷ []) (space_done w p m) (space_done x q n)

-- white space behind a place, as the code finds it and as the grammar has it
pub space_is : {s : List ℕ} {i j k b : ℕ} → Done s (ws ∷ []) i j → Space s i k → At s k b → move ws b ≡ pass → k ≡ j
space_is d w p m = done_unique (ws ∷ []) (space_done w p m) d

-- behind white space stands one byte that is none
pub space_byte : {s : List ℕ} {i j k b c : ℕ} → Space s i j → At s j b → move ws b ≡ pass → Space s i k → At s k c
    → move ws c ≡ pass → b ≡ c
space_byte {s} w p m x q n = sym p.is ∙ ap (λ (l : ℕ). get_or s l 0) (space_once w p m x q n) ∙ q.is
