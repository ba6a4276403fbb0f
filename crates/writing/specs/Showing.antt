-- Showing: what stands in the room that a result is written to before it is handed out.
--   Shows ws s           the sink's room begins with ws, which ends at its place; or ws is longer than the room, and
--                        the sink is over
--   Adds bs s t          whatever the sink showed as s, it shows as t with bs behind it, in the room that it was lent
--   Ends s t             the sink is over
--   Gives s r            r is what the sink shows, if it is not over
-- Pinned by: Laws/Showing (a sink that shows nothing yet, and what is added).
use Rattle.std.specs.Prelude.{◌≡◌, true, false, List, ◌++◌, ℕ, ◌≤◌, ◌<◌, length, Option, IfSome, MatchOption}
use Rattle.std.specs.Borrow.{Bor}
use Rattle.writing.specs.declared.sink.Sink.{Sink}

pub data Shows (ws : List ℕ) (s : Sink) : Type 0 where
  whole : s.over ≡ false → s.at ≡ length ws → (rest : List ℕ) → s.room.now ≡ ws ++ rest → Shows ws s
  over : s.over ≡ true → length s.room.now ≤ s.at → length s.room.now < length ws → Shows ws s

pub record Adds (bs : List ℕ) (s t : Sink) : Type 0 where
  pub lent : t.room.ghost_name ≡ s.room.ghost_name
  pub size : length t.room.now ≡ length s.room.now
  pub adds : (ws : List ℕ) → Shows ws s → Shows (ws ++ bs) t

pub record Ends (s t : Sink) : Type 0 where
  pub lent : t.room.ghost_name ≡ s.room.ghost_name
  pub room : t.room.now ≡ s.room.now
  pub place : t.at ≡ length s.room.now
  pub over : t.over ≡ true

pub record Gives (s : Sink) (r : Option (Bor (List ℕ))) : Type 0 where
  pub fits : IfSome r (λ bs. length bs.now ≤ length s.room.now)
  pub shown : (ws : List ℕ) → Shows ws s → MatchOption r (length s.room.now < length ws) (λ bs. bs.now ≡ ws)

-- the bytes that a sink has room for
abbrev pub size : Sink → ℕ
size s = length s.room.now
