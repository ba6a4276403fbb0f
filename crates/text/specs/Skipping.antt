-- How a walk over a whole text passes a list or an object: it counts brackets and passes strings whole.
-- Nothing here need be believed: Laws/Skipping proves that it ends where the list or object ends.
--   level b n        so many brackets are open behind the byte b, where n are open before it
--   Steps s i j      from place i the walk goes on at place j
--   Closes s n i e   where n brackets are open at place i, the last of them closes right before place e
--   Plain b          the byte b is no quote and opens and closes nothing
--   Idles s a i      from place a to place i nothing is opened or closed
use Rattle.std.specs.Prelude.{◌≡◌, List, [], ◌∷◌, ℕ, ◌+◌, ◌-◌, ◌≤◌, ◌<◌, eqb, length, get_or}
use Rattle.chars.specs.Base.{pick}
use Rattle.text.specs.Machine.{text}
use Rattle.text.specs.Reading.{Done}

unfoldable pub level : ℕ → ℕ → ℕ
level b n =
    pick (eqb b 91) (n + 1)
    (pick (eqb b 123) (n + 1)
    (pick (eqb b 93) (n - 1)
    (pick (eqb b 125) (n - 1) n)))

pub record Steps (s : List ℕ) (i j : ℕ) : Type 0 where
  pub quote : get_or s i 0 ≡ 34 → Done s (text ∷ []) (i + 1) j
  pub other : (get_or s i 0 ≡ 34 → ⊥) → j ≡ i + 1

pub data Closes (s : List ℕ) : ℕ → ℕ → ℕ → Type 0 where
  over : {e : ℕ} → Closes s 0 e e
  on : {n i j e : ℕ} → 0 < n → i < length s → Steps s i j → Closes s (level (get_or s i 0) n) j e → Closes s n i e

pub record Plain (b : ℕ) : Type 0 where
  pub keeps : (n : ℕ) → level b n ≡ n
  pub no_quote : b ≡ 34 → ⊥

pub record Idles (s : List ℕ) (a i : ℕ) : Type 0 where
  pub low : a ≤ i
  pub goes : (n e : ℕ) → 0 < n → Closes s n a e → Closes s n i e

-- ---- what the code asks

pub record Stepping (s : List ℕ) (i : ℕ) : Type 0 where
  pub inside : i < length s
  pub next : ℕ
  pub steps : Steps s i next

-- the byte at i, where `deep` brackets are open
pub record Counting (s : List ℕ) (i deep : ℕ) : Type 0 where
  pub inside : i < length s
  pub some : 0 < deep
  pub few : deep ≤ i

-- `deep` brackets are open at i, and they close
pub record Waiting (s : List ℕ) (i : ℕ) : Type 0 where
  pub deep : ℕ
  pub some : 0 < deep
  pub stop : ℕ
  pub closes : Closes s deep i stop

-- a list or an object is open behind place v
pub record Closing (s : List ℕ) (v : ℕ) : Type 0 where
  pub stop : ℕ
  pub closes : Closes s 1 (v + 1) stop
