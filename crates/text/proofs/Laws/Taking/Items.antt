-- An item owed at a place of a whole text takes its byte or is done, since a refusal would end the text.
use mathlib.Core.Path.{◌≡◌, refl}
use mathlib.Core.Bool.{true}
use mathlib.Core.List.{List, [], ◌∷◌, ◌++◌}
use Prim.Native.Nat.{ℕ, zero, suc, ◌+◌, ◌-◌, ◌≤◌, ◌<◌}
use native.Mathlib.Omega.{arith}
use native.Mathlib.Decide.{dec_lt, ℕ_discrete}
use lib.ListN.{length, get_or}
use Rattle.chars.specs.Base.{In, At}
use Rattle.text.specs.Json.{zero, Spelt}
use Rattle.text.specs.Machine.{Item, pass, bad, go, byte, range, move, optional}
use Rattle.text.proofs.Laws.Reading.{takes, refuses, passes, skips, alike}
use Rattle.text.proofs.Laws.Places.{Alive, alive_fall, alive_seq, alive_inside}
use Rattle.text.proofs.Laws.Parts.{spelt_none, spelt_cons, spelt_append}
use Rattle.text.proofs.Laws.Moves.Owing.{same_move}
use Rattle.text.proofs.Laws.Moves.Bytes.{byte_is, byte_not, range_is, range_over, range_under}

-- from the end of a text back to any place
go_back : (f : ℕ) (s : List ℕ) (P : ℕ → Type 0)
    → ((i : ℕ) → i ≤ length s → ((j : ℕ) → i < j → j ≤ length s → P j) → P i) → (i : ℕ) → i ≤ length s
    → length s - i ≤ f → P i
go_back zero s P step i h g = step i h (λ j l u. absurd (omega arith))
go_back (suc f) s P step i h g = step i h (λ j l u. go_back f s P step j u (omega arith))

pub from_end : (s : List ℕ) (P : ℕ → Type 0) → ((i : ℕ) → i ≤ length s → ((j : ℕ) → i < j → j ≤ length s → P j) → P i)
    → (i : ℕ) → i ≤ length s → P i
from_end s P step i h = go_back (length s) s P step i h (omega arith)

-- bytes of a kind stand at a place, and behind them the items ys are owed
pub record Took (P : List ℕ → Type 0) (s : List ℕ) (ys : List Item) (i : ℕ) : Type 0 where
  pub word : List ℕ
  pub stop : ℕ
  pub spelt : Spelt s word i stop
  pub good : P word
  pub next : Alive s ys stop

module _ {s : List ℕ} {i : ℕ} (x : Item) (ys : List Item) (v : Alive s (x ∷ ys) i) where
  pub alive_takes : (xs : List Item) → i < length s → move x (get_or s i 0) ≡ go xs → Alive s (xs ++ ys) (i + 1)
  alive_takes xs h e = alive_seq v (takes x ys xs h e)

  pub alive_passes : i < length s → move x (get_or s i 0) ≡ pass → Alive s ys i
  alive_passes h e = alive_seq v (passes x ys h e)

  pub alive_skips : (i < length s → ⊥) → optional x ≡ true → Alive s ys i
  alive_skips h e = alive_seq v (skips x ys (let z = v.high in omega arith) e)

  pub alive_refuses : i < length s → move x (get_or s i 0) ≡ bad → ⊥
  alive_refuses h e = alive_fall v (refuses x ys h e)

  -- nothing is taken
  pub took_none : {P : List ℕ → Type 0} → P [] → Alive s ys i → Took P s ys i
  took_none p a = record { word = []; stop = i; spelt = spelt_none v.high; good = p; next = a }

  -- another item that meets the byte alike
  pub alive_alike : (y : Item) → i < length s → move x (get_or s i 0) ≡ move y (get_or s i 0) → Alive s (y ∷ ys) i
  alive_alike y h e = alive_seq v (alike (x ∷ ys) (y ∷ ys) h (λ k. same_move (get_or s i 0) x y e (ys ++ k)))

pub here : (s : List ℕ) (i : ℕ) → i < length s → At s i (get_or s i 0)
here s i h = record { inside = h; is = refl }

-- a byte before what is taken, and before two runs of bytes
module _ {P Q : List ℕ → Type 0} {s : List ℕ} {ys : List Item} {i b : ℕ} (a : At s i b) where
  pub took_cons : (r : Took P s ys (i + 1)) → Q (b ∷ r.word) → Took Q s ys i
  took_cons r g =
      record { word = b ∷ r.word; stop = r.stop; spelt = spelt_cons a r.spelt; good = g; next = r.next }

  pub took_two : {R : List ℕ → Type 0} {zs : List Item} (p : Took P s zs (i + 1)) (q : Took Q s ys p.stop)
      → R (b ∷ (p.word ++ q.word)) → Took R s ys i
  took_two p q g =
      record {
        word = b ∷ (p.word ++ q.word);
        stop = q.stop;
        spelt = spelt_cons a (spelt_append p.spelt q.spelt);
        good = g;
        next = q.next;
      }

-- a byte that is due, by number and by range
pub record Due (s : List ℕ) (b : ℕ) (ys : List Item) (i : ℕ) : Type 0 where
  pub at : At s i b
  pub next : Alive s ys (i + 1)

pub alive_byte : {s : List ℕ} {i : ℕ} (b : ℕ) (ys : List Item) → Alive s (byte b ∷ ys) i → Due s b ys i
unfolding optional
alive_byte {s} {i} b ys v = by (alive_inside (byte b) ys refl v) (ℕ_discrete (get_or s i 0) b)
  where
    by : i < length s → Dec (get_or s i 0 ≡ b) → Due s b ys i
    by h (yes e) =
        record { at = record { inside = h; is = e }; next = alive_takes (byte b) ys v [] h (byte_is (get_or s i 0) b e) }
    by h (no e) = absurd (alive_refuses (byte b) ys v h (byte_not (get_or s i 0) b e))

pub record Ranged (lo hi : ℕ) (s : List ℕ) (ys : List Item) (i : ℕ) : Type 0 where
  pub byte : ℕ
  pub at : At s i byte
  pub good : In lo hi byte
  pub next : Alive s ys (i + 1)

pub alive_range : {s : List ℕ} {i : ℕ} (lo hi : ℕ) (ys : List Item) → Alive s (range lo hi ∷ ys) i → Ranged lo hi s ys i
unfolding optional
alive_range {s} {i} lo hi ys v =
    by (alive_inside (range lo hi) ys refl v) (dec_lt (get_or s i 0) lo) (dec_lt hi (get_or s i 0))
  where
    by : i < length s → Dec (get_or s i 0 < lo) → Dec (hi < get_or s i 0) → Ranged lo hi s ys i
    by h (yes p) d = absurd (alive_refuses (range lo hi) ys v h (range_under (get_or s i 0) lo hi p))
    by h (no p) (yes q) = absurd (alive_refuses (range lo hi) ys v h (range_over (get_or s i 0) lo hi q))
    by h (no p) (no q) =
        record {
          byte = get_or s i 0;
          at = here s i h;
          good = record { low = omega arith; high = omega arith };
          next = alive_takes (range lo hi) ys v [] h (range_is (get_or s i 0) lo hi (omega arith) (omega arith));
        }
