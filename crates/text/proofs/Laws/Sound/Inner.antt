-- Lists and objects are found from their opening byte or a comma, given that every later piece is.
use mathlib.Core.Path.{◌≡◌, refl}
use mathlib.Core.List.{List, [], ◌∷◌, ◌++◌, append_assoc}
use Prim.Native.Nat.{ℕ, zero, suc, ◌+◌, ◌≤◌, ◌<◌}
use native.Mathlib.Omega.{arith}
use native.Mathlib.Decide.{ℕ_discrete}
use lib.ListN.{length, get_or}
use Rattle.chars.specs.Base.{At}
use Rattle.text.specs.Json.{Values, Members, no_more, no_members, list, object, depth, depths, depthm, rest, more}
use Rattle.text.specs.Json.{empty_list, some_list, close_list, comma_list, empty_object, some_object}
use Rattle.text.specs.Json.{close_object, comma_object}
use Rattle.text.specs.Machine.{Item, ws, value, first, next, before, inner, optional}
use Rattle.text.specs.Machine as M
use Rattle.text.specs.declared.scan.Shape.{Shape}
use Rattle.text.specs.declared.scan.Shape.TheVariants.{List as a_list, Object as an_object}
use Rattle.text.proofs.Laws.Reading.{sinks, alike}
use Rattle.text.proofs.Laws.Places.{Alive, alive_fall, alive_seq, alive_inside}
use Rattle.text.proofs.Laws.Taking.Items.{alive_takes, alive_refuses}
use Rattle.text.proofs.Laws.Taking.Spaces.{Spaced, alive_space}
use Rattle.text.proofs.Laws.Spaces.{space_low}
use Rattle.text.proofs.Laws.Moves.Values.{first_close, next_close, next_comma, next_not, value_opens}
use Rattle.text.proofs.Laws.Moves.Owing.{first_enters}
use Rattle.text.proofs.Laws.Sound.Finding.{Found, found, found_with, Value, Later}

-- behind an opening byte and white space: the closing byte, or what leads to a first inner value
data Opened (s : List ℕ) (sh : Shape) (n : ℕ) (ys : List Item) (j : ℕ) : Type 0 where
  empty : At s j (M.close sh) → Alive s ys (j + 1) → Opened s sh n ys j
  entered : j < length s → Alive s ((before sh ++ inner sh n) ++ ys) j → Opened s sh n ys j

behind_open : {s : List ℕ} {j : ℕ} (sh : Shape) (n : ℕ) (ys : List Item) → Alive s (first sh n ∷ ys) j
    → Opened s sh n ys j
unfolding optional
behind_open {s} {j} sh n ys v =
    by (alive_inside (first sh n) ys refl v) (ℕ_discrete (get_or s j 0) (M.close sh))
  where
    enter : (get_or s j 0 ≡ M.close sh → ⊥) → (k : List Item)
        → M.feed (first sh n ∷ (ys ++ k)) (get_or s j 0) ≡ M.feed (((before sh ++ inner sh n) ++ ys) ++ k) (get_or s j 0)
    enter e k = rw (append_assoc (before sh ++ inner sh n) ys k) (first_enters (get_or s j 0) sh n e (ys ++ k))

    by : j < length s → Dec (get_or s j 0 ≡ M.close sh) → Opened s sh n ys j
    by h (yes e) =
        empty (record { inside = h; is = e }) (alive_takes (first sh n) ys v [] h (first_close (get_or s j 0) sh n e))
    by h (no e) =
        entered h (alive_seq v (alike (first sh n ∷ ys) ((before sh ++ inner sh n) ++ ys) h (enter e)))

-- an opening byte takes one of the levels
behind_value : {s : List ℕ} {i : ℕ} (sh : Shape) (n : ℕ) (ys : List Item) → i < length s → get_or s i 0 ≡ M.opener sh
    → Alive s (value (suc n) ∷ ys) i → Spaced s (first sh n ∷ ys) (i + 1)
behind_value {s} {i} sh n ys h e v =
    alive_space (first sh n ∷ ys)
    (alive_takes (value (suc n)) ys v (ws ∷ first sh n ∷ []) h (value_opens (get_or s i 0) (suc n) sh e))

no_level : {s : List ℕ} {i : ℕ} (sh : Shape) (ys : List Item) → i < length s → get_or s i 0 ≡ M.opener sh
    → Alive s (value 0 ∷ ys) i → ⊥
no_level {s} {i} sh ys h e v = alive_fall v (sinks (value 0) ys h (value_opens (get_or s i 0) 0 sh e))

pub list_value : {s : List ℕ} {i : ℕ} (n : ℕ) (ys : List Item) → Later s i → i < length s → get_or s i 0 ≡ 91
    → Alive s (value n ∷ ys) i → Value s n ys i
unfolding depth
list_value zero ys on h e v = absurd (no_level a_list ys h e v)
list_value {s} {i} (suc n) ys on h e v =
    let w = behind_value a_list n ys h e v in by w (space_low w.space) (behind_open a_list n ys w.next)
  where
    o : At s i 91
    o = record { inside = h; is = e }

    by : (w : Spaced s (first a_list n ∷ ys) (i + 1)) → i + 1 ≤ w.stop → Opened s a_list n ys w.stop
        → Value s (suc n) ys i
    by w l (empty p a) = found (list no_more) (w.stop + 1) (empty_list o w.space p) (omega arith) (omega arith) a
    by w l (entered g a) =
        let r = (on w.stop (omega arith) (omega arith)).elements_at n ys a in
        let d = r.shallow in
        found_with r (list r.what) (some_list o w.space r.reads) (omega arith) (omega arith)

pub object_value : {s : List ℕ} {i : ℕ} (n : ℕ) (ys : List Item) → Later s i → i < length s → get_or s i 0 ≡ 123
    → Alive s (value n ∷ ys) i → Value s n ys i
unfolding depth
object_value zero ys on h e v = absurd (no_level an_object ys h e v)
object_value {s} {i} (suc n) ys on h e v =
    let w = behind_value an_object n ys h e v in by w (space_low w.space) (behind_open an_object n ys w.next)
  where
    o : At s i 123
    o = record { inside = h; is = e }

    by : (w : Spaced s (first an_object n ∷ ys) (i + 1)) → i + 1 ≤ w.stop → Opened s an_object n ys w.stop
        → Value s (suc n) ys i
    by w l (empty p a) =
        found (object no_members) (w.stop + 1) (empty_object o w.space p) (omega arith) (omega arith) a
    by w l (entered g a) =
        let r = (on w.stop (omega arith) (omega arith)).members_at n ys a in
        let d = r.shallow in
        found_with r (object r.what) (some_object o w.space r.reads) (omega arith) (omega arith)

-- behind an inner value and white space: the closing byte, or a comma and what leads to another
data Onward (s : List ℕ) (sh : Shape) (n : ℕ) (ys : List Item) (j : ℕ) : Type 0 where
  closed : At s j (M.close sh) → Alive s ys (j + 1) → Onward s sh n ys j
  comma : At s j 44 → Spaced s ((before sh ++ inner sh n) ++ ys) (j + 1) → Onward s sh n ys j

behind_inner : {s : List ℕ} {j : ℕ} (sh : Shape) (n : ℕ) (ys : List Item) → Alive s (next sh n ∷ ys) j
    → Onward s sh n ys j
unfolding optional
behind_inner {s} {j} sh n ys v =
    by (alive_inside (next sh n) ys refl v) (ℕ_discrete (get_or s j 0) (M.close sh)) (ℕ_discrete (get_or s j 0) 44)
  where
    by : j < length s → Dec (get_or s j 0 ≡ M.close sh) → Dec (get_or s j 0 ≡ 44) → Onward s sh n ys j
    by h (yes e) d =
        closed (record { inside = h; is = e }) (alive_takes (next sh n) ys v [] h (next_close (get_or s j 0) sh n e))
    by h (no e) (yes d) =
        let a = alive_takes (next sh n) ys v (ws ∷ (before sh ++ inner sh n)) h (next_comma (get_or s j 0) sh n d) in
        comma (record { inside = h; is = d }) (alive_space ((before sh ++ inner sh n) ++ ys) a)
    by h (no e) (no d) = absurd (alive_refuses (next sh n) ys v h (next_not (get_or s j 0) sh n e d))

pub rest_value : {s : List ℕ} {i : ℕ} (n : ℕ) (ys : List Item) → Later s i → Alive s (ws ∷ next a_list n ∷ ys) i
    → Found Values rest depths s n ys i
unfolding depth
rest_value {s} {i} n ys on v =
    let w = alive_space (next a_list n ∷ ys) v in by w (space_low w.space) (behind_inner a_list n ys w.next)
  where
    by : (w : Spaced s (next a_list n ∷ ys) i) → i ≤ w.stop → Onward s a_list n ys w.stop
        → Found Values rest depths s n ys i
    by w l (closed p a) = found no_more (w.stop + 1) (close_list w.space p) (omega arith) (omega arith) a
    by w l (comma p x) =
        let m = space_low x.space in
        let r = (on x.stop (omega arith) x.next.high).elements_at n ys x.next in
        found_with r r.what (comma_list w.space p x.space r.reads) r.shallow (omega arith)

pub more_value : {s : List ℕ} {i : ℕ} (n : ℕ) (ys : List Item) → Later s i → Alive s (ws ∷ next an_object n ∷ ys) i
    → Found Members more depthm s n ys i
unfolding depth
more_value {s} {i} n ys on v =
    let w = alive_space (next an_object n ∷ ys) v in by w (space_low w.space) (behind_inner an_object n ys w.next)
  where
    by : (w : Spaced s (next an_object n ∷ ys) i) → i ≤ w.stop → Onward s an_object n ys w.stop
        → Found Members more depthm s n ys i
    by w l (closed p a) = found no_members (w.stop + 1) (close_object w.space p) (omega arith) (omega arith) a
    by w l (comma p x) =
        let m = space_low x.space in
        let r = (on x.stop (omega arith) x.next.high).members_at n ys x.next in
        found_with r r.what (comma_object w.space p x.space r.reads) r.shallow (omega arith)
