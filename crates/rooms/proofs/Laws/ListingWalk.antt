-- A walk over things that lie in a run, the entries of each noted behind those of the things before it.
use mathlib.Core.Path.{◌≡◌, refl, sym, ap, ◌∙◌, subst}
use mathlib.Core.List.{List, [], ◌∷◌, ◌++◌, append-nil, append_assoc}
use Prim.Native.Nat.{ℕ, ◌+◌, ◌≤◌, ◌<◌}
use native.Mathlib.Omega.{arith}
use lib.ListN.{length, set, take, length-append, length-set}
use lib.Seq.{take-suc-set}
use native.Mathlib.Numerals.{add-one}
use Rattle.held.specs.Held.{held_each, held_list}
use Rattle.held.specs.Lying.{Lies, Lying}
use Rattle.held.proofs.Laws.Coming.{Coming, coming, coming_now, coming_lying, coming_end}
use Rattle.decision.specs.Decision.{Found}
use Rattle.rooms.specs.Rooms.{Slot}
use Rattle.rooms.specs.Listing.{Notes, Told, all_told, one_told}
use Rattle.rooms.specs.declared.listing.Note.{Note}
use Rattle.rooms.specs.Listing.{Lists, ListsTo, Listable}
use Rattle.rooms.specs.declared.listing.Noted.{Noted}

-- ---- one behind another

pub told_append :
    {run at : List ℕ} {xs ys : List Note} {ss ts : List Slot} {fs gs : List Found}
    → Told run at xs ss fs → Told run at ys ts gs → Told run at (xs ++ ys) (ss ++ ts) (fs ++ gs)
told_append all_told u = u
told_append (one_told n t) u = one_told n (told_append t u)

pub lists_none : (run at : List ℕ) (dir : List Note) (o : ℕ) → Lists run at [] [] dir o o dir
lists_none run at dir o =
    record { notes = []; told = all_told; size = refl; next = omega arith; is = sym (append-nil (take o dir)) }

pub lists_then :
    {run at : List ℕ} {dir mid after : List Note} {ss ts : List Slot} {fs gs : List Found} {o m r : ℕ}
    → Lists run at ss fs dir o m mid → Lists run at ts gs mid m r after
    → Lists run at (ss ++ ts) (fs ++ gs) dir o r after
lists_then {dir = dir} {ss = ss} {ts = ts} {o = o} x y =
    record {
      notes = x.notes ++ y.notes;
      told = told_append x.told y.told;
      size = y.size ∙ x.size;
      next = omega (arith, x.next, y.next, length-append ss ts);
      is = y.is ∙ ap (λ (l : List Note). l ++ y.notes) x.is ∙ append_assoc (take o dir) x.notes y.notes;
    }

pub lists_as :
    {run at : List ℕ} {dir after : List Note} {ss ts : List Slot} {fs gs : List Found} {o r : ℕ} → ss ≡ ts → fs ≡ gs
    → Lists run at ss fs dir o r after → Lists run at ts gs dir o r after
lists_as {run} {at} {dir} {after} {ss} {ts} {fs} {gs} {o} {r} e f x =
    subst (λ (l : List Found). Lists run at ts l dir o r after) f
    (subst (λ (l : List Slot). Lists run at l fs dir o r after) e x)

pub lists_ending :
    {run at : List ℕ} {dir after : List Note} {ss : List Slot} {fs : List Found} {o e f : ℕ} {g : Noted} → e ≡ f
    → ListsTo run at ss fs dir o after e g → ListsTo run at ss fs dir o after f g
lists_ending e x = record { lists = x.lists; past = x.past ∙ e }

pub lists_charged :
    {run at : List ℕ} {dir after : List Note} {ss : List Slot} {fs gs : List Found} {o e : ℕ} {g : Noted} → fs ≡ gs
    → ListsTo run at ss fs dir o after e g → ListsTo run at ss gs dir o after e g
lists_charged f x = record { lists = lists_as refl f x.lists; past = x.past }

-- of a list, behind its number
pub list_ending :
    {A : Type 0} (h : A → List ℕ) (xs : List A) (p : ℕ) {run at : List ℕ} {dir after : List Note} {ss : List Slot} {fs : List Found}
    {o : ℕ} {g : Noted} → ListsTo run at ss fs dir o after (p + 1 + length (held_each h xs)) g
    → ListsTo run at ss fs dir o after (p + length (held_list h xs)) g
list_ending h xs p x = lists_ending (omega arith) x

-- the note of one slot
pub lists_one :
    {run at : List ℕ} {dir : List Note} {o : ℕ} (x : Note) {s : Slot} {f : Found} → Notes run at x s f → o < length dir
    → Lists run at (s ∷ []) (f ∷ []) dir o (o + 1) (set dir o x)
lists_one {dir = dir} {o = o} x n h =
    record {
      notes = x ∷ [];
      told = one_told n all_told;
      size = length-set dir o x;
      next = refl;
      is = ap (λ (k : ℕ). take k (set dir o x)) (add-one o) ∙ take-suc-set dir o x h;
    }

-- ---- a walk

-- Of n things i are passed and the others lie from p on, up to the place `ends`. What is noted since dir₀ and o₀, and
-- behind it the slots of the things still to come, are all.
module _ {A : Type 0} (h : A → List ℕ) (ss : List A → List Slot) (fs : List A → List Found) (run at : List ℕ)
    (dir₀ : List Note) (o₀ : ℕ) where
  pub record Walk (all : List Slot) (told : List Found) (ends n i p : ℕ) (dir : List Note) (o : ℕ) : Type 0 where
    pub passed : List Slot
    pub values : List Found
    pub lists : Lists run at passed values dir₀ o₀ o dir
    pub coming : Coming {B = List Slot × List Found × ℕ} h run n i p
        (λ xs. (passed ++ ss xs, values ++ fs xs, p + length (held_each h xs))) (all, told, ends)

same_parts :
    {ss ts : List Slot} {fs gs : List Found} {n m : ℕ} → ss ≡ ts → fs ≡ gs → n ≡ m
    → ◌≡◌ {A = List Slot × List Found × ℕ} (ss, fs, n) (ts, gs, m)
same_parts {ts = ts} {fs = fs} {gs = gs} {n = n} e f g =
    ap (λ (z : List Slot). (z, fs, n)) e ∙ ap (λ (z : List Found). (ts, z, n)) f ∙ ap (λ (z : ℕ). (ts, gs, z)) g

module _ {A : Type 0} {h : A → List ℕ} {ss : List A → List Slot} {fs : List A → List Found} {run at : List ℕ} where
  pub walk_start :
      {n p o : ℕ} {dir : List Note} (xs : List A) → n ≡ length xs → Lies run p (held_each h xs)
      → Walk h ss fs run at dir o (ss xs) (fs xs) (p + length (held_each h xs)) n 0 p dir o
  walk_start {o = o} {dir = dir} xs c l =
      record { passed = []; values = []; lists = lists_none run at dir o; coming = coming xs c l }

  module _ {dir₀ dir : List Note} {o₀ ends n i p o : ℕ} {all : List Slot} {told : List Found}
      (w : Walk h ss fs run at dir₀ o₀ all told ends n i p dir o) where
    pub walk_lying : i < n → Lying h run p
    walk_lying t = coming_lying w.coming t

    module _ (one : A → List Slot) (more : (x : A) (xs : List A) → ss (x ∷ xs) ≡ one x ++ ss xs) where
      -- the next thing has room
      pub walk_room :
          i < n → (many : A → ℕ) → ((x : A) → length (one x) ≡ many x) → o₀ + length all ≤ length dir₀
          → Listable h many run p dir o
      walk_room t many size room =
          let y = coming_now w.coming t in
          let x = y.head in
          let e : w.passed ++ ss (x ∷ y.tail) ≡ all = ap (λ (z : List Slot × List Found × ℕ). z.0) y.same in
          record {
            thing = x;
            lies = y.lies;
            room = omega (
              arith,
              w.lists.next,
              w.lists.size,
              room,
              size x,
              ap length e,
              length-append w.passed (ss (x ∷ y.tail)),
              ap length (more x y.tail),
              length-append (one x) (ss y.tail),
            );
          }

      -- it is noted
      pub walk_next :
          (some : A → List Found) → ((x : A) (xs : List A) → fs (x ∷ xs) ≡ some x ++ fs xs) → i < n
          → (after : List Note) (g : Noted)
          → ((x : A) → Lies run p (h x) → ListsTo run at (one x) (some x) dir o after (p + length (h x)) g)
          → Walk h ss fs run at dir₀ o₀ all told ends n (i + 1) g.past after g.next
      unfolding held_each
      walk_next some further t after g f =
          let y = coming_now w.coming t in
          let x = y.head in
          let l = f x y.lies in
          record {
            passed = w.passed ++ one x;
            values = w.values ++ some x;
            lists = lists_then w.lists l.lists;
            coming = record {
              rest = y.tail;
              lies = subst (λ (z : ℕ). Lies run z (held_each h y.tail)) (sym l.past) y.behind;
              count = y.count;
              same = same_parts
                  (append_assoc w.passed (one x) (ss y.tail)
                  ∙ ap (λ (z : List Slot). w.passed ++ z) (sym (more x y.tail)))
                  (append_assoc w.values (some x) (fs y.tail)
                  ∙ ap (λ (z : List Found). w.values ++ z) (sym (further x y.tail)))
                  (omega (arith, l.past, length-append (h x) (held_each h y.tail)))
                  ∙ y.same;
            };
          }

    -- none is left
    pub walk_end : n ≤ i → ss [] ≡ [] → fs [] ≡ []
        → ListsTo run at all told dir₀ o₀ dir ends (record { next = o; past = p })
    unfolding held_each
    walk_end t e f =
        let z = coming_end w.coming t in
        record {
          lists = lists_as
              (sym (append-nil w.passed) ∙ ap (λ (l : List Slot). w.passed ++ l) (sym e)
              ∙ ap (λ (x : List Slot × List Found × ℕ). x.0) z)
              (sym (append-nil w.values) ∙ ap (λ (l : List Found). w.values ++ l) (sym f)
              ∙ ap (λ (x : List Slot × List Found × ℕ). x.1) z)
              w.lists;
          past = omega (arith, ap (λ (x : List Slot × List Found × ℕ). x.2) z);
        }
