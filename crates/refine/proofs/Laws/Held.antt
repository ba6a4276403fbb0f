-- A policy that was read, the list of its entries, and its room.
--   sound_read, short_read        what was read is sound, and short
--   listable, listed              the list of entries has room, and what it tells
--   few_slots                     a room has a row for each slot
--   holding_fresh, holding_fed    an empty room is one of the policy's; one that was fed still is
use mathlib.Core.Path.{◌≡◌, refl, sym, ap, ◌∙◌, subst}
use mathlib.Core.Bool.{Bool, true, false}
use mathlib.Core.List.{List, [], ◌∷◌, ◌++◌}
use Prim.Native.Nat.{ℕ, ◌*◌, ◌≤◌}
use native.Mathlib.Omega.{arith}
use lib.Dec.{ltb, eqb}
use lib.Seq.{length-take-le}
use lib.ListN.{length, take, drop, take-append-drop, length-replicate}
use borrow.Author.Tests.{ltb-false, eqb-true, eq-eqb}
use Rattle.text.specs.Json.{Json}
use Rattle.syntax.specs.Limits.{most_statements, most_entries}
use Rattle.syntax.specs.Policy.{Policy, Request}
use Rattle.syntax.specs.Forms.{Reading, wrong, read, either}
use Rattle.held.specs.Held.{held, entries, over_limit, any_of, statement_over}
use Rattle.policy.specs.Reading.{Outcome, refused, known, request_comes, policy_rules, record_rules, Says, long, broken}
use Rattle.policy.specs.Reading.{deep, text}
use Rattle.syntax.specs.RecordLayout.{request_of}
use Rattle.decision.specs.Decision.{Found, decide}
use Rattle.decision.specs.declared.deciding.Decision.{Decision}
use Rattle.decision.specs.declared.deciding.Decision.TheVariants.{Denied, Allowed, Implicit}
use Rattle.restate.proofs.Laws.Operations.{read_limits, read_valid, handed_within}
use Rattle.candidates.specs.Rows.{row_numbers}
use Rattle.rooms.specs.Rooms.{Slot, slots, none, allowed_charges, by_decision, charges, fed, met}
use Rattle.rooms.specs.Listing.{Told, Lists, Listable}
use Rattle.rooms.specs.Walking.{Right, Roomy, Fed, Met}
use Rattle.rooms.specs.declared.listing.Note.{Note}
use Rattle.refine.specs.Operations.{room_numbers, is_room, holds_for, Feeds, Joins, Finishes, Done, done}
use Rattle.refine.specs.Operations as O
use Rattle.refine.specs.Sound.{Sound, ShortRequest, HeldSound, Holding, PolicyFeeds, PolicyJoins, PolicyFinishes}
use Rattle.refine.specs.Sound as S
use Rattle.rooms.proofs.Laws.ListingStatement.{policy_slots_many}
use Rattle.rooms.proofs.Laws.Fed.{fed_fits}
use Rattle.candidates.proofs.Laws.Rows.{zeros}
use Rattle.rooms.proofs.Laws.Empty.{zeros_fit}
use Rattle.refine.proofs.Laws.Charged.{request_short, none_right, charges_right}

-- ---- what was read

pub sound_read : {s : List ℕ} {p : Policy} → Says policy_rules s (known p) → Sound p
sound_read {p = p} a = record { valid = read_valid p a; limits = read_limits p a }

not_known : {A B : Type 0} {f : _} {a : A} → ◌≡◌ {A = Outcome A} (refused f) (known a) → B
not_known e = let y : ◌≡◌ {A = ℕ} 0 1 = cc in absurd (omega arith)

comes_short : (t : Json) (q : Request) → request_comes (request_of t) ≡ known q → ShortRequest q
comes_short t q e = by (request_of t) refl e
  where
    by : (x : Reading Request) → request_of t ≡ x → request_comes x ≡ known q → ShortRequest q
    by wrong r c = not_known c
    by (read z) r c = let i : z ≡ q = cc in request_short t q (r ∙ ap read i)

said_short : {s : List ℕ} {x : Outcome Request} → Says record_rules s x → (q : Request) → x ≡ known q → ShortRequest q
said_short (long h) q e = not_known e
said_short (broken h b) q e = not_known e
said_short (deep h b) q e = not_known e
said_short (text h x) q e = comes_short x.tree q e

pub short_read : {s : List ℕ} {q : Request} → Says record_rules s (known q) → ShortRequest q
short_read {q = q} a = said_short a q refl

-- ---- how many entries

either_none : (a b : Bool) → either a b ≡ false → (a ≡ false) × (b ≡ false)
either_none true b e = let y : ◌≡◌ {A = ℕ} 0 1 = cc in absurd (omega arith)
either_none false b e = (refl, e)

few_entries : (p : Policy) → over_limit p ≡ false → entries p ≤ most_entries
unfolding over_limit
few_entries p e =
    let a = either_none (ltb most_statements (length p)) (either (ltb most_entries (entries p)) (any_of statement_over p)) e in
    let b = either_none (ltb most_entries (entries p)) (any_of statement_over p) a.1 in
    ltb-false most_entries (entries p) b.0

pub room_size : (room : List ℕ) → is_room room ≡ true → length room ≡ room_numbers
room_size room e = eqb-true (length room) room_numbers e

pub few_slots : {p : Policy} → Sound p → length (slots p) ≤ most_entries
few_slots {p} s = omega (arith, policy_slots_many p, few_entries p s.limits)

pub rows_enough : {p : Policy} (room : List ℕ) → Sound p → is_room room ≡ true
    → row_numbers * length (slots p) ≤ length room
rows_enough {p} room s e = omega (arith, few_slots s, room_size room e)

-- ---- the list

pub listable : {run : List ℕ} {dir : List Note} → HeldSound run → length dir ≡ most_entries
    → Listable held entries run 0 dir 0
listable h n =
    record {
      thing = h.policy;
      lies = h.lies;
      room = omega (arith, few_entries h.policy h.sound.limits, n);
    }

pub listed :
    {run at : List ℕ} {dir after : List Note} {r : ℕ} {ss : List Slot} {fs : List Found}
    → Lists run at ss fs dir 0 r after → Told run at (take r after) ss fs
listed {run} {at} {ss = ss} {fs = fs} l = subst (λ (xs : List Note). Told run at xs ss fs) (sym l.is) l.told

-- the notes are among those that are lent
pub listed_few :
    {run at : List ℕ} {dir after : List Note} {r : ℕ} {p : Policy} {fs : List Found}
    → Lists run at (slots p) fs dir 0 r after → length dir ≡ most_entries → Sound p → r ≤ length after
listed_few l n s = omega (arith, l.next, l.size, n, few_slots s)

pub listed_taken :
    {run at : List ℕ} {dir after : List Note} {r : ℕ} {p : Policy} {fs : List Found}
    → Lists run at (slots p) fs dir 0 r after → length dir ≡ most_entries → Sound p → r ≡ length (take r after)
listed_taken {after = after} {r = r} l n s = sym (length-take-le r after (listed_few l n s))

-- a room of the policy that lies there, with such a list
abbrev pub roomy :
    {run at : List ℕ} {dir after : List Note} (room : List ℕ) {r : ℕ} {p : Policy} {fs : List Found}
    → Lists run at (slots p) fs dir 0 r after → Sound p → is_room room ≡ true → Roomy run at (take r after) room
roomy room {p = p} {fs = fs} l s e =
    record {
      slots = slots p;
      values = fs;
      told = listed l;
      enough = rows_enough room s e;
      bounded = omega (arith, room_size room e);
    }

pub feedable :
    {run at : List ℕ} {dir after : List Note} (room : List ℕ) {r : ℕ} {p : Policy} {fs : List Found}
    → Lists run at (slots p) fs dir 0 r after → Sound p → is_room room ≡ true
    → Right (slots p) fs → holds_for p room ≡ true → Fed run at (take r after) room
feedable room l s e r f = record { roomy = roomy room l s e; right = r; fit = f }

pub meetable :
    {run at : List ℕ} {dir after : List Note} (room other : List ℕ) {r : ℕ} {p : Policy} {fs : List Found}
    → Lists run at (slots p) fs dir 0 r after → Sound p → is_room room ≡ true
    → is_room other ≡ true → holds_for p room ≡ true → holds_for p other ≡ true → Met run at (take r after) room other
meetable room other l s e o f g =
    record {
      roomy = roomy room l s e;
      fit = f;
      same = g;
      size = room_size other o ∙ sym (room_size room e);
    }

-- ---- what is fed

fed_none : (ss : List Slot) (xs : List ℕ) → fed ss (none ss) xs ≡ xs
unfolding fed
fed_none [] xs = refl
fed_none (s ∷ ss) xs =
    ap (λ (l : List ℕ). take row_numbers xs ++ l) (fed_none ss (drop row_numbers xs)) ∙ take-append-drop row_numbers xs

module _ (p : Policy) (q : Request) (room : List ℕ) where
  pub fed_allowed : {n : ℕ} {out : List ℕ} → decide p q ≡ Allowed n → out ≡ fed (slots p) (allowed_charges p q) room
      → out ≡ fed (slots p) (charges p q) room
  unfolding charges
  fed_allowed e f = f ∙ ap (λ (d : Decision). fed (slots p) (by_decision d p q) room) (sym e)

  pub fed_denied : {n : ℕ} → decide p q ≡ Denied n → room ≡ fed (slots p) (charges p q) room
  unfolding charges
  fed_denied e =
      sym (fed_none (slots p) room) ∙ ap (λ (d : Decision). fed (slots p) (by_decision d p q) room) (sym e)

  pub fed_implicit : decide p q ≡ Implicit → room ≡ fed (slots p) (charges p q) room
  unfolding charges
  fed_implicit e =
      sym (fed_none (slots p) room) ∙ ap (λ (d : Decision). fed (slots p) (by_decision d p q) room) (sym e)

-- ---- what was told

pub record_fed :
    {p : Policy} {q : Request} {asked room after : List ℕ} {d : Decision} → holds_for p room ≡ true
    → Says record_rules asked (known q) → (d ≡ decide p q) × (after ≡ fed (slots p) (charges p q) room)
    → PolicyFeeds p asked room (known d) after
record_fed {p} {q} {asked} {room} {after} {d} f a e =
    subst (λ (x : Decision). PolicyFeeds p asked room (known x) after) (sym e.0)
    (subst (PolicyFeeds p asked room (known (decide p q))) (sym e.1) (S.feeds f a))

module _ (p : Policy) where
  right_by : {asked : List ℕ} (q : Request) (d : Decision) → Says record_rules asked (known q)
      → Right (slots p) (by_decision d p q)
  right_by q (Allowed n) b = charges_right q (short_read b) p
  right_by q (Denied n) b = none_right (slots p)
  right_by q Implicit b = none_right (slots p)

  pub right_charges : {asked : List ℕ} (q : Request) → Says record_rules asked (known q) → Right (slots p) (charges p q)
  unfolding charges
  right_charges q b = right_by q (decide p q) b

feeds_fit : {p : Policy} {asked room after : List ℕ} {x : Outcome Decision} → Sound p → is_room room ≡ true
    → holds_for p room ≡ true → PolicyFeeds p asked room x after → holds_for p after ≡ true
feeds_fit s e f (S.no_content g) = f
feeds_fit s e f (S.no_record g b) = f
feeds_fit {p} {room = room} s e f (S.feeds {r = q} g b) =
    fed_fits (slots p) (charges p q) room (right_charges p q b) (rows_enough room s e) f

pub holding_fed : {run asked room after : List ℕ} {x : Outcome Decision} (h : Holding run room)
    → PolicyFeeds h.held_sound.policy asked room x after → length after ≡ length room → Holding run after
holding_fed {after = after} h g n =
    record {
      held_sound = h.held_sound;
      size = ap (λ (k : ℕ). eqb k room_numbers) n ∙ h.size;
      content = feeds_fit h.held_sound.sound h.size h.content g;
    }

pub holding_fresh : {run : List ℕ} → HeldSound run → Holding run (zeros room_numbers)
holding_fresh h =
    let e : is_room (zeros room_numbers) ≡ true
    = eq-eqb (length (zeros room_numbers)) room_numbers (length-replicate {A = ℕ} room_numbers 0) in
    record {
      held_sound = h;
      size = e;
      content = zeros_fit (slots h.policy) room_numbers
          (omega (arith, rows_enough (zeros room_numbers) h.sound e, length-replicate {A = ℕ} room_numbers 0));
    }

pub rooms_joined :
    (p : Policy) {room other after : List ℕ} → holds_for p room ≡ true → holds_for p other ≡ true
    → after ≡ met (slots p) room other → PolicyJoins p room other (known done) after
rooms_joined p {room} {other} f g e =
    subst (PolicyJoins p room other (known done)) (sym e) (S.joins f g)

module _ {policy : List ℕ} {p : Policy} (a : Says policy_rules policy (known p)) where
  pub feeds_behind : {asked room after : List ℕ} {x : Outcome Decision} → is_room room ≡ true
      → PolicyFeeds p asked room x after → Feeds policy asked room x after
  feeds_behind e (S.no_content f) = O.no_content e a f
  feeds_behind e (S.no_record f b) = O.no_record e a f b
  feeds_behind e (S.feeds f b) = O.feeds e a f b

  pub joins_behind : {room other after : List ℕ} {x : Outcome Done} → is_room room ≡ true → is_room other ≡ true
      → PolicyJoins p room other x after → Joins policy room other x after
  joins_behind e o (S.no_content f) = O.no_content e o a f
  joins_behind e o (S.no_other_content f g) = O.no_other_content e o a f g
  joins_behind e o (S.joins f g) = O.joins e o a f g

  pub finishes_behind : {room out after : List ℕ} {x : Outcome ℕ} → is_room room ≡ true
      → PolicyFinishes p room out x after → Finishes policy room out x after
  finishes_behind e (S.no_content f) = O.no_content e a f
  finishes_behind e (S.no_allow f g) = O.no_allow e a f g
  finishes_behind e (S.finishes f g h) = O.finishes e a f g h

-- a result that is written is inside the output
pub finishes_within :
    {p : Policy} {room out after : List ℕ} {x : Outcome ℕ} → PolicyFinishes p room out x after → (n : ℕ) → x ≡ known n
    → n ≤ length out
finishes_within (S.no_content f) n q = not_known q
finishes_within (S.no_allow f g) n q = not_known q
finishes_within {out = out} {after = after} (S.finishes f g h) n q =
    handed_within _ out (ap (λ (y : Outcome ℕ). (y, after)) (sym q) ∙ h)
