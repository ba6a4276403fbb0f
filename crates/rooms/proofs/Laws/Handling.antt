-- What the row of a slot can hold, by how the note of the slot handles it.
--   as_denied, as_alone, as_wild, as_bound    the slot, by that handling
--   textual-row, numbered-row    what a row that fits holds
--   fits-.., fed-.., met-..      one row tested, charged and joined, in each case
use mathlib.Core.Path.{◌≡◌, refl, sym, ap, ◌∙◌, subst}
use mathlib.Core.Bool.{Bool, true, false}
use mathlib.Core.List.{List, [], ◌∷◌}
use mathlib.Core.Logic.{◌⊎◌, inl, inr}
use Prim.Native.Nat.{ℕ, ◌-◌, ◌≤◌}
use native.Mathlib.Omega.{arith}
use lib.Dec.{leb}
use lib.ListN.{length, get_or, replicate, length-append}
use Rattle.chars.specs.Base.{pick}
use Rattle.syntax.specs.Policy.{Effect, Allow, Deny, StringEquals, StringLike, NumericLessThanEquals}
use Rattle.syntax.specs.Policy.{Value, text, number}
use Rattle.syntax.specs.Forms.{both, same}
use Rattle.held.specs.Held.{held_number, held_value}
use Rattle.held.specs.Lying.{Lies}
use Rattle.held.proofs.Laws.Places.{Texted, texted}
use Rattle.syntax.proofs.Laws.Same.{same_sound}
use Rattle.parts.proofs.Laws.Slots.{both_true}
use Rattle.decision.specs.Decision.{same_effect}
use Rattle.candidates.specs.Candidates.{Candidate, itself, single, under, up_to, Content, empty, holds, Kind}
use Rattle.candidates.specs.Candidates.{is_content, joined, charged}
use Rattle.candidates.specs.Beginnings.{shared}
use Rattle.candidates.specs.Kinds.{only, bounds, text_of}
use Rattle.candidates.specs.Entries.{Place, in_action, in_resource, in_row, comparison, meets_at, wild_kind}
use Rattle.candidates.specs.Rows.{row_numbers, padded, row, content_of, is_row, is_zero}
use Rattle.candidates.specs.Joining.{Textual, no_text, whole_text, single_text, begun_text, Numeric, no_number}
use Rattle.candidates.specs.Joining.{one_number}
use Rattle.rooms.specs.Rooms.{Slot, slot_kind, row_fits}
use Rattle.rooms.specs.Listing.{handling, handling_by, SlotAt}
use Rattle.rooms.specs.declared.listing.Handling.{Handling}
use Rattle.rooms.specs.declared.listing.Handling.TheVariants as H
use Rattle.rooms.specs.declared.listing.Note.{Note}
use Rattle.candidates.proofs.Laws.ChargingLeast.{longest_never}
use Rattle.candidates.proofs.Laws.FittingWild.{number_not}

-- ---- the slot

pub record Alone (s : Slot) : Type 0 where
  pub test : Value → Bool
  pub allows : s.effect ≡ Allow
  pub kind : slot_kind s ≡ only test

pub record Wild (s : Slot) : Type 0 where
  pub symbols : List ℕ
  pub allows : s.effect ≡ Allow
  pub is : s.entry ≡ text symbols
  pub kind : slot_kind s ≡ wild_kind s.place symbols
  pub like : comparison s.place ≡ StringLike

pub record Bound (s : Slot) : Type 0 where
  pub most : ℕ
  pub allows : s.effect ≡ Allow
  pub is : s.entry ≡ number most
  pub kind : slot_kind s ≡ bounds leb most
  pub numeric : comparison s.place ≡ NumericLessThanEquals

pub data Handled (s : Slot) : Handling → Type 0 where
  denied : s.effect ≡ Deny → Handled s H.Nothing
  alone : Alone s → Handled s H.Itself
  wild : Wild s → Handled s H.Wild
  bound : Bound s → Handled s H.Number

handled : (e : Effect) (p : Place) (x : Value)
    → Handled (record { effect = e; place = p; entry = x }) (handling_by e (comparison p) x)
handled Deny p x = denied refl
handled Allow in_action (text ys) =
    wild (record { symbols = ys; allows = refl; is = refl; kind = refl; like = refl })
handled Allow in_action (number n) = alone (record { test = meets_at in_action (number n); allows = refl; kind = refl })
handled Allow in_resource (text ys) =
    wild (record { symbols = ys; allows = refl; is = refl; kind = refl; like = refl })
handled Allow in_resource (number n) =
    alone (record { test = meets_at in_resource (number n); allows = refl; kind = refl })
handled Allow (in_row StringEquals) x =
    alone (record { test = meets_at (in_row StringEquals) x; allows = refl; kind = refl })
handled Allow (in_row StringLike) (text ys) =
    wild (record { symbols = ys; allows = refl; is = refl; kind = refl; like = refl })
handled Allow (in_row StringLike) (number n) =
    alone (record { test = meets_at (in_row StringLike) (number n); allows = refl; kind = refl })
handled Allow (in_row NumericLessThanEquals) (text ys) =
    alone (record { test = meets_at (in_row NumericLessThanEquals) (text ys); allows = refl; kind = refl })
handled Allow (in_row NumericLessThanEquals) (number n) =
    bound (record { most = n; allows = refl; is = refl; kind = refl; numeric = refl })

pub handles : (s : Slot) → Handled s (handling s)
handles s = handled s.effect s.place s.entry

-- a row that a text or a number never stands in
pub data Marked (s : Slot) : Type 0 where
  never_any : s.effect ≡ Deny → Marked s
  itself_only : Alone s → Marked s

both_effects : {A : Type 0} {e : Effect} → e ≡ Allow → e ≡ Deny → A
both_effects a d = let y : ◌≡◌ {A = ℕ} 0 1 = cc in absurd (omega arith)

module _ {run : List ℕ} {x : Note} {s : Slot} (a : SlotAt run x s) where
  pub as_denied : x.handling ≡ H.Nothing → s.effect ≡ Deny
  as_denied z = by (handling s) (handles s) (sym a.handles ∙ z)
    where
      by : (k : Handling) → Handled s k → k ≡ H.Nothing → s.effect ≡ Deny
      by k (denied d) y = d
      by k (alone w) y = cc
      by k (wild w) y = cc
      by k (bound w) y = cc

  pub as_alone : x.handling ≡ H.Itself → Alone s
  as_alone z = by (handling s) (handles s) (sym a.handles ∙ z)
    where
      by : (k : Handling) → Handled s k → k ≡ H.Itself → Alone s
      by k (denied d) y = absurd (cc)
      by k (alone w) y = w
      by k (wild w) y = absurd (cc)
      by k (bound w) y = absurd (cc)

  pub as_bound : x.handling ≡ H.Number → Bound s
  as_bound z = by (handling s) (handles s) (sym a.handles ∙ z)
    where
      by : (k : Handling) → Handled s k → k ≡ H.Number → Bound s
      by k (denied d) y = absurd (cc)
      by k (alone w) y = absurd (cc)
      by k (wild w) y = absurd (cc)
      by k (bound w) y = w

  pub as_wild : x.handling ≡ H.Wild → Wild s
  as_wild z = by (handling s) (handles s) (sym a.handles ∙ z)
    where
      by : (k : Handling) → Handled s k → k ≡ H.Wild → Wild s
      by k (denied d) y = absurd (cc)
      by k (alone w) y = absurd (cc)
      by k (wild w) y = w
      by k (bound w) y = absurd (cc)

  pub as_marked : (x.handling ≡ H.Nothing) ⊎ (x.handling ≡ H.Itself) → Marked s
  as_marked (inl z) = never_any (as_denied z)
  as_marked (inr z) = itself_only (as_alone z)

  -- no other case is left for an Allow entry
  pub not_denied : s.effect ≡ Allow → x.handling ≡ H.Nothing → ⊥
  not_denied o z = both_effects o (as_denied z)

  pub bound_lies : (b : Bound s) → Lies run x.entry (held_number b.most)
  bound_lies b = subst (λ (y : Value). Lies run x.entry (held_value y)) b.is a.lies

  pub wild_texted : (w : Wild s) → Texted run x.entry w.symbols
  wild_texted w = texted w.symbols (subst (λ (y : Value). Lies run x.entry (held_value y)) w.is a.lies)

-- ---- in the list that it stands in

pub charged_at :
    {p q : Place} {out : List ℕ} (ys : List ℕ) (c : Content) (v : Value) → p ≡ q
    → out ≡ row (charged (wild_kind p ys) c v) → out ≡ row (charged (wild_kind q ys) c v)
charged_at ys c v e f = f ∙ ap (λ (p : Place). row (charged (wild_kind p ys) c v)) e

pub joined_at :
    {p q : Place} {out : List ℕ} (ys : List ℕ) (c d : Content) → p ≡ q
    → out ≡ row (joined (wild_kind p ys) c d) → out ≡ row (joined (wild_kind q ys) c d)
joined_at ys c d e f = f ∙ ap (λ (p : Place). row (joined (wild_kind p ys) c d)) e

pub fits_at : {p q : Place} {b : Bool} (ys xs : List ℕ) → p ≡ q → b ≡ is_row (wild_kind p ys) xs
    → b ≡ is_row (wild_kind q ys) xs
fits_at ys xs e f = f ∙ ap (λ (p : Place). is_row (wild_kind p ys) xs) e

-- ---- tested

module _ (s : Slot) (xs : List ℕ) where
  pub fits_denied : s.effect ≡ Deny → is_zero xs ≡ row_fits s xs
  fits_denied d =
      sym (ap (λ (e : Effect). pick (same_effect e Allow) (is_row (slot_kind s) xs) (is_zero xs)) d)

  pub fits_allowed : {k : Kind} → s.effect ≡ Allow → slot_kind s ≡ k → is_row k xs ≡ row_fits s xs
  fits_allowed {k} o e =
      ap (λ (j : Kind). is_row j xs) (sym e)
      ∙ sym (ap (λ (f : Effect). pick (same_effect f Allow) (is_row (slot_kind s) xs) (is_zero xs)) o)

-- ---- what a row that fits holds

-- a row has room for so many
pub few : (zs : List ℕ) → length (padded zs) ≡ row_numbers → length zs ≤ row_numbers
unfolding padded
few zs e =
    omega (
      arith,
      e,
      length-append zs (replicate (row_numbers - length zs) 0),
    )

textual : (c : Content) → ((n : ℕ) → c ≡ holds (up_to n) → ⊥) → length (row c) ≡ row_numbers → Textual c
unfolding row
textual empty f e = no_text
textual (holds itself) f e = whole_text
textual (holds (single t)) f e = single_text {t = t} (omega (arith, few (2 ∷ length t ∷ t) e))
textual (holds (under q)) f e = begun_text {q = q} (omega (arith, few (3 ∷ length q ∷ q) e))
textual (holds (up_to n)) f e = absurd (f n refl)

pub record TextRow (xs : List ℕ) : Type 0 where
  pub textual : Textual (content_of xs)
  pub is : xs ≡ row (content_of xs)

pub made : (k : Kind) (xs : List ℕ) → is_row k xs ≡ true → is_content k (content_of xs) ≡ true
unfolding is_row
made k xs e = (both_true (is_content k (content_of xs)) (same (row (content_of xs)) xs) e).0

pub back : (k : Kind) (xs : List ℕ) → is_row k xs ≡ true → xs ≡ row (content_of xs)
unfolding is_row
back k xs e =
    sym (same_sound (row (content_of xs)) xs (both_true (is_content k (content_of xs)) (same (row (content_of xs)) xs) e).1)

pub text_row_lem :
    (p : Place) (ys xs : List ℕ) → length xs ≡ row_numbers → is_row (wild_kind p ys) xs ≡ true → TextRow xs
text_row_lem p ys xs n e =
    record {
      textual = textual (content_of xs) no_number_there (sym (ap length (back (wild_kind p ys) xs e)) ∙ n);
      is = back (wild_kind p ys) xs e;
    }
  where
    no_number_there : (m : ℕ) → content_of xs ≡ holds (up_to m) → ⊥
    no_number_there m f =
        let t : true ≡ false = sym (made (wild_kind p ys) xs e) ∙ ap (is_content (wild_kind p ys)) f ∙ number_not p ys m in
        let y : ◌≡◌ {A = ℕ} 0 1 = cc in
        absurd (omega arith)

pub record NumberRow (xs : List ℕ) : Type 0 where
  pub numeric : Numeric (content_of xs)
  pub is : xs ≡ row (content_of xs)

pub number_row_lem : (n : ℕ) (xs : List ℕ) → is_row (bounds leb n) xs ≡ true → NumberRow xs
number_row_lem n xs e =
    record {
      numeric = by (content_of xs) (made (bounds leb n) xs e);
      is = back (bounds leb n) xs e;
    }
  where
    by : (c : Content) → is_content (bounds leb n) c ≡ true → Numeric c
    by empty t = no_number
    by (holds itself) t = let y : ◌≡◌ {A = ℕ} 0 1 = cc in absurd (omega arith)
    by (holds (single u)) t = let y : ◌≡◌ {A = ℕ} 0 1 = cc in absurd (omega arith)
    by (holds (under u)) t = let y : ◌≡◌ {A = ℕ} 0 1 = cc in absurd (omega arith)
    by (holds (up_to m)) t = one_number

-- of an entry that has itself alone
pub data Mark : Content → Type 0 where
  no_mark : Mark empty
  a_mark : Mark (holds itself)

pub mark_only : (m : Value → Bool) (xs : List ℕ) → is_row (only m) xs ≡ true → Mark (content_of xs)
mark_only m xs e = by (content_of xs) (made (only m) xs e)
  where
    not_never : (b : Bool) → both b false ≡ true → ⊥
    not_never true t = let y : ◌≡◌ {A = ℕ} 0 1 = cc in absurd (omega arith)
    not_never false t = let y : ◌≡◌ {A = ℕ} 0 1 = cc in absurd (omega arith)

    by : (c : Content) → is_content (only m) c ≡ true → Mark c
    by empty t = no_mark
    by (holds itself) t = a_mark
    by (holds (single u)) t = absurd (not_never (m (text u)) t)
    by (holds (under u)) t = let y : ◌≡◌ {A = ℕ} 0 1 = cc in absurd (omega arith)
    by (holds (up_to n)) t = let y : ◌≡◌ {A = ℕ} 0 1 = cc in absurd (omega arith)

-- ---- charged, and joined, where the entry has itself alone

only_least : (m : Value → Bool) (v : Value) → (only m).least v ≡ itself
only_least m (text t) = longest_never (length t) t
only_least m (number n) = refl

only_join : (m : Value → Bool) (c : Candidate) → (only m).join itself c ≡ itself
only_join m c = longest_never (length (shared [] (text_of c))) (shared [] (text_of c))

pub only_charged :
    (m : Value → Bool) (v : Value) (xs : List ℕ) → is_row (only m) xs ≡ true
    → charged (only m) (content_of xs) v ≡ holds itself
only_charged m v xs e = by (content_of xs) (mark_only m xs e)
  where
    by : (c : Content) → Mark c → charged (only m) c v ≡ holds itself
    by c no_mark = ap holds (only_least m v)
    by c a_mark = ap holds (only_join m ((only m).least v))

zero_first : get_or (row empty) 0 0 ≡ 0
unfolding row padded
zero_first = refl

-- the first number of a row that an entry itself stands in, or nothing
marks : (c : Content) → Mark c → get_or (row c) 0 0 ≡ 0 → c ≡ empty
unfolding row padded
marks c no_mark e = refl
marks c a_mark e = absurd (omega (arith, e))

pub only_first :
    (m : Value → Bool) (xs : List ℕ) → is_row (only m) xs ≡ true → get_or xs 0 0 ≡ 0 → content_of xs ≡ empty
only_first m xs e z =
    marks (content_of xs) (mark_only m xs e) (sym (ap (λ (l : List ℕ). get_or l 0 0) (back (only m) xs e)) ∙ z)

pub only_joined :
    (m : Value → Bool) (xs ys : List ℕ) → is_row (only m) xs ≡ true → is_row (only m) ys ≡ true
    → (get_or ys 0 0 ≡ 0 → ⊥) → joined (only m) (content_of xs) (content_of ys) ≡ holds itself
only_joined m xs ys e f n =
    by (content_of xs) (content_of ys) (mark_only m xs e) (mark_only m ys f)
    (λ z. n (ap (λ (l : List ℕ). get_or l 0 0) (back (only m) ys f) ∙ nothing_first (content_of ys) z))
  where
    nothing_first : (d : Content) → d ≡ empty → get_or (row d) 0 0 ≡ 0
    nothing_first d z = ap (λ (b : Content). get_or (row b) 0 0) z ∙ zero_first

    by : (c d : Content) → Mark c → Mark d → (d ≡ empty → ⊥) → joined (only m) c d ≡ holds itself
    by c d u no_mark o = absurd (o refl)
    by c d no_mark a_mark o = refl
    by c d a_mark a_mark o = ap holds (only_join m itself)
