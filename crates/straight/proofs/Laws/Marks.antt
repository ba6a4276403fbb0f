-- What stands between values, from what the code tells of single bytes and of white space.
use mathlib.Core.Path.{◌≡◌, refl, sym, ◌∙◌, subst}
use mathlib.Core.Bool.{true}
use mathlib.Core.List.{List, [], ◌∷◌, map}
use Prim.Native.Nat.{ℕ, ◌+◌, ◌-◌, ◌≤◌, ◌<◌}
use native.Mathlib.Omega.{arith}
use native.Mathlib.Decide.{dec_lt}
use lib.ListN.{length, get_or, drop, length-drop}
use lib.Seq.{ext_get_or, get_or-take, get_or-drop}
use Rattle.chars.specs.Base.{At, part}
use Rattle.chars.specs.Strings.{plain}
use Rattle.text.specs.Json.{Space, Spelt, Quoted}
use Rattle.text.specs.Machine.{byte, ws}
use Rattle.text.specs.Reading.{Done}
use Rattle.text.proofs.Laws.Parts.{part_length}
use Rattle.text.proofs.Laws.Places.{Alive, done_alive, past_end, not_whole}
use Rattle.text.proofs.Laws.Taking.Items.{alive_byte}
use Rattle.text.proofs.Laws.Taking.Spaces.{alive_space}
use Rattle.std.specs.Prelude.{Option, Some, None}
use Rattle.straight.specs.Marks.{Unless, Opened, Closed, Parted, all_bare}
use Rattle.straight.proofs.Laws.Bare.{all_bare_body}

-- ---- white space

-- where nothing but bytes is owed, they are all that is left of the text
bytes_left : {s : List ℕ} {i : ℕ} (bs : List ℕ) → Alive s (map byte bs) i → i + length bs ≡ length s
bytes_left {s} {i} [] v = by (dec_lt i (length s))
  where
    by : Dec (i < length s) → i + 0 ≡ length s
    by (yes h) = absurd (not_whole (sym (past_end s i h) ∙ v.lives))
    by (no h) = omega (arith, v.high)
bytes_left {s} {i} (b ∷ bs) v =
    let z = bytes_left {s = s} {i = i + 1} bs (alive_byte b (map byte bs) v).next in omega arith

pub space_reads : {s : List ℕ} {i j : ℕ} → Done s (ws ∷ []) i j → Space s i j
space_reads {s} {i} {j} d =
    let w = alive_space (map byte (drop j s)) (done_alive d) in
    let z = bytes_left (drop j s) w.next in
    let e : w.stop ≡ j = omega (arith, z, length-drop j s, d.high, w.next.high) in
    subst (Space s i) e w.space

-- ---- words

pub spelt_each : {s w : List ℕ} {at : ℕ} → at + length w ≤ length s
    → ((k : ℕ) → k < length w → get_or s (at + k) 0 ≡ get_or w k 0) → Spelt s w at (at + length w)
spelt_each {s} {w} {at} h f =
    let n = at + length w in
    let size : length (part s at n) ≡ length w = omega (arith, part_length s at n (omega arith) h) in
    record {
      order = omega arith;
      inside = h;
      is = ext_get_or 0 (part s at n) w size
          (λ k l.
          let below : k < length w = omega arith in
          get_or-take (n - at) (drop at s) k 0 (omega arith) ∙ get_or-drop at s k 0 ∙ f k below);
    }

pub quoted_bare : {s w : List ℕ} {at to : ℕ} → all_bare w ≡ true → At s at 34 → At s to 34 → Spelt s w (at + 1) to
    → Quoted s w at (to + 1)
quoted_bare {s} {w} {at} {to} b o c p =
    record { opens = o; close = to; units = map plain w; spelt = p; body = all_bare_body w b; closes = c; past = refl }

-- ---- answers

pub unless_none : {r : Option ℕ} {P : ℕ → Type 0} → r ≡ None → Unless r P
unless_none e = record { found = λ i h. let no : Some i ≡ None = sym h ∙ e in cc }

pub unless_some : {r : ℕ} {P : ℕ → Type 0} → P r → Unless (Some r) P
unless_some {P = P} p = record { found = λ i h. let same : _ ≡ i = cc in subst P same p }

-- what follows from what is found
pub unless_then : {r : Option ℕ} {P Q : ℕ → Type 0} → ((i : ℕ) → P i → Q i) → Unless r P → Unless r Q
unless_then f u = record { found = λ i h. f i (u.found i h) }

-- ---- marks

pub opened_reads : {s : List ℕ} {b v r : ℕ} → At s v b → Done s (ws ∷ []) (v + 1) r → Opened s b v r
opened_reads a d = record { at = a; space = space_reads d; all = d }

pub closed_reads : {s : List ℕ} {b i j : ℕ} → Done s (ws ∷ []) i j → At s j b → Closed s b i (j + 1)
closed_reads {j = j} d a = record { place = j; space = space_reads d; at = a; past = refl }

pub parted_reads : {s : List ℕ} {b i j r : ℕ} → Closed s b i j → Done s (ws ∷ []) j r → Parted s b i r
parted_reads {s} {r = r} p d =
    record {
      place = p.place;
      before = p.space;
      at = p.at;
      after = subst (λ (k : ℕ). Space s k r) p.past (space_reads d);
      all = subst (λ (k : ℕ). Done s (ws ∷ []) k r) p.past d;
    }
