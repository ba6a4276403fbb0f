-- Texts that are known by computing: what is printed of a tree says what the tree comes to.
--   fair t          the tree's strings are printable ASCII and characters of two bytes, the first being 195
--   printed_says    what the printed bytes of such a tree come to, by either rules
use mathlib.Core.Path.{◌≡◌, refl, sym, ap, ◌∙◌, subst}
use mathlib.Core.Bool.{Bool, true, false, not}
use mathlib.Core.List.{List, [], ◌∷◌}
use Prim.Native.Nat.{ℕ}
use native.Mathlib.Omega.{arith}
use lib.Dec.{eqb, leb}
use lib.ListN.{length}
use borrow.Author.Tests.{leb-true, eqb-true, eq-eqb}
use Rattle.chars.specs.Base.{pick, within}
use Rattle.chars.specs.Strings.{Unit, plain, Body, unescaped}
use Rattle.chars.specs.Strings as S
use Rattle.chars.specs.Utf8.{two, ascii, c2_df}
use Rattle.text.specs.Json.{Json, null, bool, number, string, list, object, Values, no_more, also, Members, no_members}
use Rattle.text.specs.Json.{named, depth, levels}
use Rattle.text.specs.Printing.{printed, Sound, sound_null, sound_bool, sound_string, sound_list, sound_object}
use Rattle.text.specs.Printing.{SoundValues, sound_no_more, sound_also, SoundMembers, sound_no_members, sound_named}
use Rattle.text.proofs.Laws.Printing.{printed_reads}
use Rattle.syntax.specs.Forms.{both}
use Rattle.parts.proofs.Laws.Slots.{both_true}
use Rattle.policy.specs.Reading.{Outcome, Rules, Says}
use Rattle.policy.specs.Reading as R
use Rattle.demands.proofs.Laws.Narrowing.{false_true}

-- ---- strings

-- printable ASCII, neither the quote nor the reverse solidus
abbrev pub is_fair : ℕ → Bool
is_fair b = both (within 32 126 b) (both (not (eqb b 34)) (not (eqb b 92)))

unfoldable mutual
  pub fair_text : List ℕ → Bool
  fair_text [] = true
  fair_text (b ∷ w) = pick (is_fair b) (fair_text w) (both (eqb b 195) (fair_behind w))

  -- behind a 195
  pub fair_behind : List ℕ → Bool
  fair_behind [] = false
  fair_behind (b ∷ w) = both (within 128 191 b) (fair_text w)

record Bodied (w : List ℕ) : Type 0 where
  units : List Unit
  body : Body w units

differs : (b n : ℕ) → not (eqb b n) ≡ true → b ≡ n → ⊥
differs b n e f = false_true (sym (ap not (eq-eqb b n f)) ∙ e)

ahead : {b : ℕ} {w : List ℕ} → is_fair b ≡ true → Bodied w → Bodied (b ∷ w)
ahead {b} {w} h r =
    let p = both_true (within 32 126 b) (both (not (eqb b 34)) (not (eqb b 92))) h in
    let i = both_true (leb 32 b) (leb b 126) p.0 in
    let d = both_true (not (eqb b 34)) (not (eqb b 92)) p.1 in
    record {
      units = plain b ∷ r.units;
      body = S.more (unescaped (ascii {a = b} (omega (arith, leb-true b 126 i.1))) (leb-true 32 b i.0)
          (differs b 34 d.0) (differs b 92 d.1)) r.body;
    }

two_ahead : {c : ℕ} {w : List ℕ} → within 128 191 c ≡ true → Bodied w → Bodied (195 ∷ c ∷ w)
two_ahead {c} {w} h r =
    let i = both_true (leb 128 c) (leb c 191) h in
    let low = leb-true 128 c i.0 in
    record {
      units = plain (two 195 c) ∷ r.units;
      body = S.more (unescaped (c2_df {a = 195} {b = c} (record { low = omega arith; high = omega arith })
          (record { low = low; high = leb-true c 191 i.1 }))
          (omega (arith, low)) (λ e. omega (arith, low, e)) (λ e. omega (arith, low, e))) r.body;
    }

choose : (b : ℕ) (w : List ℕ) → (fair_text w ≡ true → Bodied w) → (fair_behind w ≡ true → Bodied (195 ∷ w)) → (t : Bool)
    → is_fair b ≡ t → pick t (fair_text w) (both (eqb b 195) (fair_behind w)) ≡ true → Bodied (b ∷ w)
choose b w one two true h e = ahead h (one e)
choose b w one two false h e =
    let p = both_true (eqb b 195) (fair_behind w) e in
    subst (λ (n : ℕ). Bodied (n ∷ w)) (sym (eqb-true b 195 p.0)) (two p.1)

mutual
  unfolding fair_text

  bodied : (w : List ℕ) → fair_text w ≡ true → Bodied w
  bodied [] e = record { units = []; body = S.end }
  bodied (b ∷ w) e = choose b w (λ h. bodied w h) (λ h. bodied_behind w h) (is_fair b) refl e

  bodied_behind : (w : List ℕ) → fair_behind w ≡ true → Bodied (195 ∷ w)
  bodied_behind [] e = false_true e
  bodied_behind (c ∷ w) e =
      let p = both_true (within 128 191 c) (fair_text w) e in
      two_ahead p.0 (bodied w p.1)

-- ---- trees

-- without numbers, of which no input here has one
unfoldable mutual
  pub fair : Json → Bool
  fair null = true
  fair (bool b) = true
  fair (number w) = false
  fair (string w) = fair_text w
  fair (list ts) = fair_values ts
  fair (object ms) = fair_members ms

  pub fair_values : Values → Bool
  fair_values no_more = true
  fair_values (also t ts) = both (fair t) (fair_values ts)

  pub fair_members : Members → Bool
  fair_members no_members = true
  fair_members (named w t ms) = both (fair_text w) (both (fair t) (fair_members ms))

mutual
  unfolding fair

  fair_sound : (t : Json) → fair t ≡ true → Sound t
  fair_sound null e = sound_null
  fair_sound (bool b) e = sound_bool
  fair_sound (number w) e = false_true e
  fair_sound (string w) e = sound_string (bodied w e).body
  fair_sound (list ts) e = sound_list (fair_values_lem ts e)
  fair_sound (object ms) e = sound_object (fair_members_lem ms e)

  fair_values_lem : (ts : Values) → fair_values ts ≡ true → SoundValues ts
  fair_values_lem no_more e = sound_no_more
  fair_values_lem (also t ts) e =
      let p = both_true (fair t) (fair_values ts) e in
      sound_also (fair_sound t p.0) (fair_values_lem ts p.1)

  fair_members_lem : (ms : Members) → fair_members ms ≡ true → SoundMembers ms
  fair_members_lem no_members e = sound_no_members
  fair_members_lem (named w t ms) e =
      let p = both_true (fair_text w) (both (fair t) (fair_members ms)) e in
      let q = both_true (fair t) (fair_members ms) p.1 in
      sound_named (bodied w p.0).body (fair_sound t q.0) (fair_members_lem ms q.1)

-- ---- texts

-- all that is asked of a tree, in one test
abbrev pub fits_in : {A : Type 0} → Rules A → Json → Bool
fits_in k t = both (fair t) (both (leb (depth t) levels) (leb (length (printed t)) k.most))

pub printed_says : {A : Type 0} (k : Rules A) (t : Json) (x : Outcome A) → fits_in k t ≡ true → k.comes t ≡ x
    → Says k (printed t) x
printed_says k t x e c =
    let p = both_true (fair t) (both (leb (depth t) levels) (leb (length (printed t)) k.most)) e in
    let q = both_true (leb (depth t) levels) (leb (length (printed t)) k.most) p.1 in
    subst (Says k (printed t)) c
    (R.text (leb-true (length (printed t)) k.most q.1)
    (record {
      tree = t;
      says = printed_reads (fair_sound t p.0);
      shallow = leb-true (depth t) levels q.0;
    }))
