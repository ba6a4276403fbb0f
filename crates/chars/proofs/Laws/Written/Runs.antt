-- What the loops of `fits` and `write_text` keep: what is written of all is what is written so far and of the rest.
use mathlib.Core.Path.{◌≡◌, refl, sym, ap, ◌∙◌}
use mathlib.Core.Bool.{true, false}
use mathlib.Core.List.{List, [], ◌∷◌, ◌++◌, append-nil, append_assoc}
use Prim.Native.Nat.{ℕ, ◌+◌, ◌-◌, ◌≤◌, ◌<◌}
use native.Mathlib.Numerals.{add-one}
use native.Mathlib.Omega.{arith}
use lib.Dec.{leb}
use lib.ListN.{length, get_or, take, drop, length-append, take-append-drop, drop_of_length-le}
use lib.Seq.{take_all, take-suc, drop-cons, length-sets}
use borrow.Author.Tests.{le-leb, lt-leb}
use Rattle.chars.specs.Putting.{put_at, Puts}
use Rattle.chars.specs.Written.{written, written_text}
use Rattle.std.specs.Prelude.{Some}
use Rattle.chars.proofs.Laws.Putting.{puts_put, puts_as, puts_append}

pub text_append : (xs ys : List ℕ) → written_text (xs ++ ys) ≡ written_text xs ++ written_text ys
unfolding written_text
text_append [] ys = refl
text_append (x ∷ xs) ys =
    ap (λ (bs : List ℕ). written x ++ bs) (text_append xs ys)
    ∙ sym (append_assoc (written x) (written_text xs) (written_text ys))

-- ---- fits

text_cons : (cs : List ℕ) (i : ℕ) → i < length cs
    → written_text (drop i cs) ≡ written (get_or cs i 0) ++ written_text (drop (i + 1) cs)
unfolding written_text
text_cons cs i h = ap written_text (drop-cons cs i 0 h ∙ ap (λ (n : ℕ). get_or cs i 0 ∷ drop n cs) (sym (add-one i)))

-- the room that is left is what the characters passed did not take
pub record Fitting (cs : List ℕ) (room left i : ℕ) : Type 0 where
  pub sum : left + length (written_text cs) ≡ room + length (written_text (drop i cs))

module _ {cs : List ℕ} {room left i : ℕ} (p : Fitting cs room left i) where
  module _ {w : ℕ} (h : i < length cs) (e : w ≡ length (written (get_or cs i 0))) where
    takes : length (written_text (drop i cs)) ≡ w + length (written_text (drop (i + 1) cs))
    takes =
        omega (
          arith,
          ap length (text_cons cs i h),
          length-append (written (get_or cs i 0)) (written_text (drop (i + 1) cs)),
        )

    pub fitting_next : w ≤ left → Fitting cs room (left - w) (i + 1)
    fitting_next k = record { sum = omega (arith, p.sum, takes) }

    pub fitting_short : left < w → false ≡ leb (length (written_text cs)) room
    fitting_short k = sym (lt-leb (length (written_text cs)) room (omega (arith, p.sum, takes)))

  pub fitting_end : length cs ≤ i → true ≡ leb (length (written_text cs)) room
  unfolding written_text
  fitting_end h =
      let none : length (written_text (drop i cs)) ≡ 0 =
      ap (λ (l : List ℕ). length (written_text l)) (drop_of_length-le cs h) in
      sym (le-leb (length (written_text cs)) room (omega (arith, p.sum, none)))

-- ---- write_text

-- the characters passed are put as one
pub record Sofar (cs before after : List ℕ) (at i : ℕ) : Type 0 where
  pub put : Puts before 0 (written_text (take i cs)) at after
  pub fit : length (written_text cs) ≤ length before

pub sofar_start : (cs before : List ℕ) → length (written_text cs) ≤ length before → Sofar cs before before 0 0
unfolding written_text
sofar_start cs before h = record { put = record { place = refl; run = refl }; fit = h }

text_snoc : (cs : List ℕ) (i : ℕ) → i < length cs
    → written_text (take (i + 1) cs) ≡ written_text (take i cs) ++ written (get_or cs i 0)
unfolding written_text
text_snoc cs i h =
    ap (λ (n : ℕ). written_text (take n cs)) (add-one i) ∙ ap written_text (take-suc cs i 0 h)
    ∙ text_append (take i cs) (get_or cs i 0 ∷ [])
    ∙ ap (λ (bs : List ℕ). written_text (take i cs) ++ bs) (append-nil (written (get_or cs i 0)))

text_prefix : (cs : List ℕ) (n : ℕ) → length (written_text (take n cs)) ≤ length (written_text cs)
text_prefix cs n =
    let whole = ap (λ (l : List ℕ). length (written_text l)) (take-append-drop n cs) in
    omega (
      arith,
      whole,
      ap length (text_append (take n cs) (drop n cs)),
      length-append (written_text (take n cs)) (written_text (drop n cs)),
    )

module _ {cs before after : List ℕ} {at i : ℕ} (p : Sofar cs before after at i) where
  pub sofar_length : length after ≡ length before
  sofar_length = ap length p.put.run ∙ length-sets before 0 (written_text (take i cs))

  module _ (h : i < length cs) where
    -- the next character fits
    pub sofar_room : at + length (written (get_or cs i 0)) ≤ length after
    sofar_room =
        omega (
          arith,
          sofar_length,
          p.put.place,
          p.fit,
          ap length (text_snoc cs i h),
          length-append (written_text (take i cs)) (written (get_or cs i 0)),
          text_prefix cs (i + 1),
        )

    pub sofar_next : {next : ℕ} {last : List ℕ} → Puts after at (written (get_or cs i 0)) next last
        → Sofar cs before last next (i + 1)
    sofar_next q = record { put = puts_as (text_snoc cs i h) (puts_append p.put q); fit = p.fit }

  pub sofar_end : length cs ≤ i → (Some at, after) ≡ put_at before 0 (written_text cs)
  sofar_end h = puts_put (omega (arith, p.fit)) (puts_as (ap written_text (sym (take_all i cs h))) p.put)
