-- Laws of Putting: bytes are put all or not at all, so a run keeps its length and what is put adds up.
--   lay_length, put_length     a run keeps its length
--   put_append                 two things put one behind the other are put as one
--   put_within                 what was put ends within the run
use mathlib.Core.Path.{◌≡◌, refl, sym, ap, ◌∙◌, subst}
use mathlib.Core.List.{List, [], ◌∷◌, ◌++◌, append_assoc}
use Prim.Native.Nat.{ℕ, suc, ◌+◌, ◌-◌, ◌≤◌, ◌<◌}
use native.Mathlib.Omega.{arith}
use native.Mathlib.Decide.{dec_lt}
use lib.ListN.{length, set, take, drop, length-append}
use lib.Seq.{sets, sets-eq, length-sets, drop-drop}
use borrow.Author.Tests.{le-leb, lt-leb}
use borrow.Rule.Slice.PartMut.{put_mid}
use Rattle.std.specs.Prelude.{Option, Some, None}
use Rattle.chars.specs.Putting.{lay, put_at, Puts}

pub lay_length : (xs out : List ℕ) → length (lay xs out) ≡ length out
unfolding lay
lay_length [] out = refl
lay_length (x ∷ xs) [] = refl
lay_length (x ∷ xs) (o ∷ out) = ap suc (lay_length xs out)

pub lay_snoc : (xs out : List ℕ) (x : ℕ) → lay (xs ++ (x ∷ [])) out ≡ set (lay xs out) (length xs) x
unfolding lay
lay_snoc [] [] x = refl
lay_snoc [] (o ∷ out) x = refl
lay_snoc (y ∷ xs) [] x = refl
lay_snoc (y ∷ xs) (o ∷ out) x = ap (λ (l : List ℕ). y ∷ l) (lay_snoc xs out x)

module _ (out : List ℕ) (at : ℕ) (bs : List ℕ) where
  pub put_fit : at + length bs ≤ length out → put_at out at bs ≡ (Some (at + length bs), sets out at bs)
  unfolding put_at
  put_fit h =
      rw (le-leb (at + length bs) (length out) h)
      (ap {B = Option ℕ × List ℕ} (λ (l : List ℕ). (Some (at + length bs), l)) (sym (sets-eq bs out at h)))

  pub put_none : length out < at + length bs → put_at out at bs ≡ (None, out)
  unfolding put_at
  put_none h = rw (lt-leb (at + length bs) (length out) h)

-- what is stored where it fits is what put_at says
pub puts_put : {out after bs : List ℕ} {at next : ℕ} → at + length bs ≤ length out → Puts out at bs next after
    → (Some next, after) ≡ put_at out at bs
puts_put {out} {after} {bs} {at} h p = cc (p.place, p.run, put_fit out at bs h)

pub puts_as : {out after bs cs : List ℕ} {at next : ℕ} → cs ≡ bs → Puts out at bs next after → Puts out at cs next after
puts_as {out} {after} {bs} {cs} {at} {next} e p = subst (λ (ds : List ℕ). Puts out at ds next after) (sym e) p

sets_append : (out : List ℕ) (at : ℕ) (xs ys : List ℕ)
    → sets out at (xs ++ ys) ≡ sets (sets out at xs) (at + length xs) ys
sets_append out at [] ys = let e : at + 0 ≡ at = omega arith in rw e
sets_append out at (x ∷ xs) ys =
    let e : suc at + length xs ≡ at + suc (length xs) = omega arith in
    sets_append (set out at x) (suc at) xs ys ∙ rw e

pub puts_append : {out mid after xs ys : List ℕ} {at next last : ℕ} → Puts out at xs next mid
    → Puts mid next ys last after → Puts out at (xs ++ ys) last after
puts_append {out} {mid} {after} {xs} {ys} {at} p q =
    record {
      place = omega (arith, p.place, q.place, length-append xs ys);
      run = q.run ∙ rw (p.run, p.place) (sym (sets_append out at xs ys));
    }

pub puts_room : {out after bs : List ℕ} {at next : ℕ} (n : ℕ) → Puts out at bs next after
    → at + length bs + n ≤ length out → next + n ≤ length after
puts_room {out} {after} {bs} {at} n p h = omega (arith, p.place, ap length p.run, length-sets out at bs)

-- bytes copied over a part of the run
pub puts_copied : {out bs mid : List ℕ} {at : ℕ} → at + length bs ≤ length out → mid ≡ bs
    → Puts out at bs (at + length bs) (put_mid at (at + length bs - at) out mid)
puts_copied {out} {bs} {mid} {at} h e =
    let k : at + length bs - at ≡ length bs = omega arith in
    let rest = drop-drop (length bs) at out in
    record { place = refl; run = rw (e, k, rest) (sym (sets-eq bs out at h ∙ append_assoc (take at out) bs (drop (at + length bs) out))) }

pub put_append : (out : List ℕ) (at : ℕ) (xs ys : List ℕ) → at + length (xs ++ ys) ≤ length out
    → put_at (put_at out at xs).1 (at + length xs) ys ≡ put_at out at (xs ++ ys)
put_append out at xs ys h =
    let first : at + length xs ≤ length out = omega (arith, length-append xs ys) in
    let second : at + length xs + length ys ≤ length (sets out at xs) =
    omega (arith, length-append xs ys, length-sets out at xs) in
    let sum : at + length xs + length ys ≡ at + length (xs ++ ys) = omega (arith, length-append xs ys) in
    rw (put_fit out at xs first)
    (put_fit (sets out at xs) (at + length xs) ys second
    ∙ rw (sum, ← sets_append out at xs ys) (sym (put_fit out at (xs ++ ys) h)))

pub put_length : (out : List ℕ) (at : ℕ) (bs : List ℕ) → length (put_at out at bs).1 ≡ length out
put_length out at bs = by (dec_lt (length out) (at + length bs))
  where
    by : Dec (length out < at + length bs) → length (put_at out at bs).1 ≡ length out
    by (yes h) = rw (put_none out at bs h)
    by (no h) =
        let fit : at + length bs ≤ length out = omega arith in rw (put_fit out at bs fit) (length-sets out at bs)

-- what was put ends within the run
pub put_within : (out : List ℕ) (at : ℕ) (bs : List ℕ) {next : ℕ} {after : List ℕ} → (Some next, after) ≡ put_at out at bs
    → next ≤ length after
put_within out at bs {next} {after} e = by (dec_lt (length out) (at + length bs))
  where
    place : Option ℕ × List ℕ → Option ℕ
    place r = r.0

    by : Dec (length out < at + length bs) → next ≤ length after
    by (yes h) = cc (ap place (e ∙ put_none out at bs h))
    by (no h) =
        let fit = e ∙ put_fit out at bs (omega arith) in
        let n : next ≡ at + length bs = cc (ap place fit) in
        let l : length after ≡ length (sets out at bs) = ap (λ (r : Option ℕ × List ℕ). length r.1) fit in
        omega (arith, n, l, length-sets out at bs)
