-- Plain characters: what the tests let pass, and how they are put one behind another.
use mathlib.Core.Path.{◌≡◌, refl, sym, ap, ◌∙◌, subst}
use mathlib.Core.Bool.{Bool, true, false, not, ◌&&◌}
use mathlib.Core.List.{List, [], ◌∷◌, ◌++◌, append-nil, append_assoc}
use Prim.Native.Nat.{ℕ, zero, suc, ◌+◌, ◌-◌, ◌≤◌, ◌<◌}
use native.Mathlib.Omega.{arith}
use lib.Dec.{eqb, ltb}
use lib.ListN.{length, get_or, take, drop, set, length-append, length-drop, drop_of_length-le}
use lib.Seq.{take_all, take-add, drop-drop, drop-cons, sets, sets-eq, length-take-le, take-append_seam, drop-append_seam}
use borrow.Rule.Slice.PartMut.{put_mid}
use borrow.Author.Tests.{ltb-true, eqb-false, ne_eqb, not-true}
use Rattle.chars.proofs.Laws.Tests.{each_true}
use Rattle.chars.proofs.Laws.Written.Forms.{written_bare}
use Rattle.writing.specs.Valid.{none, more}
use Rattle.writing.specs.WrittenForm.{is_escaped}
use Rattle.writing.specs.declared.sink.Sink.{Sink}
use Rattle.writing.specs.Plain.{Plain, AllPlain, PlainPut, AddsPlain}
use Rattle.writing.proofs.Laws.Showing.{adds_none, adds_in}
use Rattle.writing.proofs.Laws.Chars.{plain_bare, any_escaped}

-- ---- one character

not_escaped : (w : Bool) (y : ℕ) → (y ≡ 36 → ⊥) → (y ≡ 42 → ⊥) → (y ≡ 63 → ⊥) → is_escaped w y ≡ false
not_escaped false y d s a = sym (plain_bare false y d refl)
not_escaped true y d s a = sym (any_escaped true y d refl s) ∙ ne_eqb y 63 a

pub tests_plain :
    (y : ℕ)
    → ((((((ltb 31 y && ltb y 127) && not (eqb y 34)) && not (eqb y 36)) && not (eqb y 42)) && not (eqb y 63))
    && not (eqb y 92)) ≡ true → Plain y
tests_plain y h =
    let p = each_true _ _ h in
    let q = each_true _ _ p.0 in
    let r = each_true _ _ q.0 in
    let s = each_true _ _ r.0 in
    let t = each_true _ _ s.0 in
    let u = each_true _ _ t.0 in
    let low = ltb-true 31 y u.0 in
    let high = ltb-true y 127 u.1 in
    let quote = eqb-false y 34 (not-true _ t.1) in
    let dollar = eqb-false y 36 (not-true _ s.1) in
    let star = eqb-false y 42 (not-true _ r.1) in
    let any = eqb-false y 63 (not-true _ q.1) in
    let solidus = eqb-false y 92 (not-true _ p.1) in
    record {
      small = omega (arith, high);
      itself = written_bare y quote solidus (omega (arith, low)) (omega (arith, high));
      bare = λ w. not_escaped w y dollar star any;
    }

-- ---- several

all_append : {xs ys : List ℕ} → AllPlain xs → AllPlain ys → AllPlain (xs ++ ys)
all_append none q = q
all_append (more p ps) q = more p (all_append ps q)

pub all_at : {xs : List ℕ} (k : ℕ) → AllPlain xs → k < length xs → Plain (get_or xs k 0)
all_at k none h = absurd (omega arith)
all_at zero (more p ps) h = p
all_at (suc k) (more p ps) h = all_at k ps (omega arith)

all_next : (ys : List ℕ) (n k : ℕ) → AllPlain (take n ys) → AllPlain (take k (drop n ys)) → AllPlain (take (n + k) ys)
all_next ys n k p q = subst AllPlain (sym (take-add n k ys)) (all_append p q)

one_is : (ys : List ℕ) (n : ℕ) → n < length ys → take 1 (drop n ys) ≡ get_or ys n 0 ∷ []
one_is ys n h = ap (take 1) (drop-cons ys n 0 h)

pub all_one : (ys : List ℕ) (n : ℕ) → n < length ys → AllPlain (take n ys) → Plain (get_or ys n 0)
    → AllPlain (take (n + 1) ys)
all_one ys n h p q = all_next ys n 1 p (subst AllPlain (sym (one_is ys n h)) (more q none))

-- ---- put at the beginning

pub put_start : (ys out : List ℕ) → PlainPut ys 0 out out
put_start ys out = record { inside = omega arith; room = omega arith; plain = none; is = refl }

module _ {ys out mid : List ℕ} {n : ℕ} (w : PlainPut ys n out mid) where
  pub put_size : length mid ≡ length out
  put_size =
      ap length w.is
      ∙ omega (arith, length-append (take n ys) (drop n out), length-take-le n ys w.inside, length-drop n out, w.room)

  front : length (take n ys) ≡ n
  front = length-take-le n ys w.inside

  -- behind it, what stood there before
  rest : drop n mid ≡ drop n out
  rest =
      ap (drop n) w.is ∙ ap (λ (k : ℕ). drop k (take n ys ++ drop n out)) (sym front)
      ∙ drop-append_seam (take n ys) (drop n out)

  before : take n mid ≡ take n ys
  before =
      ap (take n) w.is ∙ ap (λ (k : ℕ). take k (take n ys ++ drop n out)) (sym front)
      ∙ take-append_seam (take n ys) (drop n out)

  pub put_then :
      (k : ℕ) {m : ℕ} {zs : List ℕ} → m ≡ k → n + k ≤ length ys → n + k ≤ length out → AllPlain (take k (drop n ys))
      → zs ≡ take k (drop n ys) → PlainPut ys (n + k) out (put_mid n m mid zs)
  put_then k {m} {zs} j h g p e =
      record {
        inside = h;
        room = g;
        plain = all_next ys n k w.plain p;
        is = ap (λ (i : ℕ). take n mid ++ (zs ++ drop i (drop n mid))) j
            ∙ ap (λ (l : List ℕ). l ++ (zs ++ drop k (drop n mid))) before
            ∙ ap (λ (l : List ℕ). take n ys ++ (l ++ drop k (drop n mid))) e
            ∙ ap (λ (l : List ℕ). take n ys ++ (take k (drop n ys) ++ drop k l)) rest
            ∙ sym (append_assoc (take n ys) (take k (drop n ys)) (drop k (drop n out)))
            ∙ ap (λ (l : List ℕ). l ++ drop k (drop n out)) (sym (take-add n k ys))
            ∙ ap (λ (l : List ℕ). take (n + k) ys ++ l) (drop-drop k n out);
      }

  pub put_next : n < length ys → n < length mid → Plain (get_or ys n 0) → PlainPut ys (n + 1) out (set mid n (get_or ys n 0))
  put_next h g q =
      let one = one_is ys n h in
      let p : AllPlain (take 1 (drop n ys)) = subst AllPlain (sym one) (more q none) in
      subst (PlainPut ys (n + 1) out) (set_is mid n (get_or ys n 0) g)
      (put_then 1 refl (omega arith) (omega (arith, put_size)) p (sym one))
    where
      set_is : (xs : List ℕ) (k b : ℕ) → k < length xs → put_mid k 1 xs (b ∷ []) ≡ set xs k b
      set_is xs k b m =
          sym (append_assoc (take k xs) (b ∷ []) (drop 1 (drop k xs)))
          ∙ ap (λ (l : List ℕ). take k xs ++ (b ∷ []) ++ l) (drop-drop 1 k xs)
          ∙ sym (sets-eq (b ∷ []) xs k (omega arith))

-- ---- put by a sink

pub plain_none : (ys : List ℕ) (s : Sink) → AddsPlain ys 0 s s
plain_none ys s = record { inside = omega arith; plain = none; adds = adds_none s }

pub plain_added :
    {s t : Sink} {ys xs : List ℕ} {n k : ℕ} → s.at ≤ length s.room.now → k ≡ length s.room.now - s.at
    → PlainPut ys n (take k (drop s.at s.room.now)) xs → t.room.now ≡ put_mid s.at k s.room.now xs
    → t.at ≡ s.at + n → t.over ≡ s.over → t.room.ghost_name ≡ s.room.ghost_name → AddsPlain ys n s t
plain_added {s} {t} {ys} {xs} {n} {k} h e w is place same lent =
    let out = s.room.now in
    let long : length (take n ys) ≡ n = length-take-le n ys w.inside in
    let room : take k (drop s.at out) ≡ drop s.at out = take_all k (drop s.at out) (omega (arith, e, length-drop s.at out)) in
    let none : drop k (drop s.at out) ≡ [] =
    drop_of_length-le (drop s.at out) {i = k} (omega (arith, e, length-drop s.at out)) in
    let fits : s.at + length (take n ys) ≤ length out =
    omega (arith, long, h, w.room, ap length room, length-drop s.at out) in
    let stands : t.room.now ≡ sets out s.at (take n ys) =
    is ∙ ap (λ (l : List ℕ). take s.at out ++ (xs ++ l)) none
    ∙ ap (λ (l : List ℕ). take s.at out ++ l) (append-nil xs ∙ w.is)
    ∙ ap (λ (l : List ℕ). take s.at out ++ (take n ys ++ drop n l)) room
    ∙ ap (λ (l : List ℕ). take s.at out ++ (take n ys ++ l)) (drop-drop n s.at out)
    ∙ ap (λ (i : ℕ). take s.at out ++ (take n ys ++ drop (s.at + i) out)) (sym long)
    ∙ sym (append_assoc (take s.at out) (take n ys) (drop (s.at + length (take n ys)) out))
    ∙ sym (sets-eq (take n ys) out s.at fits) in
    record {
      inside = w.inside;
      plain = w.plain;
      adds = adds_in (take n ys) fits stands (omega (arith, place, long)) same lent;
    }
