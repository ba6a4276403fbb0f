-- What a sink shows: nothing yet, and things added one behind the other.
--   shows_new               nothing yet
--   adds_none, adds_then    nothing, and one thing behind another
--   adds_over, adds_in      bytes that do not fit, and bytes that are put
--   put_short, put_whole    the same for bytes that are put all or not at all
use mathlib.Core.Path.{◌≡◌, refl, sym, ap, ◌∙◌, subst}
use mathlib.Core.Bool.{Bool, true, false}
use mathlib.Core.List.{List, [], ◌∷◌, ◌++◌, append-nil, append_assoc}
use Prim.Native.Nat.{ℕ, ◌+◌, ◌≤◌, ◌<◌}
use native.Mathlib.Omega.{arith}
use native.Mathlib.Decide.{dec_lt}
use lib.ListN.{length, set, take, drop, length-append}
use lib.Seq.{sets, sets-eq, length-sets, take-append_seam, drop-drop}
use borrow.Rule.Slice.PartMut.{put_mid}
use Rattle.std.specs.Prelude.{Option, Some, None}
use Rattle.chars.specs.Putting.{put_at}
use Rattle.chars.proofs.Laws.Putting.{put_fit, put_none}
use Rattle.writing.specs.declared.sink.Sink.{Sink}
use Rattle.writing.specs.Showing.{Shows, whole, over, Adds, Ends}

pub shows_new : {s : Sink} → s.at ≡ 0 → s.over ≡ false → Shows [] s
shows_new {s} p o = whole o p s.room.now refl

-- ---- one thing behind another

pub adds_none : (s : Sink) → Adds [] s s
adds_none s = record { lent = refl; size = refl; adds = λ ws h. subst (λ (l : List ℕ). Shows l s) (sym (append-nil ws)) h }

pub adds_then : {xs bs : List ℕ} {s t u : Sink} → Adds xs s t → Adds bs t u → Adds (xs ++ bs) s u
adds_then {xs} {bs} {s} {t} {u} p q =
    record {
      lent = q.lent ∙ p.lent;
      size = q.size ∙ p.size;
      adds = λ ws h. subst (λ (l : List ℕ). Shows l u) (append_assoc ws xs bs) (q.adds (ws ++ xs) (p.adds ws h));
    }

pub adds_as : {xs bs : List ℕ} {s t : Sink} → xs ≡ bs → Adds xs s t → Adds bs s t
adds_as {xs} {bs} {s} {t} e p = subst (λ (l : List ℕ). Adds l s t) e p

-- ---- bytes that are put

-- what does not fit is over
over_now :
    {ws : List ℕ} {s t : Sink} (bs : List ℕ) → Ends s t → length s.room.now < s.at + length bs → Shows ws s
    → Shows (ws ++ bs) t
over_now {ws} bs e h (whole o p rest q) =
    over e.over (omega (arith, e.place, ap length e.room)) (omega (arith, length-append ws bs, p, ap length e.room))
over_now {ws} bs e h (over o p n) =
    over e.over (omega (arith, e.place, ap length e.room)) (omega (arith, length-append ws bs, ap length e.room))

pub adds_over : {s t : Sink} (bs : List ℕ) → Ends s t → length s.room.now < s.at + length bs → Adds bs s t
adds_over bs e h = record { lent = e.lent; size = ap length e.room; adds = λ ws w. over_now bs e h w }

-- what is over stays over
true_false : ◌≡◌ {A = Bool} true false → ⊥
true_false e = cc

still_over : {ws : List ℕ} {s : Sink} (bs : List ℕ) → s.over ≡ true → Shows ws s → Shows (ws ++ bs) s
still_over bs e (whole o p rest q) = absurd (true_false (sym e ∙ o))
still_over {ws} bs e (over o p n) = over o p (omega (arith, n, length-append ws bs))

pub adds_still : {s : Sink} (bs : List ℕ) → s.over ≡ true → Adds bs s s
adds_still bs e = record { lent = refl; size = refl; adds = λ ws w. still_over bs e w }

put_now :
    {ws : List ℕ} {s t : Sink} (bs : List ℕ) → s.at + length bs ≤ length s.room.now → t.room.now ≡ sets s.room.now s.at bs
    → t.at ≡ s.at + length bs → t.over ≡ s.over → length t.room.now ≡ length s.room.now → Shows ws s → Shows (ws ++ bs) t
put_now {ws} {s} {t} bs h is place same size (over o p n) =
    over (same ∙ o) (omega (arith, place, size, p)) (omega (arith, size, n, length-append ws bs))
put_now {ws} {s} {t} bs h is place same size (whole o p rest e) =
    let behind = drop (s.at + length bs) s.room.now in
    let before : take s.at s.room.now ≡ ws =
    ap (λ (k : ℕ). take k s.room.now) p ∙ ap (take (length ws)) e ∙ take-append_seam ws rest in
    whole (same ∙ o) (omega (arith, place, p, length-append ws bs)) behind
    (is ∙ sets-eq bs s.room.now s.at h ∙ ap (λ (l : List ℕ). l ++ bs ++ behind) before)

pub adds_in :
    {s t : Sink} (bs : List ℕ) → s.at + length bs ≤ length s.room.now → t.room.now ≡ sets s.room.now s.at bs
    → t.at ≡ s.at + length bs → t.over ≡ s.over → t.room.ghost_name ≡ s.room.ghost_name → Adds bs s t
adds_in {s} bs h is place same lent =
    let size = ap length is ∙ length-sets s.room.now s.at bs in
    record { lent = lent; size = size; adds = λ ws w. put_now bs h is place same size w }

-- a byte that is stored
pub byte_in :
    {s t : Sink} (b : ℕ) → s.at < length s.room.now → t.room.now ≡ set s.room.now s.at b → t.at ≡ s.at + 1
    → t.over ≡ s.over → t.room.ghost_name ≡ s.room.ghost_name → Adds (b ∷ []) s t
byte_in b h is place same lent = adds_in (b ∷ []) (omega arith) is place same lent

-- bytes that are stored together, as a part of so many
pub stored_in :
    {s t : Sink} {bs ys : List ℕ} {n : ℕ} → s.at + length bs ≤ length s.room.now → n ≡ length bs → ys ≡ bs
    → t.room.now ≡ put_mid s.at n s.room.now ys → t.at ≡ s.at + length bs → t.over ≡ s.over
    → t.room.ghost_name ≡ s.room.ghost_name → Adds bs s t
stored_in {s} {t} {bs} {ys} {n} h e y is place same lent =
    let out = s.room.now in
    adds_in bs h
    (is ∙ sym (append_assoc (take s.at out) ys (drop n (drop s.at out)))
    ∙ ap (λ (l : List ℕ). take s.at out ++ l ++ drop n (drop s.at out)) y
    ∙ ap (λ (k : ℕ). take s.at out ++ bs ++ drop k (drop s.at out)) e
    ∙ ap (λ (l : List ℕ). take s.at out ++ bs ++ l) (drop-drop (length bs) s.at out)
    ∙ sym (sets-eq bs out s.at h))
    place same lent

-- bytes that are put all or not at all, and an answer tells which
none_some : {n : ℕ} → ◌≡◌ {A = Option ℕ} None (Some n) → ⊥
none_some q = cc

some_same : {n m : ℕ} → ◌≡◌ {A = Option ℕ} (Some n) (Some m) → n ≡ m
some_same q = cc

module _ (out bs : List ℕ) (at : ℕ) {after : List ℕ} {o : Option ℕ} (e : (o, after) ≡ put_at out at bs) where
  short_is : o ≡ None → length out < at + length bs
  short_is n = by (dec_lt (length out) (at + length bs))
    where
      by : Dec (length out < at + length bs) → length out < at + length bs
      by (yes h) = h
      by (no h) = absurd (none_some (sym n ∙ ap (λ (r : Option ℕ × List ℕ). r.0) (e ∙ put_fit out at bs (omega arith))))

  long_is : {next : ℕ} → o ≡ Some next → at + length bs ≤ length out
  long_is n = by (dec_lt (length out) (at + length bs))
    where
      by : Dec (length out < at + length bs) → at + length bs ≤ length out
      by (yes h) = absurd (none_some (sym (ap (λ (r : Option ℕ × List ℕ). r.0) (e ∙ put_none out at bs h)) ∙ n))
      by (no h) = omega arith

pub put_short :
    {s t u : Sink} {after bs : List ℕ} {o : Option ℕ} → (o, after) ≡ put_at s.room.now s.at bs → o ≡ None
    → u.room.now ≡ after → u.room.ghost_name ≡ s.room.ghost_name → Ends u t → Adds bs s t
put_short {s} {t} {u} {after} {bs} e n is lent d =
    let h = short_is s.room.now bs s.at e n in
    let same : u.room.now ≡ s.room.now =
    is ∙ ap (λ (r : Option ℕ × List ℕ). r.1) (e ∙ put_none s.room.now s.at bs h) in
    adds_over bs (record { lent = d.lent ∙ lent; room = d.room ∙ same; place = d.place ∙ ap length same; over = d.over }) h

pub put_whole :
    {s t : Sink} {after bs : List ℕ} {o : Option ℕ} {next : ℕ} → (o, after) ≡ put_at s.room.now s.at bs → o ≡ Some next
    → t.room.now ≡ after → t.at ≡ next → t.over ≡ s.over → t.room.ghost_name ≡ s.room.ghost_name → Adds bs s t
put_whole {s} {t} {after} {bs} e n is place same lent =
    let h = long_is s.room.now bs s.at e n in
    let f = e ∙ put_fit s.room.now s.at bs h in
    adds_in bs h (is ∙ ap (λ (r : Option ℕ × List ℕ). r.1) f)
    (place ∙ some_same (sym n ∙ ap (λ (r : Option ℕ × List ℕ). r.0) f)) same lent
