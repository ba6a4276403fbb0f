-- The twin's verdict on a text is the right one, and no other is, since no text goes on past the place where the twin
-- stops, whatever its levels, and what stands before that place begins a text of the levels allowed.
use mathlib.Core.Path.{◌≡◌, refl, sym, ap, ◌∙◌}
use mathlib.Core.List.{List, [], ◌∷◌, ◌++◌, append_assoc}
use Prim.Native.Nat.{ℕ, suc, ◌+◌, ◌≤◌, ◌<◌}
use native.Mathlib.Omega.{arith}
use native.Mathlib.Decide.{dec_lt}
use lib.ListN.{length, take, drop, take-append-drop}
use lib.Seq.{take_all, take-take}
use Rattle.text.specs.Json.{levels}
use Rattle.text.specs.Machine.{from, verdict_at, verdict}
use Rattle.text.specs.Verdicts.{Text, Begins, BreaksAt, Sinks, Means, Verdict}
use Rattle.std.specs.Prelude.{Ok, Err}
use Rattle.text.specs.declared.fault.Fault.TheVariants.{Breaks, Deep}
use Rattle.text.proofs.Laws.Places.{not_whole, deep_breaks}
use Rattle.text.proofs.Laws.Live.{start, kin_start}
use Rattle.text.proofs.Laws.Levels.{verdict_more}
use Rattle.text.proofs.Laws.Stable.{Lives, Stops, Fate, whole, short, breaks, sinks, fate, stops_inside}
use Rattle.text.proofs.Laws.Stable.{stops_before, stops_past}

-- ---- texts and their beginnings

text_more : {n : ℕ} {s : List ℕ} (m : ℕ) → Text n s → Text (n + m) s
text_more m t = record { tree = t.tree; says = t.says; shallow = omega (arith, t.shallow) }

text_begins : {n : ℕ} (s : List ℕ) (p : ℕ) → Text n s → Begins n (take p s)
text_begins s p t = record { rest = drop p s; text = rw take-append-drop t }

begins_prefix : {n : ℕ} (bs cs : List ℕ) → Begins n (bs ++ cs) → Begins n bs
begins_prefix bs cs h = record { rest = cs ++ h.rest; text = rw (append_assoc bs cs h.rest) at h.text }

begins_take : {n : ℕ} (s : List ℕ) (p q : ℕ) → p ≤ q → Begins n (take q s) → Begins n (take p s)
begins_take s p q h b =
    begins_prefix (take p s) (drop p (take q s)) (rw (← take-take p q s h, take-append-drop p (take q s)) b)

-- ---- no other verdict is right

whole_breaks : {s : List ℕ} {p : ℕ} → Text levels s → BreaksAt s p → ⊥
whole_breaks t b = b.not_whole levels t

whole_deep : {s : List ℕ} → Text levels s → Sinks s → ⊥
whole_deep {s} t d = d.deep.too_deep (text_begins s (d.place + 1) t)

-- a level too many cannot be opened before the break, nor at the break or behind it
breaks_deep : {s : List ℕ} {p : ℕ} → BreaksAt s p → Sinks s → ⊥
breaks_deep {s} {p} b d = by (dec_lt d.place p)
  where
    by : Dec (d.place < p) → ⊥
    by (yes h) = d.deep.too_deep (begins_take s (d.place + 1) p (omega arith) b.before)
    by (no h) =
        b.no_more (omega (arith, d.deep.inside)) d.deep.opened
        (begins_take s (p + 1) (d.place + 1) (omega arith) d.deep.deeper)

breaks_first : {s : List ℕ} {p q : ℕ} → BreaksAt s p → BreaksAt s q → p < q → ⊥
breaks_first {s} {p} {q} b c h =
    b.no_more (omega (arith, c.inside)) levels (begins_take s (p + 1) q (omega arith) c.before)

breaks_unique : {s : List ℕ} {p q : ℕ} → BreaksAt s p → BreaksAt s q → p ≡ q
breaks_unique {p = p} {q = q} b c = by (dec_lt p q) (dec_lt q p)
  where
    by : Dec (p < q) → Dec (q < p) → p ≡ q
    by (yes h) g = absurd (breaks_first b c h)
    by (no h) (yes g) = absurd (breaks_first c b g)
    by (no h) (no g) = omega arith

pub means_unique : (s : List ℕ) (v w : Verdict) → Means s v → Means s w → v ≡ w
means_unique s (Ok x) (Ok y) a b = refl
means_unique s (Ok x) (Err (Breaks q)) a b = absurd (whole_breaks a b)
means_unique s (Ok x) (Err Deep) a b = absurd (whole_deep a b)
means_unique s (Err (Breaks p)) (Ok y) a b = absurd (whole_breaks b a)
means_unique s (Err (Breaks p)) (Err (Breaks q)) a b = ap (λ (n : ℕ). Err (Breaks n)) (breaks_unique a b)
means_unique s (Err (Breaks p)) (Err Deep) a b = absurd (breaks_deep a b)
means_unique s (Err Deep) (Ok y) a b = absurd (whole_deep b a)
means_unique s (Err Deep) (Err (Breaks q)) a b = absurd (breaks_deep b a)
means_unique s (Err Deep) (Err Deep) a b = refl

-- ---- the twin's verdict is right

module _ (sound : (n : ℕ) (s : List ℕ) → verdict_at n s ≡ Ok tt → Text n s)
    (complete : (n : ℕ) (s : List ℕ) → Text n s → verdict_at n s ≡ Ok tt) where
  lives_begins : {n : ℕ} {bs : List ℕ} → Lives (start n) bs → Begins n bs
  unfolding verdict_at from
  lives_begins {n} {bs} h = record { rest = h.rest; text = sound n (bs ++ h.rest) (h.finish.whole 0) }

  -- what breaks with some number of levels is no text of any
  breaks_never : (n : ℕ) (s : List ℕ) (p : ℕ) → verdict_at n s ≡ Err (Breaks p) → (m : ℕ) → Text m s → ⊥
  breaks_never n s p e m t =
      not_whole (sym (verdict_more (Err (Breaks p)) deep_breaks m n s e) ∙ complete (m + n) s (text_more n t))

  module _ {s us : List ℕ} {b p : ℕ} {v : Verdict} (h : Stops (start levels) s us b 0 v) (q : p ≡ 0 + length us) where
    stops_begins : Begins levels (take p s)
    stops_begins = rw (stops_before h q) (lives_begins h.lives)

    -- a text that goes on past the stop is one of those that stop there
    stops_text : {n : ℕ} (g : Begins n (take (p + 1) s)) → Text n (us ++ (b ∷ g.rest))
    stops_text g = rw (stops_past h q, append_assoc us (b ∷ []) g.rest) at g.text

  means_fate : (s : List ℕ) {v : Verdict} → Fate (start levels) (start (suc levels)) s 0 v → verdict s ≡ v → Means s v
  unfolding verdict_at from
  means_fate s whole e = sound levels s e
  means_fate s (short p h q) e =
      record {
        inside = omega arith;
        before = rw (take_all p s (omega arith)) (lives_begins h);
        not_whole = breaks_never levels s p e;
        no_more = λ i. absurd (omega arith);
      }
  means_fate s (breaks {us} {b} {p} h q) e =
      record {
        inside = omega (arith, stops_inside h q);
        before = stops_begins h q;
        not_whole = breaks_never levels s p e;
        no_more = λ i n g. breaks_never levels (us ++ (b ∷ g.rest)) p (h.always g.rest) n (stops_text h q g);
      }
  means_fate s (sinks {us} {b} h l) e =
      let q : length us ≡ 0 + length us = omega arith in
      record {
        place = length us;
        deep = record {
          inside = stops_inside h q;
          before = stops_begins h q;
          opened = suc levels;
          deeper = rw (stops_past h q) (lives_begins l);
          too_deep = λ g.
              not_whole
              (sym (h.always g.rest) ∙ complete levels (us ++ (b ∷ g.rest)) (stops_text h q g));
        };
      }

  pub verdict_means : (s : List ℕ) → Means s (verdict s)
  unfolding verdict_at from
  verdict_means s = means_fate s (fate s (kin_start levels) 0) refl
