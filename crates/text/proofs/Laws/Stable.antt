-- What follows the byte at which the twin stops changes no verdict, since the twin reads bytes in order and none twice.
--   Lives k bs            the bytes bs can be gone on with so that they finish the stack k
--   Stops k s us b at v   s is us, which lives, and b, with which the verdict is v whatever follows
--   Fate k l s at v       why the bytes s, which begin at place `at`, have the verdict v; l is k with one level more
use mathlib.Core.Path.{◌≡◌, refl, sym, ap, ◌∙◌}
use mathlib.Core.Bool.{Bool, true, false}
use mathlib.Core.List.{List, [], ◌∷◌, ◌++◌, append_assoc}
use Prim.Native.Nat.{ℕ, ◌+◌, ◌<◌}
use native.Mathlib.Omega.{arith}
use lib.ListN.{length, take, length-append}
use lib.Seq.{take_at}
use Rattle.chars.specs.Base.{pick}
use Rattle.text.specs.Machine.{Item, Move, pass, bad, deep, go, feed, ends, after, run}
use Rattle.std.specs.Prelude.{Ok, Err}
use Rattle.text.specs.Verdicts.{Verdict}
use Rattle.text.specs.declared.fault.Fault.TheVariants.{Breaks, Deep}
use Rattle.text.proofs.Laws.Live.{Ends, Kin, kin_ends}
use Rattle.text.proofs.Laws.Levels.{Keeps, both_pass, both_bad, both_go, one_deep, kin_feed}

pub record Lives (k : List Item) (bs : List ℕ) : Type 0 where
  pub rest : List ℕ
  pub finish : Ends k (bs ++ rest)

pub record Stops (k : List Item) (s us : List ℕ) (b at : ℕ) (v : Verdict) : Type 0 where
  pub unread : List ℕ
  pub split : s ≡ us ++ (b ∷ unread)
  pub lives : Lives k us
  pub always : (ds : List ℕ) → run k (us ++ (b ∷ ds)) at ≡ v

-- the text is whole; it ends too early; a byte breaks it; a byte opens a level too many, which l has
pub data Fate (k l : List Item) (s : List ℕ) (at : ℕ) : Verdict → Type 0 where
  whole : Fate k l s at (Ok tt)
  short : (p : ℕ) → Lives k s → p ≡ at + length s → Fate k l s at (Err (Breaks p))
  breaks : {us : List ℕ} {b p : ℕ} → Stops k s us b at (Err (Breaks p)) → p ≡ at + length us → Fate k l s at (Err (Breaks p))
  sinks : {us : List ℕ} {b : ℕ} → Stops k s us b at (Err Deep) → Lives l (us ++ (b ∷ [])) → Fate k l s at (Err Deep)

-- ---- one byte more in front

lives_cons : {k j : List Item} {b : ℕ} {bs : List ℕ} → feed k b ≡ go j → Lives j bs → Lives k (b ∷ bs)
unfolding run
lives_cons e h = record { rest = h.rest; finish = record { whole = λ at. rw e (h.finish.whole (at + 1)) } }

module _ {k j : List Item} {b at : ℕ} {s : List ℕ} (e : feed k b ≡ go j) where
  stops_cons : {us : List ℕ} {c : ℕ} {v : Verdict} → Stops j s us c (at + 1) v → Stops k (b ∷ s) (b ∷ us) c at v
  unfolding run
  stops_cons h =
      record {
        unread = h.unread;
        split = ap (◌∷◌ b) h.split;
        lives = lives_cons e h.lives;
        always = λ ds. rw e (h.always ds);
      }

  fate_cons : {l i : List Item} {v : Verdict} → feed l b ≡ go i → Fate j i s (at + 1) v → Fate k l (b ∷ s) at v
  fate_cons f whole = whole
  fate_cons f (short p h q) = short p (lives_cons e h) (omega arith)
  fate_cons f (breaks h q) = breaks (stops_cons h) (omega arith)
  fate_cons f (sinks h g) = sinks (stops_cons h) (lives_cons f g)

-- ---- all bytes

module _ {k l : List Item} {w : List ℕ} (g : Kin k l w) (at : ℕ) where
  lives_none : Lives k []
  lives_none = record { rest = w; finish = kin_ends g }

  fate_end : (t : Bool) → Fate k l [] at (pick t (Ok tt) (Err (Breaks at)))
  fate_end true = whole
  fate_end false = short at lives_none (omega arith)

  module _ (b : ℕ) (s : List ℕ) where
    stops_here : (v : Verdict) → ((ds : List ℕ) → run k (b ∷ ds) at ≡ v) → Stops k (b ∷ s) [] b at v
    stops_here v e = record { unread = s; split = refl; lives = lives_none; always = e }

    fate_on : (m n : Move) → feed k b ≡ m → feed l b ≡ n → Keeps m n
        → ((i j : List Item) (v : List ℕ) → Kin i j v → Fate i j s (at + 1) (run i s (at + 1)))
        → Fate k l (b ∷ s) at (after m at (λ j. run j s (at + 1)))
    unfolding run
    fate_on pass pass e f both_pass r = breaks (stops_here (Err (Breaks at)) (λ ds. rw e)) (omega arith)
    fate_on bad bad e f both_bad r = breaks (stops_here (Err (Breaks at)) (λ ds. rw e)) (omega arith)
    fate_on (go i) (go j) e f (both_go {w = v} h) r = fate_cons e f (r i j v h)
    fate_on deep (go j) e f (one_deep {w = v} h) r =
        sinks (stops_here (Err Deep) (λ ds. rw e)) (lives_cons f (record { rest = v; finish = h }))
    fate_on pass bad e f x8 r = elim x8 [ ]
    fate_on pass deep e f x9 r = elim x9 [ ]
    fate_on pass (go j) e f x10 r = elim x10 [ ]
    fate_on bad pass e f x6 r = elim x6 [ ]
    fate_on bad deep e f x7 r = elim x7 [ ]
    fate_on bad (go j) e f x8 r = elim x8 [ ]
    fate_on deep pass e f x7 r = elim x7 [ ]
    fate_on deep bad e f x8 r = elim x8 [ ]
    fate_on deep deep e f x9 r = elim x9 [ ]
    fate_on (go i) pass e f x8 r = elim x8 [ ]
    fate_on (go i) bad e f x9 r = elim x9 [ ]
    fate_on (go i) deep e f x10 r = elim x10 [ ]

pub fate : {k l : List Item} {w : List ℕ} (s : List ℕ) → Kin k l w → (at : ℕ) → Fate k l s at (run k s at)
unfolding run
fate {k} [] g at = fate_end g at (ends k)
fate {k} {l} (b ∷ s) g at =
    fate_on g at b s (feed k b) (feed l b) refl refl (kin_feed g b) (λ i j v h. fate s h (at + 1))

-- ---- the place of the byte at which the twin stops

module _ {k : List Item} {s us : List ℕ} {b p : ℕ} {v : Verdict} (h : Stops k s us b 0 v) (e : p ≡ 0 + length us) where
  pub stops_inside : p < length s
  stops_inside = omega (arith, ap length h.split, length-append us (b ∷ h.unread))

  pub stops_before : take p s ≡ us
  stops_before = ap (take p) h.split ∙ take_at us (b ∷ h.unread) p (omega arith)

  pub stops_past : take (p + 1) s ≡ us ++ (b ∷ [])
  stops_past =
      ap (take (p + 1)) (h.split ∙ sym (append_assoc us (b ∷ []) h.unread))
      ∙ take_at (us ++ (b ∷ [])) h.unread (p + 1) (omega (arith, length-append us (b ∷ [])))
