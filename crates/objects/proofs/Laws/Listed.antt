-- A list of statements: each is passed behind those before it, or the list is given up at one of them, or behind one.
--   Reached s v i       the items owed at the place of a statement
--   Listing s v ..      the statements passed so far, and where the first ones lie
--   counts_left         a statement was given up
--   counts_closed       the list ends, or is given up behind its last statement
--   walks_alone         a statement that stands by itself
use mathlib.Core.Path.{◌≡◌, refl, sym, ap, ◌∙◌, subst}
use Rattle.std.specs.Prelude.{Result, Ok, Err}
use mathlib.Core.Bool.{Bool, false}
use mathlib.Core.Logic.{◌⊎◌, inl, inr}
use mathlib.Core.List.{List, [], ◌∷◌, ◌++◌, map}
use Prim.Native.Nat.{ℕ, suc, ◌+◌, ◌≤◌, ◌<◌}
use native.Mathlib.Omega.{arith}
use lib.ListN.{length, length-set, drop, set, replicate}
use Rattle.chars.specs.Base.{At}
use Rattle.text.specs.Json.{Json, null, bool, number, string, list, object, Values, no_more, also, depth, depths, a_value}
use Rattle.text.specs.Json.{elements, Reads, element, empty_list, some_list}
use Rattle.text.specs.Contents.{Ends, Stands}
use Rattle.text.specs.Machine.{ws, byte, value, next, inner}
use Rattle.text.specs.Reading.{Leads}
use Rattle.text.specs.declared.scan.Shape.TheVariants as S
use Rattle.text.proofs.Laws.Reading.{seq, frame}
use Rattle.text.proofs.Laws.Ends.{ends_rest}
use Rattle.text.proofs.Laws.Starts.{value_starts}
use Rattle.text.proofs.Laws.Complete.{Shut, shut_list, shut_object}
use Rattle.text.proofs.Laws.Sound.{all_at}
use Rattle.text.proofs.Laws.Resuming.{alive_on, tree_is}
use Rattle.syntax.specs.Policy.{Statement}
use Rattle.syntax.specs.Forms.{Reading, wrong, read}
use Rattle.syntax.specs.Members.{then, cons, each, one_or_more, has_like, differing}
use Rattle.syntax.specs.PolicyLayout.{statement_of, same_sid}
use Rattle.held.specs.Held.{held_each, held_statement}
use Rattle.held.specs.Lying.{Lies, Lying, LyingMany, Placed, PlacedMany}
use Rattle.held.proofs.Laws.Runs.{lies_front}
use Rattle.held.proofs.Laws.Placed.{placed_none, placed_next, placed_kept, placed_many}
use Rattle.parts.specs.Room.{Roomy}
use Rattle.parts.proofs.Laws.Extends.{extends_then, extends_kept, extends_lies}
use Rattle.parts.specs.Unfit.{Bad}
use Rattle.parts.proofs.Laws.Fits.{wrong_read}
use Rattle.straight.specs.Marks.{Opened, Closed, Parted}
use Rattle.straight.specs.Taking.{Taken, TakenSeveral}
use Rattle.straight.proofs.Laws.Leading.{opened_inner, value_behind, shut_behind, parted_inner, parted_ends}
use Rattle.straight.proofs.Laws.Lists.{elements_of, element_passed, more_are}
use Rattle.straight.proofs.Laws.Going.{Going, Passed, going_size}
use Rattle.straight.proofs.Laws.Differing.{Differing, differing_start, differing_roomy, differing_lying}
use Rattle.straight.proofs.Laws.Differing.{differing_more, differing_end}
use Rattle.parts.specs.declared.holding.Ended.{Ended}
use Rattle.parts.specs.declared.holding.Listed.{Listed}
use Rattle.objects.specs.declared.leaving.Lost.{Lost}
use Rattle.objects.specs.declared.leaving.Lost.TheVariants as T
use Rattle.objects.specs.declared.leaving.Owed.TheVariants as O
use Rattle.objects.specs.declared.leaving.Place.{Place}
use Rattle.objects.specs.Leaving.{named, within, Blame, Stuck, StuckAt, States, Counts, Walks, Closes, inside}
use Rattle.objects.specs.Leaving.{policy_from}
use Rattle.objects.proofs.Laws.Policies.{statements, statements_mean}

-- ---- statements are objects

pub statement_shut : (t : Json) {x : Statement} → statement_of t ≡ read x → Shut t
unfolding statement_of
statement_shut null e = wrong_read e
statement_shut (bool b) e = wrong_read e
statement_shut (number w) e = wrong_read e
statement_shut (string w) e = wrong_read e
statement_shut (list ts) e = wrong_read e
statement_shut (object ms) e = shut_object

-- ---- where a list has come to

pub record Reached (s : List ℕ) (v i : ℕ) : Type 0 where
  pub reach : (n b : ℕ) → 4 ≤ n → At s i b → (b ≡ 93 → ⊥) → Leads s (value (suc n) ∷ []) v (inner S.List n) i

pub reached_start : {s : List ℕ} {v i : ℕ} → Opened s 91 v i → Reached s v i
reached_start o = record { reach = λ n b h p z. opened_inner S.List n o p (λ e. z (sym p.is ∙ e)) }

module _ {s run run₁ : List ℕ} {v i p q e : ℕ} (r : Reached s v i)
    (t : Taken held_statement statement_of 4 s run run₁ i p q e) where
  here : (n : ℕ) → 4 ≤ n → Leads s (value (suc n) ∷ []) v (inner S.List n) i
  here n h = let b = value_starts t.reads in r.reach n b.first h b.at b.inner

  pub reached_more : {c : ℕ} → Parted s 44 e c → Reached s v c
  reached_more d =
      record {
        reach = λ n b h a z. seq (seq (here n h) (value_behind S.List n t.reads (omega (arith, t.shallow))
            (parted_ends d))) (parted_inner d S.List n);
      }

  pub reached_behind : (n : ℕ) → 4 ≤ n → Leads s (value (suc n) ∷ []) v (ws ∷ next S.List n ∷ []) e
  reached_behind n h =
      seq (here n h)
      (shut_behind S.List n (statement_shut t.tree t.laid.said) t.reads (omega (arith, t.shallow)))

  -- given up behind a statement
  pub next_stuck : Stuck policy_from 15 (within O.Next) (Blame O.Next s e) s v e
  next_stuck = record { leads = reached_behind 14 (omega arith); blames = λ t e p b. absurd b }

-- ---- the statement at which a list is given up

pub record Head (s : List ℕ) (ts : Values) (i e : ℕ) : Type 0 where
  pub first : Json
  pub others : Values
  pub is : ts ≡ also first others
  pub stop : ℕ
  pub reads : Reads s (a_value first) i stop
  pub ends : Ends s stop

elements_head : {s : List ℕ} {ts : Values} {i e : ℕ} → Reads s (elements ts) i e → Head s ts i e
elements_head (element {j = j} {t = t} {ts = ts} r m) =
    record { first = t; others = ts; is = refl; stop = j; reads = r; ends = ends_rest m }

first_deep : (ts : Values) {t : Json} {us : Values} {n : ℕ} → ts ≡ also t us → depths ts ≤ n → depth t ≤ n
unfolding depths
first_deep ts {t} {us} {n} e h =
    let g = subst (λ (x : Values). depths x ≤ n) e h in omega arith

first_wrong : (ts : Values) {t : Json} {us : Values} → ts ≡ also t us → statement_of t ≡ wrong
    → each statement_of ts ≡ wrong
unfolding each
first_wrong ts {us = us} e h = ap (each statement_of) e ∙ ap (λ (x : Reading Statement). cons x (each statement_of us)) h

policy_fails : (us : Values) → (us ≡ no_more → ⊥) → each statement_of us ≡ wrong
    → policy_from (list us) ≡ wrong
policy_fails us n e =
    ap (λ (x : Reading (List Statement)). then x (differing same_sid)) (more_are held_statement statement_of 4 us n ∙ e)

module _ {s run₀ run : List ℕ} {v at i p n : ℕ} {things : List Statement} (r : Reached s v i)
    (g : Going (elements_of held_statement statement_of 4) s v run₀ at i run p n things) where
  listed_stuck : {j : ℕ} → At s i 123 → ((m : ℕ) → 3 ≤ m → Stuck statement_of (suc m) (named m) (Bad s j) s i j)
      → Stuck policy_from 15 (within O.Listed) (Blame O.Listed s j) s v j
  listed_stuck {j} o stuck =
      record {
        leads = seq (r.reach 14 123 (omega arith) o (omega arith))
            (frame (ws ∷ next S.List 14 ∷ []) (stuck 13 (omega arith)).leads);
        blames = λ t e p bad. by t e p bad;
      }
    where
      by : (t : Json) (e : ℕ) → Stands s t v e → Bad s j → policy_from t ≡ wrong
      by t e p bad =
          let l = r.reach 15 123 (omega arith) o (omega arith) in
          let f = (all_at s i l.high).elements_at 15 (map byte (drop e s)) (alive_on p l) in
          let h = elements_head f.reads in
          let w = g.goes f.what f.stop f.reads in
          let first_is = (stuck 15 (omega arith)).blames h.first h.stop
          (record {
            reads = h.reads;
            ends = h.ends;
            shallow = let d = first_deep f.what h.is f.shallow in omega arith;
          }) bad in
          ap policy_from (tree_is p.reads p.ends shut_list w.reads)
          ∙ policy_fails w.all w.some_are (w.fails (first_wrong f.what h.is first_is))

  left : (run₁ : List ℕ) (x : Lost) → length run ≡ length run₀ → States s run run₁ i p (Err x)
      → Counts s run₀ run₁ v at (Err (inside x O.Listed))
  left run₁ (T.At j) z t = (t.0 ∙ z, listed_stuck t.1.0 t.1.1)
  left run₁ T.Whole z t = (t ∙ z, tt)

  pub counts_left : (run₁ : List ℕ) {h : Result Ended Lost} {x : Lost} {y : Place} → length run ≡ length run₀
      → States s run run₁ i p h → h ≡ Err x → y ≡ inside x O.Listed → Counts s run₀ run₁ v at (Err y)
  counts_left run₁ {x = x} z t e f =
      subst (λ (y : Place). Counts s run₀ run₁ v at (Err y)) (sym f) (left run₁ x z (subst (States s run run₁ i p) e t))

-- ---- the end

pub counts_closed : {s run₀ run₁ : List ℕ} {v at e p n : ℕ} (h : Result Listed Place) → length run₁ ≡ length run₀
    → Stuck policy_from 15 (within O.Next) (Blame O.Next s e) s v e
    → ((z : ℕ) → Closed s 93 e z
    → TakenSeveral held_statement policy_from 5 s run₀ run₁ v at p z n)
    → Closes s e p n h → Counts s run₀ run₁ v at h
counts_closed {s} {run₀} {run₁} {v} {at} {e} {p} {n} (Ok r) l stuck ended h =
    subst (λ (x : ℕ). TakenSeveral held_statement policy_from 5 s run₀ run₁ v at x r.end r.count) (sym h.0)
    (subst (λ (x : ℕ). TakenSeveral held_statement policy_from 5 s run₀ run₁ v at p r.end x) (sym h.1.0)
    (ended r.end h.1.1))
counts_closed {s} {v = v} (Err x) l stuck ended h = (l, subst (StuckAt s v) (sym h) stuck)

-- ---- the loop

-- statements passed, of which no two have the same Sid, and the places of the first ones
pub record Listing (s : List ℕ) (v : ℕ) (run₀ : List ℕ) (at i : ℕ) (run places : List ℕ) (p n : ℕ) : Type 0 where
  pub differing : Differing statements s v run₀ at i run p n
  pub reached : Reached s v i
  pub size : length places ≡ 64
  pub placed : n < 64 → Placed held_statement run places n p differing.things

pub listing_start : {s run : List ℕ} {v at i : ℕ} → Roomy run at 0 → Opened s 91 v i
    → Listing s v run at i run (replicate 64 0) at 0
unfolding differing_start
listing_start {at = at} r o =
    record {
      differing = differing_start statements r o;
      reached = reached_start o;
      size = refl;
      placed = λ h. placed_none refl at;
    }

-- a further place is noted, if there is room
abbrev Noted : ℕ → ℕ → List ℕ → List ℕ → Type 0
Noted n p places places' = ((n < 64) × (places' ≡ set places n p)) ⊎ ((64 ≤ n) × (places' ≡ places))

module _ {s run₀ run run₁ places : List ℕ} {v at i p n q e : ℕ} (g : Listing s v run₀ at i run places p n)
    (t : Taken held_statement statement_of 4 s run run₁ i p q e) where
  abbrev pub listing_passed : Passed statements.frame s run run₁ i p q e
  listing_passed = element_passed held_statement statement_of 4 t

  still : n < 64 → Placed held_statement run₁ places n p g.differing.things
  still h =
      let k = extends_kept listing_passed.extends (omega (arith, (differing_roomy statements g.differing).room)) in
      placed_kept run run₁ p k.is k.size (omega (arith, (differing_roomy statements g.differing).room))
      (g.placed h)

  own_lies : Lies run₁ p (held_statement listing_passed.thing)
  own_lies =
      let r = differing_roomy statements g.differing in
      extends_lies listing_passed.extends (omega (arith, r.room)) r.bounded

  many_lie : Lies run₁ at (held_each held_statement g.differing.things)
  many_lie =
      lies_front (held_each held_statement g.differing.things) (held_statement listing_passed.thing)
      (extends_lies (extends_then g.differing.going.extends listing_passed.extends)
      (omega (arith, g.differing.roomy.room)) g.differing.roomy.bounded)

  pub listing_lying : (LyingMany held_statement run₁ at n) × ((Lying held_statement run₁ p) × (n < 64
      → PlacedMany held_statement run₁ places n))
  listing_lying =
      let l = differing_lying statements g.differing listing_passed in
      (l.0, (l.1, λ h. placed_many (still h)))

  -- a test for its Sid among those before came to nothing
  pub listing_new : (b : Bool)
      → ((e : ℕ) (xs : List Statement) (x : Statement) → n ≡ length xs → Lies run₁ at (held_each held_statement xs)
      → (n < 64 → Placed held_statement run₁ places n e xs) → Lies run₁ p (held_statement x) → b ≡ has_like same_sid x xs)
      → b ≡ false → has_like same_sid listing_passed.thing g.differing.things ≡ false
  listing_new b h z =
      sym (h p g.differing.things listing_passed.thing g.differing.going.count many_lie still own_lies) ∙ z

  module _ (new : has_like same_sid listing_passed.thing g.differing.things ≡ false) where
    noted : {places' : List ℕ} → Noted n p places places' → n + 1 < 64
        → Placed held_statement run₁ places' (n + 1) q (g.differing.things ++ (listing_passed.thing ∷ []))
    noted {places'} (inl w) h =
        subst (λ (l : List ℕ). Placed held_statement run₁ l (n + 1) q (g.differing.things ++ (listing_passed.thing ∷ [])))
        (sym w.1)
        (subst (λ (k : ℕ). Placed held_statement run₁ (set places n p) (n + 1) k (g.differing.things
        ++ (listing_passed.thing ∷ []))) (sym listing_passed.extends.place)
        (placed_next (still w.0) w.0 own_lies (omega arith)))
    noted (inr w) h = absurd (omega (arith, w.0))

    noted_size : {places' : List ℕ} → Noted n p places places'
        → length places' ≡ 64
    noted_size (inl w) = ap length w.1 ∙ length-set places n p ∙ g.size
    noted_size (inr w) = ap length w.1 ∙ g.size

    pub listing_more : {c : ℕ} {places' : List ℕ} → Parted s 44 e c
        → Noted n p places places'
        → Listing s v run₀ at c run₁ places' q (n + 1)
    unfolding differing_more
    listing_more d w =
        record {
          differing = differing_more statements g.differing listing_passed new d;
          reached = reached_more g.reached t d;
          size = noted_size w;
          placed = noted w;
        }

    pub listing_end : (r : Result Listed Place) → Closes s e q (n + 1) r → Counts s run₀ run₁ v at r
    listing_end r h =
        counts_closed r (going_size statements.frame s g.differing.going listing_passed)
        (next_stuck g.reached t)
        (λ z m. differing_end statements g.differing listing_passed new policy_from statements_mean m) h

-- ---- a statement by itself

-- where a brace opens no list stands
not_list : {s : List ℕ} {ts : Values} {v e : ℕ} → At s v 123 → Reads s (a_value (list ts)) v e → ⊥
not_list o (empty_list p w c) = let a = o.is in let b = p.is in absurd (omega arith)
not_list o (some_list p w r) = let a = o.is in let b = p.is in absurd (omega arith)

alone_fails : {s : List ℕ} {v e : ℕ} (t : Json) → At s v 123 → Reads s (a_value t) v e → statement_of t ≡ wrong
    → policy_from t ≡ wrong
unfolding one_or_more
alone_fails null o r h = ap (λ (x : Reading Statement). then (cons x (read [])) (differing same_sid)) h
alone_fails (bool b) o r h = ap (λ (x : Reading Statement). then (cons x (read [])) (differing same_sid)) h
alone_fails (number w) o r h = ap (λ (x : Reading Statement). then (cons x (read [])) (differing same_sid)) h
alone_fails (string w) o r h = ap (λ (x : Reading Statement). then (cons x (read [])) (differing same_sid)) h
alone_fails (list ts) o r h = absurd (not_list o r)
alone_fails (object ms) o r h = ap (λ (x : Reading Statement). then (cons x (read [])) (differing same_sid)) h

left_alone : (s run run₁ : List ℕ) (v at : ℕ) (x : Lost) → States s run run₁ v at (Err x)
    → Walks s run run₁ v (Err (inside x O.Alone))
left_alone s run run₁ v at (T.At i) t = (
  t.0,
  record {
    leads = (t.1.1 14 (omega arith)).leads;
    blames = λ u e p b. alone_fails u t.1.0 p.reads ((t.1.1 14 (omega arith)).blames u e p b);
  },
)
left_alone s run run₁ v at T.Whole t = (t, tt)

pub walks_alone : (s run run₁ : List ℕ) (v at : ℕ) {h : Result Ended Lost} {x : Lost} {y : Place}
    → States s run run₁ v at h → h ≡ Err x → y ≡ inside x O.Alone → Walks s run run₁ v (Err y)
walks_alone s run run₁ v at {x = x} t e f =
    subst (λ (y : Place). Walks s run run₁ v (Err y)) (sym f) (left_alone s run run₁ v at x (subst (States s run run₁ v at) e t))
