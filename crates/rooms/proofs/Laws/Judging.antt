-- The walk over a policy that decides on a request and lists what it charges: as long as no Deny statement matched, the
-- decision is that by the statements to come, and a statement that holds is charged what the request hits.
use mathlib.Core.Path.{◌≡◌, refl, sym, ap, ◌∙◌, subst}
use mathlib.Core.Bool.{Bool, true, false, true≢false}
use mathlib.Core.List.{List, ◌∷◌}
use Prim.Native.Nat.{ℕ, ◌+◌, ◌≤◌, ◌<◌}
use native.Mathlib.Omega.{arith}
use lib.ListN.{length, get_or}
use Rattle.chars.specs.Base.{pick}
use Rattle.syntax.specs.Forms.{both}
use Rattle.syntax.specs.Policy.{Effect, Allow, Deny, Statement, Policy, Request}
use Rattle.held.specs.Held.{held_statement, held, held_request, statement_entries, entries}
use Rattle.held.specs.Lying.{Lies, Lying}
use Rattle.held.proofs.Laws.RunsStatement.{policy_count, policy_lies}
use Rattle.held.proofs.Laws.Coming.{Coming, coming, coming_next, coming_decided, coming_end}
use Rattle.decision.specs.Decision.{part_of, is_none, same_effect, decide}
use Rattle.decision.specs.Deciding.{or_else}
use Rattle.decision.specs.declared.deciding.Decision.TheVariants.{Denied, Allowed, Implicit}
use Rattle.decision.proofs.Laws.DecidingOrder.{told, told_all, told_passed, told_allowed, told_denied, left_allowed}
use Rattle.decision.proofs.Laws.DecidingOrder.{left_implicit}
use Rattle.rooms.specs.Rooms.{statement_slots, statement_hits, none, statement_charges, allowed_charges}
use Rattle.rooms.specs.Listing.{ListsTo, Listable, denying, Judges}
use Rattle.rooms.specs.declared.listing.Note.{Note}
use Rattle.rooms.specs.declared.listing.Noted.{Noted}
use Rattle.rooms.proofs.Laws.ListingWalk.{lists_charged}
use Rattle.rooms.proofs.Laws.ListingStatement.{charges_are}
use Rattle.rooms.proofs.Laws.ListingTurns.{StatementsWalk, statements_start, statement_room, statement_next}
use Rattle.rooms.proofs.Laws.ListingTurns.{statements_end}

-- ---- one statement

deny_holds : (h : Bool) (x : Effect) → both h (same_effect Deny x) ≡ true → (h ≡ true) × (x ≡ Deny)
deny_holds true Allow d = absurd (true≢false (sym d))
deny_holds true Deny d = (refl, refl)
deny_holds false x d = absurd (true≢false (sym d))

module _ (a i : ℕ) (s : Statement) (p : Policy) (q : Request) {holds : Bool} (e : holds ≡ is_none (part_of s q)) where
  -- it is passed, and kept in mind where it is the first that holds
  told_more :
      {b : ℕ} → b ≡ or_else a (pick holds (i + 1) 0) → denying s holds ≡ false
      → told a (i + 1) q (s ∷ p) ≡ told b (i + 1 + 1) q p
  told_more {b} f d = by holds s.effect refl refl d
    where
      by : (h : Bool) (x : Effect) → holds ≡ h → s.effect ≡ x → both h (same_effect Deny x) ≡ false
          → told a (i + 1) q (s ∷ p) ≡ told b (i + 1 + 1) q p
      by true Allow h x d = told_allowed a i s p q f (ap (λ (t : Bool). pick t (i + 1) 0) h) (sym e ∙ h) x
      by true Deny h x d = absurd (true≢false d)
      by false x h y d = told_passed a i s p q f (ap (λ (t : Bool). pick t (i + 1) 0) h) (sym e ∙ h)

  -- it decides
  told_deny : denying s holds ≡ true → told a (i + 1) q (s ∷ p) ≡ Denied (i + 1)
  told_deny d =
      let y = deny_holds holds s.effect d in
      sym (told_denied a i s p q (sym e ∙ y.0) y.1)

-- ---- the walk

pub record Judging (x : Policy) (q : Request) (run at : List ℕ) (dir₀ : List Note) (n i p : ℕ) (dir : List Note) (o allowed : ℕ)
    : Type 0 where
  pub walk : StatementsWalk (λ s. allowed_charges s q) x run at dir₀ n i p dir o
  pub decides : Coming held_statement run n i p (told allowed (i + 1) q) (decide x q)

pub judging_start :
    {run at : List ℕ} {dir : List Note} (x : Policy) (q : Request) → Lies run 0 (held x)
    → Judging x q run at dir (get_or run 0 0) 0 1 dir 0 0
judging_start {run} {at} {dir} x q l =
    record {
      walk = statements_start (λ s. allowed_charges s q) x run at dir l;
      decides = subst (Coming held_statement run (get_or run 0 0) 0 1 (told 0 1 q)) (told_all x q)
          (coming x (policy_count x l) (policy_lies x l));
    }

module _ {x : Policy} {q : Request} {run at : List ℕ} {dir₀ dir : List Note} {n i p o allowed : ℕ}
    (w : Judging x q run at dir₀ n i p dir o allowed) where
  -- by what is told of the statement there
  module _ (t : i < n) {holds denies : Bool}
      (e : (s : Statement) → Lies run p (held_statement s) → holds ≡ is_none (part_of s q))
      (d : (s : Statement) → Lies run p (held_statement s) → denies ≡ denying s holds) where
    pub judged_denied :
        length dir ≡ length dir₀ → denies ≡ true
        → Judges run at x q dir₀ dir (record { decision = Denied (i + 1); notes = 0 })
    judged_denied size h =
        record {
          decision = coming_decided w.decides t (Denied (i + 1))
              (λ s l ss. told_deny allowed i s ss q (e s l) (sym (d s l) ∙ h));
          lists = λ k z. absurd (denied_allowed z);
          size = size;
        }
      where
        denied_allowed : {k m : ℕ} → Denied k ≡ Allowed m → ⊥
        denied_allowed z = let y : ◌≡◌ {A = ℕ} 0 1 = cc in omega arith

    pub judging_next :
        {b : ℕ} {after : List Note} {g : Noted} → denies ≡ false → b ≡ or_else allowed (pick holds (i + 1) 0)
        → ((s : Statement) → Lies run p (held_statement s)
        → ListsTo run at (statement_slots s) (pick holds (statement_hits s q) (none (statement_slots s))) dir o after
        (p + length (held_statement s)) g)
        → Judging x q run at dir₀ n (i + 1) g.past after g.next b
    unfolding allowed_charges
    judging_next {b} {after} {g} h f told_of =
        record {
          walk = statement_next (λ s. allowed_charges s q) x w.walk (λ s. statement_charges s q) (λ s ss. refl) t
              (λ s l. lists_charged (charges_are s q (e s l) (sym (d s l) ∙ h)) (told_of s l));
          decides = coming_next w.decides t g.past (told b (i + 1 + 1) q)
              (λ s l. (told_of s l).past) (λ s l ss. told_more allowed i s ss q (e s l) f (sym (d s l) ∙ h));
        }

  -- none is left
  module _ (t : n ≤ i) where
    pub judged_implicit :
        allowed ≡ 0 → Judges run at x q dir₀ dir (record { decision = Implicit; notes = 0 })
    judged_implicit z =
        record {
          decision = left_implicit (i + 1) q allowed z ∙ coming_end w.decides t;
          lists = λ k y. absurd (implicit_allowed y);
          size = w.walk.lists.size;
        }
      where
        implicit_allowed : {m : ℕ} → Implicit ≡ Allowed m → ⊥
        implicit_allowed z = let y : ◌≡◌ {A = ℕ} 0 1 = cc in omega arith

    pub judged_allowed :
        (allowed ≡ 0 → ⊥) → Judges run at x q dir₀ dir (record { decision = Allowed allowed; notes = o })
    unfolding allowed_charges
    judged_allowed z =
        record {
          decision = left_allowed (i + 1) q allowed z ∙ coming_end w.decides t;
          lists = λ k y. statements_end (λ s. allowed_charges s q) x w.walk t refl;
          size = w.walk.lists.size;
        }

-- whichever policy and request lie there, and those that do
abbrev pub Judgings : (run at : List ℕ) (dir₀ : List Note) (n i p : ℕ) (dir : List Note) (o allowed : ℕ) → Type 0
Judgings run at dir₀ n i p dir o allowed =
    (x : Policy) (q : Request) → Lies run 0 (held x) → Lies at 0 (held_request q)
    → Judging x q run at dir₀ n i p dir o allowed

module _ {run at : List ℕ} {dir₀ : List Note} {n i p : ℕ} {dir : List Note} {o allowed : ℕ}
    (w : Judgings run at dir₀ n i p dir o allowed)
    (y : (Listable held entries run 0 dir₀ 0) × (Lying held_request at 0)) where
  judging_here : Judging y.0.thing y.1.thing run at dir₀ n i p dir o allowed
  judging_here = w y.0.thing y.1.thing y.0.lies y.1.lies

  pub judging_size : length dir ≡ length dir₀
  judging_size = judging_here.walk.lists.size

  pub judging_noting : i < n → Listable held_statement statement_entries run p dir o
  judging_noting t =
      statement_room (λ s. allowed_charges s y.1.thing) y.0.thing judging_here.walk t y.0.room

  pub judging_lying : i < n → Lying held_statement run p
  judging_lying t = let z = judging_noting t in record { thing = z.thing; lies = z.lies }
