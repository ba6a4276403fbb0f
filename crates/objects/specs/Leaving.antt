-- Leaving: where the walk over a policy was given up. At that place the reader of the text layer owes what is told here,
-- as if it had read all that came before; and where a statement's member is unfit there, what was walked over is wrong.
--   named n                what is owed at a member's name: it, a value of at most n levels, and the rest of the object
--   within o, owing x      what is owed inside the value of Statement, and in the whole text
--   Stuck f n xs b s v i   a value of at most n levels at v comes to owe xs at i, and if b, f reads nothing of it
--   Came d s first i       members passed, from the first name of an object up to another
--   inside x o             where a policy was given up, if a statement was given up at x and o is owed there
--   States, Counts, Walks, Gets, Finds ..   the answers
use Rattle.std.specs.Prelude.{◌≡◌, false, List, [], ◌∷◌, ◌++◌, ℕ, suc, ◌≤◌, length, Result, Ok, Err}
use Rattle.chars.specs.Base.{At}
use Rattle.text.specs.Json.{Json, Members, JsonText, levels, members, Reads}
use Rattle.text.specs.Contents.{Stands}
use Rattle.text.specs.Machine.{Item, ws, value, next, before, inner, from, verdict}
use Rattle.text.specs.Reading.{Leads}
use Rattle.text.specs.declared.scan.Shape.TheVariants as S
use Rattle.syntax.specs.Policy.{Statement}
use Rattle.syntax.specs.Forms.{Reading, wrong}
use Rattle.syntax.specs.Members.{then, Slot, many, one, slot, known, one_or_more, differing}
use Rattle.syntax.specs.PolicyLayout.{statement_of, same_sid, policy_of}
use Rattle.held.specs.Held.{held_statement, held}
use Rattle.parts.specs.Unfit.{Bad}
use Rattle.straight.specs.Marks.{Opened, Closed}
use Rattle.straight.specs.Taking.{Taken, TakenSeveral}
use Rattle.objects.specs.Telling.{TakenText}
use Rattle.objects.specs.Gathering.{Kinded, Gathered}
use Rattle.parts.specs.declared.holding.Ended.{Ended}
use Rattle.parts.specs.declared.holding.Listed.{Listed}
use Rattle.objects.specs.declared.leaving.Lost.{Lost}
use Rattle.objects.specs.declared.leaving.Lost.TheVariants as L
use Rattle.objects.specs.declared.leaving.Owed.{Owed}
use Rattle.objects.specs.declared.leaving.Owed.TheVariants as O
use Rattle.objects.specs.declared.leaving.Place.{Place}
use Rattle.objects.specs.declared.leaving.Place.TheVariants as P

-- ---- what is owed

abbrev pub named : ℕ → List Item
named n = before S.Object ++ inner S.Object n

-- inside the value of Statement, which may have fifteen levels
abbrev pub within : Owed → List Item
within O.Next = ws ∷ next S.List 14 ∷ []
within O.Alone = named 14
within O.Listed = named 13 ++ (ws ∷ next S.List 14 ∷ [])

-- in a policy's object, behind what is owed inside one of its values
abbrev pub outside : List Item
outside = ws ∷ next S.Object 15 ∷ []

-- in the whole text, and where
abbrev pub owing : Place → List Item
owing P.Text = ws ∷ value levels ∷ ws ∷ []
owing (P.Behind i) = outside ++ (ws ∷ [])
owing (P.Inside i o) = (within o ++ outside) ++ (ws ∷ [])

abbrev pub place_in : Place → ℕ
place_in P.Text = 0
place_in (P.Behind i) = i
place_in (P.Inside i o) = i

-- ---- what may be unfit there

abbrev pub Blame : Owed → List ℕ → ℕ → Type 0
Blame O.Next s i = ⊥
Blame O.Alone s i = Bad s i
Blame O.Listed s i = Bad s i

abbrev pub BlameAt : Place → List ℕ → Type 0
BlameAt P.Text s = ⊥
BlameAt (P.Behind i) s = ⊥
BlameAt (P.Inside i o) s = Blame o s i

pub record Stuck {A : Type 0} (f : Json → Reading A) (n : ℕ) (xs : List Item) (b : Type 0) (s : List ℕ) (v i : ℕ)
    : Type 0 where
  pub leads : Leads s (value n ∷ []) v xs i
  pub blames : (t : Json) (e : ℕ) → Stands s t v e → b → f t ≡ wrong

-- ---- members of an object

-- a slot is this value's, or that of several
pub data Wants (t : Json) (x : Slot) : Type 0 where
  only : x ≡ one t → Wants t x
  several : x ≡ many → Wants t x

-- those before i, of at most d levels, are put in front of whatever stands from i on
pub record Came (d : ℕ) (s : List ℕ) (first i : ℕ) : Type 0 where
  pub put : Members → Members
  pub reads : (us : Members) (e : ℕ) → Reads s (members us) i e → Reads s (members (put us)) first e
  pub strange : (ns : List (List ℕ)) (us : Members) → known ns us ≡ false → known ns (put us) ≡ false
  pub wants : (n : List ℕ) (us : Members) (t : Json) → Wants t (slot n us) → Wants t (slot n (put us))
  pub leads : (n : ℕ) → d ≤ n → Leads s (named n) first (named n) i

-- members gathered; or those before the place of a name, at which they were given up
abbrev pub Gathers : Kinded → List ℕ → List ℕ → List ℕ → ℕ → ℕ → Result (List ℕ) ℕ → Type 0
Gathers l s run run' i at (Ok m) = Gathered l s run run' i at m
Gathers l s run run' i at (Err c) = (length run' ≡ length run) × Came l.levels s i c

-- ---- given up inside, given up outside

abbrev pub inside : Lost → Owed → Place
inside (L.At i) o = P.Inside i o
inside L.Whole o = P.Text

-- ---- answers

-- the first name of the object that opens at v
pub record Begins (s : List ℕ) (v i : ℕ) : Type 0 where
  pub opened : Opened s 123 v i
  pub quote : At s i 34

-- the list ends behind a statement, or something else stands there
abbrev pub Closes : List ℕ → ℕ → ℕ → ℕ → Result Listed Place → Type 0
Closes s end p n (Ok r) = (r.past ≡ p) × ((r.count ≡ n) × Closed s 93 end r.end)
Closes s end p n (Err x) = x ≡ P.Inside end O.Next

-- the policy ends at a place, or is given up behind the member that ends at j
abbrev pub Ceases : List ℕ → ℕ → ℕ → ℕ → Result Ended Place → Type 0
Ceases s j i p (Ok r) = (r.past ≡ p) × Closed s 125 i r.end
Ceases s j i p (Err x) = x ≡ P.Behind j

abbrev pub States : List ℕ → List ℕ → List ℕ → ℕ → ℕ → Result Ended Lost → Type 0
States s run run' v at (Ok r) = Taken held_statement statement_of 4 s run run' v at r.past r.end
States s run run' v at (Err (L.At i)) =
    (length run' ≡ length run) × ((At s v 123) × ((n : ℕ) → 3 ≤ n
    → Stuck statement_of (suc n) (named n) (Bad s i) s v i))
States s run run' v at (Err L.Whole) = length run' ≡ length run

-- a list of statements of which no two have the same Sid
abbrev pub policy_from : Json → Reading (List Statement)
policy_from t = then (one_or_more statement_of t) (differing same_sid)

-- the value of Statement at v is given up as a whole, or inside it
abbrev pub StuckAt : List ℕ → ℕ → Place → Type 0
StuckAt s v P.Text = Unit {0}
StuckAt s v (P.Behind i) = ⊥
StuckAt s v (P.Inside i o) = Stuck policy_from 15 (within o) (Blame o s i) s v i

abbrev pub Counts : List ℕ → List ℕ → List ℕ → ℕ → ℕ → Result Listed Place → Type 0
Counts s run run' v at (Ok r) = TakenSeveral held_statement policy_from 5 s run run' v at r.past r.end r.count
Counts s run run' v at (Err x) = (length run' ≡ length run) × StuckAt s v x

abbrev pub Walks : List ℕ → List ℕ → List ℕ → ℕ → Result Ended Place → Type 0
Walks s run run' v (Ok r) = Taken held policy_from 5 s run run' v 0 r.past r.end
Walks s run run' v (Err x) = (length run' ≡ length run) × StuckAt s v x

abbrev pub StuckIn : List ℕ → ℕ → Place → Type 0
StuckIn s v P.Text = Unit {0}
StuckIn s v (P.Behind i) = Stuck policy_of levels outside ⊥ s v i
StuckIn s v (P.Inside i o) = Stuck policy_of levels (within o ++ outside) (Blame o s i) s v i

abbrev pub Gets : List ℕ → List ℕ → List ℕ → ℕ → Result Ended Place → Type 0
Gets s run run' v (Ok r) = Taken held policy_of 6 s run run' v 0 r.past r.end
Gets s run run' v (Err x) = (length run' ≡ length run) × StuckIn s v x

-- the verdict on the text is that of what is owed at the place
pub record Leaves (s : List ℕ) (x : Place) : Type 0 where
  pub inside : place_in x ≤ length s
  pub judged : verdict s ≡ from (owing x) s (place_in x)
  pub blames : verdict s ≡ Ok tt → (t : Json) → JsonText s t → BlameAt x s → policy_of t ≡ wrong

abbrev pub Finds : List ℕ → List ℕ → List ℕ → Result ℕ Place → Type 0
Finds s run run' (Ok n) = TakenText held policy_of s run run' n
Finds s run run' (Err x) = (length run' ≡ length run) × Leaves s x
