-- What a function that reads a part of a text promises: equations on the twin, whatever may be owed behind the part.
-- Nothing here need be believed (see Machine).
--   Leads s xs a ys i   the items xs, owed at place a, come to the items ys, owed at place i
--   Done s xs a e       they are done at e
--   Falls s xs a f      they give the whole text the fault f
use Rattle.std.specs.Prelude.{
  Result,
  Ok,
  Err,
  ◌≡◌,
  Bool,
  true,
  false,
  List,
  [],
  ◌∷◌,
  ◌++◌,
  ℕ,
  ◌-◌,
  ◌≤◌,
  ◌<◌,
  eqb,
  length,
  get_or,
}
use Rattle.chars.specs.Base.{At, pick}
use Rattle.text.specs.Machine.{Item, pass, go, ws, value, first, next, before, inner, move, from}
use Rattle.text.specs.declared.fault.Fault.{Fault}
use Rattle.text.specs.declared.scan.Shape.{Shape}
use Rattle.text.specs.declared.scan.Shape.TheVariants.{List as list, Object as object}
use Rattle.text.specs.declared.quick.Reach.{Reach}
use Rattle.text.specs.declared.quick.Reach.TheVariants as R
use Rattle.text.specs.declared.scan.Begun.{Begun}
use Rattle.text.specs.declared.scan.Begun.TheVariants.{Ends, Inner}
use Rattle.text.specs.declared.scan.Next.{Next}
use Rattle.text.specs.declared.scan.Next.TheVariants.{Inner as Another, Closed}

pub record Leads (s : List ℕ) (xs : List Item) (a : ℕ) (ys : List Item) (i : ℕ) : Type 0 where
  pub low : a ≤ i
  pub high : i ≤ length s
  pub goes : (k : List Item) → from (xs ++ k) s a ≡ from (ys ++ k) s i

abbrev pub Done : List ℕ → List Item → ℕ → ℕ → Type 0
Done s xs a e = Leads s xs a [] e

pub record Falls (s : List ℕ) (xs : List Item) (a : ℕ) (f : Fault) : Type 0 where
  pub goes : (k : List Item) → from (xs ++ k) s a ≡ Err f

-- what the test for white space told of a byte
pub record Blank (b : ℕ) (t : Bool) : Type 0 where
  pub is : t ≡ true → move ws b ≡ go (ws ∷ [])
  pub is_not : t ≡ false → move ws b ≡ pass

-- a part is read so far, or fails
abbrev pub Goes : List ℕ → List Item → ℕ → Result ℕ Fault → Type 0
Goes s xs a (Ok i) = Done s xs a i
Goes s xs a (Err f) = Falls s xs a f

-- what is owed behind a comma
abbrev pub ahead : Shape → ℕ → List Item
ahead sh n = ws ∷ (before sh ++ inner sh n)

-- behind an opening bracket or brace, where n levels are left: the list or object ends; or, behind a comma, more of it
-- is owed
abbrev pub Gathered : List ℕ → Shape → ℕ → ℕ → Reach → Type 0
Gathered s sh n a (R.Ends e) = Done s (ws ∷ first sh n ∷ []) a e
Gathered s sh n a (R.More i sh') = (sh' ≡ sh) × At s (i - 1) 44 × Leads s (ws ∷ first sh n ∷ []) a (ahead sh n) i

-- what a byte opens, where it opens anything
abbrev pub shape_of : ℕ → Shape
shape_of b = pick (eqb b 123) object list

-- likewise of a value: it ends, or, behind a comma, more of what its first byte opens is owed, for which a level was left
pub record Further (s : List ℕ) (n a : ℕ) (sh : Shape) (i : ℕ) : Type 0 where
  pub left : 0 < n
  pub shape : sh ≡ shape_of (get_or s a 0)
  pub comma : At s (i - 1) 44
  pub leads : Leads s (value n ∷ []) a (ahead sh (n - 1)) i

abbrev pub FrontsTo : List ℕ → ℕ → ℕ → Reach → Type 0
FrontsTo s n a (R.Ends e) = Done s (value n ∷ []) a e
FrontsTo s n a (R.More i sh) = Further s n a sh i

pub record Fronts (s : List ℕ) (n a : ℕ) (r : Reach) : Type 0 where
  pub inside : a < length s
  pub told : FrontsTo s n a r

-- behind an opening bracket or brace, however many levels are left
abbrev pub Opened : List ℕ → Shape → ℕ → Result Begun Fault → ℕ → Type 0
Opened s sh a (Err f) n = Falls s (ws ∷ first sh n ∷ []) a f
Opened s sh a (Ok (Ends e)) n = Done s (ws ∷ first sh n ∷ []) a e
Opened s sh a (Ok (Inner i sh')) n = (sh' ≡ sh) × Leads s (ws ∷ first sh n ∷ []) a (inner sh n) i

pub record Opens (s : List ℕ) (sh : Shape) (a : ℕ) (r : Result Begun Fault) : Type 0 where
  pub at_any : (n : ℕ) → Opened s sh a r n

-- a value's first inner value takes one of the levels left
pub record Enters (s : List ℕ) (n a : ℕ) (sh : Shape) (i : ℕ) : Type 0 where
  pub left : 0 < n
  pub leads : Leads s (value n ∷ []) a (inner sh (n - 1)) i

abbrev pub Begins : List ℕ → ℕ → ℕ → Result Begun Fault → Type 0
Begins s n a (Err f) = Falls s (value n ∷ []) a f
Begins s n a (Ok (Ends e)) = Done s (value n ∷ []) a e
Begins s n a (Ok (Inner i sh)) = Enters s n a sh i

-- behind an inner value
pub record Continues (s : List ℕ) (sh : Shape) (a i n : ℕ) : Type 0 where
  pub later : a < i
  pub leads : Leads s (ws ∷ next sh n ∷ []) a (inner sh n) i

abbrev pub Followed : List ℕ → Shape → ℕ → Result Next Fault → ℕ → Type 0
Followed s sh a (Err f) n = Falls s (ws ∷ next sh n ∷ []) a f
Followed s sh a (Ok (Another i)) n = Continues s sh a i n
Followed s sh a (Ok (Closed e)) n = Done s (ws ∷ next sh n ∷ []) a e

pub record Follows (s : List ℕ) (sh : Shape) (a : ℕ) (r : Result Next Fault) : Type 0 where
  pub at_any : (n : ℕ) → Followed s sh a r n
