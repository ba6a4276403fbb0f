-- Deciding: what the contracts of `deciding` cite besides the decision.
--   Finds run r f      r is the place of the context entry whose value was found, if one was
--   told_result x      why a row does not hold, if it does not
--   part_behind s r    the first part that does not hold, but for the Action;  told_part x   as `deciding` tells it
use Rattle.std.specs.Prelude.{◌≡◌, List, ℕ, zero, suc, ◌<◌, Option, Some, None}
use Rattle.chars.specs.Base.{pick}
use Rattle.syntax.specs.Policy.{Value, Context, Statement, Request}
use Rattle.held.specs.Held.{held_context, any_of}
use Rattle.decision.specs.Matching.{matches}
use Rattle.held.specs.Lying.{Lies}
use Rattle.decision.specs.Decision.{Why, missing, other_type, no_entry, Result, holds, fails}
use Rattle.decision.specs.Decision.{Found, nothing, found, Part, none, action, resource, row, rows_from}
use Rattle.decision.specs.declared.deciding.Why as declared
use Rattle.decision.specs.declared.deciding.Why.TheVariants.{Missing, OtherType, NoEntry}
use Rattle.decision.specs.declared.deciding.Failing.{Failing}
use Rattle.decision.specs.declared.deciding.Failing.TheVariants.{Action, Resource, Row}

-- ---- places

pub record FindsAt (run : List ℕ) (r : ℕ) (v : Value) : Type 0 where
  pub context : Context
  pub is : context.value ≡ v
  pub lies : Lies run r (held_context context)
  pub some : 0 < r

abbrev pub Finds : List ℕ → Option ℕ → Found → Type 0
Finds run r nothing = r ≡ None
Finds run r (found v) = (p : ℕ) × (r ≡ Some p) × FindsAt run p v

-- ---- answers

-- the part of a statement whose Action matches
unfoldable pub part_behind : Statement → Request → Part
part_behind s r =
    pick (any_of (λ e. matches e r.resource) s.resources) (rows_from 1 s.rows r.context) resource

abbrev pub told_why : Why → declared.Why
told_why missing = Missing
told_why other_type = OtherType
told_why no_entry = NoEntry

abbrev pub told_result : Result → Option declared.Why
told_result holds = None
told_result (fails w) = Some (told_why w)

abbrev pub told_part : Part → Option Failing
told_part none = None
told_part action = Some Action
told_part resource = Some Resource
told_part (row k w) = Some (Row k (told_why w))

-- the number of a statement, or another's where it is 0, that of none
abbrev pub or_else : ℕ → ℕ → ℕ
or_else zero b = b
or_else (suc a) b = suc a
