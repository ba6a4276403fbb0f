-- Unfit: a member that no statement has, by document 01's layout: its name is unknown, or its value is not what the name
-- asks for.
--   Unfit w t    the raw name w, the value t
--   Bad s i      the member whose name's opening quote stands at i of s is unfit
use Rattle.std.specs.Prelude.{◌≡◌, List, ℕ}
use Rattle.text.specs.Json.{Json, Members, no_members, named, members, Reads}
use Rattle.syntax.specs.Forms.{wrong}
use Rattle.syntax.specs.Members.{one_or_more}
use Rattle.syntax.specs.PolicyLayout.{sid_of, effect_of, action_of, resource_of, condition_of}
use Rattle.parts.specs.Slots.{words_of, which_of}
use Rattle.parts.specs.declared.members.Layout.TheVariants as L

-- the turn of a raw name among the words of a statement; 0 for none
abbrev pub turn_of : List ℕ → ℕ
turn_of w = which_of (words_of L.Statement) w

-- by the turn k of its name
pub data UnfitAs (k : ℕ) (t : Json) : Type 0 where
  unknown : k ≡ 0 → UnfitAs k t
  sid : k ≡ 1 → sid_of t ≡ wrong → UnfitAs k t
  effect : k ≡ 2 → effect_of t ≡ wrong → UnfitAs k t
  action : k ≡ 3 → one_or_more action_of t ≡ wrong → UnfitAs k t
  resource : k ≡ 4 → one_or_more resource_of t ≡ wrong → UnfitAs k t
  condition : k ≡ 5 → condition_of t ≡ wrong → UnfitAs k t

abbrev pub Unfit : List ℕ → Json → Type 0
Unfit w t = UnfitAs (turn_of w) t

abbrev pub UnfitFirst : Members → Type 0
UnfitFirst no_members = ⊥
UnfitFirst (named w t ms) = Unfit w t

pub record Bad (s : List ℕ) (i : ℕ) : Type 0 where
  pub bad : (ms : Members) (e : ℕ) → Reads s (members ms) i e → UnfitFirst ms
