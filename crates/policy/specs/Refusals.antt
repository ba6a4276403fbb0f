-- Refusals: document 01, "Numbered refusals": each case's number, its place, and the order in which they are given.
--   number_of r, place_of r   the number and the place that a refusal carries
--   refusal_text r          the text that is printed of it
--   rank r                  its turn: where several apply, the one of the least rank is given, in every operation
-- Differs from 01: nowhere.
use Rattle.std.specs.Prelude.{List, ℕ, ◌++◌, codes}
use Rattle.std.specs.Fmt.{decimal}
use Rattle.policy.specs.declared.refusals.Refusal.{Refusal}
use Rattle.policy.specs.declared.refusals.Refusal.TheVariants.{RoomLength, PolicyLength, PolicyText}
use Rattle.policy.specs.declared.refusals.Refusal.TheVariants.{PolicyLayout, PolicyLimit, RoomContent}
use Rattle.policy.specs.declared.refusals.Refusal.TheVariants.{RecordLength, RecordText, RecordLayout, NoAllow}
use Rattle.policy.specs.declared.refusals.Refusal.TheVariants.{ResultLength, OutputLength}

abbrev pub number_of : Refusal → ℕ
number_of RoomLength = 1
number_of PolicyLength = 2
number_of (PolicyText p) = 3
number_of PolicyLayout = 4
number_of PolicyLimit = 5
number_of RoomContent = 6
number_of RecordLength = 7
number_of (RecordText p) = 8
number_of RecordLayout = 9
number_of NoAllow = 10
number_of ResultLength = 11
number_of OutputLength = 12

-- 3 and 8 have a place, the others 0
abbrev pub place_of : Refusal → ℕ
place_of RoomLength = 0
place_of PolicyLength = 0
place_of (PolicyText p) = p
place_of PolicyLayout = 0
place_of PolicyLimit = 0
place_of RoomContent = 0
place_of RecordLength = 0
place_of (RecordText p) = p
place_of RecordLayout = 0
place_of NoAllow = 0
place_of ResultLength = 0
place_of OutputLength = 0

-- the order is the numbers' order; it has a name of its own since later requests put refusals between these
abbrev pub rank : Refusal → ℕ
rank r = number_of r

-- as the program prints it
abbrev pub refusal_text : Refusal → List ℕ
refusal_text r = codes "refused " ++ decimal (number_of r) ++ codes " at " ++ decimal (place_of r)
