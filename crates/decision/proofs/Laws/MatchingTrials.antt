-- Entries, texts and whether they match: both sides of each clause as one list about the definition, computed.
use mathlib.Core.Path.{◌≡◌, refl}
use mathlib.Core.Bool.{Bool, true, false}
use mathlib.Core.List.{List, [], ◌∷◌}
use Prim.Native.Nat.{ℕ}
use Rattle.chars.specs.Base.{pick}
use Rattle.syntax.specs.Policy.{star, any}
use Rattle.syntax.specs.Forms.{both}
use Rattle.decision.specs.Matching.{some_ending, first, matches}

data Trial : Type 0 where
  trial : List ℕ → List ℕ → Bool → Trial

holds : Trial → Bool
holds (trial e t found) = pick (matches e t) found (pick found false true)

all_hold : List Trial → Bool
all_hold [] = true
all_hold (x ∷ xs) = both (holds x) (all_hold xs)

trials : List Trial
trials =
    -- nothing; one symbol and no character, one character and no symbol
    (trial [] [] true) ∷
    (trial [] (97 ∷ []) false) ∷
    (trial (97 ∷ []) [] false) ∷
    (trial (any ∷ []) [] false) ∷
    (trial (star ∷ []) [] true) ∷
    -- a character is itself: case apart, é as one character and as two
    (trial (97 ∷ []) (97 ∷ []) true) ∷
    (trial (65 ∷ []) (97 ∷ []) false) ∷
    (trial (97 ∷ 98 ∷ []) (97 ∷ 99 ∷ []) false) ∷
    (trial (97 ∷ 98 ∷ []) (97 ∷ []) false) ∷
    (trial (97 ∷ []) (97 ∷ 98 ∷ []) false) ∷
    (trial (233 ∷ []) (233 ∷ []) true) ∷
    (trial (233 ∷ []) (101 ∷ 769 ∷ []) false) ∷
    -- ? is one character, of any plane; T10's a?c
    (trial (any ∷ []) (233 ∷ []) true) ∷
    (trial (any ∷ []) (128512 ∷ []) true) ∷
    (trial (any ∷ []) (1114111 ∷ []) true) ∷
    (trial (any ∷ []) (101 ∷ 769 ∷ []) false) ∷
    (trial (any ∷ any ∷ []) (101 ∷ 769 ∷ []) true) ∷
    (trial (97 ∷ any ∷ 99 ∷ []) (97 ∷ 98 ∷ 99 ∷ []) true) ∷
    (trial (97 ∷ any ∷ 99 ∷ []) (97 ∷ 99 ∷ []) false) ∷
    (trial (97 ∷ any ∷ 99 ∷ []) (97 ∷ 98 ∷ 98 ∷ 99 ∷ []) false) ∷
    -- * at the end, at the beginning, at both and in the middle
    (trial (97 ∷ star ∷ []) (97 ∷ []) true) ∷
    (trial (97 ∷ star ∷ []) (97 ∷ 98 ∷ 99 ∷ []) true) ∷
    (trial (97 ∷ star ∷ []) (98 ∷ 97 ∷ []) false) ∷
    (trial (star ∷ 97 ∷ []) (97 ∷ []) true) ∷
    (trial (star ∷ 97 ∷ []) (97 ∷ 98 ∷ 97 ∷ []) true) ∷
    (trial (star ∷ 97 ∷ []) (97 ∷ 98 ∷ []) false) ∷
    (trial (star ∷ 97 ∷ star ∷ []) (98 ∷ 97 ∷ 98 ∷ []) true) ∷
    (trial (star ∷ 97 ∷ star ∷ []) (98 ∷ 98 ∷ []) false) ∷
    (trial (97 ∷ star ∷ 98 ∷ []) (97 ∷ 98 ∷ []) true) ∷
    (trial (97 ∷ star ∷ 98 ∷ []) (97 ∷ 99 ∷ 98 ∷ 98 ∷ []) true) ∷
    (trial (97 ∷ star ∷ 97 ∷ []) (97 ∷ []) false) ∷
    -- * takes colons
    (trial (star ∷ []) (97 ∷ 58 ∷ 98 ∷ 58 ∷ []) true) ∷
    (trial (97 ∷ star ∷ 98 ∷ []) (97 ∷ 58 ∷ 99 ∷ 58 ∷ 98 ∷ []) true) ∷
    (trial (97 ∷ 58 ∷ star ∷ 58 ∷ 98 ∷ []) (97 ∷ 58 ∷ 58 ∷ 98 ∷ []) true) ∷
    (trial (97 ∷ 58 ∷ star ∷ 58 ∷ 98 ∷ []) (97 ∷ 58 ∷ 98 ∷ []) false) ∷
    -- many stars; the last one is tried again and again, and never one before it
    (trial (star ∷ star ∷ []) [] true) ∷
    (trial (star ∷ star ∷ star ∷ []) (97 ∷ 98 ∷ []) true) ∷
    (trial (star ∷ star ∷ 97 ∷ []) (98 ∷ []) false) ∷
    (trial (star ∷ 97 ∷ 98 ∷ []) (97 ∷ 97 ∷ 98 ∷ []) true) ∷
    (trial (star ∷ 97 ∷ star ∷ 98 ∷ 99 ∷ []) (97 ∷ 98 ∷ 98 ∷ 99 ∷ []) true) ∷
    (trial (star ∷ 97 ∷ star ∷ 98 ∷ 99 ∷ []) (97 ∷ 98 ∷ 99 ∷ 98 ∷ []) false) ∷
    (trial (star ∷ 97 ∷ 98 ∷ star ∷ 98 ∷ []) (97 ∷ 98 ∷ []) false) ∷
    (trial (star ∷ 97 ∷ star ∷ 97 ∷ star ∷ 97 ∷ star ∷ []) (97 ∷ 97 ∷ 97 ∷ []) true) ∷
    (trial (star ∷ 97 ∷ star ∷ 97 ∷ star ∷ 97 ∷ star ∷ []) (97 ∷ 98 ∷ 97 ∷ []) false) ∷
    -- * and ? side by side: one character at least
    (trial (star ∷ any ∷ []) [] false) ∷
    (trial (star ∷ any ∷ []) (97 ∷ []) true) ∷
    (trial (any ∷ star ∷ []) [] false) ∷
    (trial (any ∷ star ∷ []) (97 ∷ 98 ∷ []) true) ∷
    (trial (star ∷ any ∷ star ∷ []) (97 ∷ []) true) ∷
    (trial (any ∷ star ∷ any ∷ []) (97 ∷ []) false) ∷
    -- a plain * or ? of the entry is itself, T4's a${*}b too; one of the text is a character
    (trial (42 ∷ []) (42 ∷ []) true) ∷
    (trial (42 ∷ []) (97 ∷ []) false) ∷
    (trial (63 ∷ []) (63 ∷ []) true) ∷
    (trial (63 ∷ []) (97 ∷ []) false) ∷
    (trial (97 ∷ 42 ∷ 98 ∷ []) (97 ∷ 42 ∷ 98 ∷ []) true) ∷
    (trial (97 ∷ 42 ∷ 98 ∷ []) (97 ∷ 120 ∷ 98 ∷ []) false) ∷
    (trial (star ∷ []) (42 ∷ []) true) ∷
    (trial (any ∷ []) (42 ∷ []) true) ∷
    -- the numbers of wildcards in a text, which no character has: met by wildcards alone
    (trial (star ∷ []) (star ∷ []) true) ∷
    (trial (any ∷ []) (star ∷ []) true) ∷
    (trial (any ∷ []) (any ∷ []) true) ∷
    (trial (42 ∷ []) (star ∷ []) false) ∷
    (trial (star ∷ 97 ∷ []) (any ∷ 97 ∷ []) true) ∷
    []

trials_hold : all_hold trials ≡ true
unfolding some_ending first matches holds all_hold trials
trials_hold = refl
