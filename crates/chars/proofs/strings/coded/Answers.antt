-- The four cases of meaning at an escape by digits.
use mathlib.Core.Path.{◌∙◌}
use native.Mathlib.Omega.{arith}
use Rattle.chars.specs.Decoding.{text_of}
use Rattle.chars.proofs.Laws.Strings.Digits.{under, over}
use Rattle.chars.proofs.Laws.Strings.Reading.{meaning_apart, meaning_high, meaning_low}
use Rattle.chars.proofs.Laws.Strings.Steps.{escaped_text}
use Rattle.chars.proofs.strings.coded.Goals as goal

pub returns-in-55296-to-56319 : goal.returns-in-55296-to-56319
returns-in-55296-to-56319 c =
    escaped_text c.requires c.code-u.ensures
    ∙ meaning_high _ _ (record { low = omega arith; high = omega arith }) ∙ c.pair.ensures

pub returns-in-56320-to-57343 : goal.returns-in-56320-to-57343
returns-in-56320-to-57343 c =
    escaped_text c.requires c.code-u.ensures
    ∙ meaning_low _ _ (record { low = omega arith; high = omega arith })

pub returns-in_default : goal.returns-in_default
unfolding text_of
returns-in_default c =
    escaped_text c.requires c.code-u.ensures ∙ meaning_apart _ _ (under (omega arith))

pub returns-in_default-2 : goal.returns-in_default-2
unfolding text_of
returns-in_default-2 c =
    escaped_text c.requires c.code-u.ensures ∙ meaning_apart _ _ (over (omega arith))
