-- No reverse solidus, no u, or a number out of the second halves: the first half h stands alone.
use mathlib.Core.Path.{◌∙◌}
use native.Mathlib.Omega.{arith}
use Rattle.chars.specs.Decoding.{text_of}
use Rattle.chars.proofs.Laws.Strings.Digits.{under, over}
use Rattle.chars.proofs.Laws.Strings.Reading.{paired_low, paired_apart}
use Rattle.chars.proofs.Laws.Strings.Steps.{pair_bare, pair_letter, pair_code}
use Rattle.chars.proofs.strings.pair.Goals as goal
use Rattle.chars.proofs.strings.pair.Goals.{then-byte_at-ne92-via-then-byte_at-ne92}
use Rattle.chars.proofs.strings.pair.Goals.{then-byte_at-ne92-via-else-byte_at-ne92+then-byte_at-ne117}

pub returns-then-byte_at-ne92 : goal.returns-then-byte_at-ne92
returns-then-byte_at-ne92 c =
    elim c.then-byte_at-ne92.branch [
      | then-byte_at-ne92-via-then-byte_at-ne92 w ↦ pair_bare c.args.s.now _ c.byte_at.ensures w.if-byte_at-ne92.true
      | then-byte_at-ne92-via-else-byte_at-ne92+then-byte_at-ne117 w ↦
          pair_letter c.args.s.now _ c.byte_at.ensures w.if-byte_at-ne92.false w.byte_at-else-byte_at-ne92.ensures
          w.if-byte_at-ne117.true
    ]

pub returns-in-56320-to-57343 : goal.returns-in-56320-to-57343
unfolding text_of
returns-in-56320-to-57343 c =
    pair_code _ _ c.byte_at.ensures c.if-byte_at-ne92.false
    c.byte_at-else-byte_at-ne92.ensures c.if-byte_at-ne117.false c.code-l.ensures
    ∙ paired_low _ _ _ (record { low = omega arith; high = omega arith })

pub returns-in_default : goal.returns-in_default
returns-in_default c =
    pair_code _ _ c.byte_at.ensures c.if-byte_at-ne92.false
    c.byte_at-else-byte_at-ne92.ensures c.if-byte_at-ne117.false c.code-l.ensures
    ∙ paired_apart _ _ _ (under (omega arith))

pub returns-in_default-2 : goal.returns-in_default-2
returns-in_default-2 c =
    pair_code _ _ c.byte_at.ensures c.if-byte_at-ne92.false
    c.byte_at-else-byte_at-ne92.ensures c.if-byte_at-ne117.false c.code-l.ensures
    ∙ paired_apart _ _ _ (over (omega arith))
