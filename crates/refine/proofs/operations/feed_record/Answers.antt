-- The run for requests is long enough for every record, and keeps its length.
use mathlib.Core.Path.{◌∙◌}
use native.Mathlib.Omega.{arith}
use Rattle.refine.proofs.operations.feed_record.Goals as goal

pub feed_asked-requires : goal.feed_asked-requires
feed_asked-requires c = (
  c.requires.holding,
  record { enough = λ h. omega (arith, h, c.requires.size); bounded = omega (arith, c.requires.size) },
)

pub returns : goal.returns
returns c = (
  record {
    holding = c.feed_asked.ensures.0;
    size = c.feed_asked.auto.request ∙ c.requires.size;
  },
  c.feed_asked.ensures.1,
)
