-- The sum of code_at, digit by digit; four digits below 16 keep it in range.
use Rattle.chars.specs.Decoding.{code_at}
use Rattle.chars.proofs.strings.code.Goals as goal

pub returns : goal.returns
unfolding code_at
returns c = cc
