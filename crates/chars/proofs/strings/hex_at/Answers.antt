-- A digit is below 16, whatever the byte.
use mathlib.Core.Path.{ap, ◌∙◌}
use native.Mathlib.Omega.{arith}
use Rattle.chars.specs.Decoding.{hex_of}
use Rattle.chars.proofs.Laws.Strings.Digits.{hex_small}
use Rattle.chars.proofs.strings.hex_at.Goals as goal

pub returns : goal.returns
returns c =
    record {
      is = c.hex.ensures ∙ ap hex_of c.byte_at.ensures;
      small = omega (arith, c.hex.ensures, hex_small c.byte_at.result);
    }
