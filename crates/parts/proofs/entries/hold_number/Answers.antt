-- The number that stands there is put from the place on.
use native.Mathlib.Omega.{arith}
use Rattle.syntax.specs.PolicyLayout.{number_of_json}
use Rattle.held.specs.Held.{held_number}
use Rattle.parts.proofs.Laws.Extends.{extends_after}
use Rattle.parts.proofs.Laws.Halves.{json_small, json_room, number_told, wrong_told}
use Rattle.parts.proofs.Laws.Formed.{none_ends}
use Rattle.parts.proofs.entries.hold_number.Goals as goal

pub returns-in_err-n : goal.returns-in_err-n
returns-in_err-n c =
    λ t e p. none_ends held_number c.args.run.now _ c.args.at (number_of_json t) _ c.from_residual.ensures (let f = (c.number_at.ensures t e p) in record
    { size = f.size; said = wrong_told f.said c.in_err-n.was })

pub put_number-requires : goal.put_number-requires
put_number-requires c =
    let f = (c.number_at.ensures _ _ c.requires.is) in (
      record {
        room = omega (
          arith,
          json_room c.requires.what
              (number_told (c.number_at.ensures _ _ c.requires.is).said c.in_ok-n.was),
          c.requires.roomy.room,
          f.size,
        );
        bounded = omega (arith, c.requires.roomy.bounded, f.size);
      },
      json_small
          c.requires.what (number_told (c.number_at.ensures _ _ c.requires.is).said
          c.in_ok-n.was),
    )

pub returns : goal.returns
returns c =
    λ t e p.
    let f = c.number_at.ensures t e p in
    let said = number_told f.said c.in_ok-n.was in (
      record {
        thing = c.in_ok-n.n;
        said = said;
        extends = extends_after (f.kept _ said) c.put_number.ensures;
      },
      c.past_value.ensures t e p,
    )
