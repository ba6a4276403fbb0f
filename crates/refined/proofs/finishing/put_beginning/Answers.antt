-- The row with the star holds the text that is written.
use mathlib.Core.List.{[], ◌∷◌, ◌++◌}
use Rattle.syntax.specs.Policy.{text, star}
use Rattle.refined.proofs.Laws.Keeping.{star_lies}
use Rattle.refined.proofs.finishing.put_beginning.Goals as goal

pub put_entry-requires : goal.put_entry-requires
put_entry-requires c =
    record {
      thing = text (c.requires.text ++ (star ∷ []));
      lies = star_lies c.requires
          (c.put_star.ensures c.requires);
    }

pub returns : goal.returns
returns c =
    λ y. c.put_entry.ensures (text (y.text ++ (star ∷ [])))
    (star_lies y (c.put_star.ensures y))
