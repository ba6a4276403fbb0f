-- None of the rows passed has the key; whichever rows lie at the places are the ones compared.
use mathlib.Core.Path.{refl, sym, ◌∙◌}
use mathlib.Core.Bool.{false}
use Rattle.syntax.specs.PolicyLayout.{same_row}
use Rattle.held.proofs.Laws.RunsWalk.{walk_lying, walk_next, walk_end}
use Rattle.held.proofs.Laws.RunsWalk.{walk_found, like_any}
use Rattle.held.proofs.runs.has_key.Goals as goal

pub same_key_at-requires : goal.same_key_at-requires
same_key_at-requires c =
    let w = c.loop.invariant c.requires.1.thing c.requires.1.lies c.requires.0.things c.requires.0.count c.requires.0.lies in
    (c.requires.1, walk_lying w c.loop-test.true)

pub returns-then-same_key_at : goal.returns-then-same_key_at
returns-then-same_key_at c =
    λ xs x k l m.
    let w = c.loop.invariant x m xs k l in
    sym (like_any same_row x xs ∙ walk_found w c.loop-test.true
    (λ y z. sym (c.same_key_at.ensures x y m z) ∙ c.if-same_key_at.true))

pub row-q-requires : goal.row-q-requires
row-q-requires c =
    let w = c.loop.invariant c.requires.1.thing c.requires.1.lies c.requires.0.things c.requires.0.count c.requires.0.lies in
    walk_lying w c.loop-test.true

pub loop-preserved : goal.loop-preserved
loop-preserved c =
    λ x m xs k l.
    let w = c.loop.invariant x m xs k l in
    walk_next w c.loop-test.true _ 0 false
    (λ y z. (
      (c.row-q.ensures y z).past,
      refl,
      sym c.if-same_key_at.false ∙ c.same_key_at.ensures x y m z,
    ))

pub returns : goal.returns
returns c =
    λ xs x k l m.
    (walk_end (c.loop.invariant x m xs k l) c.loop-test.false).limit ∙ sym (like_any same_row x xs)
