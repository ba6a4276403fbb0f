-- The keys lie where their entries' second numbers say.
use mathlib.Core.Path.{◌∙◌}
use Rattle.syntax.specs.Forms.{same_key}
use Rattle.held.proofs.Laws.Runs.{named_both}
use Rattle.held.proofs.Laws.Requests.Lying.{context_named}
use Rattle.straight.proofs.keys.same_context_at.Goals as goal

pub bounds-run-p : goal.bounds-run-p
bounds-run-p c =
    (context_named c.requires.0.thing c.requires.0.lies).inside

pub bounds-run-q : goal.bounds-run-q
bounds-run-q c =
    (context_named c.requires.1.thing c.requires.1.lies).inside

pub slice_bounds-same_key-end : goal.slice_bounds-same_key-end
slice_bounds-same_key-end c =
    (context_named c.requires.0.thing c.requires.0.lies).ends

pub slice_bounds-same_key-end-2 : goal.slice_bounds-same_key-end-2
slice_bounds-same_key-end-2 c =
    (context_named c.requires.1.thing c.requires.1.lies).ends

pub returns : goal.returns
returns c =
    λ x y l m.
    c.same_key.ensures
    ∙ named_both same_key (context_named x l) (context_named y m)
