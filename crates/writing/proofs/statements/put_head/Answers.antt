-- The Sid and the effect stand first.
use mathlib.Core.Path.{ap}
use Rattle.held.proofs.Laws.Parts.{statement_inside, statement_effect, statement_lying, statement_labelled_lem}
use Rattle.held.proofs.Laws.Parts.{statement_labelled}
use Rattle.writing.specs.Bytes.{effect_bytes, head_bytes}
use Rattle.writing.proofs.Laws.Showing.{adds_as, adds_then}
use Rattle.writing.proofs.statements.put_head.Goals as goal

pub put_sid-requires : goal.put_sid-requires
put_sid-requires c = statement_lying c.requires

pub bounds-run-p : goal.bounds-run-p
bounds-run-p c =
    statement_inside c.requires.thing c.requires.lies

pub returns : goal.returns
unfolding head_bytes
returns c =
    λ x l. adds_then c.put.ensures (adds_then
    (c.put_sid.ensures (statement_labelled x) (statement_labelled_lem x l))
    (adds_then (adds_as (ap effect_bytes (statement_effect x l)) c.put_effect.ensures)
    c.put_bytes.ensures))
