-- The entries are held behind the place of their number, which is then put there.
-- whatever stands there is a list
use mathlib.Core.Path.{refl, ◌∙◌}
use Prim.Native.Nat.{◌+◌}
use native.Mathlib.Omega.{arith}
use lib.ListN.{length-set}
use Rattle.syntax.specs.Members.{each}
use Rattle.syntax.specs.RecordLayout.{context_of, contexts_of}
use Rattle.held.specs.Held.{held_list, held_context}
use Rattle.parts.proofs.Laws.Formed.{lists_several, lists_wrong}
use Rattle.policy.proofs.Laws.Requests.Contexts.{not_list, apartly, listed, listed_stands, contexts_wrong}
use Rattle.policy.proofs.Laws.Requests.Contexts.{contexts_many, contexts_few, contexts_room, contexts_held}
use Rattle.parts.proofs.Laws.Kinds.{list_told}
use Rattle.parts.proofs.Laws.Formed.{none_ends}
use Rattle.policy.proofs.contexts.hold_listed.Goals as goal

pub returns-then-ne : goal.returns-then-ne
returns-then-ne c =
    λ t e p. record {
      size = refl;
      said = not_list t (list_told c.kind_at.ensures c.ne.ensures c.if-ne.true t e p);
    }

pub overflow_add-at : goal.overflow_add-at
overflow_add-at c = omega (arith, c.requires.roomy.room, c.requires.roomy.bounded)

pub hold_differing-requires : goal.hold_differing-requires
hold_differing-requires c =
    contexts_room _ ((list_told c.kind_at.ensures c.ne.ensures c.if-ne.false _ _ c.requires.is)) c.requires.is c.requires.roomy

pub shape_of-run-in_err-past : goal.shape_of-run-in_err-past
shape_of-run-in_err-past c = c.hold_differing.auto.run

pub returns-in_err-past : goal.returns-in_err-past
returns-in_err-past c =
    λ t e p.
    none_ends (held_list held_context) c.args.run.now _ c.args.at (contexts_of t) _ c.from_residual.ensures
    (let l = (list_told c.kind_at.ensures c.ne.ensures c.if-ne.false t e p) in
    let w = lists_wrong held_context c.args.run.now c.hold_differing.new.run (c.args.at + 1)
    (apartly (each context_of (listed t l).elements)) e (c.hold_differing.ensures _ _ (listed_stands t l p))
    c.in_err-past.was in
    record { size = w.size; said = contexts_wrong t l w.said })

pub shape_of-run-then-count-gt-CONTEXTS : goal.shape_of-run-then-count-gt-CONTEXTS
shape_of-run-then-count-gt-CONTEXTS c = c.hold_differing.auto.run

pub returns-then-count-gt-CONTEXTS : goal.returns-then-count-gt-CONTEXTS
returns-then-count-gt-CONTEXTS c =
    λ t e p. let l = (list_told c.kind_at.ensures c.ne.ensures c.if-ne.false t e p) in
    let g = ((let l = (list_told c.kind_at.ensures c.ne.ensures c.if-ne.false t e p) in
    lists_several held_context c.args.run.now c.hold_differing.new.run (c.args.at + 1)
    (apartly (each context_of (listed t l).elements)) e (c.hold_differing.ensures _ _ (listed_stands t l p))
    c.in_ok-past.was)).0 in
    record {
      size = g.extends.size;
      said = contexts_many t l g.things g.said (omega (arith, g.count, c.if-count-gt-CONTEXTS.true));
    }

pub bounds-run-at : goal.bounds-run-at
bounds-run-at c = omega (arith, c.requires.roomy.room, c.hold_differing.auto.run)

pub shape_of-run : goal.shape_of-run
shape_of-run c =
    length-set c.hold_differing.new.run c.args.at _ ∙ c.hold_differing.auto.run

pub returns : goal.returns
returns c =
    λ t e p. let l = (list_told c.kind_at.ensures c.ne.ensures c.if-ne.false t e p) in
    let g = (let l = (list_told c.kind_at.ensures c.ne.ensures c.if-ne.false t e p) in
    lists_several held_context c.args.run.now c.hold_differing.new.run (c.args.at + 1)
    (apartly (each context_of (listed t l).elements)) e (c.hold_differing.ensures _ _ (listed_stands t l p))
    c.in_ok-past.was) in (
      contexts_held _ (omega (arith, c.requires.roomy.room)) g.0 (contexts_few t l g.0.things
          g.0.said (omega (arith, g.0.count, c.if-count-gt-CONTEXTS.false))),
      g.1,
    )
