-- Only an object is a statement.
use mathlib.Core.Path.{refl}
use native.Mathlib.Omega.{arith}
use Rattle.parts.proofs.Laws.Several.{object_holdable, object_stands}
use Rattle.policy.proofs.Laws.Statements.{not_object, of_object}
use Rattle.parts.proofs.Laws.Kinds.{object_told}
use Rattle.policy.proofs.statements.hold_statement.Goals as goal

pub kind_at-requires : goal.kind_at-requires
kind_at-requires c =
    record { what = c.requires.what; stop = c.requires.stop; is = c.requires.is }

pub returns-then-ne : goal.returns-then-ne
returns-then-ne c =
    λ t e p.
    let not = object_told c.kind_at.ensures c.ne.ensures c.if-ne.true in
    record { size = refl; said = not_object t (not t e p) }

pub hold_object-requires : goal.hold_object-requires
hold_object-requires c =
    let yes = object_told c.kind_at.ensures c.ne.ensures c.if-ne.false in
    object_holdable _ (omega arith) c.requires (yes _ _ c.requires.is)

pub returns : goal.returns
returns c =
    λ t e p.
    let yes = object_told c.kind_at.ensures c.ne.ensures c.if-ne.false in
    of_object c.args.run.now _ c.args.at e c.hold_object.result t (yes t e p) (c.hold_object.ensures _ _ (object_stands p
    (yes t e p)))
