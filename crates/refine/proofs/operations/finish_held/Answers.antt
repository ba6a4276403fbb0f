-- The room is refused; no Allow statement is left; or the refined policy is handed out.
use mathlib.Core.Path.{sym, ◌∙◌}
use native.Mathlib.Omega.{arith}
use borrow.Author.Tests.{not-true}
use Rattle.refine.specs.Sound.{no_content, no_allow, finishes}
use Rattle.refine.proofs.Laws.Keepable.{policy_writ, values_enough}
use mathlib.Core.Path.{ap}
use lib.ListN.{length}
use mathlib.Core.Bool.{not}
use Rattle.refine.proofs.operations.finish_held.Goals as goal

pub returns-then-not-holds_room : goal.returns-then-not-holds_room
returns-then-not-holds_room c =
    λ p l s. no_content (sym (c.holds_room.ensures p l s) ∙ not-true c.holds_room.result
    (ap not c.if-not-holds_room.true))

pub some_allowed-requires : goal.some_allowed-requires
some_allowed-requires c =
    record {
      thing = c.requires.0.policy;
      lies = c.requires.0.lies;
      enough = omega (
        arith,
        values_enough c.args.room.now c.requires.0.sound c.requires.1,
      );
    }

pub returns-then-not-some_allowed : goal.returns-then-not-some_allowed
returns-then-not-some_allowed c =
    let told = c.if-not-holds_room.false in
    λ p l s. no_allow (sym (c.holds_room.ensures p l s) ∙ told) (sym (c.some_allowed.ensures p l) ∙ c.if-not-some_allowed.true)

pub put_refined-requires : goal.put_refined-requires
put_refined-requires c =
    let told = c.if-not-holds_room.false in
    let fits = sym (c.holds_room.ensures c.requires.0.policy c.requires.0.lies c.requires.0.sound) ∙ told in
    record {
      policy = c.requires.0.policy;
      lies = c.requires.0.lies;
      enough = values_enough c.args.room.now c.requires.0.sound c.requires.1;
      writ = policy_writ c.requires.0.policy c.args.room.now c.requires.0.sound c.requires.1 fits;
    }

pub deliver-requires : goal.deliver-requires
deliver-requires c =
    let told = c.if-not-holds_room.false in
    let fits = sym (c.holds_room.ensures c.requires.0.policy c.requires.0.lies c.requires.0.sound) ∙ told in
    let writ = policy_writ c.requires.0.policy c.args.room.now c.requires.0.sound c.requires.1 fits in
    omega (arith, (c.put_refined.ensures c.requires.0.policy c.requires.0.lies writ).size, ap length c.new-sink.ensures.1)

pub returns : goal.returns
returns c =
    let told = c.if-not-holds_room.false in
    let allows = c.if-not-some_allowed.false in
    λ p l s.
    let f = sym (c.holds_room.ensures p l s) ∙ told in
    finishes f (sym (c.some_allowed.ensures p l) ∙ allows) (c.deliver.ensures _
    ((c.put_refined.ensures p l (policy_writ p c.args.room.now s c.requires.1 f)).adds _
    c.new-sink.ensures.2))
