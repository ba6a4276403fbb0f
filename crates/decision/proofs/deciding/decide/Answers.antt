-- The first Deny that matches ends the walk. Of the statements passed none is such a Deny, and the first Allow that
-- matches is kept; of a statement's Action entries passed none matches. Whichever policy and request lie in the runs
-- are those decided on.
use mathlib.Core.Path.{refl, sym, ap, ◌∙◌, subst}
use Rattle.std.specs.Option.{option_or}
use Prim.Native.Nat.{◌+◌}
use native.Mathlib.Omega.{arith}
use Rattle.held.proofs.Laws.Parts.{statement_lying, statement_inside, statement_effect, actions_lie, request_action}
use Rattle.held.proofs.Laws.Parts.{action_lies, text_value}
use Rattle.syntax.specs.Policy.{text}
use Rattle.decision.specs.Matching.{matches}
use Rattle.held.specs.Held.{held_statement, any_of}
use Rattle.decision.specs.declared.deciding.Decision.TheVariants.{Denied}
use Rattle.held.proofs.Laws.Runs.{lies_inside}
use Rattle.held.proofs.Laws.RunsStatement.{policy_inside, policy_count, policy_lies}
use Rattle.held.proofs.Laws.Coming.{Coming, coming, coming_list, lying, coming_more, coming_one}
use Rattle.held.proofs.Laws.Coming.{coming_now, coming_next, coming_end, any_on, some_is, none_is}
use Rattle.decision.specs.Deciding.{part_behind}
use Rattle.decision.proofs.Laws.DecidingOrder.{unmatched, matched, compared, not_none, is_none_told, none_some, some_same}
use Rattle.decision.proofs.Laws.DecidingOrder.{is_deny, is_allow, number, Kept, kept_none, kept_or, kept_is, kept_some}
use Rattle.decision.proofs.Laws.DecidingOrder.{told, told_all, told_passed, told_allowed, told_denied, left_some, left_none}
use Rattle.decision.proofs.deciding.decide.Goals as goal
use Rattle.decision.proofs.deciding.decide.Goals.{then-i-n, then-j-m, else-j-m+then-matches+then-is_some}
use Rattle.decision.proofs.deciding.decide.Goals.{else-j-m+then-matches+else-is_some+else-policy-p-eq-DENY}
use Rattle.decision.proofs.deciding.decide.Goals.{else-i-n+else-j-m+then-matches+else-is_some+then-policy-p-eq-DENY}

pub bounds-policy-0 : goal.bounds-policy-0
bounds-policy-0 c =
    policy_inside c.requires.0.thing c.requires.0.lies

pub overflow_cast-n : goal.overflow_cast-n
overflow_cast-n c = omega (arith, c.shared_slice_known-3-1.given 0)

pub statements-init : goal.statements-init
statements-init c = (
  λ k e. cc,
  λ x q.
      subst (Coming held_statement _ _ 0 1 (told 0 1 q.thing)) (told_all x.thing q.thing)
      (coming x.thing (policy_count x.thing x.lies) (policy_lies x.thing x.lies)),
)

pub text_at-action-requires : goal.text_at-action-requires
text_at-action-requires c = request_action c.requires.1

pub behind_label-l-requires : goal.behind_label-l-requires
behind_label-l-requires c =
    statement_lying (coming_one (c.statements.invariant.1 c.requires.0 c.requires.1) c.if-i-n.false)

pub offset_bounds-policy-l : goal.offset_bounds-policy-l
offset_bounds-policy-l c =
    let y = coming_one (c.statements.invariant.1 c.requires.0 c.requires.1) c.if-i-n.false in
    let z = actions_lie y.thing y.lies c.behind_label-l.ensures in
    omega (arith, lies_inside z, z.bounded)

pub bounds-policy-l : goal.bounds-policy-l
bounds-policy-l c =
    let y = coming_one (c.statements.invariant.1 c.requires.0 c.requires.1) c.if-i-n.false in
    let z = actions_lie y.thing y.lies c.behind_label-l.ensures in
    lies_inside z

pub overflow_cast-m : goal.overflow_cast-m
overflow_cast-m c = omega (arith, c.shared_slice_known-in-statements-1.given c.behind_label-l.result)

pub overflow_add-e : goal.overflow_add-e
overflow_add-e c =
    let y = coming_one (c.statements.invariant.1 c.requires.0 c.requires.1) c.if-i-n.false in
    let z = actions_lie y.thing y.lies c.behind_label-l.ensures in
    omega (arith, lies_inside z, z.bounded)

pub entries-init : goal.entries-init
entries-init c =
    λ s q. coming_list (lying s.thing.actions (actions_lie s.thing s.lies c.behind_label-l.ensures))

pub text_at-requires : goal.text_at-requires
text_at-requires c =
    let y = coming_one (c.statements.invariant.1 c.requires.0 c.requires.1) c.if-i-n.false in
    let v = c.entries.invariant y c.requires.1 in
    coming_one v c.if-j-m.false

pub failing_behind-requires : goal.failing_behind-requires
failing_behind-requires c =
    (coming_one (c.statements.invariant.1 c.requires.0 c.requires.1) c.if-i-n.false, c.requires.1)

pub offset_bounds-policy-p : goal.offset_bounds-policy-p
offset_bounds-policy-p c =
    let y = coming_one (c.statements.invariant.1 c.requires.0 c.requires.1) c.if-i-n.false in
    omega (arith, statement_inside y.thing y.lies, y.lies.bounded)

pub bounds-policy-p : goal.bounds-policy-p
bounds-policy-p c =
    let y = coming_one (c.statements.invariant.1 c.requires.0 c.requires.1) c.if-i-n.false in
    statement_inside y.thing y.lies

pub overflow_add-denied : goal.overflow_add-denied
overflow_add-denied c =
    let more = coming_more (c.statements.invariant.1 c.requires.0 c.requires.1) c.if-i-n.false in
    omega (arith, more, c.shared_slice_known-3-1.given 0)

pub overflow_add-matching : goal.overflow_add-matching
overflow_add-matching c =
    let more = coming_more (c.statements.invariant.1 c.requires.0 c.requires.1) c.if-i-n.false in
    omega (arith, more, c.shared_slice_known-3-1.given 0)

pub past_value-e-requires : goal.past_value-e-requires
past_value-e-requires c =
    let y = coming_one (c.statements.invariant.1 c.requires.0 c.requires.1) c.if-i-n.false in
    let v = c.entries.invariant y c.requires.1 in
    text_value (coming_one v c.if-j-m.false)

pub overflow_add-j : goal.overflow_add-j
overflow_add-j c =
    let y = coming_one (c.statements.invariant.1 c.requires.0 c.requires.1) c.if-i-n.false in
    let v = c.entries.invariant y c.requires.1 in
    let known = c.shared_slice_known-in-statements-1.given c.behind_label-l.result in
    omega (arith, coming_more v c.if-j-m.false, known)

pub entries-smaller : goal.entries-smaller
entries-smaller c =
    let y = coming_one (c.statements.invariant.1 c.requires.0 c.requires.1) c.if-i-n.false in
    let v = c.entries.invariant y c.requires.1 in
    omega (arith, coming_more v c.if-j-m.false)

pub entries-preserved : goal.entries-preserved
entries-preserved c =
    λ s q.
    let v = c.entries.invariant s q in
    let wanted = q.thing.action in
    let at-action = action_lies q.thing q.lies in
    coming_next v (coming_more v c.if-j-m.false) _ (any_of (λ x. matches x wanted))
    (λ x z. c.past_value-e.ensures (text x) z)
    (λ x z zs. any_on (λ u. matches u wanted) x zs
    (sym (compared x wanted (c.text_at.ensures x z) (c.text_at-action.ensures wanted at-action) c.matches.ensures)
    ∙ c.if-matches.false))

pub statement-p-requires : goal.statement-p-requires
statement-p-requires c =
    coming_one (c.statements.invariant.1 c.requires.0 c.requires.1) c.if-i-n.false

pub overflow_add-i : goal.overflow_add-i
overflow_add-i c =
    let more = coming_more (c.statements.invariant.1 c.requires.0 c.requires.1) c.if-i-n.false in
    omega (arith, more, c.shared_slice_known-3-1.given 0)

pub statements-smaller : goal.statements-smaller
statements-smaller c =
    let more = coming_more (c.statements.invariant.1 c.requires.0 c.requires.1) c.if-i-n.false in
    omega (arith, more)

pub statements-preserved : goal.statements-preserved
statements-preserved c = (
  subst Kept (sym c.or-allowed.ensures) (elim c.if-j-m.branch [
    | then-j-m t ↦ subst (λ o. Kept (option_or c.statements.allowed o)) (sym t.matching-is) (kept_none _ c.statements.invariant.0)
    | else-j-m+then-matches+then-is_some t ↦
        subst (λ o. Kept (option_or c.statements.allowed o)) (sym t.matching-is) (kept_none _ c.statements.invariant.0)
    | else-j-m+then-matches+else-is_some+else-policy-p-eq-DENY t ↦
        subst (λ o. Kept (option_or c.statements.allowed o)) (sym t.matching-is) (kept_or _ _ c.statements.invariant.0)
  ]),
  λ x lies_q.
      let q = lies_q.thing in
      let m = lies_q.lies in
      let w = c.statements.invariant.1 x lies_q in
      let a = number c.statements.allowed in
      let i = c.statements.i in
      coming_next w (coming_more w c.if-i-n.false) _ (told (number c.or-allowed.result) (i + 1 + 1) q)
      (λ s z. (c.statement-p.ensures s z).past)
      (λ s z ss.
      let v = c.entries.invariant (lying s z) lies_q in
      let wanted = c.text_at-action.ensures q.action (action_lies q m) in
      elim c.if-j-m.branch [
        | then-j-m t ↦
            told_passed a i s ss q (kept_is _ c.or-allowed.ensures t.matching-is) refl
            (unmatched s q (none_is (λ u. matches u q.action) v (omega (arith, t.if-j-m.true))))
        | else-j-m+then-matches+then-is_some t ↦
            let found = some_is (λ u. matches u q.action) v (coming_more v t.if-j-m.false)
            (λ x l. compared x q.action (t.text_at.ensures x l) wanted t.matches.ensures) t.if-matches.true in
            told_passed a i s ss q (kept_is _ c.or-allowed.ensures t.matching-is) refl
            (matched s q found ∙ not_none (part_behind s q) (t.failing_behind.ensures s q z m) t.is_some.ensures t.if-is_some.true)
        | else-j-m+then-matches+else-is_some+else-policy-p-eq-DENY t ↦
            let found = some_is (λ u. matches u q.action) v (coming_more v t.if-j-m.false)
            (λ x l. compared x q.action (t.text_at.ensures x l) wanted t.matches.ensures) t.if-matches.true in
            told_allowed a i s ss q (kept_some _ i c.statements.invariant.0 c.or-allowed.ensures t.matching-is) refl
            (matched s q found ∙ is_none_told (part_behind s q) (t.failing_behind.ensures s q z m) t.is_some.ensures t.if-is_some.false)
            (is_allow s.effect (statement_effect s z) t.if-policy-p-eq-DENY.false)
      ]),
)

pub returns-in-Some-default : goal.returns-in-Some-default
returns-in-Some-default c =
    λ x q l m.
    let w = c.statements.invariant.1 (lying x l) (lying q m) in
    elim c.if-i-n.branch [
      | then-i-n t ↦ absurd (none_some (sym t.denied-is ∙ c.in-Some-default.is-0))
      | else-i-n+else-j-m+then-matches+else-is_some+then-policy-p-eq-DENY t ↦
          let y = coming_now w (coming_more w t.if-i-n.false) in
          let s = y.head in
          let v = t.entries.invariant (lying s y.lies) (lying q m) in
          let found = some_is (λ u. matches u q.action) v (coming_more v t.if-j-m.false)
          (λ x l. compared x q.action (t.text_at.ensures x l) (c.text_at-action.ensures q.action (action_lies q m)) t.matches.ensures)
          t.if-matches.true in
          ap Denied (some_same (sym c.in-Some-default.is-0 ∙ t.denied-is))
          ∙ told_denied (number c.statements.allowed) c.statements.i s y.tail q
          (matched s q found ∙ is_none_told (part_behind s q) (t.failing_behind.ensures s q y.lies m) t.is_some.ensures t.if-is_some.false)
          (is_deny s.effect (statement_effect s y.lies) t.if-policy-p-eq-DENY.true)
          ∙ y.same
    ]

pub returns-in-None-Some : goal.returns-in-None-Some
returns-in-None-Some c =
    λ x q l m.
    let w = c.statements.invariant.1 (lying x l) (lying q m) in
    elim c.if-i-n.branch [
      | then-i-n t ↦
          left_some (c.statements.i + 1) q c.in-None-Some.is-1 c.statements.invariant.0
          ∙ coming_end w (omega (arith, t.if-i-n.true))
      | else-i-n+else-j-m+then-matches+else-is_some+then-policy-p-eq-DENY t ↦
          absurd (none_some (sym c.in-None-Some.is-0 ∙ t.denied-is))
    ]

pub returns-in-None-None : goal.returns-in-None-None
returns-in-None-None c =
    λ x q l m.
    let w = c.statements.invariant.1 (lying x l) (lying q m) in
    elim c.if-i-n.branch [
      | then-i-n t ↦
          left_none (c.statements.i + 1) q c.in-None-None.is-1
          ∙ coming_end w (omega (arith, t.if-i-n.true))
      | else-i-n+else-j-m+then-matches+else-is_some+then-policy-p-eq-DENY t ↦
          absurd (none_some (sym c.in-None-None.is-0 ∙ t.denied-is))
    ]
