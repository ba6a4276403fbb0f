-- By the word's turn a member is unknown, the Version or the Statement; each of these comes once and is tested or held.
use native.Mathlib.Omega.{arith}
use mathlib.Core.Path.{refl, sym, ◌∙◌}
use Rattle.held.specs.Held.{held}
use Rattle.parts.proofs.Laws.Formed.{ends_past, ends_wrong}
use Rattle.policy.specs.Statements.{a_version, a_statement, version_again, version_wrong}
use Rattle.policy.specs.Statements.{statement_again, statement_wrong}
use Rattle.policy.proofs.Laws.PartwayOn.{adds_none}
use Rattle.policy.proofs.statements.hold_member.Goals as goal

pub returns-then-version-ne0 : goal.returns-then-version-ne0
returns-then-version-ne0 c = λ t e p. (refl, version_again c.if-k-eq1.true (omega arith))

pub is_edition-requires : goal.is_edition-requires
is_edition-requires c =
    record { what = c.requires.1.what; stop = c.requires.1.stop; is = c.requires.1.is }

pub returns-then-not-is_edition : goal.returns-then-not-is_edition
returns-then-not-is_edition c =
    λ t e p. (
      refl,
      version_wrong c.if-k-eq1.true (omega arith)
          (sym (c.is_edition.ensures t e p) ∙ c.if-not-is_edition.true),
    )

pub past_value-requires : goal.past_value-requires
past_value-requires c =
    record { what = c.requires.1.what; stop = c.requires.1.stop; is = c.requires.1.is }

pub returns-then-k-eq1 : goal.returns-then-k-eq1
returns-then-k-eq1 c =
    λ t e p. (
      a_version c.if-k-eq1.true (omega arith)
          (sym (c.is_edition.ensures t e p) ∙ c.if-not-is_edition.false) refl refl refl,
      c.past_value.ensures t e p,
    )

pub returns-then-past-ne0 : goal.returns-then-past-ne0
returns-then-past-ne0 c =
    λ t e p. (refl, statement_again (λ z. absurd (omega (arith, c.requires.0, z))) c.if-k-eq1.false c.if-past-ne0.true)

pub hold_several-requires : goal.hold_several-requires
hold_several-requires c = c.requires.1

pub returns-in_err-h : goal.returns-in_err-h
returns-in_err-h c =
    λ t e p. adds_none c.args.k c.args.v t e c.args.run.now _ c.args.version c.args.past c.from_residual.ensures (
    let l = ends_wrong held c.args.run.now _ _ _ _ (c.hold_several.ensures t e p)
    c.in_err-h.was in (
      l.size,
      statement_wrong (λ z. absurd (omega (arith, c.requires.0, z))) c.if-k-eq1.false c.if-past-ne0.false l.said,
    ))

pub returns : goal.returns
returns c =
    λ t e p.
    let d = ends_past held c.args.run.now _ _ _ _ (c.hold_several.ensures t e p)
    c.in_ok-h.was in (
      a_statement (λ z. absurd (omega (arith, c.requires.0, z))) c.if-k-eq1.false c.if-past-ne0.false refl d.0,
      d.1,
    )
