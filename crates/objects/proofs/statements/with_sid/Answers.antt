-- The Sid is there, or that of no characters stands for it.
use mathlib.Core.Path.{refl}
use Rattle.objects.specs.Statements.{there, lacking}
use Rattle.objects.proofs.statements.with_sid.Goals as goal

pub returns-then-spans-ne0 : goal.returns-then-spans-ne0
returns-then-spans-ne0 c = there c.if-spans-ne0.true refl

pub returns : goal.returns
returns c = lacking c.if-spans-ne0.false c.if-base-at.false refl
