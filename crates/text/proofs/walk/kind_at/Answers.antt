-- Each kind of value has first bytes of its own.
use mathlib.Core.Path.{refl}
use Rattle.text.specs.declared.walk.Kind.TheVariants as K
use Rattle.text.proofs.Laws.Contents.Kinds.{kind_by, kind_is, kind_else}
use Rattle.text.proofs.Laws.Contents.{stands_inside}
use Rattle.text.proofs.walk.kind_at.Goals as goal

pub bounds-s-v : goal.bounds-s-v
bounds-s-v c = stands_inside c.requires.is

pub returns-in-34 : goal.returns-in-34
unfolding kind_by
returns-in-34 c = λ t e p. kind_is p 34 K.Text refl c.in-34.is

pub returns-in-91 : goal.returns-in-91
unfolding kind_by
returns-in-91 c = λ t e p. kind_is p 91 K.List refl c.in-91.is

pub returns-in-102 : goal.returns-in-102
unfolding kind_by
returns-in-102 c = λ t e p. kind_is p 102 K.False refl c.in-102.is

pub returns-in-110 : goal.returns-in-110
unfolding kind_by
returns-in-110 c = λ t e p. kind_is p 110 K.Null refl c.in-110.is

pub returns-in-116 : goal.returns-in-116
unfolding kind_by
returns-in-116 c = λ t e p. kind_is p 116 K.True refl c.in-116.is

pub returns-in-123 : goal.returns-in-123
unfolding kind_by
returns-in-123 c = λ t e p. kind_is p 123 K.Object refl c.in-123.is

pub returns-in_default : goal.returns-in_default
returns-in_default c =
    λ t e p.
    kind_else p c.in_default.in_default-own.rest.0.0.0.0.0.1 c.in_default.in_default-own.rest.0.0.0.0.1 c.in_default.in_default-own.rest.0.0.0.1
    c.in_default.in_default-own.rest.0.0.1 c.in_default.in_default-own.rest.0.1 c.in_default.in_default-own.rest.1
