-- At each turn a string is due, if a quote stands there; else what was read is answered.
use mathlib.Core.Path.{refl, ◌∙◌}
use borrow.Author.Rules.{rules}
use Rattle.chars.specs.Base.{At}
use Rattle.text.proofs.Laws.Quick.{strung_first, strung_close, strung_more, string_value}
use Rattle.text.proofs.Laws.Values.{before_list}
use Rattle.text.proofs.quick.strings.Goals as goal

pub loop-read-init : goal.loop-read-init
loop-read-init c n = strung_first c.space-i.ensures

pub returns-in_default : goal.returns-in_default
returns-in_default c n = (c.loop-read.invariant n).told

pub returns-in_default-2 : goal.returns-in_default-2
returns-in_default-2 c n = (c.loop-read.invariant n).told

pub returns-in_default-string : goal.returns-in_default-string
returns-in_default-string c n = (c.loop-read.invariant n).told

pub returns-in_default-get : goal.returns-in_default-get
returns-in_default-get c n = (c.loop-read.invariant n).told

pub returns-in_default-get-2 : goal.returns-in_default-get-2
returns-in_default-get-2 c n = (c.loop-read.invariant n).told

pub returns-in-Some-eq93 : goal.returns-in-Some-eq93
returns-in-Some-eq93 c n =
    let q : At c.args.s.now c.loop-read.i c.in-Some-eq34.field-0.now = search rules in
    let p : At c.args.s.now c.space-c.result c.in-Some-eq93.field-0.now = search rules in
    let w = c.loop-read.invariant n in
    strung_close w (record { inside = q.inside; is = q.is ∙ c.in-Some-eq34.field-0-test }) (before_list refl w.high)
    (string_value n q c.in-Some-eq34.field-0-test c.in-Ok.ensures) c.space-c.ensures p c.in-Some-eq93.field-0-test

pub loop-read-preserved : goal.loop-read-preserved
loop-read-preserved c n =
    let q : At c.args.s.now c.loop-read.i c.in-Some-eq34.field-0.now = search rules in
    let p : At c.args.s.now c.space-c.result c.in-Some-eq44.field-0.now = search rules in
    let w = c.loop-read.invariant n in
    strung_more w (record { inside = q.inside; is = q.is ∙ c.in-Some-eq34.field-0-test }) (before_list refl w.high)
    (string_value n q c.in-Some-eq34.field-0-test c.in-Ok.ensures) c.space-c.ensures p c.in-Some-eq44.field-0-test
    c.space-i-in-Some-eq44.ensures
