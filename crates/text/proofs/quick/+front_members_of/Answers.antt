-- `front` opens a level for members, members ask `front` for values of as many levels as they were given: twice the
-- levels, and one more for members, falls. At each turn a member is due, if a name stands there; else what was read is
-- told.
use mathlib.Core.Path.{sym, ◌∙◌}
use mathlib.Core.List.{[], ◌∷◌}
use borrow.Author.Rules.{rules}
use Rattle.chars.specs.Base.{At}
use Rattle.text.specs.Machine.{value}
use Rattle.text.specs.Reading.{Done}
use Rattle.text.specs.declared.scan.Shape.TheVariants.{List, Object}
use Rattle.text.proofs.Laws.Places.{byte_due}
use Rattle.text.proofs.Laws.Quick.{strung_first, strung_close, strung_more, string_value, front_string, front_opened, ok_done}
use Rattle.text.proofs.quick.+front_members_of.Goals as goal

pub front-returns-in_ok-e-in-Some-eq34 : goal.front-returns-in_ok-e-in-Some-eq34
front-returns-in_ok-e-in-Some-eq34 t c =
    let p : At c.args.s.now c.args.at c.in-Some-eq34.field-0.now = search rules in
    front_string p (string_value _ p c.in-Some-eq34.field-0-test
    (ok_done c.string.result c.string.ensures (sym c.ok.ensures.value ∙ c.in_ok-e-in-Some-eq34.was)))

pub front-returns-in-Some-eq91 : goal.front-returns-in-Some-eq91
front-returns-in-Some-eq91 t c =
    let p : At c.args.s.now c.args.at c.in-Some-eq91.field-0.now = search rules in
    front_opened p List _ c.in-Some-eq91.field-0-test c.if-left-ne0.true (c.strings.ensures _)

pub front-returns-in-Some-eq123 : goal.front-returns-in-Some-eq123
front-returns-in-Some-eq123 t c =
    let p : At c.args.s.now c.args.at c.in-Some-eq123.field-0.now = search rules in
    front_opened p Object _ c.in-Some-eq123.field-0-test c.if-left-ne0-2.true c.members_of.ensures

pub members_of-loop-v-init : goal.members_of-loop-v-init
members_of-loop-v-init t c = strung_first c.space-i.ensures

pub members_of-returns-in-Some-eq125 : goal.members_of-returns-in-Some-eq125
members_of-returns-in-Some-eq125 t c =
    let p : At c.args.s.now c.space-c.result c.in-Some-eq125.field-0.now = search rules in
    let d : Done c.args.s.now (value c.args.left ∷ []) c.in-Ok.v c.in-Some-Ends.e = search rules in
    strung_close c.loop-v.invariant (byte_due _ c.in-Ok.ensures) c.in-Ok.ensures d c.space-c.ensures p c.in-Some-eq125.field-0-test

pub members_of-loop-v-preserved : goal.members_of-loop-v-preserved
members_of-loop-v-preserved t c =
    let p : At c.args.s.now c.space-c.result c.in-Some-eq44.field-0.now = search rules in
    let d : Done c.args.s.now (value c.args.left ∷ []) c.in-Ok.v c.in-Some-Ends.e = search rules in
    strung_more c.loop-v.invariant (byte_due _ c.in-Ok.ensures) c.in-Ok.ensures d c.space-c.ensures p c.in-Some-eq44.field-0-test
    c.space-i-in-Some-eq44.ensures
