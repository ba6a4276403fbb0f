-- The first member is another Version; a member is unknown or repeated; Version is missing, or another.
use Rattle.policy.proofs.Laws.Framed.{framed_not, framed_none, framed_standing, framed_other}
use Rattle.policy.proofs.statements.has_frame.Goals as goal

pub begins_right-requires : goal.begins_right-requires
begins_right-requires c = c.requires

pub returns-then-not-begins_right : goal.returns-then-not-begins_right
returns-then-not-begins_right c = λ z. c.begins_right.ensures c.if-not-begins_right.true

pub slots-places-requires : goal.slots-places-requires
slots-places-requires c = c.requires

pub returns-then-places-eq0 : goal.returns-then-places-eq0
returns-then-places-eq0 c = λ z ms e p. framed_not ms (c.slots-places.ensures ms e p) c.if-places-eq0.true

pub returns-then-version-eq0 : goal.returns-then-version-eq0
returns-then-version-eq0 c = λ z ms e p. framed_none ms (c.slots-places.ensures ms e p) c.if-places-eq0.false c.if-version-eq0.true

pub is_edition-requires : goal.is_edition-requires
is_edition-requires c = framed_standing c.requires.what (c.slots-places.ensures c.requires.what c.requires.stop c.requires.is)
    c.if-places-eq0.false c.if-version-eq0.false

pub returns : goal.returns
returns c = λ z ms e p. framed_other ms (c.slots-places.ensures ms e p) c.if-places-eq0.false
    c.if-version-eq0.false c.is_edition.result c.is_edition.ensures z
