-- A number's first half is marked, and a text's length is not.
use Rattle.held.proofs.Laws.Runs.{value_inside}
use Rattle.held.proofs.Laws.Places.{texted}
use Rattle.held.proofs.Laws.Parts.{text_lying, number_lying}
use Rattle.writing.proofs.Laws.Lying.{body_number, body_text}
use Rattle.writing.proofs.entries.put_body.Goals as goal

pub bounds-run-at : goal.bounds-run-at
bounds-run-at c = value_inside c.requires.thing c.requires.lies

pub put_number-requires : goal.put_number-requires
put_number-requires c = number_lying c.requires c.if-n-ge-MARK.true

pub returns-then-n-ge-MARK : goal.returns-then-n-ge-MARK
returns-then-n-ge-MARK c =
    λ x l. body_number _ x l c.if-n-ge-MARK.true c.put_number.ensures

pub slice_bounds-put_symbols-end : goal.slice_bounds-put_symbols-end
slice_bounds-put_symbols-end c =
    (let y = text_lying c.requires c.if-n-ge-MARK.false in texted y.thing y.lies).ends

pub returns : goal.returns
returns c = λ x l. body_text _ x l c.if-n-ge-MARK.false c.form_of.ensures c.put_symbols.ensures
