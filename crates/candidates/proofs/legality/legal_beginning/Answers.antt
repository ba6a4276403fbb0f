-- Each test refuses by itself; the form is tested on the text with its star.
use mathlib.Core.Path.{sym, ap, ◌∙◌}
use Rattle.candidates.specs.Places.{form_of, place_is}
use Rattle.candidates.proofs.Laws.Forming.{begun_short, begun_not, begun_not_plain, begun_long, begun_formed}
use Rattle.candidates.proofs.Laws.Forming.{starts_part}
use Rattle.candidates.proofs.legality.legal_beginning.Goals as goal
use Rattle.candidates.proofs.legality.legal_beginning.Goals.{then-q-b-via-then-q-b, then-q-b-via-else-q-b+then-q-ge-ENTRY, then-q-b-via-else-q-b+else-q-ge-ENTRY+then-not-begins, then-q-b-via-else-q-b+else-q-ge-ENTRY+else-not-begins+then-not-all_plain}

pub returns-then-q-b : goal.returns-then-q-b
returns-then-q-b c =
    elim c.then-q-b.branch [
      | then-q-b-via-then-q-b w ↦ begun_short _ _ _ w.if-q-b.true
      | then-q-b-via-else-q-b+then-q-ge-ENTRY w ↦ begun_long _ _ _ w.if-q-ge-ENTRY.true
      | then-q-b-via-else-q-b+else-q-ge-ENTRY+then-not-begins w ↦
          begun_not _ _ _ (sym w.begins.ensures ∙ w.if-not-begins.true)
      | then-q-b-via-else-q-b+else-q-ge-ENTRY+else-not-begins+then-not-all_plain w ↦
          begun_not_plain _ _ _ (sym w.all_plain.ensures ∙ w.if-not-all_plain.true)
    ]

pub returns : goal.returns
returns c =
    c.has_form.ensures ∙ ap (form_of (place_is c.args.place)) (starts_part c.put_starred.ensures)
    ∙ begun_formed _ _ _ (sym c.begins.ensures ∙ c.if-not-begins.false) c.if-q-b.false
    (sym c.all_plain.ensures ∙ c.if-not-all_plain.false) c.if-q-ge-ENTRY.false
