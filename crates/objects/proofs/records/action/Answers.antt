-- The text is held, and then tested where it lies.
use Rattle.syntax.specs.Members.{one}
use Rattle.syntax.specs.RecordLayout.{is_action_name}
use Rattle.parts.proofs.Laws.Requests.Sole.{action_name_said}
use Rattle.straight.proofs.Laws.Texts.{text_first, text_within, text_formed}
use Rattle.objects.proofs.records.action.Goals as goal

pub slice_bounds-is_action_name-count : goal.slice_bounds-is_action_name-count
slice_bounds-is_action_name-count c = text_first c.requires c.in_ok-h.ensures

pub slice_bounds-is_action_name-start : goal.slice_bounds-is_action_name-start
slice_bounds-is_action_name-start c = text_first c.requires c.in_ok-h.ensures

pub slice_bounds-is_action_name-end : goal.slice_bounds-is_action_name-end
slice_bounds-is_action_name-end c = text_within c.requires c.in_ok-h.ensures

pub returns : goal.returns
returns c =
    text_formed c.requires c.in_ok-h.ensures is_action_name (action_name_said (one c.in_ok-h.ensures.tree)) c.is_action_name.ensures c.if-not-is_action_name.false
