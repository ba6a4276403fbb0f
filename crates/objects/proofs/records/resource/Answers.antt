-- The text is held, and then tested where it lies.
use Rattle.syntax.specs.RecordLayout.{is_resource_arn}
use Rattle.parts.proofs.Laws.Requests.Sole.{resource_arn_said}
use Rattle.straight.proofs.Laws.Texts.{text_first, text_within, text_formed}
use Rattle.objects.proofs.records.resource.Goals as goal

pub slice_bounds-is_resource_arn-count : goal.slice_bounds-is_resource_arn-count
slice_bounds-is_resource_arn-count c = text_first c.requires c.in_ok-h.ensures

pub slice_bounds-is_resource_arn-start : goal.slice_bounds-is_resource_arn-start
slice_bounds-is_resource_arn-start c = text_first c.requires c.in_ok-h.ensures

pub slice_bounds-is_resource_arn-end : goal.slice_bounds-is_resource_arn-end
slice_bounds-is_resource_arn-end c = text_within c.requires c.in_ok-h.ensures

pub returns : goal.returns
returns c =
    text_formed c.requires c.in_ok-h.ensures is_resource_arn (resource_arn_said c.in_ok-h.ensures.tree) c.is_resource_arn.ensures c.if-not-is_resource_arn.false
