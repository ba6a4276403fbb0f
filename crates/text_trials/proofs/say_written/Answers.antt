-- What was written ends within the run.
use Rattle.std.proofs.Common.{sym}
use Rattle.std.proofs.lemmas.List.{length-take-le}
use Rattle.chars.proofs.Laws.Putting.{put_within}
use Rattle.text_trials.proofs.say_written.Goals as goal

pub slice_bounds-out-end : goal.slice_bounds-out-end
slice_bounds-out-end g c = put_within _ _ _ c.in-Some.ensures

pub slice_bounds-write_all-end : goal.slice_bounds-write_all-end
slice_bounds-write_all-end g c = let inside = put_within _ _ _ c.in-Some.ensures in sym (length-take-le _ _ inside)
