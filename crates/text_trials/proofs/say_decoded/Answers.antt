-- As many characters as were told stand in the run.
use Rattle.std.proofs.Common.{sym}
use Rattle.std.proofs.lemmas.List.{length-take-le}
use Rattle.chars.proofs.Laws.Strings.Runs.{decoded_within}
use Rattle.text_trials.proofs.say_decoded.Goals as goal

pub slice_bounds-run-end : goal.slice_bounds-run-end
slice_bounds-run-end g c = decoded_within c.in-Ok.ensures

pub slice_bounds-say_characters-end : goal.slice_bounds-say_characters-end
slice_bounds-say_characters-end g c = let inside = decoded_within c.in-Ok.ensures in sym (length-take-le _ _ inside)

pub slice_bounds-run-end-in-Ok : goal.slice_bounds-run-end-in-Ok
slice_bounds-run-end-in-Ok g c = decoded_within c.in-Ok.ensures

pub slice_bounds-say_written-end : goal.slice_bounds-say_written-end
slice_bounds-say_written-end g c = let inside = decoded_within c.in-Ok.ensures in sym (length-take-le _ _ inside)
