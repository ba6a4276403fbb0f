-- Each turn holds one entry behind those before it, or ends the walk: none left, one that is wrong, a key given twice.
use Rattle.syntax.specs.RecordLayout.{context_of, same_context}
use Rattle.held.specs.Held.{held_context}
use Rattle.parts.proofs.Laws.Differ.{same_context_symmetric}
use Rattle.parts.proofs.Laws.Gathering.{element_left}
use Rattle.policy.proofs.Laws.Requests.Fits.{context_fits}
use Rattle.policy.proofs.Laws.Apart.{Apart}
use Rattle.policy.proofs.contexts.hold_differing.Given as goal

abbrev pub invariant-loop-m : goal.invariant-loop-m
invariant-loop-m l =
    Apart held_context context_of context_fits same_context same_context_symmetric l.s l.v l.initial.run l.at l.run l.m l.past l.count

abbrev pub decreases-loop-m : goal.decreases-loop-m
decreases-loop-m l = element_left l.s l.m
