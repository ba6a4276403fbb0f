-- From the longest beginning on, each turn looks at one.
use Rattle.candidates.specs.Entries.{legal_beginning}
use Rattle.candidates.specs.Places.{place_is}
use Rattle.candidates.proofs.Laws.Charging.{Looking}
use Rattle.candidates.proofs.charging.put_longest.Given as goal

abbrev pub invariant-loop-n : goal.invariant-loop-n
invariant-loop-n l = Looking (legal_beginning (place_is l.place) l.b) l.t l.n
