-- Demand 3 of the bytes that Finish writes: they read as the refined policy, of which the laws before this one speak.
use Rattle.rooms.specs.Rooms.{slots}
use Rattle.refined.specs.Finishing.{refined_policy}
use Rattle.demands.specs.Charges.{Charged}
use Rattle.demands.specs.Narrowing.{WrittenRefines}
use Rattle.demands.proofs.Laws.Rooms.{rows_fit}
use Rattle.demands.proofs.Laws.Logs.{comes_holds}
use Rattle.demands.proofs.Laws.Again.{finish_again}
use Rattle.demands.proofs.Laws.NarrowingPolicy as N
use Rattle.demands.proofs.Laws.KeepingPolicy as K

pub written_refines : WrittenRefines
written_refines policy out after p log room n known_p comes f =
    record {
      policy = refined_policy p room;
      reads = finish_again policy out after room n p known_p f;
      keeps = λ asked among r says e. K.keeps policy p log room known_p comes asked among r says e;
      narrows = λ q e. N.narrows p room (rows_fit (slots p) (Charged p log) room (comes_holds known_p comes).rows) q e;
    }
