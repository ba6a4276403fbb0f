-- One statement behind the number one.
use Rattle.objects.proofs.Laws.Policies.{lone_laid}
use Rattle.objects.proofs.Laws.Listed.{walks_alone}
use Rattle.objects.proofs.policies.lone.Goals as goal

pub returns-in-Ok : goal.returns-in-Ok
returns-in-Ok c =
    lone_laid c.requires.0 c.in-Ok.ensures

pub returns-in-Err : goal.returns-in-Err
returns-in-Err c =
    walks_alone c.args.s.now c.args.run.now c.statement.new.run c.args.v 1 c.statement.ensures c.in-Err.is c.inside.ensures
