-- Only an Allow's rows are read.
use mathlib.Core.Path.{sym, ap}
use Rattle.writing.specs.Bytes.{statement_bytes}
use Rattle.writing.proofs.Laws.Showing.{adds_as}
use Rattle.held.proofs.Laws.Parts.{statement_inside, statement_effect}
use Rattle.refined.proofs.Laws.KeepingWhole.{is_allow, left_deny, left_allow}
use Rattle.refined.proofs.finishing.put_left.Goals as goal

pub bounds-run-p : goal.bounds-run-p
bounds-run-p c =
    statement_inside c.requires.thing c.requires.lies

pub returns-then-run-p-ne1 : goal.returns-then-run-p-ne1
returns-then-run-p-ne1 c =
    λ y. adds_as (ap statement_bytes (sym (left_deny y.thing (statement_effect y.thing y.lies) _
    c.if-run-p-ne1.true)))
    (c.put_statement.ensures y.thing y.lies)

pub put_kept_statement-requires : goal.put_kept_statement-requires
put_kept_statement-requires c =
    record {
      thing = c.requires.thing;
      lies = c.requires.lies;
      ready = record {
        enough = c.requires.enough;
        writ = c.requires.writ (is_allow c.requires.thing (statement_effect c.requires.thing c.requires.lies)
            c.if-run-p-ne1.false);
      };
    }

pub returns : goal.returns
returns c =
    λ y. adds_as (ap statement_bytes (sym (left_allow y.thing (statement_effect y.thing y.lies) _
    c.if-run-p-ne1.false)))
    (c.put_kept_statement.ensures (record {
      thing = y.thing;
      lies = y.lies;
      ready = record {
        enough = y.enough;
        writ = y.writ (is_allow y.thing (statement_effect y.thing y.lies) c.if-run-p-ne1.false);
      };
    }))
