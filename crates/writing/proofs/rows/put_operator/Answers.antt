-- One word for each number.
use native.Mathlib.Omega.{arith}
use Rattle.writing.proofs.Laws.Showing.{adds_as}
use Rattle.writing.proofs.Laws.Pieces.{operator_one, operator_two, operator_three}
use Rattle.writing.proofs.rows.put_operator.Goals as goal

pub returns-in-1 : goal.returns-in-1
returns-in-1 c = adds_as (operator_one _ c.in-1.is) c.put_bytes.ensures

pub returns-in-2 : goal.returns-in-2
returns-in-2 c = adds_as (operator_two c.args.operator (λ e. omega arith) c.in-2.is) c.put_bytes-in-2.ensures

pub returns-in_default : goal.returns-in_default
returns-in_default c =
    adds_as (operator_three c.args.operator (λ e. omega arith) (λ e. omega arith)) c.put_bytes-in_default.ensures
