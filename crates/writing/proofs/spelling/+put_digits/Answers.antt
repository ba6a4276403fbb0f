-- The digits but the last are those of the tenth part, and one fewer may follow.
use mathlib.Core.Path.{ap, subst}
use mathlib.Core.List.{List, [], ◌∷◌}
use Prim.Native.Nat.{ℕ, ◌+◌, ◌%◌}
use Rattle.writing.specs.declared.sink.Sink.{Sink}
use Rattle.writing.specs.Showing.{Adds}
use Rattle.writing.proofs.Laws.Showing.{adds_as, adds_then}
use Rattle.writing.proofs.Laws.Pieces.{digits_last, digits_one, digits_more}
use Rattle.writing.proofs.spelling.+put_digits.Goals as goal
use Rattle.writing.proofs.spelling.+put_digits.Goals.{then-k-ne0+then-n-ge10, else-k-ne0}
use Rattle.writing.proofs.spelling.+put_digits.Goals.{else-k-ne0-via-then-k-ne0+else-n-ge10, else-k-ne0-via-else-k-ne0}

pub returns : goal.returns
returns t c =
    let digit : List ℕ = (48 + c.args.n % 10) ∷ [] in
    let last : Adds digit c.if-k-ne0.sink c.put.new.self = adds_as (ap (λ (d : ℕ). d ∷ []) c.digit.ensures) c.put.ensures in
    elim c.if-k-ne0.branch [
      | then-k-ne0+then-n-ge10 w ↦
          adds_as (digits_more _ _ w.if-k-ne0.true w.if-n-ge10.true)
          (adds_then w.put_digits.ensures (subst (λ (s : Sink). Adds digit s c.put.new.self) w.sink-is last))
      | else-k-ne0 w ↦
          let alone : Adds digit c.args.sink.now c.put.new.self =
          subst (λ (s : Sink). Adds digit s c.put.new.self) w.sink-is last in
          elim w.else-k-ne0.branch [
            | else-k-ne0-via-then-k-ne0+else-n-ge10 v ↦ adds_as (digits_one _ _ v.if-k-ne0.true v.if-n-ge10.false) alone
            | else-k-ne0-via-else-k-ne0 v ↦ adds_as (digits_last _ _ v.if-k-ne0.false) alone
          ]
    ]
