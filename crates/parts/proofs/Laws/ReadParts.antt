-- What was read of each member of a statement that was read.
use mathlib.Core.Path.{◌≡◌, ap}
use mathlib.Core.List.{List}
use Prim.Native.Nat.{ℕ}
use Rattle.syntax.specs.Policy.{Effect, Row, Statement}
use Rattle.syntax.specs.Forms.{Reading, wrong, read}
use Rattle.syntax.specs.Members.{then}
use Rattle.parts.proofs.Laws.Fits.{wrong_read}

pub record Parts (i : Reading (List ℕ)) (e : Reading Effect) (xs rs : Reading (List (List ℕ))) (cs : Reading (List Row))
    (x : Statement) : Type 0 where
  pub sid_is : i ≡ read x.sid
  pub effect_is : e ≡ read x.effect
  pub actions_are : xs ≡ read x.actions
  pub resources_are : rs ≡ read x.resources
  pub rows_are : cs ≡ read x.rows

pub parts_inv :
    (i : Reading (List ℕ)) (e : Reading Effect) (xs rs : Reading (List (List ℕ))) (cs : Reading (List Row))
    {x : Statement}
    → then i (λ i. then e (λ e. then xs (λ xs. then rs (λ rs. then cs (λ cs.
    read (record { sid = i; effect = e; actions = xs; resources = rs; rows = cs })))))) ≡ read x
    → Parts i e xs rs cs x
parts_inv wrong e xs rs cs h = wrong_read h
parts_inv (read i) wrong xs rs cs h = wrong_read h
parts_inv (read i) (read e) wrong rs cs h = wrong_read h
parts_inv (read i) (read e) (read xs) wrong cs h = wrong_read h
parts_inv (read i) (read e) (read xs) (read rs) wrong h = wrong_read h
parts_inv (read i) (read e) (read xs) (read rs) (read cs) {x} h =
    let z : record { sid = i; effect = e; actions = xs; resources = rs; rows = cs } ≡ x = cc in
    record {
      sid_is = ap (λ (s : Statement). read s.sid) z;
      effect_is = ap (λ (s : Statement). read s.effect) z;
      actions_are = ap (λ (s : Statement). read s.actions) z;
      resources_are = ap (λ (s : Statement). read s.resources) z;
      rows_are = ap (λ (s : Statement). read s.rows) z;
    }
