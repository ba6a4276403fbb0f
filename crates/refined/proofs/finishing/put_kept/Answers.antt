-- What stands first in the row tells which of the four it is.
use native.Mathlib.Omega.{arith}
use mathlib.Core.Path.{sym, ap}
use Rattle.syntax.specs.Policy.{text}
use Rattle.writing.specs.Bytes.{entry_bytes}
use Rattle.writing.proofs.Laws.Showing.{adds_as}
use Rattle.refined.proofs.Laws.KeepingEntries.{held_size, held_itself, held_text_lem, held_begun, held_bound}
use Rattle.refined.proofs.finishing.put_kept.Goals as goal

pub bounds-row-0 : goal.bounds-row-0
bounds-row-0 c = omega (arith, held_size c.requires)

pub returns-in-1 : goal.returns-in-1
returns-in-1 c =
    λ y. adds_as (ap (entry_bytes _) (sym (held_itself y c.in-1.is)))
    (c.put_entry.ensures y.entry y.lies)

pub put_entry-requires-in-2 : goal.put_entry-requires-in-2
put_entry-requires-in-2 c =
    let t = held_text_lem c.requires c.in-2.is in record { thing = text t.characters; lies = t.lies }

pub returns-in-2 : goal.returns-in-2
returns-in-2 c =
    λ y. let t = held_text_lem y c.in-2.is in
    adds_as (ap (entry_bytes _) (sym t.is)) (c.put_entry-in-2.ensures (text t.characters) t.lies)

pub put_beginning-requires : goal.put_beginning-requires
put_beginning-requires c =
    (held_begun c.requires c.in-3.is).begun

pub returns-in-3 : goal.returns-in-3
returns-in-3 c =
    λ y. let t = held_begun y c.in-3.is in
    adds_as (ap (entry_bytes _) (sym t.is)) (c.put_beginning.ensures t.begun)

pub put_bound-requires : goal.put_bound-requires
put_bound-requires c =
    (held_bound c.requires (λ z. omega arith) (λ z. omega arith) (λ z. omega arith)).bound

pub returns-in_default : goal.returns-in_default
returns-in_default c =
    λ y. let t = held_bound y (λ z. omega arith) (λ z. omega arith) (λ z. omega arith) in
    adds_as (ap (entry_bytes _) (sym t.is)) (c.put_bound.ensures t.bound)
