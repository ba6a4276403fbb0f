-- Between quotes.
use Rattle.writing.proofs.Laws.Showing.{adds_then}
use Rattle.writing.specs.Bytes.{entry_bytes}
use Rattle.writing.proofs.entries.put_entry.Goals as goal

pub put_body-requires : goal.put_body-requires
put_body-requires c = c.requires

pub returns : goal.returns
unfolding entry_bytes
returns c =
    λ x l. adds_then c.put.ensures (adds_then (c.put_body.ensures x l) c.put-2.ensures)
