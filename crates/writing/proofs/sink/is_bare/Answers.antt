-- What all four tests let pass.
use Rattle.writing.proofs.Laws.Chars.{bare_written}
use Rattle.writing.proofs.sink.is_bare.Goals as goal

pub returns : goal.returns
returns c = λ e. bare_written _ e
