-- Spelling: how the symbols of a string are put.
--   piece f y      what one symbol is put as;  pieces f ys   what all come to
--   form_of k      how the entries of a kind are put: 0 is of Action, 2 of Resource, others are of the operator's number
-- Pinned by: Laws/Each (the pieces put one behind the other).
use Rattle.std.specs.Prelude.{List, map, ℕ, eqb}
use Rattle.chars.specs.Base.{pick}
use Rattle.chars.specs.Written.{written, written_text}
use Rattle.writing.specs.WrittenForm.{bare, spelling, spelled}
use Rattle.writing.specs.declared.spelling.Form as F
use Rattle.writing.specs.declared.spelling.Form.TheVariants.{Text, Action, Entry}

abbrev pub piece : F.Form → ℕ → List ℕ
piece Text y = written y
piece Action y = written (bare y)
piece (Entry w) y = written_text (spelling w y)

abbrev pub pieces : F.Form → List ℕ → List ℕ
pieces Text ys = written_text ys
pieces Action ys = written_text (map bare ys)
pieces (Entry w) ys = written_text (spelled w ys)

abbrev pub form_of : ℕ → F.Form
form_of k = pick (eqb k 0) Action (Entry (eqb k 2))
