-- The numbers that stand for the answers of `text`.
--   scanning s       of the verdict on the text s
--   decoding w out   of the characters of the bytes w, and the lent run out with them
--   writing cs out   of the written form of the characters cs, and the lent run out with it
use Rattle.std.specs.Prelude.{List, ℕ, Option, Some, None, Result, Ok, Err, length}
use Rattle.text.specs.Machine.{verdict}
use Rattle.chars.specs.Decoding.{text_of, decoded_of}
use Rattle.chars.specs.Putting.{lay}
use Rattle.chars.specs.Written.{written_text, write_of}
use Rattle.text.specs.Verdicts.{Verdict}
use Rattle.text.specs.declared.fault.Fault.TheVariants.{Breaks, Deep}
use Rattle.chars.specs.declared.strings.DecodeError.{DecodeError}
use Rattle.chars.specs.declared.strings.DecodeError.TheVariants.{Lone, Short}
use Rattle.text_probe.specs.declared.Answer.{Answer}

abbrev pub answer : ℕ → ℕ → Answer
answer w n = record { which = w; number = n }

abbrev pub of_verdict : Verdict → Answer
of_verdict (Ok x) = answer 0 0
of_verdict (Err (Breaks p)) = answer 1 p
of_verdict (Err Deep) = answer 2 0

abbrev pub of_decoded : Result ℕ DecodeError → Answer
of_decoded (Ok n) = answer 0 n
of_decoded (Err Lone) = answer 1 0
of_decoded (Err Short) = answer 2 0

abbrev pub of_written : Option ℕ → Answer
of_written (Some n) = answer 0 n
of_written None = answer 1 0

abbrev pub scanning : List ℕ → Answer
scanning s = of_verdict (verdict s)

abbrev pub decoding : List ℕ → List ℕ → Answer × List ℕ
decoding w out = (of_decoded (decoded_of (text_of w) (length out)), lay (text_of w).chars out)

abbrev pub writing : List ℕ → List ℕ → Answer × List ℕ
writing cs out = (of_written (write_of (written_text cs) out).0, (write_of (written_text cs) out).1)
