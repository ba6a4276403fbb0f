-- Worked texts of RFC 8259 and document 01 as one list about the definitions, computed.
use mathlib.Core.Path.{◌≡◌, refl}
use mathlib.Core.Bool.{Bool, true, false}
use mathlib.Core.List.{List, [], ◌∷◌, ◌++◌}
use Prim.Native.Nat.{ℕ}
use lib.Dec.{eqb}
use lib.ListN.{replicate}
use Rattle.chars.specs.Base.{pick, one_of}
use Rattle.text.specs.Machine.{leads, high, begins, move, optional, feed, ends, run, from, verdict_at, verdict}
use Rattle.chars.specs.Decoding.{Text, lone, equal, text_of, meaning, units_behind, read_of, sequence_of}
use Rattle.chars.specs.Decoding.{hex_of, code_at, letter_of}
use Rattle.chars.specs.Written.{coded, written, written_text}
use Rattle.chars.specs.Lines.{unbroken, here, line_at}
use Rattle.std.specs.Prelude.{Ok, Err}
use Rattle.text.specs.Verdicts.{Verdict}
use Rattle.text.specs.declared.fault.Fault.TheVariants.{Breaks, Deep}
use Rattle.chars.specs.declared.lines.Line.{Line}
use Rattle.std.specs.Prelude.{Option, Some, None}
use Rattle.chars.proofs.Laws.Strings.{said}

-- the verdict on a text; the characters of a string; the written form of characters; the line that begins at a place
data Trial : Type 0 where
  scans : List ℕ → Verdict → Trial
  reads : List ℕ → Text → Trial
  writes : List ℕ → List ℕ → Trial
  begins_at : List ℕ → ℕ → Option Line → Trial

both : Bool → Bool → Bool
both t u = pick t u false

same_verdict : Verdict → Verdict → Bool
same_verdict (Ok x) (Ok y) = true
same_verdict (Ok x) (Err f) = false
same_verdict (Err f) (Ok y) = false
same_verdict (Err (Breaks p)) (Err (Breaks q)) = eqb p q
same_verdict (Err (Breaks p)) (Err Deep) = false
same_verdict (Err Deep) (Err (Breaks q)) = false
same_verdict (Err Deep) (Err Deep) = true

same_bool : Bool → Bool → Bool
same_bool true u = u
same_bool false true = false
same_bool false false = true

same_line : Option Line → Option Line → Bool
same_line (Some k) (Some l) = both (eqb k.end l.end) (eqb k.next l.next)
same_line (Some k) None = false
same_line None (Some l) = false
same_line None None = true

holds : Trial → Bool
holds (scans s v) = same_verdict (verdict s) v
holds (reads w t) = both (equal (text_of w).chars t.chars) (same_bool (text_of w).sound t.sound)
holds (writes cs w) = equal (written_text cs) w
holds (begins_at s i l) = same_line (line_at s i) l

all_hold : List Trial → Bool
all_hold [] = true
all_hold (t ∷ ts) = both (holds t) (all_hold ts)

trials : List Trial
trials =
    -- RFC 8259, section 13: the three small texts
    (scans (52 ∷ 50 ∷ []) (Ok tt)) ∷
    (scans (116 ∷ 114 ∷ 117 ∷ 101 ∷ []) (Ok tt)) ∷
    (scans (34 ∷ 72 ∷ 101 ∷ 108 ∷ 108 ∷ 111 ∷ 32 ∷ 119 ∷ 111 ∷ 114 ∷ 108 ∷ 100 ∷ 33 ∷ 34 ∷ []) (Ok tt)) ∷
    -- document 01, the whole example: its policy, and its second line
    (scans (123 ∷ 34 ∷ 86 ∷ 101 ∷ 114 ∷ 115 ∷ 105 ∷ 111 ∷ 110 ∷ 34 ∷ 58 ∷ 34 ∷ 50 ∷ 48 ∷ 49 ∷ 50 ∷ 45 ∷ 49 ∷ 48 ∷ 45
    ∷ 49 ∷ 55 ∷ 34 ∷ 44 ∷ 34 ∷ 83 ∷ 116 ∷ 97 ∷ 116 ∷ 101 ∷ 109 ∷ 101 ∷ 110 ∷ 116 ∷ 34 ∷ 58 ∷ 91 ∷ 123 ∷ 34 ∷ 69 ∷
    102 ∷ 102 ∷ 101 ∷ 99 ∷ 116 ∷ 34 ∷ 58 ∷ 34 ∷ 65 ∷ 108 ∷ 108 ∷ 111 ∷ 119 ∷ 34 ∷ 44 ∷ 34 ∷ 65 ∷ 99 ∷ 116 ∷ 105 ∷
    111 ∷ 110 ∷ 34 ∷ 58 ∷ 34 ∷ 115 ∷ 51 ∷ 58 ∷ 42 ∷ 34 ∷ 44 ∷ 34 ∷ 82 ∷ 101 ∷ 115 ∷ 111 ∷ 117 ∷ 114 ∷ 99 ∷ 101 ∷ 34
    ∷ 58 ∷ 34 ∷ 97 ∷ 114 ∷ 110 ∷ 58 ∷ 97 ∷ 119 ∷ 115 ∷ 58 ∷ 115 ∷ 51 ∷ 58 ∷ 58 ∷ 58 ∷ 103 ∷ 97 ∷ 116 ∷ 101 ∷ 47 ∷ 42
    ∷ 34 ∷ 125 ∷ 93 ∷ 125 ∷ []) (Ok tt)) ∷
    (scans (123 ∷ []) (Err (Breaks 1))) ∷
    -- nothing; a leading zero; an overlong form; a surrogate as raw bytes
    (scans [] (Err (Breaks 0))) ∷
    (scans (48 ∷ 49 ∷ []) (Err (Breaks 1))) ∷
    (scans (34 ∷ 224 ∷ 128 ∷ 128 ∷ 34 ∷ []) (Err (Breaks 2))) ∷
    (scans (34 ∷ 237 ∷ 160 ∷ 128 ∷ 34 ∷ []) (Err (Breaks 2))) ∷
    -- sixteen levels and seventeen; a break before the seventeenth
    (scans (replicate 16 91 ++ replicate 16 93) (Ok tt)) ∷
    (scans (replicate 17 91) (Err Deep)) ∷
    (scans (replicate 16 91 ++ (120 ∷ 91 ∷ [])) (Err (Breaks 16))) ∷
    -- RFC 8259, section 7: the G clef by two escapes; section 8.3: one text in two spellings
    (reads (92 ∷ 117 ∷ 68 ∷ 56 ∷ 51 ∷ 52 ∷ 92 ∷ 117 ∷ 68 ∷ 68 ∷ 49 ∷ 69 ∷ []) (said (119070 ∷ []))) ∷
    (reads (97 ∷ 92 ∷ 92 ∷ 98 ∷ []) (said (97 ∷ 92 ∷ 98 ∷ []))) ∷
    (reads (97 ∷ 92 ∷ 117 ∷ 48 ∷ 48 ∷ 53 ∷ 67 ∷ 98 ∷ []) (said (97 ∷ 92 ∷ 98 ∷ []))) ∷
    -- two first halves and a second: one of them is alone
    (reads (92 ∷ 117 ∷ 100 ∷ 56 ∷ 48 ∷ 48 ∷ 92 ∷ 117 ∷ 100 ∷ 56 ∷ 48 ∷ 48 ∷ 92 ∷ 117 ∷ 100 ∷ 99 ∷ 48 ∷ 48 ∷ [])
    lone) ∷
    -- document 01: é is written as an escape in lower case, the G clef as two
    (writes (233 ∷ 119070 ∷ []) (92 ∷ 117 ∷ 48 ∷ 48 ∷ 101 ∷ 57 ∷ 92 ∷ 117 ∷ 100 ∷ 56 ∷ 51 ∷ 52 ∷ 92 ∷ 117 ∷ 100 ∷
    100 ∷ 49 ∷ 101 ∷ [])) ∷
    -- an empty line between two others
    (begins_at (97 ∷ 10 ∷ 10 ∷ 98 ∷ []) 2 (here 2 3)) ∷
    []

trials_hold : all_hold trials ≡ true
unfolding one_of leads high begins move optional feed ends run verdict_at hex_of code_at letter_of sequence_of read_of
    units_behind meaning text_of equal coded written written_text unbroken line_at all_hold trials both holds same_verdict
    from
    same_bool same_line
trials_hold = refl
