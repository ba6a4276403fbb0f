-- The scan's verdict is what specs/Verdicts means, and only that: the twin agrees with the grammar both ways.
use mathlib.Core.Path.{◌≡◌}
use mathlib.Core.List.{List}
use Prim.Native.Nat.{ℕ}
use Rattle.text.specs.Machine.{verdict}
use Rattle.text.specs.Verdicts.{Verdict, Means}
use Rattle.text.proofs.Laws.Verdict as V1
use Rattle.text.proofs.Laws.Complete.{text_complete}
use Rattle.text.proofs.Laws.Sound.{text_sound}

pub verdict_means : (s : List ℕ) → Means s (verdict s)
verdict_means s = V1.verdict_means text_sound text_complete s

pub verdict_unique : (s : List ℕ) (v : Verdict) → Means s v → v ≡ verdict s
verdict_unique s v m = V1.means_unique s v (verdict s) m (verdict_means s)
