-- The numbers that stand for the answers of reading.
--   of_read r                    of an answer of reading
--   Tells k h s before after t  t are those of what reading by the rules k answers of s, and the run holds as h holds;
--                               a run of another length than it must have is refused by 1 and stays
use Rattle.std.specs.Prelude.{◌≡◌, List, ℕ, length, Result, Ok, Err}
use Rattle.syntax.specs.Limits.{run_numbers}
use Rattle.policy.specs.Refusals.{number_of, place_of}
use Rattle.policy.specs.Reading.{Rules, Answers}
use Rattle.policy.specs.declared.refusals.Refusal.{Refusal}
use Rattle.policy_probe.specs.declared.Told.{Told}

abbrev pub told : ℕ → ℕ → ℕ → Told
told f p n = record { refusal = f; place = p; count = n }

abbrev pub of_read : Result ℕ Refusal → Told
of_read (Ok n) = told 0 0 n
of_read (Err f) = told (number_of f) (place_of f) 0

pub data Tells {A : Type 0} (k : Rules A) (h : A → List ℕ) (s before after : List ℕ) : Told → Type 0 where
  unfit : (length before ≡ run_numbers → ⊥) → after ≡ before → Tells k h s before after (told 1 0 0)
  answered : length before ≡ run_numbers → (r : Result ℕ Refusal) → Answers k h s after r → Tells k h s before after (of_read r)
