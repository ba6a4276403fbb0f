-- A run that is lent to a function, and what its call came to.
use denote.MutBor.{MutBor}
use mathlib.Core.Path.{◌≡◌, refl}
use mathlib.Core.List.{List}
use Prim.Native.Nat.{ℕ}
use lib.ListN.{length}
use Rattle.std.specs.Fn.{Mut, Called}
use Rattle.policy.specs.Reading.{Lent, Lends, LendsRun}

pub lends : {F R : Type 0} {g : Mut F (MutBor (List ℕ) × Unit {0}) (R × (MutBor (List ℕ) × Unit {0}))} {n : ℕ}
    {f : F} {r : R} {f' : F} (lent left : MutBor (List ℕ)) → Called g f (lent, tt) (r, (left, tt)) f'
    → length lent.now ≡ n → Lends g n f r f'
lends lent left called size =
    record {
      run = lent.now;
      after = left.now;
      size = size;
      called = record { shown = lent; shows = refl; left = left; called = called; leaves = refl };
    }

-- a run of n numbers, where so many are enough
pub lends_run :
    {F R : Type 0} {g : Mut F (MutBor (List ℕ) × Unit {0}) (R × (MutBor (List ℕ) × Unit {0}))} {most extra n : ℕ}
    {s : List ℕ} {f : F} {r : R} {f' : F} → Lends g n f r f' → ((run : List ℕ) → length run ≡ n → Lent most extra s run)
    → LendsRun g most extra s f r f'
lends_run l long = record { run = l.run; after = l.after; lent = long l.run l.size; called = l.called }
