-- A result handed out, or refused.
use mathlib.Core.Path.{◌≡◌, refl, ap, subst}
use mathlib.Core.List.{List, [], ◌∷◌, ◌++◌}
use Prim.Native.Nat.{ℕ, ◌≤◌, ◌<◌}
use native.Mathlib.Omega.{arith}
use lib.ListN.{length, drop}
use borrow.Author.Tests.{lt-ltb, le-ltb}
use Rattle.chars.specs.Putting.{lay}
use Rattle.syntax.specs.Limits.{result_bytes}
use Rattle.policy.specs.Reading.{refused, known}
use Rattle.policy.specs.declared.refusals.Refusal.TheVariants.{ResultLength, OutputLength}
use Rattle.writing.specs.declared.sink.Sink.{Sink}
use Rattle.writing.specs.Showing.{Shows, Adds, Gives, size}
use Rattle.std.proofs.Common.{Option, Some, None, MatchOption, IfSome, Bor}
use Rattle.restate.specs.Operations.{handed}

module _ (bs out : List ℕ) where
  pub handed_long : result_bytes < length bs → (refused ResultLength, out) ≡ handed bs out
  unfolding handed
  handed_long h = rw (lt-ltb result_bytes (length bs) h) refl

  pub handed_short : length bs ≤ result_bytes → length out < length bs → (refused OutputLength, out) ≡ handed bs out
  unfolding handed
  handed_short h k = rw (le-ltb result_bytes (length bs) h, lt-ltb (length out) (length bs) k) refl

  pub handed_whole : length bs ≤ result_bytes → length bs ≤ length out → (known (length bs), lay bs out) ≡ handed bs out
  unfolding handed
  handed_whole h k = rw (le-ltb result_bytes (length bs) h, le-ltb (length out) (length bs) k) refl

-- what a sink shows that took the bytes
pub shows_taken : {ws : List ℕ} {s t : Sink} → Shows [] s → Adds ws s t → Shows ws t
shows_taken e a = a.adds [] e

-- bytes that are laid over the beginning
pub laid : (bs out : List ℕ) → length bs ≤ length out → bs ++ drop (length bs) out ≡ lay bs out
unfolding lay
laid [] out h = refl
laid (b ∷ bs) [] h = absurd (omega arith)
laid (b ∷ bs) (o ∷ out) h = ap (λ (l : List ℕ). b ∷ l) (laid bs out (omega arith))

module _ {ws : List ℕ} {s : Sink} {r : Option (Bor (List ℕ))} (out : List ℕ) (shows : Shows ws s) (g : Gives s r) where
  pub hand_long : size s ≡ result_bytes → r ≡ None → (refused ResultLength, out) ≡ handed ws out
  hand_long room e =
      let m : MatchOption None (length s.room.now < length ws) (λ (bs : Bor (List ℕ)). bs.now ≡ ws) =
      subst (λ (o : Option (Bor (List ℕ))). MatchOption o (length s.room.now < length ws) (λ (bs : Bor (List ℕ)). bs.now ≡ ws))
      e (g.shown ws shows) in
      handed_long ws out (omega (arith, room, m))

  pub given_is : {bs : Bor (List ℕ)} → r ≡ Some bs → bs.now ≡ ws
  given_is {bs} e =
      subst (λ (o : Option (Bor (List ℕ))). MatchOption o (length s.room.now < length ws) (λ (cs : Bor (List ℕ)). cs.now ≡ ws))
      e (g.shown ws shows)

pub given_fits : {s : Sink} {r : Option (Bor (List ℕ))} {bs : Bor (List ℕ)} → Gives s r → r ≡ Some bs → length bs.now ≤ size s
given_fits {s} {bs = bs} g e =
    subst (λ (o : Option (Bor (List ℕ))). IfSome o (λ (cs : Bor (List ℕ)). length cs.now ≤ length s.room.now)) e g.fits
