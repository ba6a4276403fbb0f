-- Exports: the numbers that stand for an operation's outcome, as document 01 gives them.
--   reply f p d n       the refusal's number, 0 where none is given; its place; the decision, 1 allowed, 2 explicitly
--                       denied, 3 implicitly denied, 0 where there is none; the statement that decides, counted from 1,
--                       or the bytes written
--   Replies R f t       t are the numbers, by f, of an outcome that R lets pass
-- Differs from 01: nowhere; the numbers of decisions are the builder's.  Pinned by: Laws/Exports (no two replies).
use Rattle.std.specs.Prelude.{ℕ}
use Rattle.policy.specs.Refusals.{number_of, place_of}
use Rattle.policy.specs.Reading.{Outcome, refused, known}
use Rattle.policy.specs.declared.refusals.Refusal.{Refusal}
use Rattle.decision.specs.declared.deciding.Decision.{Decision}
use Rattle.decision.specs.declared.deciding.Decision.TheVariants.{Denied, Allowed, Implicit}
use Rattle.refine.specs.Operations.{Done, done}
use Rattle.refine.specs.declared.exports.Reply.{Reply}

abbrev pub reply : ℕ → ℕ → ℕ → ℕ → Reply
reply f p d n = record { number = f; place = p; decision = d; detail = n }

abbrev pub of_refusal : Refusal → Reply
of_refusal f = reply (number_of f) (place_of f) 0 0

abbrev pub of_decision : Decision → Reply
of_decision (Allowed n) = reply 0 0 1 n
of_decision (Denied n) = reply 0 0 2 n
of_decision Implicit = reply 0 0 3 0

abbrev pub of_decided : Outcome Decision → Reply
of_decided (refused f) = of_refusal f
of_decided (known d) = of_decision d

abbrev pub of_written : Outcome ℕ → Reply
of_written (refused f) = of_refusal f
of_written (known n) = reply 0 0 0 n

abbrev pub of_done : Outcome Done → Reply
of_done (refused f) = of_refusal f
of_done (known done) = reply 0 0 0 0

pub data Replies {A : Type 0} (R : Outcome A → Type 0) (f : Outcome A → Reply) : Reply → Type 0 where
  replies : {x : Outcome A} → R x → Replies R f (f x)
