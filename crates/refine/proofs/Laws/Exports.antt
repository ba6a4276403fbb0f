-- Numbers that an operation replies with: by whichever function they were made, they are an outcome's.
--   replying         what an operation came to, and the numbers made of it
--   replies_once     where no two outcomes pass, no two replies do
use mathlib.Core.Path.{◌≡◌, sym, ap, subst}
use Rattle.policy.specs.Reading.{Outcome}
use Rattle.refine.specs.Exports.{Replies, replies}
use Rattle.refine.specs.declared.exports.Reply.{Reply}

pub replying :
    {A : Type 0} (R : Outcome A → Type 0) (f : Outcome A → Reply) {x : Outcome A} {t : Reply} → R x → t ≡ f x
    → Replies R f t
replying R f r e = subst (Replies R f) (sym e) (replies r)

pub replies_once :
    {A : Type 0} (R : Outcome A → Type 0) (f : Outcome A → Reply) → ((x y : Outcome A) → R x → R y → x ≡ y)
    → {t u : Reply} → Replies R f t → Replies R f u → t ≡ u
replies_once R f once (replies {x} p) (replies {x = y} q) = ap f (once x y p q)
