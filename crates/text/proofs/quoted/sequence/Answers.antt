-- One law for each kind of first byte; what is owed behind it is what the call reads.
use mathlib.Core.Path.{◌≡◌, ◌∙◌}
use mathlib.Core.List.{[]}
use native.Mathlib.Omega.{arith}
use Rattle.text.specs.Machine.{char}
use Rattle.text.proofs.Laws.Reading.{goes_seq, takes_at, refuses_at}
use Rattle.text.proofs.Laws.Moves.Strings.{char_high, high_tail, high_two}
use Rattle.text.proofs.Laws.Moves.Strings.{high_e0, high_ed, high_three, high_f0, high_four, high_f4, high_none}
use Rattle.text.proofs.quoted.sequence.Goals as goal

pub returns-in-224 : goal.returns-in-224
returns-in-224 c =
    goes_seq c.tails.result (takes_at char [] c.requires.0 _ (char_high _ c.requires.1 ∙ high_e0 _ c.in-224.is)) c.tails.ensures

pub returns-in-237 : goal.returns-in-237
returns-in-237 c =
    goes_seq c.tails-in-237.result (takes_at char [] c.requires.0 _ (char_high _ c.requires.1 ∙ high_ed _ c.in-237.is))
    c.tails-in-237.ensures

pub returns-in-240 : goal.returns-in-240
returns-in-240 c =
    goes_seq c.tails-in-240.result (takes_at char [] c.requires.0 _ (char_high _ c.requires.1 ∙ high_f0 _ c.in-240.is))
    c.tails-in-240.ensures

pub returns-in-244 : goal.returns-in-244
returns-in-244 c =
    goes_seq c.tails-in-244.result (takes_at char [] c.requires.0 _ (char_high _ c.requires.1 ∙ high_f4 _ c.in-244.is))
    c.tails-in-244.ensures

pub returns-in-194-to-223 : goal.returns-in-194-to-223
returns-in-194-to-223 c =
    let two = high_two _ (omega arith) (omega arith) in
    goes_seq c.tails-in-194-to-223.result (takes_at char [] c.requires.0 _ (char_high _ c.requires.1 ∙ two))
    c.tails-in-194-to-223.ensures

pub returns-in-225-to-239 : goal.returns-in-225-to-239
returns-in-225-to-239 c =
    let three = high_three c.args.b (λ (e : c.args.b ≡ 224). omega arith) (λ (e : c.args.b ≡ 237). omega arith) (omega arith) (omega arith) in
    goes_seq c.tails-in-225-to-239.result (takes_at char [] c.requires.0 _ (char_high _ c.requires.1 ∙ three))
    c.tails-in-225-to-239.ensures

pub returns-in-241-to-243 : goal.returns-in-241-to-243
returns-in-241-to-243 c =
    let four = high_four c.args.b (λ (e : c.args.b ≡ 240). omega arith) (omega arith) (omega arith) in
    goes_seq c.tails-in-241-to-243.result (takes_at char [] c.requires.0 _ (char_high _ c.requires.1 ∙ four))
    c.tails-in-241-to-243.ensures

pub returns-in_default : goal.returns-in_default
returns-in_default c = refuses_at char [] c.requires.0 (char_high _ c.requires.1 ∙ high_tail _ (omega arith))

pub returns-in_default-2 : goal.returns-in_default-2
returns-in_default-2 c =
    refuses_at char [] c.requires.0 (char_high _ c.requires.1 ∙ high_none c.args.b (λ (e : c.args.b ≡ 244). omega arith) (omega arith))
