-- A product by ten of a number up to the greatest fits.
use Rattle.syntax.proofs.Laws.Numbers.{digit_more, digit_great, digit_none}
use Rattle.chars.proofs.Laws.Tests.{under, over}
use Rattle.syntax.proofs.numbers.with_digit.Goals as goal

pub returns-then-m-le-GREATEST : goal.returns-then-m-le-GREATEST
returns-then-m-le-GREATEST c =
    digit_more c.args.n c.args.c c.in-48-to-57.if-c-lt48-own.false c.in-48-to-57.if-c-lt58-own.true c.if-m-le-GREATEST.true

pub returns-else-m-le-GREATEST : goal.returns-else-m-le-GREATEST
returns-else-m-le-GREATEST c =
    digit_great c.args.n c.args.c c.in-48-to-57.if-c-lt48-own.false c.in-48-to-57.if-c-lt58-own.true c.if-m-le-GREATEST.false

pub returns-in_default : goal.returns-in_default
returns-in_default c = digit_none c.args.n c.args.c (under 48 57 c.args.c c.in_default.if-c-lt48-own.true)

pub returns-in_default-2 : goal.returns-in_default-2
returns-in_default-2 c =
    digit_none c.args.n c.args.c (over 48 57 c.args.c c.in_default.if-c-lt58-own.false)
