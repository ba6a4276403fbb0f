-- The digits but the last are those of the tenth part, and one fewer may follow.
use Rattle.writing.proofs.spelling.+put_digits.Given as goal

abbrev pub decreases-put_digits : goal.decreases-put_digits
decreases-put_digits l = l.k
