-- The places of the first sixty-four are known; from then on they are walked over.
use Rattle.objects.proofs.policies.repeats.Goals as goal

pub has_sid_at-requires : goal.has_sid_at-requires
has_sid_at-requires c = (c.requires.1.1 c.if-n-lt-FEW.true, c.requires.1.0)

pub returns-then-n-lt-FEW : goal.returns-then-n-lt-FEW
returns-then-n-lt-FEW c = λ e xs x n lies placed own. c.has_sid_at.ensures e xs x (placed c.if-n-lt-FEW.true) own

pub has_sid-requires : goal.has_sid-requires
has_sid-requires c = (c.requires.0, c.requires.1.0)

pub returns : goal.returns
returns c = λ e xs x n lies placed own. c.has_sid.ensures xs x n lies own
