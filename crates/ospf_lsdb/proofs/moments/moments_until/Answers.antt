use Rattle.std.proofs.Common.{refl}
use Rattle.ospf_lsdb.specs.Moments.{ahead}
use Rattle.ospf_lsdb.proofs.moments.moments_until.Goals as goal

pub returns-clause-count : goal.returns-clause-count
unfolding ahead
returns-clause-count c = refl
