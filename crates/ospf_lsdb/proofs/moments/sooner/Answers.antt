use Rattle.std.proofs.Common.{arith}
use Rattle.ospf_lsdb.proofs.RingLemmas.{ahead-of}
use Rattle.ospf_lsdb.proofs.moments.sooner.Goals as goal

pub returns-else-moments_until-count : goal.returns-else-moments_until-count
returns-else-moments_until-count c = let e = ahead-of c.args.clock c.args.count (omega arith) (omega arith) in omega arith
