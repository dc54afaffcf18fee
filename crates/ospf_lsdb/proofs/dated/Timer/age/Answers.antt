use Rattle.std.proofs.Common.{ap, sym}
use Rattle.ospf_lsdb.specs.declared.dated.Timer.{Timer}
use Rattle.ospf_lsdb.specs.Moments.{ahead}
use Rattle.ospf_lsdb.specs.Timers.{age_at}
use Rattle.ospf_lsdb.proofs.dated.Timer.age.Goals as goal

pub returns-in-Since : goal.returns-in-Since
unfolding age_at ahead
returns-in-Since c = ap (λ (t : Timer). age_at c.args.clock t) (sym c.in-Since.is)

pub returns-in-Expired : goal.returns-in-Expired
unfolding age_at ahead
returns-in-Expired c = ap (λ (t : Timer). age_at c.args.clock t) (sym c.in-Expired.is)
