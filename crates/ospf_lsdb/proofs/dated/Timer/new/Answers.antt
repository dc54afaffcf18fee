use Rattle.std.proofs.Common.{refl, sym, arith}
use Rattle.ospf_lsdb.specs.Moments.{ahead}
use Rattle.ospf_lsdb.specs.Timers.{age_at}
use Rattle.ospf_lsdb.proofs.dated.Timer.new.Goals as goal

pub returns-then-age-eq-MAX_AGE : goal.returns-then-age-eq-MAX_AGE
unfolding age_at
returns-then-age-eq-MAX_AGE c = record { age = sym c.if-age-eq-MAX_AGE.true; expired = λ is. refl }

pub returns-else-age-eq-MAX_AGE : goal.returns-else-age-eq-MAX_AGE
unfolding age_at ahead
returns-else-age-eq-MAX_AGE c = record { age = omega arith; expired = λ is. absurd (c.if-age-eq-MAX_AGE.false is) }
