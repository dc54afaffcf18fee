use Rattle.std.proofs.Common.{arith}
use Rattle.ospf_area.proofs.SendingLemmas.{datagrams_short}
use Rattle.ospf_area.proofs.laws.short_are_sent.Goals as goal

pub returns : goal.returns
returns c = λ way m short. datagrams_short way m (λ long. omega (arith, short, long))
