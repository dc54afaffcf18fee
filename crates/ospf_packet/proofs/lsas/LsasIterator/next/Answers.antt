use Rattle.std.proofs.Common.{arith}
use Rattle.ospf_packet.proofs.SliceLemmas.{AreSlices-step}
use Rattle.ospf_packet.proofs.lsas.LsasIterator.next.Goals as goal

pub invariant_of-self : goal.invariant_of-self
invariant_of-self c =
    let e = c.in_ok-lsa.ensures.found.rest_is in
    rw e (AreSlices-step c.self.inside.left c.self.inside.rest.now (omega arith) c.self.invariant).1

pub returns-in_err-lsa-clause-steps : goal.returns-in_err-lsa-clause-steps
returns-in_err-lsa-clause-steps c = absurd (c.in_err-lsa.ensures.none (AreSlices-step c.self.inside.left c.self.inside.rest.now (omega arith) c.self.invariant).0)
