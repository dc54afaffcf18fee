use Rattle.std.proofs.Common.{◌<◌, arith, ap, ◌∙◌}
use Rattle.ospf_neighbour.specs.declared.iface.candidate.Candidate.{Candidate}
use Rattle.ospf_neighbour.proofs.iface.election.find_me.Goals as goal

pub unreachable-requires : goal.unreachable-requires
unreachable-requires c =
    let found = c.requires.1 in
    let before : found.0 < c.loop-c.c-index = omega (arith, found.1, c.loop-c-test.false) in
    c.loop-c.invariant found.0 c.requires.0 before (ap (λ (x : Candidate). x.id.0) found.2 ∙ (λ i. (c.requires.2 i).0))
