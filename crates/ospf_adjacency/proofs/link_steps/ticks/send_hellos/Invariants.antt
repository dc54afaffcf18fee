use Rattle.std.proofs.Common.{◌≡◌, ◌++◌, map, take, drop}
use Rattle.ospf_adjacency.specs.LinkSteps.Parts.{hello_out}
use Rattle.ospf_adjacency.proofs.LinkSteps.Words.{hello_sent}
use Rattle.ospf_area.specs.Places.{flat_from}
use Rattle.ospf_area.specs.Sending.{and_sends}
use Rattle.ospf_adjacency.proofs.link_steps.ticks.send_hellos.Given as goal

abbrev pub invariant-loop-number : goal.invariant-loop-number
invariant-loop-number l = record {
  told : l.links ≡ map hello_sent (take l.number l.initial.links) ++ drop l.number l.initial.links;
  sent : l.out ≡ and_sends l.initial.out (flat_from (hello_out l.own) 0 (take l.number l.initial.links));
}
