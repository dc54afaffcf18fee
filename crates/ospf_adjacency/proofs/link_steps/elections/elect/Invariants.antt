use Rattle.ospf_adjacency.specs.LinkSteps.Elections.{AreReady, ElectsFrom}
use Rattle.ospf_adjacency.proofs.link_steps.elections.elect.Given as goal

abbrev pub invariant-loop-number : goal.invariant-loop-number
invariant-loop-number l = record {
  ready : AreReady l.area.links;
  elects : ElectsFrom l.number l.initial.area l.initial.out l.out l.area;
}
