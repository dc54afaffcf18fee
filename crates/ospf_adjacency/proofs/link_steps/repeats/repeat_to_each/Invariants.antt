use Rattle.std.proofs.Common.{◌≡◌, ◌++◌, map, take, drop}
use Rattle.std.specs.List.{flat_map}
use Rattle.ospf_adjacency.specs.Repeats.{due_keys}
use Rattle.ospf_area.specs.Sending.{and_sends}
use Rattle.ospf_adjacency.specs.LinkSteps.Repeats.{marked_all}
use Rattle.ospf_adjacency.proofs.LinkSteps.Words.{neighbour_repeated, repeats_to}
use Rattle.ospf_adjacency.proofs.link_steps.repeats.repeat_to_each.Given as goal

abbrev pub invariant-loop-neighbour : goal.invariant-loop-neighbour
invariant-loop-neighbour l = record {
  repeated : l.all ≡ map (neighbour_repeated l.on.own l.on.iface l.on.settings l.database) (take l.neighbour-index l.initial.all) ++ drop l.neighbour-index l.initial.all;
  sent : l.out ≡ and_sends l.initial.out (flat_map (repeats_to l.on.own l.on.number l.on.iface l.on.settings l.database) (take l.neighbour-index l.initial.all));
  marks : l.sent.keys ≡ marked_all (flat_map (due_keys l.on.settings.retransmit l.on.own.tick l.database) (take l.neighbour-index l.initial.all)) l.initial.sent.keys;
}
