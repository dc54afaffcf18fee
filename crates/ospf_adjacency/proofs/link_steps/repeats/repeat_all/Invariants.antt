use Rattle.std.proofs.Common.{◌≡◌, ◌++◌, map, take, drop}
use Rattle.std.specs.List.{flat_map}
use Rattle.ospf_area.specs.Places.{flat_from}
use Rattle.ospf_area.specs.Sending.{and_sends}
use Rattle.ospf_adjacency.specs.LinkSteps.Repeats.{link_repeated, marked_all, link_repeats_out}
use Rattle.ospf_adjacency.proofs.LinkSteps.Words.{keys_out}
use Rattle.ospf_adjacency.proofs.link_steps.repeats.repeat_all.Given as goal

abbrev pub invariant-loop-number : goal.invariant-loop-number
invariant-loop-number l = record {
  repeated : l.links ≡ map (link_repeated l.own l.database) (take l.number l.initial.links) ++ drop l.number l.initial.links;
  sent : l.out ≡ and_sends l.initial.out (flat_from (link_repeats_out l.own l.database) 0 (take l.number l.initial.links));
  marks : l.sent.keys ≡ marked_all (flat_map (keys_out l.own l.database) (take l.number l.initial.links)) l.initial.sent.keys;
}
