use Rattle.std.proofs.Common.{take}
use Rattle.std.specs.List.{Contains}
use Rattle.ospf_graph.specs.Adds.{Adds}
use Rattle.ospf_spf.specs.Spared.{AreEndsInOrder}
use Rattle.ospf_router.proofs.ends.replace_ends.Given as goal

abbrev pub invariant-loop-end : goal.invariant-loop-end
invariant-loop-end l =
    record {
      in_order : AreEndsInOrder l.ends.items;
      members : Adds (Contains (take l.end-index l.at)) l.initial.ends.items l.ends.items;
    }
