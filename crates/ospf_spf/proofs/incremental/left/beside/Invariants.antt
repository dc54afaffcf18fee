use Rattle.std.proofs.Common.{take}
use Rattle.ospf_spf.specs.IncrementalSpf.Growth.{AreNear, HasPlaces}
use Rattle.ospf_spf.specs.IncrementalSpf.Left.{AreBeside}
use Rattle.ospf_spf.proofs.incremental.left.beside.Given as goal

abbrev pub invariant-loop-edge : goal.invariant-loop-edge
invariant-loop-edge l =
    record {
      beside : AreBeside l.found.reached.items l.fn.root (take l.edge-index l.some) l.gone l.own.reached.items;
      places : HasPlaces l.own;
      near : AreNear l.own.reached.items;
    }
