use Rattle.std.proofs.Common.{take}
use Rattle.std.specs.List.{Contains}
use Rattle.ospf_base.specs.declared.prefix.Prefix.{Prefix}
use Rattle.ospf_router.specs.Ends.{HoldsPrefixes}
use Rattle.ospf_router.specs.Growing.{HasEndOf}
use Rattle.ospf_router.proofs.growing.touch.Given as goal

abbrev pub invariant-loop-end : goal.invariant-loop-end
invariant-loop-end l =
    record {
      kept : HoldsPrefixes l.initial.touched.items l.touched.items;
      ends : (p : Prefix) → HasEndOf (take l.end-index l.ends) p → Contains l.touched.items p;
    }
