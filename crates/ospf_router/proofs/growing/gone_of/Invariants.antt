use Rattle.std.proofs.Common.{take}
use Rattle.ospf_router.specs.Growing.{AreGone}
use Rattle.ospf_router.proofs.growing.gone_of.Given as goal

abbrev pub invariant-loop-edge : goal.invariant-loop-edge
invariant-loop-edge l = AreGone (take l.edge-index l.before) l.after l.gone.items
