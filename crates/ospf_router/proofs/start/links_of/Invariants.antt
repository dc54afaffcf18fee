use Rattle.std.proofs.Common.{take}
use Rattle.ospf_router.specs.Starts.{AreLinksOf}
use Rattle.ospf_router.proofs.start.links_of.Given as goal

abbrev pub invariant-loop-interface : goal.invariant-loop-interface
invariant-loop-interface l = AreLinksOf l.router (take l.interface-index l.interfaces) l.links.items
