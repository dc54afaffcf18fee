use Rattle.std.proofs.Common.{refl}
use Rattle.ospf_world.specs.Worlds.{LendsSlot}
use Rattle.ospf_world.proofs.parts.running.Goals as goal

pub returns-in-Some : goal.returns-in-Some
returns-in-Some c = LendsSlot.SlotRuns c.in-Some.router refl c.in-Some.ensures.lent
