-- What is printed of a dropped datagram.
use Rattle.std.specs.Prelude.{ℕ, List, codes}
use Rattle.ospf_router.specs.declared.step.dropped.Dropped.{Dropped}
use Rattle.ospf_router.specs.declared.step.dropped.Dropped.TheVariants as dropped

-- the number and the name of a drop
abbrev pub dropped_text : Dropped → List ℕ
dropped_text dropped.Packet = codes "R1 Packet"
dropped_text dropped.Area = codes "R2 Area"
dropped_text dropped.OwnPacket = codes "R3 OwnPacket"
dropped_text dropped.Destination = codes "R4 Destination"
dropped_text dropped.Subnet = codes "R5 Subnet"
dropped_text dropped.HelloMismatch = codes "R6 HelloMismatch"
dropped_text dropped.NoNeighbour = codes "R7 NoNeighbour"
dropped_text dropped.WrongRouter = codes "R8 WrongRouter"
dropped_text dropped.State = codes "R9 State"
