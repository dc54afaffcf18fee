-- What is printed of faults.
use Rattle.std.specs.Prelude.{ℕ, List, codes}
use Rattle.ospf_packet.specs.declared.fault.PacketFault.{PacketFault}
use Rattle.ospf_packet.specs.declared.fault.PacketFault.TheVariants as packet
use Rattle.ospf_packet.specs.declared.fault.WriteFault.{WriteFault}
use Rattle.ospf_packet.specs.declared.fault.WriteFault.TheVariants as write

-- the number and the name of a fault of a packet
abbrev pub packet_fault_text : PacketFault → List ℕ
packet_fault_text packet.Short = codes "P1 Short"
packet_fault_text packet.Version = codes "P2 Version"
packet_fault_text packet.Kind = codes "P3 Kind"
packet_fault_text packet.Length = codes "P4 Length"
packet_fault_text packet.Sum = codes "P5 Sum"
packet_fault_text packet.Auth = codes "P6 Auth"
packet_fault_text packet.Body = codes "P7 Body"
packet_fault_text packet.TooLong = codes "P8 TooLong"

-- what is printed where a packet was not written: the fault of its length, or that memory ran out
abbrev pub write_fault_text : WriteFault → List ℕ
write_fault_text write.TooLong = codes "P8 TooLong"
write_fault_text write.Memory = codes "Memory"
