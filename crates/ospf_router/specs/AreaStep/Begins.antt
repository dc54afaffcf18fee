-- What an event does at first, before the parts of a step that follow (RFC
-- 2328, sections 8.2, 9.3 and 14).
use Rattle.std.specs.Prelude.{◌≡◌, ◌++◌, ℕ, List, Some}
use Rattle.ospf_base.specs.declared.ids.Addr.{Addr}
use Rattle.ospf_packet.specs.Meaning.{Meaning}
use Rattle.ospf_packet.specs.PacketOf.{packet_of}
use Rattle.ospf_area.specs.Outputs.{AreReadAsSent, OutputsValue}
use Rattle.ospf_area.specs.State.{AreaValue, LinkValue}
use Rattle.ospf_adjacency.specs.Heard.{Neighbourhood}
use Rattle.ospf_adjacency.specs.LinkSteps.Works.{WorksOn}
use Rattle.ospf_router.specs.AreaStep.Puts.{PutsOut}
use Rattle.ospf_router.specs.AreaStep.Step.{Chain, Event, Part, first_parts}
use Rattle.ospf_router.specs.AreaStep.Step.Event.{Datagram}

-- a datagram comes in on the link from this address, and is this packet
abbrev pub IsArrival : Event → ℕ → Addr → Meaning → Type 0
IsArrival e link source p =
    (destination : Addr) × (bytes : List ℕ) × (e ≡ Datagram link source destination bytes)
    × (packet_of bytes ≡ Some p)

-- the event's own parts lead from one state to the other: whatever parts follow, if their outputs
-- are read as they were sent, all together are the chain of both
abbrev pub BeginsChain : Event → AreaValue → OutputsValue → AreaValue → OutputsValue → Type 0
BeginsChain e s out t mid_out =
    (rest : List Part) (u : AreaValue) (out' : OutputsValue) → AreReadAsSent out'.sent →
    PutsOut (λ o. Chain rest t o u) mid_out out'
    → PutsOut (λ o. Chain (first_parts e ++ rest) s o u) out out'

-- they are what a part on a link does
abbrev pub BeginsWork : Event → (LinkValue → Neighbourhood) → ℕ → AreaValue → OutputsValue → Type 0
BeginsWork e part link s out =
    (t : AreaValue) (mid_out : OutputsValue) → WorksOn part link s out mid_out t
    → BeginsChain e s out t mid_out
