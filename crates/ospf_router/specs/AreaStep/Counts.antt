-- How many datagrams a router dropped, by link and cause (RFC 2328, sections 8.2 and 10.5).
use Rattle.std.specs.Prelude.{◌==◌, ◌+◌, ◌-◌, ◌^◌, ℕ, List, Option, None, Some, get_or, if◌then◌else◌, length, map, nat_lt, set}
use Rattle.ospf_router.specs.AreaStep.Step.{Event}
use Rattle.ospf_router.specs.AreaStep.Step.Event.{Datagram, LinkDown, LinkUp, Tick}
use Rattle.ospf_router.specs.declared.step.counts.DropCounts.{DropCounts}
use Rattle.ospf_router.specs.declared.step.dropped.Dropped.{Dropped}
use Rattle.ospf_router.specs.declared.step.dropped.Dropped.TheVariants as dropped

-- none was dropped yet
abbrev pub no_drops : DropCounts
no_drops = record {
  packet = 0;
  area = 0;
  own_packet = 0;
  destination = 0;
  subnet = 0;
  hello_mismatch = 0;
  no_neighbour = 0;
  wrong_router = 0;
  state = 0;
}

-- how many were dropped for a cause
abbrev pub drops_for : Dropped → DropCounts → ℕ
drops_for dropped.Packet c = c.packet
drops_for dropped.Area c = c.area
drops_for dropped.OwnPacket c = c.own_packet
drops_for dropped.Destination c = c.destination
drops_for dropped.Subnet c = c.subnet
drops_for dropped.HelloMismatch c = c.hello_mismatch
drops_for dropped.NoNeighbour c = c.no_neighbour
drops_for dropped.WrongRouter c = c.wrong_router
drops_for dropped.State c = c.state

-- one more; the greatest number of 64 bits is not exceeded
abbrev pub one_drop_more : ℕ → ℕ
one_drop_more n = if n == 2 ^ 64 - 1 then n else n + 1

-- one more was dropped for a cause
abbrev pub with_drop : Dropped → DropCounts → DropCounts
with_drop dropped.Packet c = record c { packet = one_drop_more c.packet }
with_drop dropped.Area c = record c { area = one_drop_more c.area }
with_drop dropped.OwnPacket c = record c { own_packet = one_drop_more c.own_packet }
with_drop dropped.Destination c = record c { destination = one_drop_more c.destination }
with_drop dropped.Subnet c = record c { subnet = one_drop_more c.subnet }
with_drop dropped.HelloMismatch c = record c { hello_mismatch = one_drop_more c.hello_mismatch }
with_drop dropped.NoNeighbour c = record c { no_neighbour = one_drop_more c.no_neighbour }
with_drop dropped.WrongRouter c = record c { wrong_router = one_drop_more c.wrong_router }
with_drop dropped.State c = record c { state = one_drop_more c.state }

-- one more that came in on a link was dropped for a cause: on a link that
-- does not exist nothing is counted
abbrev pub with_drop_on : ℕ → Dropped → List DropCounts → List DropCounts
with_drop_on link cause counts =
    if nat_lt link (length counts)
    then set counts link (with_drop cause (get_or counts link no_drops))
    else counts

-- none was dropped yet on any of the links, of which there are as many as of these
abbrev pub none_dropped_on : {A : Type 0} → List A → List DropCounts
none_dropped_on links = map (λ _. no_drops) links

-- the link that an event comes in on as a datagram
abbrev pub comes_on : Event → Option ℕ
comes_on (Datagram link source destination bytes) = Some link
comes_on Tick = None
comes_on (LinkUp link) = None
comes_on (LinkDown link) = None

-- what came in on this link, if anything did, was dropped for this cause, if it was
abbrev pub with_dropped_on : Option ℕ → Option Dropped → List DropCounts → List DropCounts
with_dropped_on None dropped counts = counts
with_dropped_on (Some link) None counts = counts
with_dropped_on (Some link) (Some cause) counts = with_drop_on link cause counts

-- the counts after an event that was dropped for this cause, if it was
abbrev pub with_dropped : Event → Option Dropped → List DropCounts → List DropCounts
with_dropped e dropped counts = with_dropped_on (comes_on e) dropped counts
