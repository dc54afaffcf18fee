-- What follows of `A8 Mask`, `A9 TooManyRouters`, `A10 NoDr` and `A14 Delay` (RFC 2328, sections
-- 9.4, 10.5, 13.1, 13.3 and 13.7).
use Rattle.std.specs.Prelude.{◌≡◌, ◌+◌, ◌<◌, ℕ, true, List, Contains, None, Some}
use Rattle.std.specs.List.{AllByRecursion}
use Rattle.ospf_base.specs.Addresses.{nowhere}
use Rattle.ospf_base.specs.Constants.{max_age, max_age_diff}
use Rattle.ospf_base.specs.declared.ids.Addr.{Addr}
use Rattle.ospf_base.specs.declared.ids.AreaId.{AreaId}
use Rattle.ospf_base.specs.declared.ids.RouterId.{RouterId}
use Rattle.ospf_base.specs.declared.interface.InterfaceKind.TheVariants.{PointToPoint, Broadcast}
use Rattle.ospf_config.specs.declared.config.Config.{Config}
use Rattle.ospf_lsa.specs.Header.{header_of}
use Rattle.ospf_packet.specs.Meaning.{Meaning, hello}
use Rattle.ospf_neighbour.specs.Interface.Election.{IsElected}
use Rattle.ospf_neighbour.specs.Interface.Hello.{agrees, own_hello}
use Rattle.ospf_neighbour.specs.declared.iface.candidate.Elected.{Elected}
use Rattle.ospf_neighbour.specs.declared.iface.machine.Iface.{Iface}
use Rattle.ospf_neighbour.specs.Neighbour.{NeighbourValue}
use Rattle.ospf_neighbour.specs.Neighbours.{neighbour_of}
use Rattle.ospf_lsdb.specs.Database.{Entry, lsa_of}
use Rattle.ospf_exchange.specs.declared.rule.Local.{Local}
use Rattle.ospf_area.specs.Sending.{sent_lsa}
use Rattle.ospf_area.specs.Updates.Meets.{named_by}
use Rattle.ospf_adjacency.specs.Elections.{candidates_of}
use Rattle.ospf_router.specs.AreaStep.Receipt.{drop_of_packet}
use Rattle.ospf_router.specs.declared.step.dropped.Dropped.TheVariants as dropped
use Rattle.ospf_plan.specs.declared.ends.LinkEnd.{LinkEnd}
use Rattle.ospf_plan.specs.declared.fault.AreaFault.TheVariants as fault
use Rattle.ospf_plan.specs.declared.finding.Finding.{Finding}
use Rattle.ospf_plan.specs.Drops.{DropsHellos, IsRouterAt, PassesHead}
use Rattle.ospf_plan.specs.Ends.{ends_of, network_key}
use Rattle.ospf_plan.specs.Findings.{found_in}
use Rattle.ospf_plan.specs.Laws.{IsIfaceOf}
use Rattle.ospf_plan.specs.Started.{StepsDropHellos}

-- ---- A8

-- of two interfaces whose networks overlap and are two, a broadcast one drops each Hello of the
-- other: the masks differ
abbrev pub FoundMaskDrops : Type 0
FoundMaskDrops =
    (ends : List LinkEnd) (f : Finding) → Contains (found_in ends) f → f.fault ≡ fault.Mask
    → (f.here.kind ≡ Broadcast → DropsHellos f.here f.other)
    × (f.other.kind ≡ Broadcast → DropsHellos f.other f.here)

-- and so does each step of a router that was started by the configuration of that interface
abbrev pub FoundMaskSteps : Type 0
FoundMaskSteps =
    (configs : List Config) (f : Finding) → Contains (found_in (ends_of configs)) f
    → f.fault ≡ fault.Mask
    → (f.here.kind ≡ Broadcast → StepsDropHellos configs f.here f.other)
    × (f.other.kind ≡ Broadcast → StepsDropHellos configs f.other f.here)

-- ---- A9

-- a router with a neighbour at e drops each Hello of another router that comes from d, that agrees
-- with the interface and that nothing in its head stops
abbrev pub TakesNoSecond : LinkEnd → LinkEnd → Type 0
TakesNoSecond e d =
    (local : Local) (area : AreaId) (i j : Iface) (neighbours : List NeighbourValue)
    (source destination : Addr) (m : Meaning) (heard : List RouterId) (n : NeighbourValue)
    → IsRouterAt e local area i → IsIfaceOf d j → m.body ≡ hello (own_hello j) heard
    → PassesHead i area source destination m → agrees i (own_hello j) ≡ true
    → Contains neighbours n → neighbour_of neighbours m.router ≡ None
    → drop_of_packet local i neighbours area source destination m ≡ Some dropped.WrongRouter

-- so at a point-to-point interface, however many are on its network
abbrev pub EndsTakeNoSecond : Type 0
EndsTakeNoSecond = (d e : LinkEnd) → e.kind ≡ PointToPoint → TakesNoSecond e d

-- ---- A10

-- an election at e elects nobody, where no neighbour there declares a priority over 0
abbrev pub ElectsNobody : LinkEnd → Type 0
ElectsNobody e =
    (i : Iface) (neighbours : List NeighbourValue) (result : Elected)
    → i.settings.priority ≡ e.priority
    → AllByRecursion (λ (n : NeighbourValue). n.declared.priority ≡ 0) neighbours
    → IsElected (candidates_of i neighbours) i.settings.router result
    → (result.dr ≡ nowhere) × (result.backup ≡ nowhere)

-- where it is found, each interface of the network has priority 0, which its Hellos declare, and
-- elects nobody as long as it hears these alone
abbrev pub FoundNobody : Type 0
FoundNobody =
    (ends : List LinkEnd) (f : Finding) (e : LinkEnd) → Contains (found_in ends) f
    → f.fault ≡ fault.NoDr → Contains ends e
    → network_key e.address ≡ network_key f.here.address → (e.priority ≡ 0) × ElectsNobody e

-- ---- A14

-- an LSA is sent older by InfTransDelay. Where that is over MaxAgeDiff its acknowledgement names no
-- instance that the sender has, as long as the sender's copy has aged by less than the excess
abbrev pub SlowIsNotAcknowledged : Type 0
SlowIsNotAcknowledged =
    (e : LinkEnd) (sent copy : Entry) (ticks : ℕ) → copy.contents ≡ sent.contents
    → copy.age ≡ sent.age + ticks → copy.age < max_age
    → ticks + max_age_diff < e.transmit_delay
    → named_by (header_of (sent_lsa e.transmit_delay (lsa_of sent))) (Some copy) ≡ None
