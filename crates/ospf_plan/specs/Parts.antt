-- The parts that an area falls into: which routers are joined by links
-- on which their interfaces agree.
use Rattle.std.specs.Prelude.{◌≡◌, ◌==◌, ◌&&◌, ◌↔◌, not, ℕ, Bool, true, List, ◌++◌, Contains, filter, Option, Some, None, is_some, if◌then◌else◌, option_and_then, option_map, slice_get}
use Rattle.std.specs.List.{filter_map, find}
use Rattle.std.specs.BTreeMap as tree
use Rattle.std.specs.Ordering.{nat_cmp, ordering_then}
use Rattle.std.specs.declared.cmp.Ordering.{Ordering}
use Rattle.ospf_base.specs.declared.interface.InterfaceKind.{InterfaceKind}
use Rattle.ospf_base.specs.declared.interface.InterfaceKind.TheVariants.{PointToPoint, Broadcast}
use Rattle.ospf_config.specs.Conflicts.{network_part}
use Rattle.ospf_config.specs.declared.config.Config.{Config}
use Rattle.ospf_plan.specs.declared.ends.LinkEnd.{LinkEnd}
use Rattle.ospf_plan.specs.declared.fault.AreaFault.TheVariants as fault
use Rattle.ospf_plan.specs.declared.finding.Finding.{Finding}
use Rattle.ospf_plan.specs.declared.joins.Join.{Join}
use Rattle.ospf_plan.specs.Ends.{can_be_elected, ends_of, first_on, network_key, others}
use Rattle.ospf_plan.specs.Findings.{found_in}
use Rattle.ospf_plan.specs.Wires.{wire_faults_in, wires_of}
use Rattle.ospf_plan.specs.Unheard.{unheard_in}

-- ---- links

-- the number by which links of a kind are ordered
abbrev pub kind_number : InterfaceKind → ℕ
kind_number PointToPoint = 0
kind_number Broadcast = 1

-- what the interfaces of one link have in common: the network, the area, the kind, HelloInterval,
-- RouterDeadInterval and the MTU (RFC 2328, sections 8.2, 10.5 and 10.6)
abbrev pub LinkKey : Type 0
LinkKey = ℕ × ℕ × ℕ × ℕ × ℕ × ℕ × ℕ

-- the link of an interface: prefix, area, kind, intervals and MTU, on which its ends agree
abbrev pub link_of : LinkEnd → LinkKey
link_of e =
    (e.address.length, network_part e.address, e.area.0, kind_number e.kind, e.hello, e.dead, e.mtu)

-- from one file to another by interfaces of one link each
pub data IsWay (ends : List LinkEnd) (r : ℕ) : ℕ → Type 0 where
  stay : IsWay ends r r
  cross : (d e : LinkEnd) → Contains ends d → Contains ends e → link_of d ≡ link_of e
      → IsWay ends r d.file → IsWay ends r e.file

-- the two are one link
abbrev pub same_link : LinkKey → LinkKey → Bool
same_link k q =
    ((((((k.0 == q.0) && (k.1 == q.1)) && (k.2 == q.2)) && (k.3 == q.3)) && (k.4 == q.4))
    && (k.5 == q.5)) && (k.6 == q.6)

-- the first of the interfaces of the link
abbrev pub first_linked : List LinkEnd → LinkKey → Option LinkEnd
first_linked ends k = find (λ e. same_link (link_of e) k) ends

-- it can become adjacent with the others of its link: a point-to-point network has no third end,
-- since each end has one neighbour alone, and of a broadcast link one can be elected (RFC 2328,
-- sections 8.2, 9.4 and 10.4)
abbrev pub can_be_adjacent : (ℕ × ℕ → Option LinkEnd) → (LinkKey → Option LinkEnd) → LinkEnd → Bool
can_be_adjacent third led e = elim e.kind [
  | PointToPoint ↦ not (is_some (third (network_key e.address)))
  | Broadcast ↦ is_some (led (link_of e))
]

-- the interfaces that can
abbrev pub adjacent_ends : List LinkEnd → List LinkEnd
adjacent_ends ends =
    filter
    (can_be_adjacent (first_on (others (others ends))) (first_linked (filter can_be_elected ends)))
    ends

-- these files are reached from the first, over interfaces that can become adjacent
abbrev pub AreReached : List LinkEnd → (ℕ → Bool) → Type 0
AreReached ends reached = (q : ℕ) → (reached q ≡ true) ↔ IsWay (adjacent_ends ends) 0 q

-- ---- the findings

-- the first interface of all
abbrev pub first_of_all : List LinkEnd → Option LinkEnd
first_of_all ends = slice_get ends 0

-- it is the first interface of a file that is not reached
abbrev pub is_apart : (ℕ → Bool) → LinkEnd → Bool
is_apart reached e = (e.link == 0) && not (reached e.file)

-- the finding that it is
abbrev pub apart : (ℕ → Bool) → Option LinkEnd → LinkEnd → Option Finding
apart reached first e =
    option_and_then
    (λ d. if is_apart reached e
    then Some (record { fault = fault.Partitioned; other = d; here = e }) else None) first

-- the files that are not reached, in order
abbrev pub apart_in : (ℕ → Bool) → List LinkEnd → List Finding
apart_in reached ends = filter_map (apart reached (first_of_all ends)) ends

-- what is wrong between configurations: of their interfaces in order, then of who sends to whom,
-- then of interfaces that do not hear each other, and then of the parts of the area
pub record AreFindings (configs : List Config) (fs : List Finding) : Type 0 where
  pub reached : ℕ → Bool
  pub are_reached : AreReached (ends_of configs) reached
  pub told : fs ≡
      ((found_in (ends_of configs) ++ wire_faults_in (ends_of configs) (wires_of configs))
      ++ unheard_in (ends_of configs) (wires_of configs)) ++ apart_in reached (ends_of configs)

-- ---- how it is found

-- how links are ordered
abbrev pub link_cmp : LinkKey → LinkKey → Ordering
link_cmp a b =
    ordering_then (ordering_then (ordering_then (ordering_then (ordering_then (ordering_then
    (nat_cmp a.0 b.0)
    (nat_cmp a.1 b.1))
    (nat_cmp a.2 b.2))
    (nat_cmp a.3 b.3))
    (nat_cmp a.4 b.4))
    (nat_cmp a.5 b.5))
    (nat_cmp a.6 b.6)

-- what a map has of a link
abbrev pub linked_in : tree.BTreeMap LinkKey LinkEnd → LinkKey → Option LinkEnd
linked_in m k = tree.get (λ (a b : LinkKey). link_cmp a b) m k

-- the map has the first of each link
abbrev pub AreFirstLinks : tree.BTreeMap LinkKey LinkEnd → List LinkEnd → Type 0
AreFirstLinks m ends = (k : LinkKey) → linked_in m k ≡ first_linked ends k

-- an interface joins its file with that of the first of its link
abbrev pub join_at : (LinkKey → Option LinkEnd) → LinkEnd → Option Join
join_at linked e = option_map (λ d. record { one = d.file; other = e.file }) (linked (link_of e))

-- the joins of all interfaces
abbrev pub joins_of : List LinkEnd → List Join
joins_of ends = filter_map (join_at (first_linked ends)) ends
