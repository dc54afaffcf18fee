-- What Hellos, timers and AdjOK? keep of a link's neighbours (RFC 2328, sections 10.3 and 10.5).
use Rattle.std.specs.Prelude.{⊤, true, ◌&&◌, ◌≡◌, ◌≢◌, ℕ, List, false, Option, None, Some, Bool, if◌then◌else◌, ◌==◌}
use Rattle.ospf_base.specs.declared.ids.Addr.{Addr}
use Rattle.ospf_base.specs.declared.ids.RouterId.{RouterId}
use Rattle.ospf_neighbour.specs.Interface.Election.{differs}
use Rattle.ospf_neighbour.specs.declared.iface.machine.Iface.{Iface}
use Rattle.ospf_neighbour.specs.Machine.{is_exchanging, is_two_way}
use Rattle.ospf_neighbour.specs.Neighbour.{NeighbourValue}
use Rattle.ospf_neighbour.specs.Neighbours.{AreNeighboursRising, neighbour_of}
use Rattle.ospf_packet.specs.declared.body.Hello.{Hello}
use Rattle.ospf_exchange.specs.declared.rule.Local.{Local}
use Rattle.ospf_adjacency.specs.Elections.{AreOfLink, adjusted, elects_in}
use Rattle.ospf_adjacency.specs.Laws.{KeepsLists, NoLists, NeverEnters}
use Rattle.ospf_adjacency.specs.Heard.{Neighbourhood, receive_hello, is_settled, put, elects_by_hello}
use Rattle.ospf_adjacency.specs.Links.{timed, elects_by_timers}

-- a neighbour keeps its lists or loses them, and does not enter Exchange; a new one
-- has none and is below Exchange
abbrev pub KeepsOrLosesLists : Option NeighbourValue → Option NeighbourValue → Type 0
KeepsOrLosesLists None None = ⊤
KeepsOrLosesLists None (Some m) = NoLists m × (is_exchanging m.state ≡ false)
KeepsOrLosesLists (Some n) None = ⊤
KeepsOrLosesLists (Some n) (Some m) = KeepsLists n m × NeverEnters n m

-- the neighbour of each Router ID after one was put in
abbrev pub PutsOne : Type 0
PutsOne =
    (n : NeighbourValue) (ns : List NeighbourValue) (q : RouterId)
    → neighbour_of (put n ns) q ≡ (if n.router.0 == q.0 then Some n else neighbour_of ns q)

-- by a Hello
abbrev pub HelloGoes : Type 0
HelloGoes =
    (i : Iface) (local : Local) (q : RouterId) (source : Addr) (h : Hello) (named : Bool)
    (x : Neighbourhood) (p : RouterId)
    → KeepsOrLosesLists (neighbour_of x.neighbours p)
    (neighbour_of (receive_hello i local q source h named x).neighbours p)

-- by the timers
abbrev pub TimersGo : Type 0
TimersGo =
    (ns : List NeighbourValue) (p : RouterId) → AreNeighboursRising ns
    → KeepsOrLosesLists (neighbour_of ns p) (neighbour_of (timed ns) p)

-- by AdjOK?
abbrev pub AdjOkGoes : Type 0
AdjOkGoes =
    (i : Iface) (tick next : ℕ) (ns : List NeighbourValue) (p : RouterId)
    → KeepsOrLosesLists (neighbour_of ns p) (neighbour_of (adjusted i tick next ns) p)

-- and they stay the neighbours of a link
pub record StayOfLink (i : Iface) (ns : List NeighbourValue) : Type 0 where
  pub hello : (local : Local) (q : RouterId) (source : Addr) (h : Hello) (named : Bool)
      → q.0 ≢ i.settings.router.0 → (x : Neighbourhood) → x.neighbours ≡ ns
      → AreOfLink i (receive_hello i local q source h named x).neighbours
  pub timers : AreOfLink i (timed ns)
  pub adj_ok : (j : Iface) (tick next : ℕ) → AreOfLink i (adjusted j tick next ns)

-- the law, for all neighbours of a link
abbrev pub NeighboursStayOfLink : Type 0
NeighboursStayOfLink = (i : Iface) (ns : List NeighbourValue) → AreOfLink i ns → StayOfLink i ns

-- where an election becomes due, one takes place (9.3)
pub record ElectsWhereItCan (i : Iface) (n m : NeighbourValue) (ns : List NeighbourValue)
    : Type 0 where
  pub hello : elects_by_hello i.state n m ≡ true → elects_in i.state ≡ true
  pub change : (is_settled i.state && differs (is_two_way n.state) (is_two_way m.state)) ≡ true
      → elects_in i.state ≡ true
  pub timers : elects_by_timers i ns ≡ true → elects_in i.state ≡ true

-- the law, for all neighbours of a link
abbrev pub ElectionsComeAbout : Type 0
ElectionsComeAbout =
    (i : Iface) (n m : NeighbourValue) (ns : List NeighbourValue) → ElectsWhereItCan i n m ns
