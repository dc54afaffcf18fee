-- What the parts of a step that touch only neighbours leave unchanged
-- (RFC 2328, sections 9 and 10).
use Rattle.std.specs.Prelude.{◌≡◌, ◌⊎◌, ◌==◌, ◌&&◌, ℕ, List, [], false, Option, None, Some, Contains, ⊤, if◌then◌else◌}
use Rattle.ospf_base.specs.Sums.{contents}
use Rattle.ospf_base.specs.declared.ids.Instance.{Instance}
use Rattle.ospf_base.specs.declared.ids.LsaKey.{LsaKey}
use Rattle.ospf_base.specs.declared.ids.RouterId.{RouterId}
use Rattle.ospf_lsa.specs.declared.header.LsaHeader.{LsaHeader}
use Rattle.ospf_packet.specs.Meaning.{Meaning}
use Rattle.ospf_neighbour.specs.Laws.{Waits}
use Rattle.ospf_neighbour.specs.Machine.{is_exchanging}
use Rattle.ospf_neighbour.specs.Neighbour.{NeighbourValue}
use Rattle.ospf_area.specs.Outputs.{OutputsValue}
use Rattle.ospf_area.specs.State.{AreaValue, neighbour, database_entry, kept_number}
use Rattle.ospf_router.specs.AreaStep.Headers.{IsOfInstance, Lists}
use Rattle.ospf_router.specs.AreaStep.Packets.{Received, lsas_of, headers_in_body, dd_headers_of}
use Rattle.ospf_router.specs.AreaStep.Words.{HoldsInstance, CanName, delayed}
use Rattle.ospf_router.specs.AreaStep.Accounts.{Sends, WasHeld, NoneEntersExchange}

-- the headers in the packet heard, if it is a DD packet that came in on link l from q
abbrev pub told_by : Option Received → ℕ → RouterId → List LsaHeader
told_by None l q = []
told_by (Some r) l q =
    if (r.link == l) && (r.packet.router.0 == q.0) then dd_headers_of r.packet.body else []

-- a header was in the list before, or is of a copy of the database
abbrev pub IsOldOrHeld : AreaValue → List LsaHeader → LsaHeader → Type 0
IsOldOrHeld s old h = Contains old h ⊎ ((i : Instance) → IsOfInstance h i → HoldsInstance s i)

-- a neighbour changes only through the events of its machine and the exchange (10.3, 10.6 to
-- 10.9): new on its lists are copies of the database and, on the request list, what it described;
-- an instance leaves the retransmission list only below Exchange
pub record NeighbourGoesOn (s : AreaValue) (told : List LsaHeader) (n n' : NeighbourValue)
    : Type 0 where
  pub requests : (h : LsaHeader) → Contains n'.requests h → Contains n.requests h ⊎ Contains told h
  pub retransmission : (i : Instance) → Waits n' i → Waits n i ⊎ HoldsInstance s i
  pub summary : (h : LsaHeader) → Contains n'.summary h → IsOldOrHeld s n.summary h
  pub last_dd : (h : LsaHeader) → Contains n'.last_dd h
      → Contains n.last_dd h ⊎ IsOldOrHeld s n.summary h
  pub stays : (i : Instance) → Waits n i → Waits n' i ⊎ (is_exchanging n'.state ≡ false)

-- a neighbour that is new has empty lists (10.5)
pub record IsNewNeighbour (n : NeighbourValue) : Type 0 where
  pub requests : n.requests ≡ []
  pub retransmission : n.retransmission ≡ []
  pub summary : n.summary ≡ []
  pub last_dd : n.last_dd ≡ []

-- a neighbour that may not exist changes, comes or leaves
abbrev pub NeighbourGoes : AreaValue → List LsaHeader → Option NeighbourValue
    → Option NeighbourValue → Type 0
NeighbourGoes s told None None = ⊤
NeighbourGoes s told None (Some n') = IsNewNeighbour n'
NeighbourGoes s told (Some n) None = ⊤
NeighbourGoes s told (Some n) (Some n') = NeighbourGoesOn s told n n'

-- neighbours change, come and leave, and nothing else changes. The packets sent have copies of the
-- database, and name what the router can name
pub record NeighboursGo (heard : Option Received) (before : AreaValue) (out : OutputsValue)
    (after : AreaValue) : Type 0 where
  pub goes : (l : ℕ) (q : RouterId)
      → NeighbourGoes before (told_by heard l q) (neighbour before l q) (neighbour after l q)
  pub waiting : (l : ℕ) (h : LsaHeader) → Contains (delayed after l) h
      → Contains (delayed before l) h
  pub same_direct : after.direct ≡ before.direct
  pub same_router : after.router ≡ before.router
  pub database : (key : LsaKey) → database_entry after key ≡ database_entry before key
  pub numbering : (key : LsaKey) → kept_number after key ≡ kept_number before key
  pub bears : (p : Meaning) → Sends out p → p.router ≡ before.router
  pub updates : (p : Meaning) (lsa : List ℕ) → Sends out p → Contains (lsas_of p.body) lsa
      → WasHeld before (contents lsa)
  pub named : (p : Meaning) (i : Instance) → Sends out p → Lists (headers_in_body p.body) i
      → CanName before i
  pub taken : out.taken ≡ []
  pub issued : out.issued ≡ []
  pub ended : out.ended ≡ []

-- a part in which neighbours change, come and leave by what is known
-- here, and none enters Exchange
pub record Quiet (before : AreaValue) (out : OutputsValue) (after : AreaValue) : Type 0 where
  pub neighbours : NeighboursGo None before out after
  pub none_enters : NoneEntersExchange before after
