-- Laws of the exchange: what may be added to a neighbour's lists, and what stays there.
use Rattle.std.specs.Prelude.{◌≡◌, ◌⊎◌, Bool, true, false, List, Contains, Some, Result, Ok, Err, map}
use Rattle.ospf_base.specs.declared.ids.Instance.{Instance}
use Rattle.ospf_base.specs.declared.ids.RouterId.{RouterId}
use Rattle.ospf_lsa.specs.declared.header.LsaHeader.{LsaHeader}
use Rattle.ospf_lsdb.specs.Database.{Entry, Held, IsDatabase, entry_of, key_in, entries, header_at, instance_at}
use Rattle.ospf_packet.specs.declared.body.Description.{Description}
use Rattle.ospf_neighbour.specs.Neighbour.{NeighbourValue}
use Rattle.ospf_neighbour.specs.declared.neighbour.Listed.{Listed}
use Rattle.ospf_exchange.specs.Exchange.{after_dd, dd_answer}
use Rattle.ospf_exchange.specs.declared.description.DdAnswer.{DdAnswer}
use Rattle.ospf_exchange.specs.declared.description.DdAnswer.TheVariants as answer
use Rattle.ospf_exchange.specs.declared.fault.ExchangeFault.{ExchangeFault}
use Rattle.ospf_exchange.specs.declared.fault.ExchangeFault.TheVariants as fault
use Rattle.ospf_exchange.specs.declared.rule.Local.{Local}

-- an entry of the database has this header
abbrev pub HasHeader : List Held → LsaHeader → Type 0
HasHeader db h = Contains (map header_at (entries db)) h

-- an entry of the database is of this instance
abbrev pub HasInstance : List Held → Instance → Type 0
HasInstance db i = Contains (map instance_at (entries db)) i

-- on the request list is only what was there, or what the packet listed (10.6)
abbrev pub RequestsAreTold : Type 0
RequestsAreTold =
    (local : Local) (sender : RouterId) (d : Description) (headers : List LsaHeader)
    (db : List Held) (n : NeighbourValue) (h : LsaHeader)
    → Contains (after_dd local sender d headers db n).requests h
    → Contains n.requests h ⊎ Contains headers h

-- from one neighbour to another only copies of the database are added to the lists that are sent
pub record OnlyCopies (db : List Held) (n m : NeighbourValue) : Type 0 where
  pub summary : (h : LsaHeader) → Contains m.summary h → Contains n.summary h ⊎ HasHeader db h
  pub last_dd : (h : LsaHeader) → Contains m.last_dd h
      → Contains n.last_dd h ⊎ (Contains n.summary h ⊎ HasHeader db h)
  pub retransmission : (l : Listed) → Contains m.retransmission l
      → Contains n.retransmission l ⊎ HasInstance db l.instance

-- on the lists that are sent are only copies of the database (10.3, 10.8)
abbrev pub ListsAreCopies : Type 0
ListsAreCopies =
    (local : Local) (sender : RouterId) (d : Description) (headers : List LsaHeader)
    (db : List Held) (n : NeighbourValue) → OnlyCopies db n (after_dd local sender d headers db n)

-- what waits for an acknowledgement waits on (13.6)
abbrev pub ListedStay : Type 0
ListedStay =
    (local : Local) (sender : RouterId) (d : Description) (headers : List LsaHeader)
    (db : List Held) (n : NeighbourValue) (l : Listed)
    → Contains n.retransmission l → Contains (after_dd local sender d headers db n).retransmission l

-- a header of the database is that of its key's copy
abbrev pub HeadersAreOfCopies : Type 0
HeadersAreOfCopies =
    (db : List Held) (h : LsaHeader) → IsDatabase db → HasHeader db h
    → (e : Entry) × (entry_of db (key_in e.contents) ≡ Some e) × (header_at e ≡ h)

-- and so is an instance
abbrev pub InstancesAreOfCopies : Type 0
InstancesAreOfCopies =
    (db : List Held) (i : Instance) → IsDatabase db → HasInstance db i
    → (e : Entry) × (entry_of db (key_in e.contents) ≡ Some e) × (instance_at e ≡ i)

-- a Database Description is not taken: there is no exchange and it begins none, or its MTU
-- is over the interface's (10.6)
abbrev pub is_not_taken : Result DdAnswer ExchangeFault → Bool
is_not_taken (Ok answer.NotTaken) = true
is_not_taken (Err fault.Mtu) = true
is_not_taken _ = false

-- one that is not taken changes nothing
abbrev pub NotTakenIsUnchanged : Type 0
NotTakenIsUnchanged =
    (local : Local) (sender : RouterId) (d : Description) (headers : List LsaHeader)
    (db : List Held) (n : NeighbourValue)
    → is_not_taken (dd_answer local sender d headers n) ≡ true
    → after_dd local sender d headers db n ≡ n

-- it does not turn a neighbour into another one
pub record KeepsRouter (n m : NeighbourValue) : Type 0 where
  pub router : m.router ≡ n.router
  pub address : m.address ≡ n.address

-- the law: by a Database Description the neighbour stays the router that it is
abbrev pub DescriptionsKeepRouters : Type 0
DescriptionsKeepRouters =
    (local : Local) (sender : RouterId) (d : Description) (headers : List LsaHeader)
    (db : List Held) (n : NeighbourValue) → KeepsRouter n (after_dd local sender d headers db n)
