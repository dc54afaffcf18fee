-- One step of a router as a fact, and the words in which its laws are said.
use Rattle.std.specs.Prelude.{◌≡◌, ◌⊎◌, ◌+ℤ◌, ⊤, ℕ, pos, true, List, [], ◌∷◌, Option, None, Some, Contains, length, slice_get}
use Rattle.ospf_adjacency.specs.LinkSteps.Elections.{ElectsFrom}
use Rattle.ospf_area.specs.Outputs.{OutputsValue, SentValue, no_outputs}
use Rattle.ospf_area.specs.Sending.{context_of}
use Rattle.ospf_area.specs.State.{AreaValue, database_entry, kept_number, neighbour, state_in}
use Rattle.ospf_area.specs.Updates.Acks.{delayed_out_on}
use Rattle.ospf_area.specs.Updates.Meets.{rule_met}
use Rattle.ospf_area.specs.Updates.Updates.{TakesSlice}
use Rattle.ospf_area.specs.declared.flooding.PacketSource.{PacketSource}
use Rattle.ospf_base.specs.Sums.{contents}
use Rattle.ospf_base.specs.declared.ids.Addr.{Addr}
use Rattle.ospf_base.specs.declared.ids.Instance.{Instance}
use Rattle.ospf_base.specs.declared.ids.LsaKey.{LsaKey}
use Rattle.ospf_base.specs.declared.ids.RouterId.{RouterId}
use Rattle.ospf_flood.specs.declared.rule.LsaRule.{LsaRule}
use Rattle.ospf_flood.specs.declared.rule.LsaRule.TheVariants.{AcknowledgesExpired, Installs}
use Rattle.ospf_graph.specs.declared.route.Route.{Route}
use Rattle.ospf_lsa.specs.Lsa.{IsLsa, instance_of, key_of}
use Rattle.ospf_lsa.specs.Value.{IsMade}
use Rattle.ospf_lsa.specs.declared.header.LsaHeader.{LsaHeader}
use Rattle.ospf_lsdb.specs.Database.{Entry}
use Rattle.ospf_neighbour.specs.Machine.{is_exchanging}
use Rattle.ospf_originate.specs.Steps.{action_of, wants}
use Rattle.ospf_originate.specs.Wants.Made.{lsa_value}
use Rattle.ospf_originate.specs.Wants.Wanted.{WantedValue, wanted_of}
use Rattle.ospf_originate.specs.declared.action.OwnAction.TheVariants.{Issue}
use Rattle.ospf_packet.specs.Meaning.{Meaning, description, update}
use Rattle.ospf_packet.specs.declared.body.Description.{Description}
use Rattle.ospf_router.specs.AreaStep.Accounts.{HasContents, Sends}
use Rattle.ospf_router.specs.AreaStep.Begins.{IsArrival}
use Rattle.ospf_router.specs.AreaStep.Headers.{Lists}
use Rattle.ospf_router.specs.AreaStep.Packets.{Received, headers_in_body, lsas_of}
use Rattle.ospf_router.specs.AreaStep.Parts.{leaves_if}
use Rattle.ospf_router.specs.AreaStep.Step.{Event, heard_in}
use Rattle.ospf_router.specs.AreaStep.Takes.{TakesEvent, source_of}
use Rattle.ospf_router.specs.AreaStep.Words.{Brings, CanName, HasCopy, HoldsInstance, delayed}
use Rattle.ospf_router.specs.Routers.{RouterValue}
use Rattle.ospf_router.specs.Steps.{Steps}
use Rattle.ospf_router.specs.declared.router.Step.{Step}
use Rattle.ospf_router.specs.declared.step.dropped.Dropped.{Dropped}

-- a step that a router took: what happened, its state before, why it dropped the datagram, if it
-- did, what it put out, its state after, and its routing table then
pub record Stepped : Type 0 where
  pub event : Event
  pub before : AreaValue
  pub dropped : Option Dropped
  pub out : OutputsValue
  pub after : AreaValue
  pub table : List Route

-- what a step of a router by the exact rules did
abbrev pub stepped : (e : Event) (before : RouterValue) (t : Step) (after : RouterValue)
    → Steps e before t after → Stepped
stepped e before t after is = record {
  event = e;
  before = is.area;
  dropped = t.dropped;
  out = t.out;
  after = is.next;
  table = after.table;
}

-- ---- what comes in

-- the packet that came in, if the event is one
abbrev pub heard : Stepped → Option Received
heard d = heard_in d.event

-- it is an Update with this LSA
pub record HearsLsa (d : Stepped) (lsa : List ℕ) : Type 0 where
  pub received : Received
  pub is_heard : heard d ≡ Some received
  pub has : Contains (lsas_of received.packet.body) lsa

-- it is an Update of these LSAs, which is not dropped
pub record TakesLsas (d : Stepped) (f : PacketSource) (lsas : List (List ℕ)) : Type 0 where
  pub taken : d.dropped ≡ None
  pub source : Addr
  pub packet : Meaning
  pub arrives : IsArrival d.event f.link source packet
  pub from : f ≡ source_of f.link source packet
  pub says : packet.body ≡ update lsas

-- it is a Database Description of router q, and came in on link l
pub record HearsDescription (d : Stepped) (l : ℕ) (q : RouterId) : Type 0 where
  pub received : Received
  pub is_heard : heard d ≡ Some received
  pub link : received.link ≡ l
  pub from : received.packet.router ≡ q
  pub fields : Description
  pub headers : List LsaHeader
  pub says : received.packet.body ≡ description fields headers

-- ---- what goes out

-- the step sends this packet
abbrev pub Sent : Stepped → Meaning → Type 0
Sent d p = Sends d.out p

-- the packet is an Update with this LSA
abbrev pub Carries : Meaning → List ℕ → Type 0
Carries p lsa = Contains (lsas_of p.body) lsa

-- the packet names this instance: a Database Description, an Update or an Acknowledgment does
abbrev pub NamesInstance : Meaning → Instance → Type 0
NamesInstance p i = Lists (headers_in_body p.body) i

-- the step issues this LSA
abbrev pub Issued : Stepped → List ℕ → Type 0
Issued d lsa = Contains d.out.issued lsa

-- the step takes this instance from an Update
abbrev pub Took : Stepped → Instance → Type 0
Took d i = Contains d.out.taken i

-- ---- where it comes from

-- these contents were held before the step, heard in an Update, or are issued in it
abbrev pub IsKnown : Stepped → List ℕ → Type 0
IsKnown d lsa = HasContents (heard d) d.before d.out (contents lsa)

-- the router could name the instance before the step, or takes or issues it in the step
abbrev pub CouldName : Stepped → Instance → Type 0
CouldName d i = CanName d.before i ⊎ Brings d.out i

-- ---- own LSAs

-- the state in which the own LSAs of a step begin: the event was taken, and the elections that
-- were due were held (9.4)
pub record OwnBegin (d : Stepped) (s : AreaValue) : Type 0 where
  pub mid : AreaValue
  pub mid_out : OutputsValue
  pub out : OutputsValue
  pub event : TakesEvent d.event d.before no_outputs mid_out mid
  pub elections : ElectsFrom (length mid.links) mid mid_out out s

-- the LSA is what is due of its key in that state (12.4): it says what the router wants, and its
-- number is the one after the number kept
pub record IsDueLsa (s : AreaValue) (lsa : List ℕ) : Type 0 where
  pub wanted : WantedValue
  pub is_wanted : wanted_of (wants s) (key_of lsa) ≡ Some wanted
  pub number : (instance_of lsa).number ≡ kept_number s (key_of lsa) +ℤ pos 1
  pub due : action_of s (key_of lsa) ≡ Issue (instance_of lsa).number
  pub made : IsMade (lsa_value (instance_of lsa).number wanted) lsa

-- ---- LSAs of an Update

-- an LSA of an Update in its turn: the state in which it comes, and the one that it leaves
pub record LsaTurn : Type 0 where
  pub lsa : List ℕ
  pub at : AreaValue
  pub next : AreaValue

-- the rule that it meets (13), if it is an LSA of LS type 1 or 2
abbrev pub MeetsAt : PacketSource → LsaTurn → LsaRule → Type 0
MeetsAt f turn rule = IsLsa turn.lsa × (rule_met turn.at f turn.lsa ≡ Some rule)

-- by that rule its instance is taken: it is installed, or at MaxAge and not stored
pub data TakenAt (f : PacketSource) (turn : LsaTurn) (i : Instance) : Type 0 where
  Installed : MeetsAt f turn Installs → instance_of turn.lsa ≡ i
      → HoldsInstance turn.next i → TakenAt f turn i
  Expired : MeetsAt f turn AcknowledgesExpired → instance_of turn.lsa ≡ i
      → turn.next.database ≡ turn.at.database → TakenAt f turn i

-- the turns follow on one another from a state, each by the exact rules
abbrev pub InTurns : PacketSource → AreaValue → List LsaTurn → Type 0
InTurns f s [] = ⊤
InTurns f s (turn ∷ turns) =
    (turn.at ≡ s)
    × ((out : OutputsValue) × (out' : OutputsValue)
    × TakesSlice f turn.lsa turn.at out out' turn.next)
    × InTurns f turn.next turns

-- ---- the database

-- the router holds an LSA of these contents still, at whatever age
pub record StillHolds (s : AreaValue) (lsa : List ℕ) : Type 0 where
  pub now : List ℕ
  pub copy : HasCopy s now
  pub same : contents now ≡ contents lsa

-- the LSA has left the database (14): it had come to MaxAge, no neighbor has yet to acknowledge
-- it, and none is in Exchange or Loading
pub record HasLeft (d : Stepped) (lsa : List ℕ) : Type 0 where
  pub last : Entry
  pub same : last.contents ≡ contents lsa
  pub leaves : leaves_if d.after (Some last) ≡ true
  pub gone : database_entry d.after (key_of lsa) ≡ None

-- ---- neighbors

-- the neighbor of this Router ID on a link is in Exchange, Loading or Full
abbrev pub IsUp : AreaValue → ℕ → RouterId → Type 0
IsUp s l q = is_exchanging (state_in (neighbour s l q)) ≡ true

-- an acknowledgement of this header waits on a link for the next tick (13.5)
abbrev pub WaitsOnLink : AreaValue → ℕ → LsaHeader → Type 0
WaitsOnLink s l h = Contains (delayed s l) h

-- the Acknowledgments of all that waits on a link: in order of key, as many headers in each as fit,
-- to where flooded Updates go
abbrev pub acknowledgments_on : AreaValue → ℕ → List SentValue
acknowledgments_on s l = elim (slice_get s.links l) [
  | None ↦ []
  | Some link ↦ delayed_out_on (context_of s) l link
]
