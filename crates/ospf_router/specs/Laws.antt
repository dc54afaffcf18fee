-- The laws of a step: what an engineer can expect of each step of a router, whatever happens.
-- The exact rules of a step are `Steps`; each law follows from them.
use Rattle.std.specs.Prelude.{◌≡◌, ◌≢◌, ◌⊎◌, ◌↔◌, ℕ, ℤ, List, None, Contains, map, false}
use Rattle.ospf_area.specs.Outputs.{AreReadAsSent, SentValue, no_outputs}
use Rattle.ospf_area.specs.State.{AreaValue, Awaits, database_entry}
use Rattle.ospf_area.specs.declared.flooding.PacketSource.{PacketSource}
use Rattle.ospf_base.specs.declared.ids.Instance.{Instance}
use Rattle.ospf_base.specs.declared.ids.LsaKey.{LsaKey}
use Rattle.ospf_base.specs.declared.ids.RouterId.{RouterId}
use Rattle.ospf_graph.specs.EdgeLists.Listed.{advertisements_of}
use Rattle.ospf_graph.specs.Routes.{IsTable}
use Rattle.ospf_lsa.specs.Lsa.{instance_of, key_of}
use Rattle.ospf_lsa.specs.Header.{header_of}
use Rattle.ospf_lsa.specs.declared.header.LsaHeader.{LsaHeader}
use Rattle.ospf_lsdb.specs.Database.{listed}
use Rattle.ospf_originate.specs.Steps.{action_of}
use Rattle.ospf_originate.specs.declared.action.OwnAction.TheVariants.{Issue}
use Rattle.ospf_packet.specs.Meaning.{Meaning}
use Rattle.ospf_router.specs.AreaStep.Accounts.{HasWord, IsDescribed, MayLeave}
use Rattle.ospf_router.specs.AreaStep.Drops.{dropped_by}
use Rattle.ospf_router.specs.AreaStep.Parts.{leaves_if}
use Rattle.ospf_router.specs.AreaStep.Step.Event.{Tick}
use Rattle.ospf_router.specs.AreaStep.Words.{Asks, Brings, CanName, HasCopy, HoldsInstance}
use Rattle.ospf_router.specs.Stepped.{Carries, CouldName, HasLeft, HearsDescription, HearsLsa, InTurns, IsDueLsa, IsKnown, IsUp, Issued, NamesInstance, OwnBegin, Sent, Stepped, StillHolds, TakenAt, TakesLsas, Took, LsaTurn, WaitsOnLink, acknowledgments_on, heard}
use Rattle.ospf_router.specs.Touched.{TouchesKey}

-- Provenance. Each packet sent bears the router's own Router ID. What the router holds, and what it
-- sends in an Update, it held before, heard or issues, unchanged except for its age. It names only
-- what it could name before, takes or issues; it requests only what a neighbor described to it
abbrev pub ProvenanceLaw : Stepped → Type 0
ProvenanceLaw d =
    ((p : Meaning) → Sent d p → p.router ≡ d.before.router)
    × ((lsa : List ℕ) → HasCopy d.after lsa → IsKnown d lsa)
    × ((p : Meaning) (lsa : List ℕ) → Sent d p → Carries p lsa → IsKnown d lsa)
    × ((i : Instance) → CanName d.after i → CouldName d i)
    × ((p : Meaning) (i : Instance) → Sent d p → NamesInstance p i → CouldName d i)
    × ((l : ℕ) (q : RouterId) (i : Instance) → Asks d.after l q i
    → Asks d.before l q i ⊎ IsDescribed (heard d) l q i)

-- Issue. Where a step drops nothing, it issues exactly what is due in the state in which its own
-- LSAs begin: each LSA issued is what is due of its key, and of each key of which one is due an LSA
-- is issued (12.4)
abbrev pub IssueLaw : Stepped → Type 0
IssueLaw d =
    d.dropped ≡ None
    → (s : AreaValue) × OwnBegin d s
    × ((lsa : List ℕ) → Issued d lsa → IsDueLsa s lsa)
    × ((key : LsaKey) (number : ℤ) → action_of s key ≡ Issue number
    → (lsa : List ℕ) × Issued d lsa × (key_of lsa ≡ key))

-- Admission. A step takes only what it hears in an Update. The LSAs of an Update that is not
-- dropped come in turn, and an instance is taken exactly where an LSA of it, in its turn, is newer
-- than the copy and is installed, or is at MaxAge and is not stored (13)
abbrev pub AdmissionLaw : Stepped → Type 0
AdmissionLaw d =
    ((i : Instance) → Took d i → (lsa : List ℕ) × HearsLsa d lsa × (instance_of lsa ≡ i))
    × ((f : PacketSource) (lsas : List (List ℕ)) → TakesLsas d f lsas
    → (turns : List LsaTurn) × (map (λ (turn : LsaTurn). turn.lsa) turns ≡ lsas)
    × InTurns f d.before turns
    × ((i : Instance) → Took d i ↔ ((turn : LsaTurn) × Contains turns turn × TakenAt f turn i)))

-- Listing. An LSA that was held is held still, at whatever age, unless another of its key is taken
-- or issued, or it has left the database at MaxAge. And what may leave does: after a step that
-- drops nothing an LSA at MaxAge is there only while some neighbor is in Exchange or Loading, or
-- has yet to acknowledge it (14)
abbrev pub ListingLaw : Stepped → Type 0
ListingLaw d =
    ((lsa : List ℕ) → HasCopy d.before lsa
    → StillHolds d.after lsa ⊎ (TouchesKey d.out (key_of lsa) ⊎ HasLeft d lsa))
    × (d.dropped ≡ None → (key : LsaKey) → leaves_if d.after (database_entry d.after key) ≡ false)

-- Retransmission. An instance leaves a neighbor's retransmission list only where that neighbor
-- acknowledged it, a newer LSA took its place, or the neighbor fell below Exchange. What a step
-- takes or issues, and still holds, waits on the list of each neighbor in Exchange or above that
-- has not named it or a newer one (13.3, 13.6)
abbrev pub RetransmissionLaw : Stepped → Type 0
RetransmissionLaw d =
    ((l : ℕ) (q : RouterId) (i : Instance) → Awaits d.before l q i
    → Awaits d.after l q i ⊎ MayLeave (heard d) d.before d.out d.after l q i)
    × ((l : ℕ) (q : RouterId) (i : Instance) → Brings d.out i → HoldsInstance d.after i
    → IsUp d.after l q → Awaits d.after l q i ⊎ HasWord (heard d) d.before l q i)

-- Acknowledgement. An acknowledgement that waits on a link waited there before, or is of an LSA of
-- the Update that the step hears. At a tick all that waited go out, and none waits after it (13.5)
abbrev pub AcknowledgementLaw : Stepped → Type 0
AcknowledgementLaw d =
    ((l : ℕ) (h : LsaHeader) → WaitsOnLink d.after l h
    → WaitsOnLink d.before l h ⊎ ((lsa : List ℕ) × HearsLsa d lsa × (header_of lsa ≡ h)))
    × (d.event ≡ Tick → (l : ℕ)
    → ((g : SentValue) → Contains (acknowledgments_on d.before l) g → Contains d.out.sent g)
    × ((h : LsaHeader) → WaitsOnLink d.after l h → ⊥))

-- Table. After each step the routing table is that of what the router lists (16.1)
abbrev pub TableLaw : Stepped → Type 0
TableLaw d = IsTable (advertisements_of (listed d.after.database)) d.after.router d.table

-- Drops. An event is dropped exactly for the first cause that applies. Then the router is as it
-- was, sends nothing, takes nothing and issues nothing (8.2)
abbrev pub DropLaw : Stepped → Type 0
DropLaw d =
    (d.dropped ≡ dropped_by d.event d.before)
    × (d.dropped ≢ None → (d.after ≡ d.before) × (d.out ≡ no_outputs))

-- Adjacency and sending. A neighbor comes to Exchange only by a Database Description of its own
-- (10.3, 10.6). The bytes of each datagram sent are read as the packet that was meant
abbrev pub AdjacencyLaw : Stepped → Type 0
AdjacencyLaw d =
    ((l : ℕ) (q : RouterId) → IsUp d.after l q → IsUp d.before l q ⊎ HearsDescription d l q)
    × AreReadAsSent d.out.sent

-- a step keeps all nine
pub record KeepsLaws (d : Stepped) : Type 0 where
  pub provenance : ProvenanceLaw d
  pub issue : IssueLaw d
  pub admission : AdmissionLaw d
  pub listing : ListingLaw d
  pub retransmission : RetransmissionLaw d
  pub acknowledgement : AcknowledgementLaw d
  pub table : TableLaw d
  pub drops : DropLaw d
  pub adjacency : AdjacencyLaw d
