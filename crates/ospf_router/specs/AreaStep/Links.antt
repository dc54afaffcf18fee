-- Parts of a step that change one link of the area, or go over all.
use Rattle.std.specs.Prelude.{◌≡◌, ℕ, true, List, [], Option, None, Some, Contains, set, slice_get}
use Rattle.ospf_base.specs.Sums.{contents}
use Rattle.ospf_base.specs.declared.ids.Instance.{Instance}
use Rattle.ospf_base.specs.declared.ids.RouterId.{RouterId}
use Rattle.ospf_lsa.specs.declared.header.LsaHeader.{LsaHeader}
use Rattle.ospf_packet.specs.Meaning.{Meaning}
use Rattle.ospf_neighbour.specs.Machine.{is_exchanging}
use Rattle.ospf_neighbour.specs.Neighbour.{NeighbourValue}
use Rattle.ospf_neighbour.specs.Neighbours.{neighbour_of}
use Rattle.ospf_area.specs.Outputs.{AreReadAsSent, OutputsValue, SentValue, sends}
use Rattle.ospf_area.specs.State.{AreaValue, LinkValue, state_in}
use Rattle.ospf_router.specs.AreaStep.Headers.{Lists}
use Rattle.ospf_router.specs.AreaStep.Packets.{Received, lsas_of, headers_in_body}
use Rattle.ospf_router.specs.AreaStep.Words.{CanName}
use Rattle.ospf_router.specs.AreaStep.Accounts.{WasHeld}
use Rattle.ospf_router.specs.AreaStep.Neighbours.{NeighbourGoes, told_by}

-- the links of the area change, and nothing else does except the next DD number and
-- the keys sent, which no law reads
abbrev pub ChangesLinks : AreaValue → AreaValue → Type 0
ChangesLinks before after =
    after ≡ record before { links = after.links; next_dd = after.next_dd; sent = after.sent }

-- link l becomes another, and these datagrams go out
pub record OnOneLink (l : ℕ) (link link' : LinkValue) (ds : List SentValue) (before : AreaValue)
    (out : OutputsValue) (after : AreaValue) : Type 0 where
  pub at : slice_get before.links l ≡ Some link
  pub links : after.links ≡ set before.links l link'
  pub rest : ChangesLinks before after
  pub outputs : out ≡ sends ds
  pub read : AreReadAsSent out.sent

-- ---- what each link, and each packet, must be

-- a packet that names and has only what the router has
pub record IsKnownPacket (s : AreaValue) (m : Meaning) : Type 0 where
  pub router : m.router ≡ s.router
  pub lsas : (lsa : List ℕ) → Contains (lsas_of m.body) lsa → WasHeld s (contents lsa)
  pub names : (i : Instance) → Lists (headers_in_body m.body) i → CanName s i

-- each of these datagrams is of such a packet
abbrev pub AreKnown : AreaValue → List SentValue → Type 0
AreKnown s ds = (d : SentValue) → Contains ds d → IsKnownPacket s d.packet

-- a neighbour that may not exist does not enter Exchange
abbrev pub EntersNot : Option NeighbourValue → Option NeighbourValue → Type 0
EntersNot o o' = is_exchanging (state_in o') ≡ true → is_exchanging (state_in o) ≡ true

-- the neighbours of a link change, come and leave, by the headers that each described,
-- and no acknowledgement is delayed
pub record LinkGoes (s : AreaValue) (told : RouterId → List LsaHeader) (b a : LinkValue)
    : Type 0 where
  pub goes : (q : RouterId)
      → NeighbourGoes s (told q) (neighbour_of b.neighbours q) (neighbour_of a.neighbours q)
  pub waiting : (h : LsaHeader) → Contains a.delayed h → Contains b.delayed h

-- and none enters Exchange
pub record LinkQuiet (s : AreaValue) (b a : LinkValue) : Type 0 where
  pub link : LinkGoes s (λ q. []) b a
  pub enters : (q : RouterId)
      → EntersNot (neighbour_of b.neighbours q) (neighbour_of a.neighbours q)

-- a link that may not exist has become another
abbrev pub Each : (LinkValue → LinkValue → Type 0) → Option LinkValue → Option LinkValue → Type 0
Each P None None = Unit {0}
Each P None (Some a) = ⊥
Each P (Some b) None = ⊥
Each P (Some b) (Some a) = P b a

-- all links have
abbrev pub AllEach : (LinkValue → LinkValue → Type 0) → List LinkValue → List LinkValue → Type 0
AllEach P bs cs = (l : ℕ) → Each P (slice_get bs l) (slice_get cs l)

-- all links change by the headers that are heard on them
abbrev pub AllGo : AreaValue → Option Received → List LinkValue → List LinkValue → Type 0
AllGo s heard bs cs =
    (l : ℕ) → Each (LinkGoes s (told_by heard l)) (slice_get bs l) (slice_get cs l)
