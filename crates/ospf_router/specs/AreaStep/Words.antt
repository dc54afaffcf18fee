-- What the laws of many routers read of one router's state.
use Rattle.std.specs.Prelude.{◌≡◌, ◌≤ℤ◌, ℕ, List, [], Some, Contains, slice_get, None}
use Rattle.ospf_base.specs.declared.ids.Instance.{Instance}
use Rattle.ospf_base.specs.declared.ids.RouterId.{RouterId}
use Rattle.ospf_lsa.specs.Lsa.{IsLsa, key_of, instance_of}
use Rattle.ospf_lsa.specs.declared.header.LsaHeader.{LsaHeader}
use Rattle.ospf_area.specs.State.{AreaValue, neighbour, copy_of, kept_number, Awaits}
use Rattle.ospf_area.specs.Outputs.{OutputsValue}
use Rattle.ospf_router.specs.AreaStep.Headers.{Lists}

-- ---- what a router has

-- the database has this LSA, at this age
abbrev pub HasCopy : AreaValue → List ℕ → Type 0
HasCopy s lsa = copy_of s (key_of lsa) ≡ Some lsa

-- the database has an LSA of this instance
abbrev pub HoldsInstance : AreaValue → Instance → Type 0
HoldsInstance s i = (lsa : List ℕ) × HasCopy s lsa × (instance_of lsa ≡ i)

-- the instance is on the list of what the router requests of q on link l (10.9)
abbrev pub Asks : AreaValue → ℕ → RouterId → Instance → Type 0
Asks s l q i = Lists (elim (neighbour s l q) [ None ↦ [] | Some n ↦ n.requests ]) i

-- the acknowledgements that wait on link l (13.5)
abbrev pub delayed : AreaValue → ℕ → List LsaHeader
delayed s l = elim (slice_get s.links l) [ None ↦ [] | Some link ↦ link.delayed ]

-- the instances that a router can name to others: a packet sent from now on names no other,
-- except those that it takes or issues first. The summary list has what is still to be
-- described to q (10); the last DD packet sent to q may be sent again (10.8)
pub data CanName (s : AreaValue) (i : Instance) : Type 0 where
  InDatabase : HoldsInstance s i → CanName s i
  OnRetransmissionList : (l : ℕ) (q : RouterId) → Awaits s l q i → CanName s i
  OnSummaryList : (l : ℕ) (q : RouterId)
      → Lists (elim (neighbour s l q) [ None ↦ [] | Some n ↦ n.summary ]) i → CanName s i
  InLastDd : (l : ℕ) (q : RouterId)
      → Lists (elim (neighbour s l q) [ None ↦ [] | Some n ↦ n.last_dd ]) i → CanName s i
  ToAcknowledge : (l : ℕ) → Lists (delayed s l) i → CanName s i
  ToAcknowledgeNow : Lists s.direct i → CanName s i

-- what waits for an acknowledgement is of the database's copy of its key
abbrev pub ListsAreHeld : AreaValue → Type 0
ListsAreHeld s = (l : ℕ) (q : RouterId) (i : Instance) → Awaits s l q i → HoldsInstance s i

-- what holds for each state that a router reaches, besides what its types say: each copy
-- is an LSA, no number kept for an own key is below that of its copy, and what waits
-- for an acknowledgement is held
pub record IsSoundState (s : AreaValue) : Type 0 where
  pub lsas : (lsa : List ℕ) → HasCopy s lsa → IsLsa lsa
  pub numbers : (lsa : List ℕ) → HasCopy s lsa → (key_of lsa).router ≡ s.router
      → (instance_of lsa).number ≤ℤ kept_number s (key_of lsa)
  pub lists : ListsAreHeld s

-- ---- its outputs

-- the outputs take or issue this instance
pub data Brings (out : OutputsValue) (i : Instance) : Type 0 where
  Takes : Contains out.taken i → Brings out i
  Issues : (lsa : List ℕ) → Contains out.issued lsa → instance_of lsa ≡ i → Brings out i
