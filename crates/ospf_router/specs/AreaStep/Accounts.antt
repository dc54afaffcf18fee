-- What a part of a step, and a whole step, accounts for to other routers.
use Rattle.std.specs.Prelude.{◌≡◌, ◌⊎◌, ◌<ℤ◌, ◌≤ℤ◌, ℕ, List, true, false, Option, None, Some, Contains, AllPairs}
use Rattle.ospf_base.specs.Constants.{max_age}
use Rattle.ospf_base.specs.Instances.{Covers}
use Rattle.ospf_base.specs.Sums.{contents}
use Rattle.ospf_base.specs.declared.ids.Instance.{Instance}
use Rattle.ospf_base.specs.declared.ids.LsaKey.{LsaKey}
use Rattle.ospf_base.specs.declared.ids.RouterId.{RouterId}
use Rattle.ospf_lsa.specs.Header.{header_of}
use Rattle.ospf_lsa.specs.Lsa.{key_of, instance_of}
use Rattle.ospf_lsa.specs.Recency.{recency}
use Rattle.ospf_lsa.specs.declared.header.LsaHeader.{LsaHeader}
use Rattle.ospf_lsa.specs.declared.recency.Recency.TheVariants.{Newer}
use Rattle.ospf_packet.specs.Meaning.{BodyMeaning, Meaning}
use Rattle.ospf_packet.specs.PacketOf.{packet_of}
use Rattle.ospf_neighbour.specs.Machine.{is_exchanging}
use Rattle.ospf_area.specs.Outputs.{OutputsValue, SentValue}
use Rattle.ospf_area.specs.State.{AreaValue, Awaits, kept_number, neighbour, state_in}
use Rattle.ospf_router.specs.AreaStep.Headers.{Lists}
use Rattle.ospf_router.specs.AreaStep.Packets.{Received, lsas_of, headers_in_body, dd_headers_of, acknowledging_headers_of}
use Rattle.ospf_router.specs.AreaStep.Words.{HasCopy, HoldsInstance, Asks, CanName, Brings}
use Rattle.ospf_lsdb.specs.Moments.{among}
use Rattle.ospf_area.specs.Updates.Removal.{lowest_number}
use Rattle.ospf_flood.specs.Rules.{max_sequence_number}

-- the outputs have this packet among those sent
pub record Sends (out : OutputsValue) (p : Meaning) : Type 0 where
  pub datagram : SentValue
  pub sent : Contains out.sent datagram
  pub reads : packet_of datagram.bytes ≡ Some p

-- the packet heard came in on link l from q, and by these headers of it names the instance
pub record Hears (headers : BodyMeaning → List LsaHeader) (heard : Option Received) (l : ℕ)
    (q : RouterId) (i : Instance) : Type 0 where
  pub received : Received
  pub is_heard : heard ≡ Some received
  pub link : received.link ≡ l
  pub from : received.packet.router ≡ q
  pub named : Lists (headers received.packet.body) i

-- q described the instance in the packet heard, a Database Description (10.6)
abbrev pub IsDescribed : Option Received → ℕ → RouterId → Instance → Type 0
IsDescribed heard l q i = Hears dd_headers_of heard l q i

-- q acknowledged the instance in the packet heard: by an Acknowledgment, or by an Update that has
-- an LSA of the very instance (13.7; 13, step 7a)
abbrev pub IsAcknowledged : Option Received → ℕ → RouterId → Instance → Type 0
IsAcknowledged heard l q i = Hears acknowledging_headers_of heard l q i

-- an LSA of these contents was held before, was heard in an Update, or is issued now
pub data HasContents (heard : Option Received) (before : AreaValue) (out : OutputsValue)
    (content : List ℕ) : Type 0 where
  Held : (lsa : List ℕ) → HasCopy before lsa → contents lsa ≡ content
      → HasContents heard before out content
  Heard : (received : Received) (lsa : List ℕ) → heard ≡ Some received
      → Contains (lsas_of received.packet.body) lsa → contents lsa ≡ content
      → HasContents heard before out content
  Issued : (lsa : List ℕ) → Contains out.issued lsa → contents lsa ≡ content
      → HasContents heard before out content

-- q on link l acknowledged i in the packet heard; or q named an instance that covers i: in
-- the packet heard, a DD packet, or earlier, so that the instance was on q's request list
pub data HasWord (heard : Option Received) (before : AreaValue) (l : ℕ) (q : RouterId)
    (i : Instance) : Type 0 where
  Acknowledged : IsAcknowledged heard l q i → HasWord heard before l q i
  Described : (j : Instance) → IsDescribed heard l q j → Covers j i → HasWord heard before l q i
  Requested : (j : Instance) → Asks before l q j → Covers j i → HasWord heard before l q i

-- the new LSA replaced the old one: it was heard in an Update and taken; or it is issued, with
-- a greater number. What is taken while there is a copy of its key is installed
pub data TakesItsPlace (heard : Option Received) (out : OutputsValue) (old new : List ℕ)
    : Type 0 where
  Installed : (received : Received) → heard ≡ Some received
      → Contains (lsas_of received.packet.body) new → Contains out.taken (instance_of new)
      → TakesItsPlace heard out old new
  Issued : Contains out.issued new → (instance_of old).number <ℤ (instance_of new).number
      → TakesItsPlace heard out old new

-- an LSA took the place of the copy of instance i that the database had, at its age
-- then, and is newer than it (13.1)
pub record IsReplaced (heard : Option Received) (before : AreaValue) (out : OutputsValue)
    (i : Instance) : Type 0 where
  pub old : List ℕ
  pub new : List ℕ
  pub copy : HasCopy before old
  pub old_is : instance_of old ≡ i
  pub same_key : key_of new ≡ i.key
  pub newer : recency (header_of new) (header_of old) ≡ Newer
  pub stored : TakesItsPlace heard out old new

-- why an instance may leave q's retransmission list: q acknowledged it, a newer LSA took the place
-- of its copy, or q is below Exchange
pub data MayLeave (heard : Option Received) (before : AreaValue) (out : OutputsValue)
    (after : AreaValue) (l : ℕ) (q : RouterId) (i : Instance) : Type 0 where
  Acknowledged : IsAcknowledged heard l q i → MayLeave heard before out after l q i
  Replaced : IsReplaced heard before out i → (HoldsInstance after i → Brings out i)
      → MayLeave heard before out after l q i
  Fell : is_exchanging (state_in (neighbour after l q)) ≡ false
      → MayLeave heard before out after l q i

-- a copy was held before, with the same contents. It has the same age now, unless no packet was
-- heard, as in a tick, or it has reached MaxAge
pub record WasKept (heard : Option Received) (before : AreaValue) (lsa : List ℕ) : Type 0 where
  pub old : List ℕ
  pub copy : HasCopy before old
  pub same : contents old ≡ contents lsa
  pub age : (old ≡ lsa) ⊎ ((heard ≡ None) ⊎ ((header_of lsa).age ≡ max_age))

-- an instance stays on q's retransmission list, and a copy of it that the database has
-- after the step was held before
pub record WaitsOn (heard : Option Received) (before after : AreaValue) (l : ℕ) (q : RouterId)
    (i : Instance) : Type 0 where
  pub awaits : Awaits after l q i
  pub kept : (lsa : List ℕ) → HasCopy after lsa → instance_of lsa ≡ i → WasKept heard before lsa

-- an LSA with MaxSequenceNumber, of whatever key, was held, heard or issued
pub record HasLargest (heard : Option Received) (before : AreaValue) (out : OutputsValue)
    : Type 0 where
  pub lsa : List ℕ
  pub has : HasContents heard before out (contents lsa)
  pub number : (instance_of lsa).number ≡ max_sequence_number

-- how numbers are used: each issued LSA has a number above all that its run had (12.1.6)
pub record Numbers (heard : Option Received) (before : AreaValue) (out : OutputsValue)
    (after : AreaValue) : Type 0 where
  pub own : (lsa : List ℕ) → Contains out.issued lsa → (key_of lsa).router ≡ before.router
  pub above : (lsa : List ℕ) → Contains out.issued lsa
      → kept_number before (key_of lsa) <ℤ (instance_of lsa).number
  pub rising : AllPairs
      (λ a b. key_of a ≡ key_of b → (instance_of a).number <ℤ (instance_of b).number) out.issued
  pub kept : (key : LsaKey) → among out.ended key ≡ false
      → kept_number before key ≤ℤ kept_number after key
  pub known : (lsa : List ℕ) → Contains out.issued lsa → among out.ended (key_of lsa) ≡ false
      → (instance_of lsa).number ≤ℤ kept_number after (key_of lsa)
  pub again : (key : LsaKey) → among out.ended key ≡ true → kept_number after key ≡ lowest_number
  pub ends : (key : LsaKey) → among out.ended key ≡ true → HasLargest heard before out

-- what a router accounts for to other routers: it holds for each step, and for each part of one
pub record Accounts (heard : Option Received) (before : AreaValue) (out : OutputsValue)
    (after : AreaValue) : Type 0 where
  pub same_router : after.router ≡ before.router
  pub bears : (p : Meaning) → Sends out p → p.router ≡ before.router
  -- what is held and sent on was held, heard or issued, unchanged except for its age
  pub database : (lsa : List ℕ) → HasCopy after lsa → HasContents heard before out (contents lsa)
  pub updates : (p : Meaning) (lsa : List ℕ) → Sends out p → Contains (lsas_of p.body) lsa
      → HasContents heard before out (contents lsa)
  -- what it can name, and names, it could name before or brings now
  pub names : (i : Instance) → CanName after i → CanName before i ⊎ Brings out i
  pub named : (p : Meaning) (i : Instance) → Sends out p → Lists (headers_in_body p.body) i
      → CanName before i ⊎ Brings out i
  pub holds : (i : Instance) → HoldsInstance after i → HoldsInstance before i ⊎ Brings out i
  -- what it asks of q, it asked before, or q described in the packet heard
  pub asks : (l : ℕ) (q : RouterId) (i : Instance) → Asks after l q i
      → Asks before l q i ⊎ IsDescribed heard l q i
  pub leaves : (l : ℕ) (q : RouterId) (i : Instance) → Awaits before l q i
      → WaitsOn heard before after l q i ⊎ MayLeave heard before out after l q i
  pub listed : (l : ℕ) (q : RouterId) (i : Instance) → Brings out i → HoldsInstance after i
      → is_exchanging (state_in (neighbour after l q)) ≡ true
      → Awaits after l q i ⊎ HasWord heard before l q i
  pub numbers : Numbers heard before out after

-- no neighbour enters Exchange
abbrev pub NoneEntersExchange : AreaValue → AreaValue → Type 0
NoneEntersExchange before after =
    (l : ℕ) (q : RouterId) → is_exchanging (state_in (neighbour after l q)) ≡ true
    → is_exchanging (state_in (neighbour before l q)) ≡ true

-- an LSA that was held, at another age
pub record WasHeld (before : AreaValue) (content : List ℕ) : Type 0 where
  pub lsa : List ℕ
  pub copy : HasCopy before lsa
  pub same : contents lsa ≡ content
