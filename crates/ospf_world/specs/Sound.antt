-- What is held anywhere and what was issued, and sound acknowledgement.
use Rattle.std.specs.Prelude.{◌≡◌, ◌≢◌, ◌⊎◌, ◌++◌, ◌∷◌, ◌<◌, ◌<ℤ◌, ◌≤ℤ◌, ℕ, Bool, List, Ok, Some, Contains, slice_get, ℤ, true, false}
use Rattle.ospf_base.specs.Instances.{Covers}
use Rattle.ospf_base.specs.Sums.{contents}
use Rattle.ospf_base.specs.declared.ids.Instance.{Instance}
use Rattle.ospf_base.specs.declared.ids.RouterId.{RouterId}
use Rattle.ospf_lsa.specs.Lsa.{key_of, instance_of}
use Rattle.ospf_packet.specs.Meaning.{Meaning}
use Rattle.ospf_packet.specs.PacketOf.{packet_of}
use Rattle.ospf_neighbour.specs.Machine.{is_exchanging}
use Rattle.ospf_area.specs.Outputs.{OutputsValue}
use Rattle.ospf_area.specs.State.{AreaValue, Awaits, neighbour, state_in}
use Rattle.ospf_router.specs.AreaStep.Packets.{lsas_of}
use Rattle.ospf_router.specs.AreaStep.Words.{HoldsInstance, HasCopy, Brings}
use Rattle.ospf_flood.specs.Rules.{max_sequence_number}
use Rattle.ospf_router.specs.AreaStep.Accounts.{IsReplaced}
use Rattle.ospf_router.specs.AreaStep.Step.{Event, heard_in}
use Rattle.ospf_base.specs.declared.event.event.WorldEvent.TheVariants.{Start}
use Rattle.ospf_world.specs.World.{World, WorldEvent, Issued, Datagram, Run, Running, router_at, stepped_by, Comes, RunsEvents, LogsGrow}

-- the number that it was issued with
abbrev pub number_in : Issued → ℤ
number_in e = (instance_of e.lsa).number

-- the log at place k has this entry
abbrev pub IssuedAt : List Issued → ℕ → Issued → Type 0
IssuedAt issued k e = slice_get issued k ≡ Some e

-- some LSA was issued with these contents
pub record WasIssued (issued : List Issued) (content : List ℕ) : Type 0 where
  pub place : ℕ
  pub entry : Issued
  pub at : IssuedAt issued place entry
  pub is : contents entry.lsa ≡ content

-- the LSA is in the database of a running router, or in an Update ever sent
pub data HeldAnywhere (w : World) (lsa : List ℕ) : Type 0 where
  InDatabase : (r : RouterId) (x : Running) → router_at w r ≡ Some x → HasCopy x.state lsa
      → HeldAnywhere w lsa
  InUpdate : (g : Datagram) (p : Meaning) → Contains w.datagrams g → packet_of g.sent.bytes ≡ Some p
      → Contains (lsas_of p.body) lsa → HeldAnywhere w lsa

-- the run of this entry is low: a number above its base had been issued for the key when it began
pub record IsLow (issued : List Issued) (e : Issued) : Type 0 where
  pub place : ℕ
  pub earlier : Issued
  pub was_issued : IssuedAt issued place earlier
  pub before_run : place < e.run.name
  pub same_key : key_of earlier.lsa ≡ key_of e.lsa
  pub above_base : e.run.base <ℤ (instance_of earlier.lsa).number

-- a's contents were issued, and b's later in another run, which is low
pub record IssuedAgain (issued : List Issued) (a b : List ℕ) : Type 0 where
  pub i : ℕ
  pub j : ℕ
  pub first : Issued
  pub second : Issued
  pub first_at : IssuedAt issued i first
  pub second_at : IssuedAt issued j second
  pub in_order : i < j
  pub first_is : contents first.lsa ≡ contents a
  pub second_is : contents second.lsa ≡ contents b
  pub other_run : first.run ≢ second.run
  pub low : IsLow issued second

-- two LSAs of one instance have equal contents, unless both contents were issued, in
-- two runs, the second a low one
abbrev pub AgreeUnlessIssuedAgain : List Issued → List ℕ → List ℕ → Type 0
AgreeUnlessIssuedAgain issued a b =
    instance_of a ≡ instance_of b
    → (contents a ≡ contents b) ⊎ (IssuedAgain issued a b ⊎ IssuedAgain issued b a)

-- no two LSAs of one instance were issued with different contents
abbrev pub NoCollision : List Issued → Type 0
NoCollision issued =
    (i j : ℕ) (e f : Issued) → IssuedAt issued i e → IssuedAt issued j f
    → instance_of e.lsa ≡ instance_of f.lsa → contents e.lsa ≡ contents f.lsa

-- the base of each run is at least each number that its router had issued when the run began
abbrev pub BasesAreHigh : List Issued → Type 0
BasesAreHigh issued =
    (i j : ℕ) (e f : Issued) → IssuedAt issued i e → IssuedAt issued j f → i < f.run.name
    → (key_of e.lsa).router ≡ (key_of f.lsa).router → (instance_of e.lsa).number ≤ℤ f.run.base

-- the run began at one of the events that led here: at a start of the router that was
-- done, with the run's base as floor
pub record HasBegun (is_dropped : Event → AreaValue → Bool) (start : World)
    (events : List WorldEvent) (end : World) (r : RouterId) (run : Run) : Type 0 where
  pub earlier : List WorldEvent
  pub later : List WorldEvent
  pub dd_start : ℕ
  pub at : events ≡ earlier ++ Start r dd_start run.base ∷ later
  pub before : World
  pub after : World
  pub started : Running
  pub leads : RunsEvents is_dropped earlier start before
  pub starts : Comes is_dropped (Start r dd_start run.base) before (Ok tt) after
  pub runs : router_at after r ≡ Some started
  pub run_is : started.first ≡ run
  pub goes_on : RunsEvents is_dropped later after end

-- MaxSequenceNumber was never issued
abbrev pub NoneLargest : List Issued → Type 0
NoneLargest issued = (k : ℕ) (e : Issued) → IssuedAt issued k e → number_in e ≢ max_sequence_number

-- the base of each run is the floor of the very start at which it began
abbrev pub BasesAreFloors : (Event → AreaValue → Bool) → World → List WorldEvent → World → Type 0
BasesAreFloors is_dropped start events end =
    (k : ℕ) (e : Issued) → IssuedAt end.issued k e
    → HasBegun is_dropped start events end (key_of e.lsa).router e.run

-- q itself installed, issued or acknowledged an instance that covers i: the log of holdings has it
pub record HasToldOf (w : World) (q : RouterId) (i : Instance) : Type 0 where
  pub held : Instance
  pub told : Contains w.held (record { router = q; instance = held })
  pub covers : Covers held i

-- sound acknowledgement, for a router that went from s to s' by this event with these outputs: what
-- it no longer waits for, and what it never waited for, the neighbour installed, issued or
-- acknowledged (`HasToldOf`), unless a newer LSA took the place of what had waited, or the
-- neighbour is below Exchange
pub record IsSoundFor (after : World) (e : Event) (s : AreaValue) (out : OutputsValue)
    (s' : AreaValue) : Type 0 where
  pub left : (l : ℕ) (q : RouterId) (i : Instance) → Awaits s l q i
      → Awaits s' l q i
      ⊎ (HasToldOf after q i
      ⊎ (IsReplaced (heard_in e) s out i ⊎ (is_exchanging (state_in (neighbour s' l q)) ≡ false)))
  pub listed : (l : ℕ) (q : RouterId) (i : Instance) → Brings out i → HoldsInstance s' i
      → is_exchanging (state_in (neighbour s' l q)) ≡ true → Awaits s' l q i ⊎ HasToldOf after q i

-- nothing was done; or the event steps another router than r, or none, and r, running as x before,
-- continues unchanged; or it stepped r, which runs as x' after, and r's acknowledgements are sound
-- for the outputs by which the logs grew
pub data SoundFor (event : WorldEvent) (before after : World) (r : RouterId) (x x' : Running)
    : Type 0 where
  NothingDone : after ≡ before → SoundFor event before after r x x'
  OfAnother : ((e : Event) → stepped_by before event ≢ Some (r, e)) → x' ≡ x
      → SoundFor event before after r x x'
  SteppedWith : (e : Event) (out : OutputsValue) → stepped_by before event ≡ Some (r, e)
      → LogsGrow before after r x out → IsSoundFor after e x.state out x'.state
      → SoundFor event before after r x x'

-- sound acknowledgement at an event, of each router that runs before and after
abbrev pub IsSoundAcknowledgement : WorldEvent → World → World → Type 0
IsSoundAcknowledgement event before after =
    (r : RouterId) (x x' : Running) → router_at before r ≡ Some x → router_at after r ≡ Some x'
    → SoundFor event before after r x x'
