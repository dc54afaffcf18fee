-- Laws of own LSAs: their numbers, and what is recorded for them; those of what is
-- wanted are in `ospf_originate`.
use Rattle.std.specs.Prelude.{◌≡◌, ◌&&◌, ◌≤◌, ◌+ℤ◌, ◌≤ℤ◌, ℕ, ℤ, pos, true, List, [], Option, Some, if◌then◌else◌, length, map, option_and_then}
use Rattle.std.specs.Int.{int_max}
use Rattle.ospf_area.specs.Asking.{turned_link}
use Rattle.ospf_base.specs.Keys.{same_key}
use Rattle.ospf_base.specs.declared.ids.LsaKey.{LsaKey}
use Rattle.ospf_lsa.specs.Header.{header_of}
use Rattle.ospf_lsa.specs.Lsa.{IsLsa, key_of}
use Rattle.ospf_lsa.specs.Recency.{recency}
use Rattle.ospf_lsa.specs.Value.{IsMade}
use Rattle.ospf_lsa.specs.declared.header.LsaHeader.{LsaHeader}
use Rattle.ospf_lsa.specs.declared.recency.Recency.TheVariants.{Newer}
use Rattle.ospf_lsdb.specs.Database.{IsDatabase}
use Rattle.ospf_area.specs.Changes.{changed_at, delayed_at}
use Rattle.ospf_area.specs.Flooding.{flooded_links, released}
use Rattle.ospf_area.specs.Laws.{AreShort}
use Rattle.ospf_area.specs.Numbers.{counts, is_own}
use Rattle.ospf_area.specs.Outputs.{OutputsValue}
use Rattle.ospf_area.specs.Standing.{acknowledging}
use Rattle.ospf_area.specs.State.{AreaValue, LinkValue, kept_number, numbering_of}
use Rattle.ospf_area.specs.declared.changes.AdjacencyChange.{AdjacencyChange}
use Rattle.ospf_area.specs.declared.flooding.PacketSource.{PacketSource}
use Rattle.ospf_area.specs.declared.sending.RouterContext.{RouterContext}
use Rattle.ospf_flood.specs.declared.acknowledgement.Acknowledgement.{Acknowledgement}
use Rattle.ospf_area.specs.Updates.Aging.{Flushes, SendsCopy, TickAges, turned_area}
use Rattle.ospf_area.specs.Updates.Laws.{IsShortLsa}
use Rattle.ospf_area.specs.Acting.{Becomes, InTurn}
use Rattle.ospf_area.specs.Updates.Meets.{MeetsLsa, Stores, restarted, header_met}
use Rattle.ospf_area.specs.Updates.Removal.{RemovesOne, leaving}
use Rattle.ospf_area.specs.Updates.Updates.{TakesUpdate}
use Rattle.ospf_originate.specs.Sound.{AreSetUp, IsSound, max_stubs}
use Rattle.ospf_originate.specs.Steps.{Issues, OwnLsas, wants, action_of}
use Rattle.ospf_originate.specs.Wants.Made.{CanBeMade, lsa_value}
use Rattle.ospf_originate.specs.Wants.Wanted.{WantedValue, wanted_key, wanted_of}
use Rattle.ospf_originate.specs.declared.action.OwnAction.TheVariants.{Issue}
pub use Rattle.ospf_originate.specs.Wants.Laws.{WantedAreOfTheirKeys, WantedAreOwn, WantedCanBeMade}

-- ---- numbers

-- an issued LSA's number is recorded, if it is the router's own, and no other number changes
-- (12.1.6)
abbrev pub IssuedIsKept : Type 0
IssuedIsKept =
    (w : WantedValue) (number : ℤ) (s : AreaValue) (o o' : OutputsValue) (s' : AreaValue)
    → Issues w number s o o' s' → (key : LsaKey)
    → kept_number s' key
    ≡ (if same_key (wanted_key w) key && is_own s.router key then int_max (kept_number s key) number
    else kept_number s key)

-- and its key waits from the tick of the issue on, as no other key does (12.4)
abbrev pub IssuedWaits : Type 0
IssuedWaits =
    (w : WantedValue) (number : ℤ) (s : AreaValue) (o o' : OutputsValue) (s' : AreaValue)
    → Issues w number s o o' s' → is_own s.router (wanted_key w) ≡ true → (key : LsaKey)
    → option_and_then (λ n. n.issued_at) (numbering_of s'.numbering key)
    ≡ (if same_key (wanted_key w) key then Some s.tick
    else option_and_then (λ n. n.issued_at) (numbering_of s.numbering key))

-- ---- the own LSAs that end a step

-- an issue is of what is wanted, with the number after the recorded one (12.1.6)
pub record IsNextIssue (w : Option WantedValue) (kept number : ℤ) : Type 0 where
  pub value : WantedValue
  pub is_wanted : w ≡ Some value
  pub next : number ≡ kept +ℤ pos 1

-- the law: an LSA is issued by the next number (12.1.6)
abbrev pub IssueIsNext : Type 0
IssueIsNext =
    (s : AreaValue) (key : LsaKey) (number : ℤ) → action_of s key ≡ Issue number
    → IsNextIssue (wanted_of (wants s) key) (kept_number s key) number

-- it is newer than a copy whose number is not above the recorded one (13.1)
abbrev pub NextIsNewer : Type 0
NextIsNewer =
    (new copy : LsaHeader) (kept : ℤ) → copy.number ≤ℤ kept → new.number ≡ kept +ℤ pos 1
    → recency new copy ≡ Newer

-- ---- what the router keeps

-- a router that starts with few stub networks has it, and keeps it where its links are others that are
-- set up
pub record StartsSound : Type 0 where
  pub begun : (s : AreaValue) → AreSetUp s.links → length s.stubs ≤ max_stubs → s.database ≡ []
      → s.numbering ≡ [] → s.max_seq ≡ s.floor → IsSound s
  pub relinked : (s : AreaValue) (links : List LinkValue) (tick : ℕ) → AreSetUp links → IsSound s
      → IsSound (record s { links = links; tick = tick })

-- an issue, a flush, and what ends a step keep it
pub record OwnStaySound : Type 0 where
  pub issued : (w : WantedValue) (number : ℤ) (s : AreaValue) (o o' : OutputsValue) (s' : AreaValue)
      → Issues w number s o o' s' → IsSound s → IsSound s'
  pub flushed : (key : LsaKey) (s : AreaValue) (o o' : OutputsValue) (s' : AreaValue)
      → Flushes key s o o' s' → IsSound s → IsSound s'
  pub ended : (s : AreaValue) (o o' : OutputsValue) (s' : AreaValue) → OwnLsas s o o' s' → IsSound s
      → IsSound s'

-- an Update, a header that is acknowledged, the clock and LSAs that leave keep it
pub record AreaStaysSound : Type 0 where
  pub updated : (f : PacketSource) (slices : List (List ℕ)) (s : AreaValue) (o o' : OutputsValue)
      (s' : AreaValue) → TakesUpdate f slices s o o' s' → IsSound s → IsSound s'
  pub acknowledged : (f : PacketSource) (h : LsaHeader) (s : AreaValue) → IsSound s
      → IsSound (header_met f h s)
  pub aged : (s : AreaValue) (o o' : OutputsValue) (s' : AreaValue) → TickAges s o o' s' → IsSound s
      → IsSound s'
  pub removed : (s : AreaValue) (o o' : OutputsValue) (s' : AreaValue) → IsDatabase s.database
      → InTurn RemovesOne (leaving s) s o o' s' → IsSound s → IsSound s'

-- links that are set up stay so, whatever their lists and neighbours do
pub record LinksStaySetUp : Type 0 where
  pub released : (key : LsaKey) (links : List LinkValue) → AreSetUp links
      → AreSetUp (released key links)
  pub flooded : (key : LsaKey) (h : LsaHeader) (from : Option PacketSource) (tick : ℕ)
      (links : List LinkValue) → AreSetUp links → AreSetUp (flooded_links key h from tick links)
  pub turned : (own : RouterContext) (links : List LinkValue) → AreSetUp links
      → AreSetUp (map (turned_link own) links)
  pub changed : (f : PacketSource) (change : AdjacencyChange) (tick : ℕ) (links : List LinkValue)
      → AreSetUp links → AreSetUp (changed_at f change tick links)
  pub delayed : (number : ℕ) (h : LsaHeader) (links : List LinkValue) → AreSetUp links
      → AreSetUp (delayed_at number h links)
  pub undelayed : (links : List LinkValue) → AreSetUp links
      → AreSetUp (map (λ (l : LinkValue). record l { delayed = [] }) links)

-- and so does each call of which these are made keep it
pub record PartsStaySound : Type 0 where
  pub links : LinksStaySetUp
  pub relinked : (s : AreaValue) (links : List LinkValue) → AreSetUp links → IsSound s
      → IsSound (record s { links = links })
  pub counted : (key : LsaKey) (number : ℤ) (s : AreaValue) → IsSound s
      → IsSound
      (record s {
        numbering = counts key number s;
        max_seq = if is_own s.router key then int_max s.max_seq number else s.max_seq;
      })
  pub acknowledging : (a : Acknowledgement) (f : PacketSource) (h : LsaHeader) (s : AreaValue)
      → IsSound s
      → IsSound (acknowledging a f h s)
  pub stored : (lsa : List ℕ) (from : Option PacketSource) (s s' : AreaValue) → Stores lsa from s s'
      → IsSound s → IsSound s'
  pub met : (f : PacketSource) (lsa : List ℕ) (s : AreaValue) (o o' : OutputsValue) (s' : AreaValue)
      → MeetsLsa f lsa s o o' s' → IsSound s → IsSound s'
  pub begun_again : (f : PacketSource) (s : AreaValue) (o o' : OutputsValue) (s' : AreaValue)
      → Becomes (restarted f s) o o' s' → IsSound s → IsSound s'
  pub turned : (s : AreaValue) → IsSound s → IsSound (turned_area s)
  pub copied : (key : LsaKey) (s : AreaValue) (o o' : OutputsValue) (s' : AreaValue)
      → SendsCopy key s o o' s' → IsSound s → IsSound s'
  pub flooded : (lsa : List ℕ) (from : Option PacketSource) (s : AreaValue) → IsSound s
      → IsSound
      (record s { links = flooded_links (key_of lsa) (header_of lsa) from s.tick s.links })
  pub answered : (s : AreaValue) → IsSound s → IsSound (record s { direct = [] })
  pub marked : (s : AreaValue) (sent : List LsaKey) → IsSound s → IsSound (record s { sent = sent })

-- ---- how long own LSAs are

-- what is made is one that an Update has room for, and so the LSAs of the
-- database stay where it is issued
pub record OwnStayShort : Type 0 where
  pub made : (w : WantedValue) (number : ℤ) (lsa : List ℕ) → CanBeMade w → IsLsa lsa
      → IsMade (lsa_value number w) lsa → IsShortLsa lsa
  pub issued : (w : WantedValue) (number : ℤ) (s : AreaValue) (o o' : OutputsValue) (s' : AreaValue)
      → Issues w number s o o' s' → CanBeMade w → AreShort s.database → AreShort s'.database
  pub ended : (s : AreaValue) (o o' : OutputsValue) (s' : AreaValue) → OwnLsas s o o' s'
      → AreSetUp s.links → length s.stubs ≤ max_stubs → AreShort s.database
      → AreShort s'.database
