-- The election of the Designated Router and the Backup (RFC 2328, section 9.4).
use Rattle.std.specs.Prelude.{◌≡◌, ◌≢◌, ◌<◌, ◌==◌, ◌||◌, ◌⊎◌, List, Contains, AllPairs, Bool, not, map, MatchBool, if◌then◌else◌}
use Rattle.std.specs.List.{AllByRecursion}
use Rattle.ospf_base.specs.Rising.{IsRisingBy}
use Rattle.ospf_base.specs.Addresses.{nowhere}
use Rattle.ospf_base.specs.declared.ids.RouterId.{RouterId}
use Rattle.ospf_base.specs.declared.ids.Addr.{Addr}
use Rattle.ospf_neighbour.specs.declared.iface.candidate.Candidate.{Candidate}
use Rattle.ospf_neighbour.specs.declared.iface.candidate.Elected.{Elected}

-- priority 0 makes a router ineligible to become DR (9.4)
abbrev pub IsEligible : Candidate → Type 0
IsEligible c = 0 < c.priority

-- eligible, and declaring itself DR (9.4)
abbrev pub DeclaresDr : Candidate → Type 0
DeclaresDr c = IsEligible c × (c.dr ≡ c.address)

-- eligible, and not declaring itself DR: only these may become Backup (9.4, step 2)
abbrev pub MayBeBackup : Candidate → Type 0
MayBeBackup c = IsEligible c × (c.dr ≢ c.address)

-- one of these, and declaring itself Backup (9.4, step 2)
abbrev pub DeclaresBackup : Candidate → Type 0
DeclaresBackup c = IsEligible c × (c.dr ≢ c.address) × (c.backup ≡ c.address)

-- the higher priority, and in case of a tie the higher Router ID (9.4, step 2)
abbrev pub Outranks : Candidate → Candidate → Type 0
Outranks a b = (b.priority < a.priority) ⊎ ((a.priority ≡ b.priority) × (b.id.0 < a.id.0))

-- the best of the candidates in a set: no other of them outranks it
pub record IsBestIn (Set : Candidate → Type 0) (candidates : List Candidate) (c : Candidate)
    : Type 0 where
  pub member : Contains candidates c
  pub belongs : Set c
  pub max_seq : (d : Candidate) → Contains candidates d → Set d → Outranks d c → ⊥

-- no candidate is in the set
pub record HasNoneIn (Set : Candidate → Type 0) (candidates : List Candidate) : Type 0 where
  pub none : (d : Candidate) → Contains candidates d → Set d → ⊥

-- the new Backup: the best that declares itself so; else the best that may
-- be it; else none (9.4, step 2)
pub data IsBackup (candidates : List Candidate) (address : Addr) : Type 0 where
  Declared : (c : Candidate) → IsBestIn DeclaresBackup candidates c → c.address ≡ address
      → IsBackup candidates address
  Ranked : (c : Candidate) → HasNoneIn DeclaresBackup candidates → IsBestIn MayBeBackup candidates c
      → c.address ≡ address → IsBackup candidates address
  Nobody : HasNoneIn MayBeBackup candidates → address ≡ nowhere → IsBackup candidates address

-- the new DR: the best that declares itself so; else the new Backup (9.4, step 3)
pub data IsDr (candidates : List Candidate) (backup address : Addr) : Type 0 where
  Declared : (c : Candidate) → IsBestIn DeclaresDr candidates c → c.address ≡ address
      → IsDr candidates backup address
  Promoted : HasNoneIn DeclaresDr candidates → address ≡ backup → IsDr candidates backup address

-- one round: steps 2 and 3 (9.4)
pub record IsElectionRound (candidates : List Candidate) (e : Elected) : Type 0 where
  pub backup : IsBackup candidates e.backup
  pub dr : IsDr candidates e.backup e.dr

-- one holds, and the other does not
abbrev pub differs : Bool → Bool → Bool
differs a b = if a then not b else b

-- the router is now newly DR or Backup, or is now no longer DR or Backup (9.4, step 4)
abbrev pub changes_role : Candidate → Elected → Bool
changes_role own e =
    differs (own.dr.0 == own.address.0) (e.dr.0 == own.address.0)
    || differs (own.backup.0 == own.address.0) (e.backup.0 == own.address.0)

-- a candidate, where it is the router itself with this as its declaration
abbrev pub declaring : RouterId → Elected → Candidate → Candidate
declaring me e c = if c.id.0 == me.0 then record c { dr = e.dr; backup = e.backup } else c

-- the election: one round, and if it changes the router's own role, another with its result
-- as the router's own declaration (9.4, step 4)
pub record IsElected (candidates : List Candidate) (me : RouterId) (e : Elected) : Type 0 where
  pub own : Candidate
  pub member : Contains candidates own
  pub is_me : own.id ≡ me
  pub first : Elected
  pub round : IsElectionRound candidates first
  pub again : MatchBool (changes_role own first)
      (IsElectionRound (map (declaring me first) candidates) e) (e ≡ first)

-- the candidates' Router IDs differ
abbrev pub AreDistinct : List Candidate → Type 0
AreDistinct candidates = AllPairs (λ a b. a.id ≢ b.id) candidates

-- a candidate is the router itself
abbrev pub HasMe : List Candidate → RouterId → Type 0
HasMe candidates me = (c : Candidate) × Contains candidates c × (c.id ≡ me)

-- the candidates' Router IDs rise
abbrev pub AreCandidatesRising : List Candidate → Type 0
AreCandidatesRising candidates = IsRisingBy (λ c d. c.id.0 < d.id.0) candidates

-- no candidate has this Router ID
abbrev pub AreOthers : RouterId → List Candidate → Type 0
AreOthers me candidates = AllByRecursion (λ (c : Candidate). c.id.0 ≢ me.0) candidates
