-- LSAs that a router refuses because of their contents.
use Rattle.std.specs.Prelude.{◌≡◌, ◌∷◌, ℕ, Bool, true, false, List, [], Option, None, Some, if◌then◌else◌, option_map}
use Rattle.ospf_lsa.specs.Lsa.{IsFirstFault, IsLsa}
use Rattle.ospf_lsa.specs.declared.fault.LsaFault.{LsaFault}
use Rattle.ospf_lsa.specs.declared.fault.LsaFault.TheVariants as fault
use Rattle.ospf_notes.specs.Refused.{ToldSet, untaken_from}
use Rattle.ospf_notes.specs.declared.refused.RefusedLsa.{RefusedLsa}
use Rattle.ospf_notes.specs.declared.refused.Untaken.TheVariants.{Invalid}
use Rattle.ospf_packet.specs.Meaning.{BodyMeaning, Meaning, hello, description, request, update, acknowledgment}

-- ---- what is refused

-- a fault in the contents of an LSA, which lasts as long as its originator advertises it: not a
-- fault of its length or its checksum, nor an LS type other than 1 and 2 (RFC 2328, section 13 (1)
-- to (3), appendix A.4)
abbrev pub is_of_contents : LsaFault → Bool
is_of_contents fault.Short = false
is_of_contents fault.Length = false
is_of_contents fault.Sum = false
is_of_contents fault.Kind = false
is_of_contents fault.Links = true
is_of_contents fault.Mask = true
is_of_contents fault.ZeroMetric = true
is_of_contents fault.IdMismatch = true
is_of_contents fault.Number = true
is_of_contents fault.Memory = false

-- why bytes are not an LSA, if they are not
abbrev pub HasLsaFault : List ℕ → Option LsaFault → Type 0
HasLsaFault lsa None = IsLsa lsa
HasLsaFault lsa (Some f) = IsFirstFault lsa f

-- that fault, if it is in the contents of the LSA
abbrev pub contents_fault : Option LsaFault → Option LsaFault
contents_fault None = None
contents_fault (Some f) = if is_of_contents f then Some f else None

-- the fault for which bytes are refused as an LSA, if it is in their contents
abbrev pub HasContentsFault : List ℕ → Option LsaFault → Type 0
HasContentsFault lsa r = (f : Option LsaFault) × HasLsaFault lsa f × (r ≡ contents_fault f)

-- the first such fault of several LSAs, if one of them has one
pub data FindsFault : List (List ℕ) → Option LsaFault → Type 0 where
  none_is_left : FindsFault [] None
  is_found : (lsa : List ℕ) (rest : List (List ℕ)) (f : LsaFault) → HasContentsFault lsa (Some f)
      → FindsFault (lsa ∷ rest) (Some f)
  passes_one : (lsa : List ℕ) (rest : List (List ℕ)) (r : Option LsaFault)
      → HasContentsFault lsa None → FindsFault rest r → FindsFault (lsa ∷ rest) r

-- the first such fault in a packet, if it is an Update that sends such an LSA
abbrev pub SendsFault : BodyMeaning → Option LsaFault → Type 0
SendsFault (hello fields heard) r = r ≡ None
SendsFault (description fields headers) r = r ≡ None
SendsFault (request entries) r = r ≡ None
SendsFault (update lsas) r = FindsFault lsas r
SendsFault (acknowledgment headers) r = r ≡ None

-- that, for a packet on a link, if the bytes are one
abbrev pub IsFaultyIn : ℕ → Option Meaning → Option RefusedLsa → Type 0
IsFaultyIn link None r = r ≡ None
IsFaultyIn link (Some m) r =
    (f : Option LsaFault) × SendsFault m.body f
    × (r ≡ option_map (λ g. untaken_from link m.router (Invalid g)) f)

-- ---- what is reported

-- the faulty LSA in the last packet that arrived, and the neighbours reported so far
pub record FaultyValue : Type 0 where
  pub heard : Option RefusedLsa
  pub told : ToldSet
