-- How the best of several candidates is chosen.
use Rattle.std.specs.Prelude.{◌≡◌, Option, Some, None}
use Rattle.ospf_neighbour.specs.declared.iface.candidate.Candidate.{Candidate}
use Rattle.ospf_neighbour.specs.declared.iface.election.Standing.{Standing}
use Rattle.ospf_neighbour.specs.declared.iface.election.Standing.TheVariants as standing
use Rattle.ospf_neighbour.specs.Interface.Election.{DeclaresDr, DeclaresBackup, MayBeBackup, Outranks}

-- the candidate has this standing
abbrev pub BelongsTo : Standing → Candidate → Type 0
BelongsTo standing.DeclaresDr c = DeclaresDr c
BelongsTo standing.DeclaresBackup c = DeclaresBackup c
BelongsTo standing.MayBeBackup c = MayBeBackup c

-- the best so far stays, or the next candidate takes its place
pub data BestOr (Set : Candidate → Type 0) (best : Option Candidate) (c : Candidate)
    (result : Option Candidate) : Type 0 where
  Outside : (Set c → ⊥) → result ≡ best → BestOr Set best c result
  Stays : (b : Candidate) → best ≡ Some b → (Outranks c b → ⊥) → result ≡ best
      → BestOr Set best c result
  First : best ≡ None → Set c → result ≡ Some c → BestOr Set best c result
  Follows : (b : Candidate) → best ≡ Some b → Set c → Outranks c b → result ≡ Some c
      → BestOr Set best c result
