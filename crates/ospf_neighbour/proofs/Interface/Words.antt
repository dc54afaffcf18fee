-- Parts of definitions of specs/ by names of their own, for the proofs.
use Rattle.ospf_neighbour.specs.declared.iface.candidate.Candidate.{Candidate}
use Rattle.ospf_neighbour.specs.declared.iface.candidate.Elected.{Elected}

-- the DR and Backup that a router declares
abbrev pub declared : Candidate → Elected
declared c = record { dr = c.dr; backup = c.backup }
