-- Own LSAs as they are made, and what an LSA says (RFC 2328, sections 12.1 and 12.4).
use Rattle.std.specs.Prelude.{◌≢◌, ⊤, ℕ, ℤ, pos, negsuc, Bool, List, Option, None, Some, ◌++◌, take, drop}
use Rattle.std.specs.Str.{bytes_eq}
use Rattle.ospf_lsa.specs.Value.{LsaValue, contents_bytes, router_value, network_value, RouterNeeds, NetworkNeeds, HasAll, IsUnmade, unused_number}
use Rattle.ospf_lsa.specs.declared.fault.LsaFault.{LsaFault}
use Rattle.ospf_originate.specs.Wants.Wanted.{WantedValue}
use Rattle.ospf_originate.specs.Wants.Wanted.WantedValue.{RouterLsa, NetworkLsa}

-- InitialSequenceNumber (12.1.6)
abbrev pub first_number : ℤ
first_number = negsuc 0x7ffffffe

-- the wanted LSA with a number, without its checksum
abbrev pub lsa_value : ℤ → WantedValue → LsaValue
lsa_value number (RouterLsa router links) = router_value router number links
lsa_value number (NetworkLsa id router mask routers) = network_value id router number mask routers

-- what is needed to make it, by the fault that is reported otherwise
abbrev pub Needs : ℤ → WantedValue → LsaFault → Type 0
Needs number (RouterLsa router links) f = RouterNeeds number links f
Needs number (NetworkLsa id router mask routers) f = NetworkNeeds number mask routers f

-- it can be made with each number that is used: only lack of memory prevents it
abbrev pub CanBeMade : WantedValue → Type 0
CanBeMade w = (number : ℤ) → number ≢ unused_number → HasAll (Needs number w)

-- one that is wanted can be made with this number
abbrev pub CanBeMadeIf : ℤ → Option WantedValue → Type 0
CanBeMadeIf number None = ⊤
CanBeMadeIf number (Some w) = HasAll (Needs number w)

-- why it is not known whether a copy says what is wanted of its key, if
-- anything: the wanted LSA cannot be made
abbrev pub IsUnmadeIf : Option WantedValue → LsaFault → Type 0
IsUnmadeIf None f = ⊥
IsUnmadeIf (Some w) f = IsUnmade (Needs first_number w) f

-- whether an LSA of these contents is the wanted one, apart from number and checksum: these are the
-- six bytes after the first ten (12.4)
unfoldable pub says : List ℕ → WantedValue → Bool
says contents w =
    let made = contents_bytes (lsa_value (pos 0) w) in
    bytes_eq (take 10 contents ++ drop 16 contents) (take 10 made ++ drop 16 made)
