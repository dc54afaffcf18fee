-- Lists with at most one entry an LSA (RFC 2328, sections 10 and 12.1).
use Rattle.std.specs.Prelude.{◌≡◌, ◌==◌, ◌&&◌, Bool, false, List}
use Rattle.ospf_base.specs.Keys.{same_key}
use Rattle.ospf_base.specs.Rising.{IsRisingBy}
use Rattle.ospf_lsa.specs.declared.header.LsaHeader.{LsaHeader}
use Rattle.ospf_neighbour.specs.declared.neighbour.Listed.{Listed}

-- two headers are of one LSA: LS type, Link State ID and Advertising Router
unfoldable pub is_of_one_lsa : LsaHeader → LsaHeader → Bool
is_of_one_lsa a b = (a.kind == b.kind) && (a.id == b.id) && (a.router.0 == b.router.0)

-- no two requests are for one LSA
abbrev pub AsksOnce : List LsaHeader → Type 0
AsksOnce headers = IsRisingBy (λ h o. is_of_one_lsa h o ≡ false) headers

-- no two entries of a retransmission list are of one key
abbrev pub IsAloneOfKeys : List Listed → Type 0
IsAloneOfKeys all = IsRisingBy (λ l o. same_key l.instance.key o.instance.key ≡ false) all
