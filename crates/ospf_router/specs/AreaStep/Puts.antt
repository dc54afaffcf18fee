-- Parts whose outputs are appended to those of earlier parts.
use Rattle.std.specs.Prelude.{◌≡◌, List, fold}
use Rattle.ospf_lsa.specs.declared.header.LsaHeader.{LsaHeader}
use Rattle.ospf_area.specs.Outputs.{OutputsValue, then_outputs}
use Rattle.ospf_area.specs.State.{AreaValue}
use Rattle.ospf_area.specs.declared.flooding.PacketSource.{PacketSource}
use Rattle.ospf_area.specs.Updates.Meets.{header_met}

-- from the outputs so far to those after it, a part added its own
pub record PutsOut (R : OutputsValue → Type 0) (out out' : OutputsValue) : Type 0 where
  pub own : OutputsValue
  pub is : R own
  pub behind : out' ≡ then_outputs out own

-- the headers of an Acknowledgment, one after the other (13.7)
abbrev pub headers_met : PacketSource → List LsaHeader → AreaValue → AreaValue
headers_met f hs s = fold (λ s h. header_met f h s) s hs
