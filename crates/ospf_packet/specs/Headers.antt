-- The LSA headers of a Database Description and of a Link State Acknowledgment (RFC
-- 2328, appendices A.3.3 and A.3.6).
use Rattle.std.specs.Prelude.{ℕ, ◌≤◌, List, ◌++◌}
use Rattle.ospf_base.specs.Bytes.{number_bytes}
use Rattle.ospf_base.specs.Constants.{lsa_header, max_age}
use Rattle.ospf_lsa.specs.Header.{header_of, header_bytes, HeaderFits}
use Rattle.ospf_lsa.specs.declared.header.LsaHeader.{LsaHeader}
use Rattle.ospf_packet.specs.Entries.{packet_entries_in}

-- this many headers, one after the other
abbrev pub headers_in : ℕ → List ℕ → List LsaHeader
headers_in = packet_entries_in lsa_header header_of

-- the 20 bytes of a header
abbrev pub aged_bytes : LsaHeader → List ℕ
aged_bytes h = number_bytes 2 h.age ++ header_bytes h

-- what has a spelling: the age is one, and the other numbers fit their fields
pub record AgedFits (h : LsaHeader) : Type 0 where
  pub age : h.age ≤ max_age
  pub rest : HeaderFits h
