-- What a packet says of LSAs (RFC 2328, appendix A.3).
use Rattle.std.specs.Prelude.{ℕ, List, [], map}
use Rattle.ospf_lsa.specs.Header.{header_of}
use Rattle.ospf_lsa.specs.declared.header.LsaHeader.{LsaHeader}
use Rattle.ospf_packet.specs.Meaning.{BodyMeaning, hello, description, request, update, acknowledgment, Meaning}

-- the LSAs of an Update, as bytes
abbrev pub lsas_of : BodyMeaning → List (List ℕ)
lsas_of (update lsas) = lsas
lsas_of (hello fields neighbours) = []
lsas_of (description fields headers) = []
lsas_of (request entries) = []
lsas_of (acknowledgment headers) = []

-- the headers of a DD packet
abbrev pub dd_headers_of : BodyMeaning → List LsaHeader
dd_headers_of (description fields headers) = headers
dd_headers_of (hello fields neighbours) = []
dd_headers_of (request entries) = []
dd_headers_of (update lsas) = []
dd_headers_of (acknowledgment headers) = []

-- the headers by which a packet names instances: of a DD packet, an Update and an Acknowledgment
abbrev pub headers_in_body : BodyMeaning → List LsaHeader
headers_in_body (description fields headers) = headers
headers_in_body (update lsas) = map header_of lsas
headers_in_body (acknowledgment headers) = headers
headers_in_body (hello fields neighbours) = []
headers_in_body (request entries) = []

-- the headers by which it acknowledges: of an Acknowledgment, and of an Update (13.7; 13, step 7a)
abbrev pub acknowledging_headers_of : BodyMeaning → List LsaHeader
acknowledging_headers_of (update lsas) = map header_of lsas
acknowledging_headers_of (acknowledgment headers) = headers
acknowledging_headers_of (hello fields neighbours) = []
acknowledging_headers_of (description fields headers) = []
acknowledging_headers_of (request entries) = []

-- a packet that came in on a link
pub record Received : Type 0 where
  pub link : ℕ
  pub packet : Meaning
