-- Constants of the protocol (RFC 2328, appendices A.2, A.3.1, A.4.1 and B), and sizes in bytes.
use Rattle.std.specs.Prelude.{ℕ}

-- MaxAge: the age at which an LSA leaves the routing domain
abbrev pub max_age : ℕ
max_age = 3600

-- MaxAgeDiff: instances whose ages are further apart are not the same (13.1)
abbrev pub max_age_diff : ℕ
max_age_diff = 900

-- the Options that this router sends: only ExternalRoutingCapability
abbrev pub router_options : ℕ
router_options = 2

-- the header of an IP packet without options
abbrev pub ip_header : ℕ
ip_header = 20

-- how many bytes the OSPF header of a packet has (A.3.1)
abbrev pub packet_header : ℕ
packet_header = 24

-- how many bytes the header of an LSA has (A.4.1)
abbrev pub lsa_header : ℕ
lsa_header = 20

-- the longest packet that is read or written, in bytes (own choice)
abbrev pub largest_packet : ℕ
largest_packet = 16384

-- the longest LSA that is made: an Update that carries only this LSA is a longest packet
abbrev pub largest_lsa : ℕ
largest_lsa = 16356
