-- The fields of a Hello and of a Database Description (RFC 2328, appendices A.3.2 and A.3.3).
use Rattle.std.specs.Prelude.{ℕ, ◌^◌, ◌<◌, List, ◌∷◌, ◌++◌, slice_index}
use Rattle.ospf_base.specs.Bytes.{number_at, number_bytes}
use Rattle.ospf_packet.specs.declared.body.Hello.{Hello}
use Rattle.ospf_packet.specs.declared.body.Description.{Description}

-- how many bytes the body of a Hello has before its neighbours (A.3.2)
abbrev pub hello_fields : ℕ
hello_fields = 20

-- how many bytes the body of a Database Description has before its headers (A.3.3)
abbrev pub description_fields : ℕ
description_fields = 8

-- the fields in the first 20 bytes of a body
abbrev pub hello_at : List ℕ → Hello
hello_at body = record {
  mask = number_at 0 4 body;
  hello_interval = number_at 4 2 body;
  options = slice_index body 6;
  priority = slice_index body 7;
  dead_interval = number_at 8 4 body;
  designated = record { 0 = number_at 12 4 body };
  backup = record { 0 = number_at 16 4 body };
}

-- the bytes of a Hello, before its neighbours (A.3.2)
abbrev pub hello_bytes : Hello → List ℕ
hello_bytes h =
    number_bytes 4 h.mask ++ number_bytes 2 h.hello_interval
    ++ (h.options ∷ h.priority ∷ number_bytes 4 h.dead_interval)
    ++ number_bytes 4 h.designated.0 ++ number_bytes 4 h.backup.0

-- the numbers of a Hello fit their fields
pub record HelloFits (h : Hello) : Type 0 where
  pub mask : h.mask < 2 ^ 32
  pub hello_interval : h.hello_interval < 2 ^ 16
  pub options : h.options < 256
  pub priority : h.priority < 256
  pub dead_interval : h.dead_interval < 2 ^ 32
  pub designated : h.designated.0 < 2 ^ 32
  pub backup : h.backup.0 < 2 ^ 32

-- the fields in the first 8 bytes of a body
abbrev pub description_at : List ℕ → Description
description_at body = record {
  mtu = number_at 0 2 body;
  options = slice_index body 2;
  flags = slice_index body 3;
  number = number_at 4 4 body;
}

-- the bytes of a Database Description, before its headers (A.3.3)
abbrev pub description_bytes : Description → List ℕ
description_bytes d = number_bytes 2 d.mtu ++ (d.options ∷ d.flags ∷ number_bytes 4 d.number)

-- the numbers of a Database Description fit their fields
pub record DescriptionFits (d : Description) : Type 0 where
  pub mtu : d.mtu < 2 ^ 16
  pub options : d.options < 256
  pub flags : d.flags < 256
  pub number : d.number < 2 ^ 32
