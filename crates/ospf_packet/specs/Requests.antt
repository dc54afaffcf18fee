-- The entries of a Link State Request (RFC 2328, appendix A.3.4).
use Rattle.std.specs.Prelude.{ℕ, ◌^◌, ◌<◌, List, ◌++◌}
use Rattle.ospf_base.specs.Bytes.{number_at, number_bytes}
use Rattle.ospf_packet.specs.Entries.{packet_entries_in}
use Rattle.ospf_packet.specs.declared.entry.RequestEntry.{RequestEntry}

-- the size of an entry
abbrev pub request_size : ℕ
request_size = 12

-- the entry in the first 12 bytes
abbrev pub request_entry_at : List ℕ → RequestEntry
request_entry_at bytes =
    record {
      kind = number_at 0 4 bytes;
      id = number_at 4 4 bytes;
      router = record { 0 = number_at 8 4 bytes };
    }

-- the 12 bytes of an entry
abbrev pub request_entry_bytes : RequestEntry → List ℕ
request_entry_bytes e = number_bytes 4 e.kind ++ number_bytes 4 e.id ++ number_bytes 4 e.router.0

-- the numbers of an entry fit their fields
pub record RequestEntryFits (e : RequestEntry) : Type 0 where
  pub kind : e.kind < 2 ^ 32
  pub id : e.id < 2 ^ 32
  pub router : e.router.0 < 2 ^ 32

-- this many entries, one after the other
abbrev pub requests_in : ℕ → List ℕ → List RequestEntry
requests_in = packet_entries_in request_size request_entry_at
