-- The lines of a journal of LSAs, as text and as JSON objects.
use Rattle.std.specs.Prelude.{ℕ, ℤ, Bool, List, ◌++◌, codes, decimal, flat_map, if◌then◌else◌}
use Rattle.hex.specs.Hex.{encode_lower}
use Rattle.ospf_base.specs.Text.{number_text}
use Rattle.ospf_base.specs.declared.ids.LsaKey.{LsaKey}
use Rattle.ospf_base.specs.declared.ids.RouterId.{RouterId}
use Rattle.ospf_lsa.specs.Header.{header_of}
use Rattle.ospf_lsa.specs.Lsa.{instance_of, key_of}
use Rattle.ospf_journal.specs.Objects.{moment_members, number_member, own_members}
use Rattle.ospf_views.specs.Texts.{listed_text}
use Rattle.ospf_notes.specs.declared.lsa_changes.LsaChange.{LsaChange}
use Rattle.ospf_notes.specs.declared.lsa_line.LsaLine.{LsaLine}
use Rattle.ospf_notes.specs.declared.lsa_changes.LsaEvent.{LsaEvent}
use Rattle.ospf_notes.specs.declared.lsa_changes.LsaEvent.TheVariants.{Installed, Refreshed, AgedOut, Flushed}

-- the word for what becomes of an LSA
abbrev pub lsa_event_text : LsaEvent → List ℕ
lsa_event_text Installed = codes "installed"
lsa_event_text Refreshed = codes "refreshed"
lsa_event_text AgedOut = codes "aged-out"
lsa_event_text Flushed = codes "flushed"

-- ---- text

-- the tick, the router, and what becomes of an LSA
unfoldable pub lsa_moment : ℕ → RouterId → LsaEvent → List ℕ
lsa_moment tick q event =
    decimal tick ++ codes " " ++ number_text q.0 ++ codes " " ++ lsa_event_text event ++ codes " "

-- the LSA: kind, Link State ID, Advertising Router, sequence number, checksum, and age
unfoldable pub lsa_named : List ℕ → List ℕ
lsa_named lsa =
    listed_text (instance_of lsa) ++ codes " " ++ decimal (header_of lsa).age ++ codes " "

-- a change of a router that has taken so many ticks: and all of the LSA, as it is spelled
abbrev pub lsa_event_line : ℕ → RouterId → LsaEvent → List ℕ → List ℕ → List ℕ
lsa_event_line tick q event lsa spelled = lsa_moment tick q event ++ lsa_named lsa ++ spelled

-- ---- JSON

-- what becomes of an LSA
unfoldable pub lsa_event_member : LsaEvent → List ℕ
lsa_event_member event = codes "\"event\":\"" ++ lsa_event_text event ++ codes "\""

-- the tick, the router, and what becomes of an LSA
unfoldable pub lsa_lead_members : ℕ → RouterId → LsaEvent → List ℕ
lsa_lead_members tick q event = moment_members tick q ++ lsa_event_member event

-- the Advertising Router
unfoldable pub advertising_router_member : RouterId → List ℕ
advertising_router_member q = codes ",\"advertising_router\":\"" ++ number_text q.0 ++ codes "\""

-- what names an LSA, and its sequence number
unfoldable pub lsa_name_members : LsaKey → ℤ → List ℕ
lsa_name_members key number =
    own_members key ++ advertising_router_member key.router ++ number_member number

-- those of an LSA
abbrev pub lsa_names : List ℕ → List ℕ
lsa_names lsa = lsa_name_members (key_of lsa) (header_of lsa).number

-- its age, and all of it, as it is spelled
unfoldable pub lsa_bytes_members : List ℕ → List ℕ → List ℕ
lsa_bytes_members lsa spelled =
    codes ",\"age\":" ++ decimal (header_of lsa).age ++ codes ",\"bytes\":\"" ++ spelled
    ++ codes "\"}"

-- the object of a change. No text of it has a character that JSON escapes
abbrev pub lsa_object : ℕ → RouterId → LsaEvent → List ℕ → List ℕ → List ℕ
lsa_object tick q event lsa spelled =
    lsa_lead_members tick q event ++ lsa_names lsa ++ lsa_bytes_members lsa spelled

-- a change as text or as an object, the LSA as it is spelled
abbrev pub lsa_text : Bool → ℕ → RouterId → LsaEvent → List ℕ → List ℕ → List ℕ
lsa_text is_json tick q event lsa spelled =
    if is_json then lsa_object tick q event lsa spelled
    else lsa_event_line tick q event lsa spelled

-- a line
abbrev pub lsa_line_text : LsaLine → List ℕ
lsa_line_text l =
    lsa_text l.is_json l.tick l.router l.change.now.event l.change.now.lsa l.spelled.now

-- ---- a file

-- a change as a file has it, the LSA in hexadecimal digits
abbrev pub lsa_entry : Bool → ℕ → RouterId → LsaChange → List ℕ
lsa_entry is_json tick q c =
    lsa_text is_json tick q c.event c.lsa (encode_lower c.lsa) ++ codes "\n"

-- changes of a router, one after another
abbrev pub lsa_entries : Bool → ℕ → RouterId → List LsaChange → List ℕ
lsa_entries is_json tick q changes = flat_map (lsa_entry is_json tick q) changes
