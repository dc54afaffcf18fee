-- LSAs that leave the database (RFC 2328, sections 14 and 12.1.6).
use Rattle.std.specs.Prelude.{◌≡◌, ◌==◌, ◌&&◌, ◌++◌, ℤ, negsuc, Bool, false, None, Some, List, [], ◌∷◌, filter, map, not, if◌then◌else◌}
use Rattle.std.specs.List.{list_any}
use Rattle.std.specs.Ordering.{int_eq}
use Rattle.ospf_base.specs.Constants.{max_age}
use Rattle.ospf_base.specs.declared.ids.LsaKey.{LsaKey}
use Rattle.ospf_flood.specs.Rules.{max_sequence_number}
use Rattle.ospf_lsdb.specs.Database.{Entry, Puts, entries, header_at, held_of, instance_at, key_in, removed}
use Rattle.ospf_neighbour.specs.Lists.{is_listed}
use Rattle.ospf_neighbour.specs.Neighbour.{NeighbourValue}
use Rattle.ospf_area.specs.Numbers.{is_own}
use Rattle.ospf_area.specs.Outputs.{OutputsValue}
use Rattle.ospf_area.specs.State.{AreaValue, LinkValue, database_entry, some_link_loading}
use Rattle.ospf_area.specs.declared.state.Numbering.{Numbering}
use Rattle.ospf_base.specs.Keys.{same_key}

-- ---- which leave

-- an LSA at MaxAge that is on no retransmission list: no neighbour of the router has yet to
-- acknowledge it (14)
abbrev pub is_leaving : List LinkValue → Entry → Bool
is_leaving links e =
    let awaits = λ (n : NeighbourValue). is_listed (instance_at e) n.retransmission in
    (e.age == max_age)
    && not (list_any (λ (link : LinkValue). list_any awaits link.neighbours) links)

-- the keys of those that leave, in order: none while some neighbour is in Exchange or Loading
abbrev pub leaving : AreaValue → List LsaKey
leaving s =
    if some_link_loading s.links then []
    else map (λ e. key_in e.contents) (filter (is_leaving s.links) (entries s.database))

-- ---- numbering runs that end

-- the number below the first (12.1.6)
abbrev pub lowest_number : ℤ
lowest_number = negsuc 0x7fffffff

-- with the copy of the key goes its numbering run: the copy's number is the last one
abbrev pub ends_run : AreaValue → LsaKey → Bool
ends_run s key = is_own s.router key && elim (database_entry s key) [
  | None ↦ false
  | Some e ↦ int_eq (header_at e).number max_sequence_number
]

-- the numbers of the key begin again (12.1.6)
abbrev pub reset : LsaKey → List Numbering → List Numbering
reset key ns =
    if list_any (λ n. same_key n.key key) ns
    then map (λ (n : Numbering). if same_key n.key key then record n { kept = lowest_number }
    else n) ns
    else ns ++ record { key = key; kept = lowest_number; issued_at = None } ∷ []

-- ---- they leave

-- the copy of a key leaves the database (14), and where its run ends, that is reported, and the
-- numbers begin again
pub record RemovesOne (key : LsaKey) (before : AreaValue) (out out' : OutputsValue)
    (after : AreaValue) : Type 0 where
  pub database : Puts key (removed (held_of before.database key)) before.database after.database
  pub rest : after
      ≡ record before {
        database = after.database;
        numbering = (if ends_run before key then reset key before.numbering else before.numbering);
      }
  pub outputs :
      out' ≡ (if ends_run before key then record out { ended = out.ended ++ key ∷ [] } else out)
