-- LSAs at MaxAge (RFC 2328, sections 14 and 14.1).
use Rattle.std.specs.Prelude.{◌≡◌, ◌+◌, ◌%◌, ◌^◌, ◌++◌, true, None, Some, List, [], option_map, if◌then◌else◌, map}
use Rattle.ospf_area.specs.Places.{flat_from}
use Rattle.ospf_area.specs.Asking.{turn_requests_on, turned_link}
use Rattle.ospf_base.specs.Constants.{max_age}
use Rattle.ospf_base.specs.declared.ids.LsaKey.{LsaKey}
use Rattle.ospf_lsdb.specs.Database as lsdb
use Rattle.ospf_lsdb.specs.Database.{Ages, Puts, held_of, lsa_of, reached_at}
use Rattle.ospf_lsa.specs.Header.{header_of}
use Rattle.ospf_lsa.specs.Lsa.{key_of}
use Rattle.ospf_area.specs.Flooding.{flooded_links, flooding_updates, goes_anywhere}
use Rattle.ospf_area.specs.Numbers.{marked}
use Rattle.ospf_area.specs.Acting.{Becomes, InTurn}
use Rattle.ospf_area.specs.Outputs.{OutputsValue, SentValue}
use Rattle.ospf_area.specs.Sending.{and_sends, context_of}
use Rattle.ospf_area.specs.State.{AreaValue, database_entry}

-- ---- what follows each flood

-- LoadingDone and the next Requests of all neighbours
abbrev pub turned_area : AreaValue → AreaValue
turned_area s = record s { links = map (turned_link (context_of s)) s.links }

-- the next Requests that are due on all links (10.9)
abbrev pub turn_out : AreaValue → List SentValue
turn_out s = flat_from (turn_requests_on (context_of s)) 0 s.links

-- ---- a copy goes to all

-- the database's copy of a key is flooded to all neighbours, and stays where it is (14, 14.1);
-- where it goes out at all, it was sent in an Update in this tick (13, step 8)
abbrev pub copy_flooded : LsaKey → AreaValue → AreaValue
copy_flooded key s = elim (database_entry s key) [
  | None ↦ s
  | Some e ↦
      let k = key_of (lsa_of e) in
      let h = header_of (lsa_of e) in
      let flooded = record s { links = flooded_links k h None s.tick s.links } in
      if goes_anywhere k h None s.links then record flooded { sent = marked key true s.sent }
      else flooded
]

-- the database's copy of a key goes out in the Updates that flood it (13.3), and directly after it
-- come LoadingDone and the next Requests
abbrev pub SendsCopy : LsaKey → AreaValue → OutputsValue → OutputsValue → AreaValue → Type 0
SendsCopy key before out out' after =
    let updates : List SentValue = elim (database_entry before key) [
      | None ↦ []
      | Some e ↦ flooding_updates (context_of before) (lsa_of e) None before.links
    ] in
    Becomes (turned_area (copy_flooded key before))
    (and_sends out (updates ++ turn_out (copy_flooded key before))) out' after

-- ---- a tick (14)

-- all ages rise, and a tick begins in which nothing was sent; then the copies that reach MaxAge
-- are flooded to all, in order of key
pub record TickAges (before : AreaValue) (out out' : OutputsValue) (after : AreaValue)
    : Type 0 where
  pub mid : AreaValue
  pub database : Ages before.database mid.database
  pub rest : mid
      ≡ record before { database = mid.database; tick = (before.tick + 1) % 2 ^ 64; sent = [] }
  pub sends : InTurn SendsCopy (reached_at max_age mid.database) mid out out' after

-- ---- a flush (14.1)

-- the copy's age becomes MaxAge, and nothing else of it changes; then it goes to all
pub record Flushes (key : LsaKey) (before : AreaValue) (out out' : OutputsValue) (after : AreaValue)
    : Type 0 where
  pub mid : AreaValue
  pub database :
      Puts key (option_map lsdb.expired (held_of before.database key)) before.database mid.database
  pub rest : mid ≡ record before { database = mid.database }
  pub sends : SendsCopy key mid out out' after
