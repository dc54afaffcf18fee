-- The parts of a step that touch the database, acknowledge or flood (RFC
-- 2328, sections 12.4, 13 and 14).
use Rattle.std.specs.Prelude.{◌≡◌, ◌&&◌, ◌+◌, ◌%◌, ◌^◌, ◌+ℤ◌, ◌≤ℤ◌, ℕ, pos, not, Bool, false, List, [], ◌∷◌, Option, None, Some, if◌then◌else◌}
use Rattle.std.specs.Ordering.{int_eq}
use Rattle.ospf_base.specs.Constants.{max_age}
use Rattle.ospf_base.specs.Keys.{same_key}
use Rattle.ospf_base.specs.declared.ids.LsaKey.{LsaKey}
use Rattle.ospf_flood.specs.Rules.{max_sequence_number}
use Rattle.ospf_lsa.specs.Header.{header_of}
use Rattle.ospf_lsa.specs.Lsa.{IsLsa, key_of, instance_of}
use Rattle.ospf_lsdb.specs.Database.{Ages, Entry, entry_from, header_at, lsa_of, Installs}
use Rattle.ospf_lsdb.specs.Moments.{among}
use Rattle.ospf_area.specs.Flooding.{flooded_links, flooding_updates, released}
use Rattle.ospf_area.specs.Numbers.{is_own}
use Rattle.ospf_area.specs.Outputs.{OutputsValue, no_outputs, sends}
use Rattle.ospf_area.specs.Sending.{context_of}
use Rattle.ospf_area.specs.State.{AreaValue, database_entry, kept_number, some_link_loading}
use Rattle.ospf_area.specs.declared.flooding.PacketSource.{PacketSource}
use Rattle.ospf_area.specs.Updates.Meets.{MeetsLsa}
use Rattle.ospf_area.specs.Updates.Removal.{is_leaving, lowest_number}
use Rattle.ospf_area.specs.Updates.Updates.{PassesOver}

-- ---- Updates and Acknowledgments

-- one LSA of an Update meets its rule (13). What is no LSA of LS type 1 or 2 is ignored
pub data LsaPart (f : PacketSource) (lsa : List ℕ) (before : AreaValue) (out : OutputsValue)
    (after : AreaValue) : Type 0 where
  Meets : IsLsa lsa → MeetsLsa f lsa before no_outputs out after → LsaPart f lsa before out after
  PassedOver : (IsLsa lsa → ⊥) → PassesOver before.passes_over f lsa before after → out ≡ no_outputs
      → LsaPart f lsa before out after

-- ---- own LSAs, and those that reach MaxAge

-- an own LSA is issued (12.4): with the number after the kept one, in place of the old copy, which
-- is removed from all lists, and it is flooded to all
pub record IssuePart (lsa : List ℕ) (before : AreaValue) (out : OutputsValue) (after : AreaValue)
    : Type 0 where
  pub is_lsa : IsLsa lsa
  pub own : (key_of lsa).router ≡ before.router
  pub number : (instance_of lsa).number ≡ kept_number before (key_of lsa) +ℤ pos 1
  pub database : Installs (entry_from lsa before.tick false) before.database after.database
  pub links : after.links
      ≡ flooded_links (key_of lsa) (header_of lsa) None before.tick
      (released (key_of lsa) before.links)
  pub same_router : after.router ≡ before.router
  pub same_direct : after.direct ≡ before.direct
  pub kept : (key : LsaKey) → kept_number before key ≤ℤ kept_number after key
  pub known : (instance_of lsa).number ≤ℤ kept_number after (key_of lsa)
  pub sent :
      out.sent ≡ flooding_updates (context_of before) lsa None (released (key_of lsa) before.links)
  pub taken : out.taken ≡ []
  pub issued : out.issued ≡ lsa ∷ []
  pub ended : out.ended ≡ []

-- the copy at MaxAge
abbrev pub at_max_age : Entry → Entry
at_max_age copy = record copy { age = max_age }

-- a copy is brought to MaxAge, or has reached it, and is flooded to all (14, 14.1)
pub record ExpiryPart (key : LsaKey) (copy : Entry) (before : AreaValue) (out : OutputsValue)
    (after : AreaValue) : Type 0 where
  pub at : database_entry before key ≡ Some copy
  pub database : (k : LsaKey)
      → database_entry after k
      ≡ (if same_key key k then Some (at_max_age copy) else database_entry before k)
  pub links : after.links
      ≡ flooded_links key (header_of (lsa_of (at_max_age copy))) None before.tick before.links
  pub same_router : after.router ≡ before.router
  pub same_direct : after.direct ≡ before.direct
  pub numbering : (k : LsaKey) → kept_number after k ≡ kept_number before k
  pub outputs :
      out ≡ sends
      (flooding_updates (context_of before) (lsa_of (at_max_age copy)) None before.links)

-- ---- ages, and what leaves the database

-- a tick begins, in which nothing was sent: all ages below MaxAge rise by one (14)
pub record AgesPart (before : AreaValue) (out : OutputsValue) (after : AreaValue) : Type 0 where
  pub database : Ages before.database after.database
  pub rest : after
      ≡ record before { database = after.database; tick = (before.tick + 1) % 2 ^ 64; sent = [] }
  pub outputs : out ≡ no_outputs

-- an LSA at MaxAge that nobody waits for leaves the database (14)
abbrev pub leaves_if : AreaValue → Option Entry → Bool
leaves_if s None = false
leaves_if s (Some e) = not (some_link_loading s.links) && is_leaving s.links e

-- the last part of a step. With the LSA of an own key that has used up its numbers
-- goes its numbering run (12.1.6)
pub record RemovalPart (before : AreaValue) (out : OutputsValue) (after : AreaValue) : Type 0 where
  pub database : (key : LsaKey)
      → database_entry after key
      ≡ (if leaves_if before (database_entry before key) then None else database_entry before key)
  pub same_links : after.links ≡ before.links
  pub same_router : after.router ≡ before.router
  pub same_direct : after.direct ≡ before.direct
  pub numbering : (key : LsaKey)
      → kept_number after key
      ≡ (if among out.ended key then lowest_number else kept_number before key)
  pub sent : out.sent ≡ []
  pub taken : out.taken ≡ []
  pub issued : out.issued ≡ []
  pub ended : (key : LsaKey) → among out.ended key
      ≡ (elim (database_entry before key) [
        | None ↦ false
        | Some e ↦ leaves_if before (Some e)
            && (is_own before.router key && int_eq (header_at e).number max_sequence_number)
      ])
