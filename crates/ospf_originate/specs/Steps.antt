-- Own LSAs as they are issued and flushed (RFC 2328, sections 12.4, 13.4 and 14.1),
-- over a router's part of an area.
use Rattle.std.specs.Prelude.{◌≡◌, ◌++◌, ℕ, ℤ, false, List, [], ◌∷◌, None, Some, map}
use Rattle.std.specs.List.{flat_map}
use Rattle.ospf_base.specs.Rising.{IsRisingBy}
use Rattle.ospf_base.specs.Keys.{Precedes}
use Rattle.ospf_base.specs.declared.ids.LsaKey.{LsaKey}
use Rattle.ospf_lsa.specs.Lsa.{IsLsa, key_of}
use Rattle.ospf_lsa.specs.Value.{IsMade}
use Rattle.ospf_lsdb.specs.Moments.{among}
use Rattle.ospf_area.specs.Flooding.{flooding_updates, released}
use Rattle.ospf_area.specs.Numbers.{is_own}
use Rattle.ospf_area.specs.Outputs.{OutputsValue}
use Rattle.ospf_area.specs.Sending.{and_sends, context_of}
use Rattle.ospf_area.specs.State.{AreaValue, database_entry, kept_number}
use Rattle.ospf_area.specs.declared.state.Numbering.{Numbering}
use Rattle.ospf_area.specs.Updates.Aging.{Flushes, turn_out, turned_area}
use Rattle.ospf_area.specs.Acting.{Becomes, InTurn}
use Rattle.ospf_area.specs.Updates.Meets.{Stores}
use Rattle.ospf_originate.specs.Actions.{IsUsed, own_action}
use Rattle.ospf_originate.specs.Wants.Made.{lsa_value}
use Rattle.ospf_originate.specs.Numbers.{waits, issued}
use Rattle.ospf_originate.specs.Wants.Wanted.{WantedValue, wanted_lsas, wanted_of, wanted_key}
use Rattle.ospf_originate.specs.declared.action.DueAction.{DueAction}
use Rattle.ospf_originate.specs.declared.action.OwnAction.{OwnAction}
use Rattle.ospf_originate.specs.declared.action.OwnAction.TheVariants.{Leave, Flush, Issue}

-- ---- an issue

-- a wanted LSA is issued with a number (12.4): it is stored as any other, in place of the old
-- copy, which is on no retransmission list, at age 0, flooded to all, and its number recorded; and
-- the tick of the issue is recorded too
pub record Issues (w : WantedValue) (number : ℤ) (before : AreaValue) (out out' : OutputsValue)
    (after : AreaValue) : Type 0 where
  pub lsa : List ℕ
  pub is_lsa : IsLsa lsa
  pub made : IsMade (lsa_value number w) lsa
  pub stored : AreaValue
  pub stores : Stores lsa None before stored
  pub state :
      after ≡ record stored { numbering = issued (wanted_key w) before.tick stored.numbering }
  pub outputs : out'
      ≡ record out {
        sent = out.sent
            ++ flooding_updates (context_of before) lsa None (released (key_of lsa) before.links);
        issued = out.issued ++ lsa ∷ [];
      }

-- ---- the own LSAs that end a step

-- what the router wants
abbrev pub wants : AreaValue → List WantedValue
wants s = wanted_lsas s.stub_router s.router s.links s.stubs

-- what happens to a key (12.4, 13.4)
unfoldable pub action_of : AreaValue → LsaKey → OwnAction
action_of s key =
    own_action (wanted_of (wants s) key) (database_entry s key) (among s.heard key)
    (is_own s.router key) (waits s.tick s.numbering key) (kept_number s key)

-- an issue, and LoadingDone and the next Requests that follow from it (10.3, 10.9)
pub record IssuesAndTurns (w : WantedValue) (number : ℤ) (before : AreaValue)
    (out out' : OutputsValue) (after : AreaValue) : Type 0 where
  pub mid : AreaValue
  pub mid_out : OutputsValue
  pub issues : Issues w number before out mid_out mid
  pub turned : after ≡ turned_area mid
  pub outputs : out' ≡ and_sends mid_out (turn_out mid)

-- what an action does to the router, by what it wants: an LSA of the key is issued with the number,
-- if one is wanted
abbrev pub Acts : OwnAction → List WantedValue → LsaKey → AreaValue → OutputsValue → OutputsValue
    → AreaValue → Type 0
Acts Leave ws key before out out' after = Becomes before out out' after
Acts Flush ws key before out out' after = Flushes key before out out' after
Acts (Issue number) ws key before out out' after =
    elim (wanted_of ws key) [
      | None ↦ Becomes before out out' after
      | Some w ↦ IssuesAndTurns w number before out out' after
    ]

-- what is due is no issue, or one with a number that is used
abbrev pub HasUsedNumber : DueAction → Type 0
HasUsedNumber d = IsUsed d.action

-- the keys of which something may be due: those that are wanted, those that are
-- numbered, and those that were heard
abbrev pub candidates : List WantedValue → List Numbering → List LsaKey → List LsaKey
candidates ws ns heard = map wanted_key ws ++ map (λ n. n.key) ns ++ heard

-- what is due in a state, of one key after the other: the keys rise, and leave out none of which
-- something becomes
pub record IsDue (s : AreaValue) (due : List DueAction) : Type 0 where
  pub keys : List LsaKey
  pub rising : IsRisingBy Precedes keys
  pub whole : (key : LsaKey) → among keys key ≡ false → action_of s key ≡ Leave
  pub is : due
      ≡ flat_map (λ key. elim (action_of s key) [
        | Leave ↦ []
        | Flush ↦ record { key = key; action = Flush } ∷ []
        | Issue number ↦ record { key = key; action = Issue number } ∷ []
      ]) keys

-- the own LSAs that end a step, and the self-originated ones that are flushed: exactly those that
-- are due in the state in which they begin, in order of key (12.4, 13.4)
pub record OwnLsas (before : AreaValue) (out out' : OutputsValue) (after : AreaValue) : Type 0 where
  pub due : List DueAction
  pub is_due : IsDue before due
  pub mid : AreaValue
  pub each : InTurn (λ (d : DueAction). Acts d.action (wants before) d.key) due before out out' mid
  pub answered : after ≡ record mid { heard = [] }
