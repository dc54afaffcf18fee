-- When own LSAs are issued and flushed (RFC 2328, sections 12.1.6, 12.4, 13.4 and 14.1).
use Rattle.std.specs.Prelude.{◌≡◌, ◌+ℤ◌, ◌≢◌, ◌<◌, ◌&&◌, ◌||◌, ⊤, ℤ, pos, Bool, true, false, not, Option, None, Some, nat_le, if◌then◌else◌}
use Rattle.std.specs.Ordering.{int_eq}
use Rattle.ospf_flood.specs.Rules.{max_sequence_number}
use Rattle.ospf_lsa.specs.Value.{unused_number}
use Rattle.ospf_lsdb.specs.Database.{Entry, is_fresh, ls_refresh_time}
use Rattle.ospf_originate.specs.Wants.Made.{says}
use Rattle.ospf_originate.specs.Wants.Wanted.{WantedValue}
use Rattle.ospf_originate.specs.declared.action.OwnAction.{OwnAction}
use Rattle.ospf_originate.specs.declared.action.OwnAction.TheVariants.{Leave, Flush, Issue}

-- the LSA is issued with the number after the recorded one, if there is one; else its copy makes
-- room for the numbers to begin again, or does so already (12.1.6)
abbrev pub next_action : Option Entry → ℤ → OwnAction
next_action copy kept =
    if int_eq kept max_sequence_number
    then elim copy [ None ↦ Leave | Some e ↦ (if is_fresh e then Flush else Leave) ]
    else Issue (kept +ℤ pos 1)

-- a wanted LSA is due: the database has no copy of it, or one that has reached
-- LSRefreshTime or says something else (12.4)
abbrev pub is_due : WantedValue → Option Entry → Bool
is_due w None = true
is_due w (Some copy) = nat_le ls_refresh_time copy.age || not (says copy.contents w)

-- a wanted LSA is issued where it is due, and was not issued less than MinLSInterval ago; and at
-- once where a newer one was heard in this step (12.4, 13.4)
abbrev pub wanted_action : WantedValue → Option Entry → Bool → Bool → ℤ → OwnAction
wanted_action w copy heard waits kept =
    if heard || (not waits && is_due w copy) then next_action copy kept else Leave

-- one that is not wanted is flushed: where it was heard in this step, or is the router's
-- own and below MaxAge (13.4, 14.1)
abbrev pub unwanted_action : Option Entry → Bool → Bool → OwnAction
unwanted_action None heard own = Leave
unwanted_action (Some copy) heard own = if heard || (own && is_fresh copy) then Flush else Leave

-- what happens to the LSA of a key: by what is wanted of it, its copy in the database, whether a
-- self-originated one was installed in this step, whether its Advertising Router is this one,
-- whether it was issued less than MinLSInterval ago, and the recorded number
unfoldable pub own_action : Option WantedValue → Option Entry → Bool → Bool → Bool → ℤ → OwnAction
own_action None copy heard own waits kept = unwanted_action copy heard own
own_action (Some w) copy heard own waits kept = wanted_action w copy heard waits kept

-- the wanted LSA is made, to be compared with a copy below LSRefreshTime: where nothing of its key
-- was heard in this step, and it does not wait
abbrev pub IsCompared : Option Entry → Bool → Bool → Type 0
IsCompared copy heard waits =
    (heard ≡ false) × (waits ≡ false)
    × ((c : Entry) × (copy ≡ Some c) × (c.age < ls_refresh_time))

-- an issue has a number that is used (12.1.6)
abbrev pub IsUsed : OwnAction → Type 0
IsUsed Leave = ⊤
IsUsed Flush = ⊤
IsUsed (Issue number) = number ≢ unused_number
