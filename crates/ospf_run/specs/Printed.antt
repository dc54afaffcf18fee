-- What is printed about routers whose drivers have ended, and what is reported on standard error.
use Rattle.std.specs.Prelude.{◌≡◌, ◌==◌, if◌then◌else◌, ℕ, Bool, true, false, List, [], ◌++◌, Option, None, Some, Ok, Err, codes, decimal, flat_map, map, cond}
use Rattle.std.specs.List.{list_any}
use Rattle.std.specs.Io.KnownBytes.{Appends}
use Rattle.hex.specs.Hex.{encode_lower}
use Rattle.ospf_area.specs.State.{AreaValue}
use Rattle.ospf_base.specs.Text.{number_text}
use Rattle.ospf_base.specs.declared.ids.RouterId.{RouterId}
use Rattle.ospf_drive.specs.Faults.{drive_fault_text}
use Rattle.ospf_drive.specs.declared.fault.DriveFault.{DriveFault}
use Rattle.ospf_drive.specs.declared.fault.DriveFault.TheVariants as fault
use Rattle.ospf_files.specs.Streams.{IsBegun, IsErrorCut, IsOutputCut, Written}
use Rattle.ospf_files.specs.declared.status.Failure.{Failure}
use Rattle.ospf_files.specs.declared.status.Status.{Status}
use Rattle.ospf_files.specs.declared.status.Status.TheVariants as status
use Rattle.ospf_journal.specs.Counted.{drop_lines}
use Rattle.ospf_lsdb.specs.Database.{entries, lsa_of}
use Rattle.ospf_router.specs.Routers.{RouterValue, greatest_in}
use Rattle.ospf_script.specs.Texts.{floor_text}
use Rattle.ospf_files.specs.Shown.{lookup_line, routes_text}
use Rattle.ospf_files.specs.declared.streams.FailedStreams.{FailedStreams}
use Rattle.ospf_views.specs.Shown.{view_lines}
use Rattle.ospf_script.specs.declared.command.View.{View}
use Rattle.ospf_script.specs.declared.command.View.TheVariants as view
use Rattle.ospf_drive.specs.UdpWire.Obstacles.{line_about}
use Rattle.ospf_run.specs.declared.outcome.Drops.{Drops}
use Rattle.ospf_run.specs.declared.outcome.Extras.{Extras}
use Rattle.ospf_run.specs.declared.outcome.Looked.{Looked}
use Rattle.ospf_run.specs.declared.outcome.Outcome.{Outcome}
use Rattle.ospf_run.specs.declared.outcome.RouterShown.{RouterShown}

-- ---- standard output

-- what a lookup found, if an address was given
abbrev pub looked_lines : Option Looked → List ℕ
looked_lines None = []
looked_lines (Some looked) = lookup_line looked.address.0 looked.answer

-- the floor: the greatest of the start's floor and all numbers of the router's own LSAs since
abbrev pub floor_line : RouterValue → List ℕ
floor_line router =
    codes "floor " ++ floor_text (greatest_in router.floor router.area) ++ codes "\n"

-- that line, if it is wanted
abbrev pub floor_lines : Bool → RouterValue → List ℕ
floor_lines false router = []
floor_lines true router = floor_line router

-- what is shown of a router, if it is wanted
abbrev pub viewed_lines : Bool → View → RouterValue → List ℕ
viewed_lines false view router = []
viewed_lines true view router = view_lines view router

-- all LSAs of a router's LSDB in the order of their keys, each at its present age, those at MaxAge
-- too (12.2); a router that has stopped has none
abbrev pub lsdb_of : Option AreaValue → List (List ℕ)
lsdb_of None = []
lsdb_of (Some s) = map lsa_of (entries s.database)

-- an LSA of the LSDB as a line of hexadecimal digits
abbrev pub lsdb_line : List ℕ → List ℕ
lsdb_line lsa = encode_lower lsa ++ codes "\n"

-- all LSAs of a router's LSDB, a line each, if they are wanted
abbrev pub lsdb_lines : Bool → RouterValue → List ℕ
lsdb_lines false x = []
lsdb_lines true x = flat_map lsdb_line (lsdb_of x.area)

-- what was dropped, if this router dropped it
abbrev pub drops_of : RouterId → Drops → List ℕ
drops_of router drops = if drops.router.0 == router.0 then drop_lines drops.links.items else []

-- the extras of a router, after its table and a lookup: its neighbours, its listing, its LSDB, what
-- it dropped, the floor of its numbers
abbrev pub extra_lines : Extras → RouterId → RouterValue → List ℕ
extra_lines extras router x =
    viewed_lines extras.neighbours view.Neighbours x
    ++ (viewed_lines extras.listing view.Listing x
    ++ (lsdb_lines extras.lsdb x
    ++ (flat_map (drops_of router) extras.drops.items ++ floor_lines extras.floor x)))

-- the Router ID
abbrev pub router_id_line : RouterId → List ℕ
router_id_line router = codes "router " ++ number_text router.0 ++ codes "\n"

-- the Router ID and the routes
abbrev pub table_lines : RouterId → RouterShown → List ℕ
table_lines router shown = router_id_line router ++ routes_text shown.router.table

-- a router: its Router ID, its routes, what a lookup found, and the extras
abbrev pub router_lines : Extras → RouterId → RouterShown → List ℕ
router_lines extras router shown =
    table_lines router shown
    ++ (looked_lines shown.looked ++ extra_lines extras router shown.router)

-- the output for a router: nothing if its driver did not reach the end
abbrev pub outcome_lines : Extras → Outcome → List ℕ
outcome_lines extras outcome =
    elim outcome.came [ Ok shown ↦ router_lines extras outcome.router shown | Err f ↦ [] ]

-- the output for routers, in their order
abbrev pub report_lines : Extras → List Outcome → List ℕ
report_lines extras = flat_map (outcome_lines extras)

-- ---- while routers run

-- the Router ID, and how many ticks the router has taken
abbrev pub at_tick_line : RouterId → ℕ → List ℕ
at_tick_line router tick =
    codes "router " ++ number_text router.0 ++ codes " tick " ++ decimal tick ++ codes "\n"

-- and its routes
abbrev pub at_tick_lines : RouterId → ℕ → RouterValue → List ℕ
at_tick_lines router tick x = at_tick_line router tick ++ routes_text x.table

-- ---- standard error

-- the report on a router whose driver did not reach the end, with its file
abbrev pub outcome_told : Outcome → List ℕ
outcome_told outcome =
    elim outcome.came [ Ok shown ↦ [] | Err f ↦ line_about outcome.file.now (drive_fault_text f) ]

-- the reports on routers, in their order
abbrev pub report_told : List Outcome → List ℕ
report_told = flat_map outcome_told

-- ---- the status

-- a wire or a thread failed
abbrev pub is_fault_of_system : DriveFault → Bool
is_fault_of_system fault.Recv = true
is_fault_of_system fault.Send = true
is_fault_of_system fault.Thread = true
is_fault_of_system fault.Stopped = false
is_fault_of_system fault.Publish = false

-- a wire or a thread failed the router
abbrev pub is_failed : Outcome → Bool
is_failed outcome = elim outcome.came [ Ok shown ↦ false | Err f ↦ is_fault_of_system f ]

-- the driver did not reach the end
abbrev pub is_early : Outcome → Bool
is_early outcome = elim outcome.came [ Ok shown ↦ false | Err f ↦ true ]

-- the status: a wire or a thread failed one of the routers; else a router ended early, out of
-- memory or with a closed table; else all is done
abbrev pub status_for : List Outcome → Status
status_for outcomes =
    cond (list_any is_failed outcomes) status.Stream
    (cond (list_any is_early outcomes) status.Memory status.Done)

-- ---- all of it

-- the results of routers are printed and their failures reported, in their order
pub record AreOutcomesReported (extras : Extras) (outcomes : List Outcome) (status : Status)
    (old new : Written) : Type 0 where
  pub status_is : status ≡ status_for outcomes
  pub out : Appends old.out new.out (report_lines extras outcomes)
  pub err : Appends old.err new.err (report_told outcomes)

-- the report on routers is cut: in the output; or, if that is whole, on standard error
pub data IsReportCut (extras : Extras) (outcomes : List Outcome) (failed : FailedStreams)
    (old new : Written) (f : Failure) : Type 0 where
  in_output : IsOutputCut failed f → IsBegun old.out new.out (report_lines extras outcomes)
      → new.err ≡ old.err → IsReportCut extras outcomes failed old new f
  in_errors : IsErrorCut failed f → Appends old.out new.out (report_lines extras outcomes)
      → IsBegun old.err new.err (report_told outcomes)
      → IsReportCut extras outcomes failed old new f
