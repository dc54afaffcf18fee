-- What is reported of two databases, and how that ends.
use Rattle.std.specs.Prelude.{◌≡◌, ◌⊎◌, ◌++◌, ℕ, List, [], ◌∷◌, IfSome, Option, None, Some, Result, Ok, Err, codes, flat_map, string_bytes}
use Rattle.ospf_base.specs.declared.ids.RouterId.{RouterId}
use Rattle.ospf_graph.specs.EdgeLists.Listed.{advertisements_of}
use Rattle.ospf_graph.specs.Advertisements.{Advertisement, IsListed}
use Rattle.ospf_files.specs.Report.{IsReportPrinted}
use Rattle.ospf_files.specs.Streams.{IsOfInput, Written}
use Rattle.ospf_files.specs.declared.report.Report.{Report}
use Rattle.ospf_files.specs.declared.status.Failure.{Failure}
use Rattle.ospf_table.specs.Line.{LeavesOut, Reads, Refuses, left_out_text}
use Rattle.ospf_table.specs.Output.{unlisted_line}
use Rattle.ospf_table.specs.Refusal.{refusal_line}
use Rattle.ospf_table.specs.declared.table.EntryFault.{EntryFault}
use Rattle.ospf_whatif.specs.declared.failure.AreaFailure.{AreaFailure}
use Rattle.ospf_change.specs.Diff.Costs.{AreCostChanges, cost_line}
use Rattle.ospf_change.specs.Diff.Elements.{AreElementsOnlyIn, elements_text}
use Rattle.ospf_change.specs.Diff.Sights.{AreRoots, AreRouterDifferences, lines_of_router}
use Rattle.ospf_change.specs.Diff.Sums.{RouterDifferences, status_by, difference_sums_line, difference_sums_of}
use Rattle.ospf_change.specs.declared.diff.costs.CostChange.{CostChange}
use Rattle.ospf_change.specs.declared.diff.report.DiffJob.{DiffJob}
use Rattle.ospf_change.specs.declared.diff.report.DiffNames.{DiffNames}
use Rattle.ospf_change.specs.declared.diff.report.Unread.{Unread}
use Rattle.ospf_change.specs.declared.diff.report.Unread.TheVariants as fault

-- ---- warnings

-- a line after the name of a database, and nothing if there is no line
abbrev pub named_text : List ℕ → List ℕ → List ℕ
named_text name [] = []
named_text name (c ∷ rest) = name ++ codes ": " ++ (c ∷ rest)

-- the warning about a router: a line where its router-LSA is not listed, and else nothing
abbrev pub WarnsOfRouter : List Advertisement → RouterId → List ℕ → Type 0
WarnsOfRouter adverts router text =
    ((IsListed adverts router → ⊥) × (text ≡ unlisted_line router))
    ⊎ (IsListed adverts router × (text ≡ []))

-- of the one that is asked for, if one is
abbrev pub WarnsOfRoot : List Advertisement → Option RouterId → List ℕ → Type 0
WarnsOfRoot adverts (Some router) text = WarnsOfRouter adverts router text
WarnsOfRoot adverts None text = text ≡ []

-- the warnings about a database: how many LSAs are left out, and then of that router
pub record WarnsOfDatabase (name : List ℕ) (left_out : ℕ) (adverts : List Advertisement)
    (root : Option RouterId) (text : List ℕ) : Type 0 where
  pub of_root : List ℕ
  pub root_is : WarnsOfRoot adverts root of_root
  pub text_is : text ≡ named_text name (left_out_text left_out) ++ named_text name of_root

-- ---- a comparison

-- the lines of the elements that went and that came, of the interfaces at other costs, of the
-- routes that differ and of their sums; and the status
pub record IsComparison (before after : List Advertisement) (root : Option RouterId)
    (text : List ℕ) (status : ℕ) : Type 0 where
  pub went : List AreaFailure
  pub are_went : AreElementsOnlyIn before after went
  pub came : List AreaFailure
  pub are_came : AreElementsOnlyIn after before came
  pub costs : List CostChange
  pub are_costs : AreCostChanges before after costs
  pub routers : List RouterId
  pub are_roots : AreRoots before after root routers
  pub sights : List RouterDifferences
  pub are_sights : AreRouterDifferences before after routers sights
  pub text_is : text
      ≡ elements_text (codes "-") went ++ elements_text (codes "+") came
      ++ flat_map cost_line costs ++ flat_map lines_of_router sights
      ++ difference_sums_line (difference_sums_of sights)
  pub status_is : status ≡ status_by (difference_sums_of sights)

-- both databases are read, and compared
pub record AreBothCompared (job : DiffJob) (names : DiffNames) (before after : List ℕ)
    (report : Report) : Type 0 where
  pub old : List (List ℕ)
  pub reads_before : Reads before [] old
  pub new : List (List ℕ)
  pub reads_after : Reads after [] new
  pub old_left_out : ℕ
  pub leaves_out_before : LeavesOut before old_left_out
  pub new_left_out : ℕ
  pub leaves_out_after : LeavesOut after new_left_out
  pub warnings_before : List ℕ
  pub warns_before :
      WarnsOfDatabase names.before.now old_left_out (advertisements_of old) job.root warnings_before
  pub warnings_after : List ℕ
  pub warns_after :
      WarnsOfDatabase names.after.now new_left_out (advertisements_of new) job.root warnings_after
  pub warnings_are : string_bytes report.warnings ≡ warnings_before ++ warnings_after
  pub compared : IsComparison (advertisements_of old) (advertisements_of new) job.root
      (string_bytes report.text) report.status

-- ---- a refusal

-- the first line of a database that is refused, as it is said
pub record IsDatabaseRefusal (name : List ℕ) (input : List ℕ) (text : List ℕ) : Type 0 where
  pub number : ℕ
  pub fault : EntryFault
  pub refused : Refuses input [] number fault
  pub text_is : text ≡ name ++ codes ": " ++ refusal_line number fault

-- of the first database, or where that is read, of the second
abbrev pub IsRefusal : DiffNames → List ℕ → List ℕ → List ℕ → Type 0
IsRefusal names before after text =
    IsDatabaseRefusal names.before.now before text
    ⊎ ((old : List (List ℕ)) × Reads before [] old × IsDatabaseRefusal names.after.now after text)

-- the report is that alone, with status 3
pub record IsRefusalReport (names : DiffNames) (before after : List ℕ) (report : Report)
    : Type 0 where
  pub refusal : IsRefusal names before after (string_bytes report.warnings)
  pub no_text : string_bytes report.text ≡ []
  pub status_is : report.status ≡ 3

-- ---- the report

-- what is reported of two databases
abbrev pub IsDiffReport : DiffJob → DiffNames → List ℕ → List ℕ → Report → Type 0
IsDiffReport job names before after report =
    AreBothCompared job names before after report ⊎ IsRefusalReport names before after report

-- the report, or why there is none: memory ran out, or a database was not read
abbrev pub IsDiffResult : DiffJob → DiffNames → Option (List ℕ) → Option (List ℕ)
    → Result Report Failure → Type 0
IsDiffResult job names before after (Ok report) =
    IfSome before (λ old. IfSome after (λ new. IsDiffReport job names old new report))
IsDiffResult job names before after (Err failure) = IsOfInput failure

-- and that is printed
pub record IsDiffPrinted (job : DiffJob) (names : DiffNames) (before after : Option (List ℕ))
    (old new : Written) (status : ℕ) : Type 0 where
  pub report : Result Report Failure
  pub is : IsDiffResult job names before after report
  pub printed : IsReportPrinted report old new status

-- ---- on the way

-- a refusal of the line, or no memory for it
abbrev pub IsRefused : List ℕ → ℕ → EntryFault → Unread → Type 0
IsRefused name number entry (fault.Refused text) =
    string_bytes text ≡ name ++ codes ": " ++ refusal_line number entry
IsRefused name number entry (fault.Failure f) = IsOfInput f

-- why one database is not read
abbrev pub IsUnread : List ℕ → Option (List ℕ) → Unread → Type 0
IsUnread name input (fault.Refused text) =
    IfSome input (λ bytes. IsDatabaseRefusal name bytes (string_bytes text))
IsUnread name input (fault.Failure f) = IsOfInput f

-- why two are not compared
abbrev pub IsUncompared : DiffNames → Option (List ℕ) → Option (List ℕ) → Unread → Type 0
IsUncompared names before after (fault.Refused text) =
    IfSome before (λ old. IfSome after (λ new. IsRefusal names old new (string_bytes text)))
IsUncompared names before after (fault.Failure f) = IsOfInput f
