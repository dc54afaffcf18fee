-- What is printed of the LSAs that the lines of an input are.
use Rattle.std.specs.Prelude.{◌≡◌, ◌∷◌, ◌++◌, ℕ, List, [], IfSome, Option, Result, Ok, Err, length, string_bytes, vec_items}
use Rattle.ospf_base.specs.declared.ids.Addr.{Addr}
use Rattle.ospf_base.specs.declared.ids.RouterId.{RouterId}
use Rattle.ospf_graph.specs.EdgeLists.Listed.{advertisements_of}
use Rattle.ospf_files.specs.Report.{IsReportPrinted}
use Rattle.ospf_files.specs.Streams.{IsOfInput, Written}
use Rattle.ospf_files.specs.declared.report.Report.{Report}
use Rattle.ospf_files.specs.declared.status.Failure.{Failure}
use Rattle.ospf_inspect.specs.AreaDrawing.Graph.{graph_text}
use Rattle.ospf_graph.specs.Routes.{IsTable}
use Rattle.ospf_graph.specs.declared.route.Route.{Route}
use Rattle.ospf_table.specs.Head.{head_line}
use Rattle.ospf_table.specs.Line.{LeavesOut, Reads, Refuses, left_out_text}
use Rattle.ospf_table.specs.Output.{IsTableWarning, IsWarning}
use Rattle.ospf_table.specs.Refusal.{refusal_line}
use Rattle.ospf_table.specs.Report.{Shows}
use Rattle.ospf_table.specs.declared.table.EntryFault.{EntryFault}
use Rattle.ospf_inspect.specs.Lines.{AreLines}
use Rattle.ospf_inspect.specs.Lsas.{SaysOfLsa}
use Rattle.ospf_inspect.specs.Path.{SaysPath}
use Rattle.ospf_inspect.specs.Tables.{SaysTableInJson, SaysTableLine, SaysTableLineOf, SaysTableOf, SaysTablesInJson}
use Rattle.ospf_inspect.specs.Values.{SaysLsasInJson}
use Rattle.ospf_inspect.specs.declared.answer.Form.{Form}
use Rattle.ospf_inspect.specs.declared.answer.Form.TheVariants as form
use Rattle.ospf_inspect.specs.declared.answer.InspectJob.{InspectJob}
use Rattle.ospf_inspect.specs.declared.answer.InspectJob.TheVariants.{Lsas, Drawing, Tables, TablesLines, Table, TableLines, Path}

-- ---- what is printed

-- the listing in words, or as JSON
abbrev pub SaysLsas : Form → List (List ℕ) → List ℕ → Type 0
SaysLsas form.Text listing text = AreLines (SaysOfLsa (advertisements_of listing)) listing text
SaysLsas form.Json listing text = SaysLsasInJson (advertisements_of listing) listing text

-- the table of each router
abbrev pub SaysTables : Form → List (List ℕ) → List ℕ → Type 0
SaysTables form.Text listing text = AreLines (SaysTableOf (advertisements_of listing)) listing text
SaysTables form.Json listing text = SaysTablesInJson (advertisements_of listing) listing text

-- the listing, or a drawing of it; the table of each router, or of one; or the way between two. In
-- version 2 of the JSON the head comes before
abbrev pub Says : InspectJob → List (List ℕ) → List ℕ → Type 0
Says (Lsas f) listing text = SaysLsas f listing text
Says Drawing listing text = text ≡ graph_text listing [] []
Says (Tables f) listing text = SaysTables f listing text
Says TablesLines listing text = AreLines (SaysTableLineOf (advertisements_of listing)) listing text
Says (Table router) listing text = SaysTableInJson (advertisements_of listing) router.0 text
Says (TableLines root addresses) listing text =
    SaysTableLine (advertisements_of listing) root.0 (vec_items addresses) text
Says (Path from address choices) listing text =
    SaysPath (advertisements_of listing) from address.0 (vec_items choices) (length listing) text

-- the warning about addresses: about the router whose table it is and, if that router's table has
-- no route for one of them, about routes outside the area
abbrev pub WarnsOfLookups : List (List ℕ) → RouterId → List Addr → List ℕ → Type 0
WarnsOfLookups listing from addresses text =
    (table : List Route) × IsTable (advertisements_of listing) from table
    × IsTableWarning listing from table addresses text

-- the warning about a path: that about the router where it starts, and the address
abbrev pub WarnsOfWay : List (List ℕ) → RouterId → Addr → List ℕ → Type 0
WarnsOfWay listing from address text = WarnsOfLookups listing from (address ∷ []) text

-- the warning about the router of a table, about lookups in it, or about the path
abbrev pub WarnsOfJob : InspectJob → List (List ℕ) → List ℕ → Type 0
WarnsOfJob (Lsas f) listing text = text ≡ []
WarnsOfJob Drawing listing text = text ≡ []
WarnsOfJob (Tables f) listing text = text ≡ []
WarnsOfJob TablesLines listing text = text ≡ []
WarnsOfJob (Table router) listing text = IsWarning listing router text
WarnsOfJob (TableLines root addresses) listing text =
    WarnsOfLookups listing root (vec_items addresses) text
WarnsOfJob (Path from address choices) listing text = WarnsOfWay listing from address text

-- behind how many LSAs were left out
abbrev pub Warns : InspectJob → List (List ℕ) → ℕ → List ℕ → Type 0
Warns job listing left_out text =
    (more : List ℕ) × WarnsOfJob job listing more × (text ≡ left_out_text left_out ++ more)

-- the line before the answer in version 2 of the JSON: what was read, and each warning
abbrev pub head_for : InspectJob → List (List ℕ) → ℕ → List ℕ → List ℕ
head_for (Lsas f) listing left_out warnings = []
head_for Drawing listing left_out warnings = []
head_for (Tables f) listing left_out warnings = []
head_for TablesLines listing left_out warnings = head_line listing left_out warnings
head_for (Table router) listing left_out warnings = []
head_for (TableLines root addresses) listing left_out warnings = head_line listing left_out warnings
head_for (Path from address choices) listing left_out warnings = []

-- the answer for a listing, of which so many LSAs were left out
pub record IsInspectAnswer (job : InspectJob) (listing : List (List ℕ)) (left_out : ℕ)
    (report : Report) : Type 0 where
  pub warns : Warns job listing left_out (string_bytes report.warnings)
  pub body : List ℕ
  pub says : Says job listing body
  pub text_is : string_bytes report.text
      ≡ head_for job listing left_out (string_bytes report.warnings) ++ body
  pub is_done : report.status ≡ 0

-- the report of the lines of an input: of the listing that they are, or of the first line that is
-- refused
pub data IsInspectReport (job : InspectJob) (input : List ℕ) (report : Report) : Type 0 where
  of_line : (number : ℕ) (fault : EntryFault) → Refuses input [] number fault
      → Shows report (refusal_line number fault) [] 3 → IsInspectReport job input report
  of_listing : (listing : List (List ℕ)) (left_out : ℕ) → Reads input [] listing
      → LeavesOut input left_out → IsInspectAnswer job listing left_out report
      → IsInspectReport job input report

-- the report of the job, or why there is none
abbrev pub IsInspectResult : InspectJob → Option (List ℕ) → Result Report Failure → Type 0
IsInspectResult job input (Ok report) = IfSome input (λ bytes. IsInspectReport job bytes report)
IsInspectResult job input (Err failure) = IsOfInput failure

-- there is a report of the job, or a failure in its place, and it is printed so
abbrev pub IsInspectPrinted : InspectJob → Option (List ℕ) → Written → Written → ℕ → Type 0
IsInspectPrinted job input old new status =
    (report : Result Report Failure) × IsInspectResult job input report
    × IsReportPrinted report old new status
