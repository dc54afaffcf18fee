-- Calls that ask for routing tables, for LSAs in words, and for paths.
use Rattle.std.specs.Prelude.{◌≡◌, ℕ, Bool, true, false, List, [], Some, Result, Ok, Err, map, string_bytes, vec_items}
use Rattle.ospf_base.specs.declared.ids.Addr.{Addr}
use Rattle.ospf_base.specs.declared.ids.RouterId.{RouterId}
use Rattle.ospf_files.specs.Streams.{IsOfInput}
use Rattle.ospf_files.specs.declared.report.Report.{Report}
use Rattle.ospf_files.specs.declared.status.Failure.{Failure}
use Rattle.ospf_table.specs.Line.{Refuses}
use Rattle.ospf_table.specs.Output.{IsTableAnswer}
use Rattle.ospf_table.specs.Refusal.{refusal_line}
use Rattle.ospf_table.specs.Report.{Shows}
use Rattle.ospf_table.specs.declared.table.EntryFault.{EntryFault}
use Rattle.ospf_inspect.specs.Answer.{IsInspectPrinted}
use Rattle.ospf_inspect.specs.declared.answer.Form.{Form}
use Rattle.ospf_inspect.specs.declared.answer.Form.TheVariants as form
use Rattle.ospf_inspect.specs.declared.answer.InspectJob.{InspectJob}
use Rattle.ospf_inspect.specs.declared.answer.InspectJob.TheVariants.{Path}
use Rattle.ospf_c.specs.Answered.{IsNotAsked, nothing, streams}

-- the router of this Router ID
abbrev pub router_of : ℕ → RouterId
router_of number = record { 0 = number }

-- JSON, or lines of text
abbrev pub form_of : Bool → Form
form_of true = form.Json
form_of false = form.Text

-- the address of this number
abbrev pub address_of : ℕ → Addr
address_of number = record { 0 = number }

-- the report of a table: the table of the root over the LSAs of an input, and the lookups of these
-- addresses, as the program prints them; or the first line that is refused
pub data IsTableReport (input : List ℕ) (root : RouterId) (addresses : List ℕ) (report : Report)
    : Type 0 where
  of_line : (number : ℕ) (fault : EntryFault) → Refuses input [] number fault
      → Shows report (refusal_line number fault) [] 3 → IsTableReport input root addresses report
  of_table : IsTableAnswer input root (map address_of addresses) (string_bytes report.text)
      (string_bytes report.warnings)
      → report.status ≡ 0 → IsTableReport input root addresses report

-- the report, or why there is none
abbrev pub IsTableResult : List ℕ → RouterId → List ℕ → Result Report Failure → Type 0
IsTableResult input root addresses (Ok report) = IsTableReport input root addresses report
IsTableResult input root addresses (Err failure) = IsOfInput failure

-- the job asks for the path from this router to this address, with these choices of next hops
abbrev pub AsksForPath : ℕ → ℕ → List ℕ → InspectJob → Type 0
AsksForPath root address choices (Path f to c) =
    (f.0 ≡ root) × (to.0 ≡ address) × (vec_items c ≡ choices)
AsksForPath root address choices _ = ⊥

-- what is answered of a path: what the program prints of it, or that memory ran out before
pub data IsPathOf (input : List ℕ) (root address : ℕ) (choices text warnings : List ℕ) (code : ℕ)
    : Type 0 where
  no_path_asked : IsNotAsked text warnings code
      → IsPathOf input root address choices text warnings code
  of_path : (job : InspectJob) → AsksForPath root address choices job
      → IsInspectPrinted job (Some input) nothing (streams text warnings) code
      → IsPathOf input root address choices text warnings code
