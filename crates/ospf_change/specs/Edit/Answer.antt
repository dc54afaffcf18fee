-- The report of a command that changes LSAs, for LSAs that are read as lines of text.
use Rattle.std.specs.Prelude.{◌≡◌, ◌≢◌, ◌⊎◌, ℕ, List, [], Option, Result, Ok, Err, IfSome, string_bytes, vec_items}
use Rattle.ospf_base.specs.declared.ids.RouterId.{RouterId}
use Rattle.ospf_graph.specs.EdgeLists.Listed.{advertisements_of}
use Rattle.ospf_files.specs.Report.{IsReportPrinted}
use Rattle.ospf_files.specs.Streams.{IsOfInput, Written}
use Rattle.ospf_files.specs.declared.report.Report.{Report}
use Rattle.ospf_files.specs.declared.status.Failure.{Failure}
use Rattle.ospf_table.specs.Line.{LeavesOut, Reads, Refuses, left_out_text}
use Rattle.ospf_table.specs.Refusal.{refusal_line}
use Rattle.ospf_table.specs.declared.table.EntryFault.{EntryFault}
use Rattle.ospf_whatif.specs.Failure.{HasLarge}
use Rattle.ospf_change.specs.Edit.Change.{AreChangedBy}
use Rattle.ospf_change.specs.Edit.Large.{IsFirstTooLarge, too_large_line}
use Rattle.ospf_change.specs.Edit.Lines.{hex_lines}
use Rattle.ospf_change.specs.Edit.ReadBack.{IsReadAgainAs}
use Rattle.ospf_change.specs.Edit.Words.{AreJobChanges, IsFirstUnknown}
use Rattle.ospf_change.specs.declared.edit.change.Change.{Change}
use Rattle.ospf_change.specs.declared.edit.words.EditJob.{EditJob}

-- the job changes something
abbrev pub HasWords : EditJob → Type 0
HasWords job =
    ((vec_items job.down ≢ []) ⊎ (vec_items job.costs ≢ [])) ⊎ (vec_items job.drains ≢ [])

-- the report says this on standard error and prints that on standard output
pub record ReportSays (report : Report) (warnings text : List ℕ) (status : ℕ) : Type 0 where
  pub warnings_are : string_bytes report.warnings ≡ warnings
  pub text_is : string_bytes report.text ≡ text
  pub status_is : report.status ≡ status

-- the LSAs of a listing after changes, and how many were left out. What is printed is read again as
-- the changed area
pub record IsChangedReport (changes : List Change) (listing : List (List ℕ)) (left_out : ℕ)
    (report : Report) : Type 0 where
  pub after : List (List ℕ)
  pub changed_area : AreChangedBy changes listing after
  pub says : ReportSays report (left_out_text left_out) (hex_lines after) 0
  pub is_read_again : IsReadAgainAs (hex_lines after) after

-- after the changes that the words of the job name
abbrev pub IsEdited : EditJob → List (List ℕ) → ℕ → Report → Type 0
IsEdited job listing left_out report =
    (changes : List Change) × AreJobChanges (advertisements_of listing) job changes
    × IsChangedReport changes listing left_out report

-- the report of a listing. If the job changes something, the first router whose router-LSA has too
-- many links is refused. Next, the first word that names nothing. Otherwise the LSAs are printed
pub data IsEditReportOf (job : EditJob) (listing : List (List ℕ)) (left_out : ℕ) (report : Report)
    : Type 0 where
  too_large : (router : RouterId) → HasWords job → IsFirstTooLarge listing router
      → ReportSays report (too_large_line router) [] 3 → IsEditReportOf job listing left_out report
  unnamed : (text : List ℕ) → (HasLarge (advertisements_of listing) → ⊥)
      → IsFirstUnknown (advertisements_of listing) job text
      → ReportSays report text [] 2 → IsEditReportOf job listing left_out report
  edited : (HasWords job → HasLarge (advertisements_of listing) → ⊥)
      → IsEdited job listing left_out report → IsEditReportOf job listing left_out report

-- the report of the lines of an input: of the listing that they are, or of the first line that is
-- refused
pub data IsEditReport (job : EditJob) (input : List ℕ) (report : Report) : Type 0 where
  of_line : (number : ℕ) (fault : EntryFault) → Refuses input [] number fault
      → ReportSays report (refusal_line number fault) [] 3 → IsEditReport job input report
  of_listing : (listing : List (List ℕ)) (left_out : ℕ) → Reads input [] listing
      → LeavesOut input left_out → IsEditReportOf job listing left_out report
      → IsEditReport job input report

-- the report of the job, or why there is none
abbrev pub IsEditResult : EditJob → Option (List ℕ) → Result Report Failure → Type 0
IsEditResult job input (Ok report) = IfSome input (λ bytes. IsEditReport job bytes report)
IsEditResult job input (Err failure) = IsOfInput failure

-- there is a report of the job, or a failure in its place, and it is printed so
abbrev pub IsEditPrinted : EditJob → Option (List ℕ) → Written → Written → ℕ → Type 0
IsEditPrinted job input old new status =
    (report : Result Report Failure) × IsEditResult job input report
    × IsReportPrinted report old new status
