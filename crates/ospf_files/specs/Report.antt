-- What a command has computed, and how it is printed. A command never writes in between: it
-- computes a report of its input first, and then the report is printed.
use Rattle.std.specs.Prelude.{◌≡◌, ◌⊎◌, ℕ, List, Option, Result, Ok, Err, string_bytes}
use Rattle.std.specs.Io.KnownBytes.{Appends}
use Rattle.ospf_files.specs.Status.{code_of, failure_line, failure_status}
use Rattle.ospf_files.specs.Streams.{IsBegun, IsErrorFailed, IsOfError, IsOfOutput, IsOutputFailed, Written}
use Rattle.ospf_files.specs.declared.report.Report.{Report}
use Rattle.ospf_files.specs.declared.status.Failure.{Failure}
use Rattle.ospf_files.specs.declared.streams.FailedStreams.{FailedStreams}

-- the warnings of the report are on standard error, and its text is on standard output
pub record IsReportWritten (report : Report) (old new : Written) : Type 0 where
  pub warned : Appends old.err new.err (string_bytes report.warnings)
  pub printed : Appends old.out new.out (string_bytes report.text)

-- standard error failed: a beginning of the warnings is there, and nothing on standard output
pub record IsCutInWarnings (report : Report) (failed : FailedStreams) (cause : Failure)
    (old new : Written) : Type 0 where
  pub of_error : IsOfError cause
  pub failed_there : IsErrorFailed failed
  pub begun : IsBegun old.err new.err (string_bytes report.warnings)
  pub unprinted : new.out ≡ old.out

-- standard output failed: the warnings are on standard error, and a beginning of the text is there
pub record IsCutInText (report : Report) (failed : FailedStreams) (cause : Failure)
    (old new : Written) : Type 0 where
  pub of_output : IsOfOutput cause
  pub failed_there : IsOutputFailed failed
  pub warned : Appends old.err new.err (string_bytes report.warnings)
  pub begun : IsBegun old.out new.out (string_bytes report.text)

-- there was no report, and nothing is written; or a stream failed while it was printed
abbrev pub IsCutBy : Result Report Failure → FailedStreams → Failure → Written → Written → Type 0
IsCutBy (Ok report) failed cause old new =
    IsCutInWarnings report failed cause old new ⊎ IsCutInText report failed cause old new
IsCutBy (Err failure) failed cause old new =
    (cause ≡ failure) × (new.err ≡ old.err) × (new.out ≡ old.out)

-- the line of the failure is on standard error, or where that stream failed, a beginning of it
pub record IsLineWritten (failed : FailedStreams) (cause : Failure) (old new : Option (List ℕ))
    : Type 0 where
  pub begun : IsBegun old new (failure_line cause)
  pub whole : (IsErrorFailed failed → ⊥) → Appends old new (failure_line cause)

-- a failure ended it: its line is written last, and the status is that of the failure
pub record IsReportEnded (report : Result Report Failure) (failed : FailedStreams)
    (old new : Written) (status : ℕ) : Type 0 where
  pub cause : Failure
  pub failed_then : FailedStreams
  -- what was on standard error before that line
  pub err_then : Option (List ℕ)
  pub cut : IsCutBy report failed_then cause old (record new { err = err_then })
  pub line : IsLineWritten failed cause err_then new.err
  pub status_is : status ≡ code_of (failure_status cause)

-- the report is written whole, and the status is the report's
pub record IsReportDone (report : Result Report Failure) (old new : Written) (status : ℕ)
    : Type 0 where
  pub done : Report
  pub report_is : report ≡ Ok done
  pub written : IsReportWritten done old new
  pub status_is : status ≡ done.status

-- how the printing of a report ends, where these streams failed
abbrev pub IsReportPrintedBy
    : FailedStreams → Result Report Failure → Written → Written → ℕ → Type 0
IsReportPrintedBy failed report old new status =
    IsReportDone report old new status ⊎ IsReportEnded report failed old new status

-- how the printing of a report ends: it is written whole; or a failure ended it, before it or in
-- it, and the failure's line is written last, as far as standard error takes it
abbrev pub IsReportPrinted : Result Report Failure → Written → Written → ℕ → Type 0
IsReportPrinted report old new status =
    (failed : FailedStreams) × IsReportPrintedBy failed report old new status
