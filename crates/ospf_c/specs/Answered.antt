-- How a call hands over its answer to a caller outside Rattle.
use Rattle.std.specs.Prelude.{◌≡◌, ◌+◌, ◌<◌, ◌≤◌, ◌++◌, ℕ, List, [], Some, Result, Ok, Err, drop, length, string_bytes}
use Rattle.ospf_files.specs.Status.{code_of, failure_line, failure_status}
use Rattle.ospf_files.specs.Streams.{Written, written_on}
use Rattle.ospf_files.specs.declared.report.Report.{Report}
use Rattle.ospf_files.specs.declared.status.Failure.{Failure}
use Rattle.ospf_files.specs.declared.status.Failure.TheVariants as failure
use Rattle.ospf_c.specs.declared.answer.Answer.{Answer}

-- the sizes of the text and of the warnings are told with the status; both are at the beginning of
-- the memory, one after the other, if they have room there, and else the memory stays as it was
pub record IsAnswered (text warnings : List ℕ) (status : ℕ) (old new : List ℕ) (answer : Answer)
    : Type 0 where
  pub text_size : answer.text ≡ length text
  pub warnings_size : answer.warnings ≡ length warnings
  pub status_is : answer.status ≡ status
  pub written : length text + length warnings ≤ length old
      → new ≡ text ++ (warnings ++ drop (length text + length warnings) old)
  pub too_small : length old < length text + length warnings → new ≡ old

-- a report is answered; or, where there is none, the line of the failure as a warning, with the
-- status of the failure
abbrev pub IsHandedOver : Result Report Failure → List ℕ → List ℕ → Answer → Type 0
IsHandedOver (Ok report) old new answer =
    IsAnswered (string_bytes report.text) (string_bytes report.warnings) report.status old new
    answer
IsHandedOver (Err failure) old new answer =
    IsAnswered [] (failure_line failure) (code_of (failure_status failure)) old new answer

-- nothing on either stream
abbrev pub nothing : Written
nothing = written_on (Some []) (Some [])

-- this text on standard output, and these warnings on standard error
abbrev pub streams : List ℕ → List ℕ → Written
streams text warnings = written_on (Some text) (Some warnings)

-- an answer where nothing is asked, since memory ran out before
pub record IsNotAsked (text warnings : List ℕ) (code : ℕ) : Type 0 where
  pub no_text : text ≡ []
  pub line : warnings ≡ failure_line failure.Memory
  pub code_is : code ≡ code_of (failure_status failure.Memory)
