-- What the report of a command over LSAs shows.
use Rattle.std.specs.Prelude.{◌≡◌, ℕ, List, string_bytes}
use Rattle.ospf_files.specs.declared.report.Report.{Report}

-- the report has these warnings for standard error, this text for standard output, and this status
pub record Shows (report : Report) (warnings text : List ℕ) (status : ℕ) : Type 0 where
  pub warnings_are : string_bytes report.warnings ≡ warnings
  pub text_is : string_bytes report.text ≡ text
  pub status_is : report.status ≡ status
