-- What the program says of the configurations of one area, checked together.
use Rattle.std.specs.Prelude.{◌≡◌, ◌⊎◌, not, ℕ, Bool, true, false, List, [], ◌∷◌, ◌++◌, flat_map, Option, None, Some, codes, string_bytes, slice_get, if◌then◌else◌}
use Rattle.std.specs.List.{list_any}
use Rattle.std.specs.Io.KnownBytes.{Appends}
use Rattle.ospf_config.specs.declared.config.Config.{Config}
use Rattle.ospf_files.specs.Listed.{AreConfigs}
use Rattle.ospf_files.specs.Status.{failure_line, failure_status}
use Rattle.ospf_files.specs.Streams.{IsBegun, IsErrorFailed, IsOutputFailed, IsTold as IsFailureTold, Written}
use Rattle.ospf_files.specs.declared.files.NamedFile.{NamedFile}
use Rattle.ospf_files.specs.declared.status.Failure.{Failure}
use Rattle.ospf_files.specs.declared.status.Failure.TheVariants as failure
use Rattle.ospf_files.specs.declared.status.Status.{Status}
use Rattle.ospf_files.specs.declared.streams.FailedStreams.{FailedStreams}
use Rattle.ospf_plan.specs.Shown.{finding_text, is_note, meaning_text}
use Rattle.ospf_plan.specs.Parts.{AreFindings}
use Rattle.ospf_plan.specs.declared.finding.Finding.{Finding}
use Rattle.ospf_files.specs.AllFaults.{explains}
use Rattle.ospf_files.specs.declared.telling.Telling.{Telling}
use Rattle.ospf_check.specs.Checked.{IsCheckCutShort, IsWritten, indented_line}

-- ---- what is printed for a finding

-- the name of the file of a number
abbrev pub name_at : List NamedFile → ℕ → List ℕ
name_at files n = elim (slice_get files n) [ None ↦ [] | Some f ↦ string_bytes f.name ]

-- a finding in words
abbrev pub line_of : List NamedFile → Finding → List ℕ
line_of files f = finding_text f (name_at files f.here.file) (name_at files f.other.file)

-- its line, and a line of what follows from it where that is wanted
abbrev pub finding_lines : Bool → List NamedFile → Finding → List ℕ
finding_lines explain files f =
    (line_of files f ++ codes "\n")
    ++ (if explain then indented_line (meaning_text f.fault) else [])

-- what is printed for a finding on standard output: for a note, if explanations are wanted
abbrev pub note_lines : Bool → List NamedFile → Finding → List ℕ
note_lines explain files f =
    if is_note f.fault then (if explain then finding_lines true files f else []) else []

-- what is printed for it on standard error: for a fault
abbrev pub fault_lines : Bool → List NamedFile → Finding → List ℕ
fault_lines explain files f = if is_note f.fault then [] else finding_lines explain files f

-- the finding is a fault, and not only a note
abbrev pub is_fault : Finding → Bool
is_fault f = not (is_note f.fault)

-- ---- what is printed for all

-- the findings are printed in order, and `sound` says whether all are notes
pub record IsFindingsWritten (explain : Bool) (files : List NamedFile) (findings : List Finding)
    (sound : Bool) (old new : Written) : Type 0 where
  pub sound_is : sound ≡ not (list_any is_fault findings)
  pub out_written : Appends old.out new.out (flat_map (note_lines explain files) findings)
  pub err_written : Appends old.err new.err (flat_map (fault_lines explain files) findings)

-- the files hold configurations, and what is wrong between these is printed; `sound` says whether
-- there are only notes
pub record IsAreaTold (explain : Bool) (files : List NamedFile) (sound : Bool) (old new : Written)
    : Type 0 where
  pub configs : List Config
  pub are : AreConfigs files configs
  pub findings : List Finding
  pub are_findings : AreFindings configs findings
  pub told : IsFindingsWritten explain files findings sound old new

-- the files are reported one by one and, if all are accepted, what is wrong between them
pub data IsChecked (how : Telling) (files : List NamedFile)
    : Bool → (old new : Written) → Type 0 where
  one_by_one : {old new : Written} → IsWritten how files false old new
      → IsChecked how files false old new
  together : {sound : Bool} {old between new : Written} → IsWritten how files true old between
      → IsAreaTold (explains how) files sound between new → IsChecked how files sound old new

-- ---- where it ends early

-- the telling ended at a finding: what of it was written until then, and which stream failed
pub data EndsAtFinding (explain : Bool) (files : List NamedFile) (failed : FailedStreams)
    (f : Finding) (old new : Written) : Failure → Type 0 where
  at_memory : new.out ≡ old.out → new.err ≡ old.err
      → EndsAtFinding explain files failed f old new failure.Memory
  at_output : (x : Failure) → (x ≡ failure.Memory) ⊎ (x ≡ failure.Output) → IsOutputFailed failed
      → IsBegun old.out new.out (note_lines explain files f) → new.err ≡ old.err
      → EndsAtFinding explain files failed f old new x
  at_error : (x : Failure) → (x ≡ failure.Memory) ⊎ (x ≡ failure.Error) → IsErrorFailed failed
      → new.out ≡ old.out → IsBegun old.err new.err (fault_lines explain files f)
      → EndsAtFinding explain files failed f old new x

-- it ended at one of the findings; all findings before it were printed
pub record IsCutAtFinding (explain : Bool) (files : List NamedFile) (findings : List Finding)
    (failed : FailedStreams) (old new : Written) (x : Failure) : Type 0 where
  pub before : List Finding
  pub finding : Finding
  pub after : List Finding
  pub findings_are : findings ≡ before ++ finding ∷ after
  pub sound : Bool
  pub between : Written
  pub told : IsFindingsWritten explain files before sound old between
  pub ends : EndsAtFinding explain files failed finding between new x

-- memory ran out before anything was printed about the configurations, or it ended at a finding
pub data IsAreaCut (explain : Bool) (files : List NamedFile) (configs : List Config)
    (failed : FailedStreams) (old new : Written) : Failure → Type 0 where
  at_none : new.out ≡ old.out → new.err ≡ old.err
      → IsAreaCut explain files configs failed old new failure.Memory
  at_one : {x : Failure} (findings : List Finding) → AreFindings configs findings
      → IsCutAtFinding explain files findings failed old new x
      → IsAreaCut explain files configs failed old new x

-- all files were reported, and the report on what is between them was cut short; the cause comes
-- last, as far as it could be written
pub record IsAreaCutShort (explain : Bool) (files : List NamedFile) (configs : List Config)
    (failed : FailedStreams) (old new : Written) (status : Status) : Type 0 where
  pub cause : Failure
  pub failed_then : FailedStreams
  pub err_then : Option (List ℕ)
  pub cut : IsAreaCut explain files configs failed_then old (record new { err = err_then }) cause
  pub last : IsFailureTold failed_then failed err_then new.err (failure_line cause)
  pub status_is : status ≡ failure_status cause

-- the check ended in one of the files, or after them
pub data IsCheckCut (how : Telling) (files : List NamedFile) (failed : FailedStreams)
    : (old new : Written) → Status → Type 0 where
  in_a_file : {old new : Written} {status : Status}
      → IsCheckCutShort how files failed old new status → IsCheckCut how files failed old new status
  behind_them : {old between new : Written} {status : Status} (configs : List Config)
      → IsWritten how files true old between → AreConfigs files configs
      → IsAreaCutShort (explains how) files configs failed between new status
      → IsCheckCut how files failed old new status
