-- What is written to streams, and which of them have failed.
use Rattle.std.specs.Prelude.{◌≡◌, ◌⊎◌, ◌++◌, ℕ, true, List, Option}
use Rattle.std.specs.Io.KnownBytes.{Appends}
use Rattle.ospf_files.specs.declared.status.Failure.{Failure}
use Rattle.ospf_files.specs.declared.status.Failure.TheVariants as failure
use Rattle.ospf_files.specs.declared.streams.FailedStreams.{FailedStreams}

-- what was written to standard output and to standard error, where that is known
pub record Written : Type 0 where
  pub out : Option (List ℕ)
  pub err : Option (List ℕ)

-- one text is on standard output, the other on standard error
abbrev pub written_on : Option (List ℕ) → Option (List ℕ) → Written
written_on out err = record { out = out; err = err }

-- a beginning of the text was written, or all of it
pub record IsBegun (old new : Option (List ℕ)) (text : List ℕ) : Type 0 where
  pub part : List ℕ
  pub rest : List ℕ
  pub parts : text ≡ part ++ rest
  pub written : Appends old new part

-- a write to standard output has failed, or a flush of it
abbrev pub IsOutputFailed : FailedStreams → Type 0
IsOutputFailed streams = streams.output ≡ true

-- a write to standard error has failed, or a flush of it
abbrev pub IsErrorFailed : FailedStreams → Type 0
IsErrorFailed streams = streams.error ≡ true

-- standard output has failed too
abbrev pub with_output : FailedStreams → FailedStreams
with_output streams = record streams { output = true }

-- standard error has failed too
abbrev pub with_error : FailedStreams → FailedStreams
with_error streams = record streams { error = true }

-- the text was printed, or standard error failed after a beginning of it
abbrev pub IsTold : FailedStreams → FailedStreams → Option (List ℕ) → Option (List ℕ) → List ℕ
    → Type 0
IsTold before after old new text =
    ((after ≡ before) × Appends old new text) ⊎ ((after ≡ with_error before) × IsBegun old new text)

-- how a failed write to standard output, or a failed flush of it, may be reported
abbrev pub IsOfOutput : Failure → Type 0
IsOfOutput f = (f ≡ failure.Memory) ⊎ (f ≡ failure.Output)

-- how a failed write to standard error, or a failed flush of it, may be reported
abbrev pub IsOfError : Failure → Type 0
IsOfError f = (f ≡ failure.Memory) ⊎ (f ≡ failure.Error)

-- what a failed read of standard input is
abbrev pub IsOfInput : Failure → Type 0
IsOfInput f = (f ≡ failure.Memory) ⊎ (f ≡ failure.Input)

-- why a text is not whole on standard output: memory ran out before a write, or
-- standard output is noted as failed
pub data IsOutputCut (failed : FailedStreams) : Failure → Type 0 where
  no_room : IsOutputCut failed failure.Memory
  no_output : {f : Failure} → IsOutputFailed failed → IsOfOutput f → IsOutputCut failed f

-- why a text is not whole on standard error: memory ran out before a write, or
-- standard error is noted as failed
pub data IsErrorCut (failed : FailedStreams) : Failure → Type 0 where
  no_text : IsErrorCut failed failure.Memory
  no_error : {f : Failure} → IsErrorFailed failed → IsOfError f → IsErrorCut failed f
