-- Journals of LSAs that are written to a file.
use Rattle.std.specs.Prelude.{ℕ, Bool, List, Option, Some, unwrap_or}
use Rattle.ospf_files.specs.declared.status.Failure.{Failure}
use Rattle.ospf_files.specs.declared.status.Failure.TheVariants as failure
use Rattle.ospf_files.specs.declared.streams.FailedStreams.{FailedStreams}

-- what is in its file, where that is known; whether its lines are JSON objects; whether a write or
-- a flush of the file, which counts as an output, has failed; and why it is written no more, if so
pub record LsaLogValue : Type 0 where
  pub contents : Option (List ℕ)
  pub is_json : Bool
  pub streams : FailedStreams
  pub failure : Option Failure

-- memory ran out before a line was known: nothing is written from then on. A failure before it
-- stays
abbrev pub unknown_lsas : LsaLogValue → LsaLogValue
unknown_lsas log = record log { failure = Some (unwrap_or log.failure failure.Memory) }
