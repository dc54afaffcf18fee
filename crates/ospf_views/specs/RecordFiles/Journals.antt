-- Journals that are written to a file.
use Rattle.std.specs.Prelude.{ℕ, Bool, List, Option, Some, ◌++◌, codes, flat_map, unwrap_or, if◌then◌else◌}
use Rattle.ospf_base.specs.declared.ids.RouterId.{RouterId}
use Rattle.ospf_files.specs.declared.status.Failure.{Failure}
use Rattle.ospf_files.specs.declared.status.Failure.TheVariants as failure
use Rattle.ospf_files.specs.declared.streams.FailedStreams.{FailedStreams}
use Rattle.ospf_journal.specs.Lines.{journal_line}
use Rattle.ospf_journal.specs.Objects.{journal_object}
use Rattle.ospf_journal.specs.declared.change.RouterChange.{RouterChange}

-- what is in its file, where that is known; whether its lines are JSON objects; whether a write or
-- a flush of the file, which counts as an output, has failed; and why it is written no more, if so
pub record JournalValue : Type 0 where
  pub contents : Option (List ℕ)
  pub is_json : Bool
  pub streams : FailedStreams
  pub failure : Option Failure

-- memory ran out before a line was known: nothing is written from then on. A failure before it
-- stays
abbrev pub without_memory : JournalValue → JournalValue
without_memory j = record j { failure = Some (unwrap_or j.failure failure.Memory) }

-- a change of a router that has taken so many ticks, as the file has it
abbrev pub entry_text : Bool → ℕ → RouterId → RouterChange → List ℕ
entry_text is_json tick q change =
    (if is_json then journal_object tick q change else journal_line tick q change) ++ codes "\n"

-- its changes, one after another
abbrev pub entries_text : Bool → ℕ → RouterId → List RouterChange → List ℕ
entries_text is_json tick q changes = flat_map (entry_text is_json tick q) changes
