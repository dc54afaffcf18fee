-- How a simulation ends: its exit status.
use Rattle.std.specs.Prelude.{◌&&◌, ◌||◌, ℕ, Bool, true, false, Option, None, Some, if◌then◌else◌}
use Rattle.ospf_commands.specs.declared.simulation.Simulation.{Simulation}
use Rattle.ospf_files.specs.Status.{code_of, failure_status}
use Rattle.ospf_files.specs.declared.status.Failure.{Failure}
use Rattle.ospf_files.specs.declared.status.Status.{Status}
use Rattle.ospf_files.specs.declared.status.Status.TheVariants as status
use Rattle.ospf_sim.specs.declared.end.SimStatus.{SimStatus}
use Rattle.ospf_sim.specs.declared.end.SimStatus.TheVariants.{Ended, Unmet}

-- the exit code of a status
abbrev pub sim_exit_code : SimStatus → ℕ
sim_exit_code (Ended s) = code_of s
sim_exit_code Unmet = 1

-- a simulation failed its script: an expectation of a line was not met, or, in a strict simulation,
-- a line was refused
abbrev pub is_unmet_by : Bool → Simulation → Bool
is_unmet_by strict left = left.is_unmet || (strict && left.is_refused)

-- where all lines have run
abbrev pub end_of_lines : Bool → Option Simulation → SimStatus
end_of_lines strict None = Ended status.Done
end_of_lines strict (Some left) = if is_unmet_by strict left then Unmet else Ended status.Done

-- how a simulation ends that reached this status and left this. Its expectations count only if all
-- lines have run: an unread file, refused configurations, a script line that cannot be read, memory
-- and streams come first
abbrev pub sim_end_by : Bool → Status → Option Simulation → SimStatus
sim_end_by strict status.Done left = end_of_lines strict left
sim_end_by strict s left = Ended s

-- how it ends with the files that were requested: a failed journal comes first, out of memory or
-- because its file was not written, then a drawing or a capture that is not written
abbrev pub end_with_files : SimStatus → Option Failure → Bool → SimStatus
end_with_files end (Some journal) recorded = Ended (failure_status journal)
end_with_files end None false = Ended status.Stream
end_with_files end None true = end
