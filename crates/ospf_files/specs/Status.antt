-- Exit statuses, and why the program ends early.
use Rattle.std.specs.Prelude.{ℕ, List, ◌++◌, codes}
use Rattle.ospf_files.specs.declared.status.Failure.{Failure}
use Rattle.ospf_files.specs.declared.status.Failure.TheVariants as failure
use Rattle.ospf_files.specs.declared.status.Status.{Status}
use Rattle.ospf_files.specs.declared.status.Status.TheVariants.{Done, Words, Refused, Memory, Stream}

-- the number of a status
abbrev pub code_of : Status → ℕ
code_of Done = 0
code_of Words = 2
code_of Refused = 3
code_of Memory = 4
code_of Stream = 5

-- the status that a failure ends with
abbrev pub failure_status : Failure → Status
failure_status failure.Memory = Memory
failure_status _ = Stream

-- a failure as it is printed
abbrev pub program_failure_text : Failure → List ℕ
program_failure_text failure.Memory = codes "out of memory"
program_failure_text failure.Input = codes "standard input: not read"
program_failure_text failure.Output = codes "standard output: not written"
program_failure_text failure.Error = codes "standard error: not written"
program_failure_text failure.Closed = codes "the published table is closed"

-- the line of a failure
abbrev pub failure_line : Failure → List ℕ
failure_line failure = program_failure_text failure ++ codes "\n"
