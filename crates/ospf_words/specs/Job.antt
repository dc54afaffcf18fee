-- Why the program's words ask for nothing that can be done.
use Rattle.std.specs.Prelude.{◌≡◌, ◌≢◌, ◌⊎◌, ◌++◌, ℕ, List, Option, ⊤, codes, string_bytes}
use Rattle.std.specs.Io.KnownBytes.{Appends}
use Rattle.clap.specs.Words.{kind_of}
use Rattle.clap.specs.declared.error.kind.ErrorKind.TheVariants.{DisplayHelp, DisplayVersion, OutOfMemory}
use Rattle.clap.specs.declared.error.Error.{Error}
use Rattle.ospf_words.specs.declared.jobs.JobFault.{JobFault}
use Rattle.ospf_words.specs.declared.jobs.JobFault.TheVariants as fault
use Rattle.ospf_files.specs.declared.status.Status.{Status}
use Rattle.ospf_files.specs.declared.status.Status.TheVariants as status

-- the status that a fault ends with: help and the version are what was asked for
abbrev pub HasStatus : JobFault → Status → Type 0
HasStatus (fault.Words e) s =
    (((kind_of e ≡ DisplayHelp) ⊎ (kind_of e ≡ DisplayVersion)) × (s ≡ status.Done))
    ⊎ ((kind_of e ≢ DisplayHelp) × (kind_of e ≢ DisplayVersion) × (s ≡ status.Words))
HasStatus (fault.Address word) s = s ≡ status.Words
HasStatus fault.Memory s = s ≡ status.Memory

-- help or the version is what was asked for
abbrev pub IsHelp : JobFault → Type 0
IsHelp (fault.Words e) = (kind_of e ≡ DisplayHelp) ⊎ (kind_of e ≡ DisplayVersion)
IsHelp _ = ⊥

-- the line about a word that is no address
abbrev pub address_line : List ℕ → List ℕ
address_line word = word ++ codes ": not an address\n"

-- what is printed on standard error for words that are refused, except for the texts of `clap`
abbrev pub IsToldOf : JobFault → Option (List ℕ) → Option (List ℕ) → Type 0
IsToldOf (fault.Address word) old new = Appends old new (address_line (string_bytes word))
IsToldOf _ old new = ⊤

-- the fault of words that must be values: P holds for the word that it names, unless memory ran out
abbrev pub IsFaultOfValue : (List ℕ → Type 0) → JobFault → Type 0
IsFaultOfValue P (fault.Words e) = ⊥
IsFaultOfValue P (fault.Address word) = P (string_bytes word)
IsFaultOfValue P fault.Memory = ⊤

-- the fault names no value
abbrev pub IsFaultOfNoValue : JobFault → Type 0
IsFaultOfNoValue (fault.Address word) = ⊥
IsFaultOfNoValue _ = ⊤

-- what an error of `clap` becomes: out of memory is reported as that
abbrev pub IsFaultOfWords : Error → JobFault → Type 0
IsFaultOfWords e f =
    ((kind_of e ≡ OutOfMemory) × (f ≡ fault.Memory))
    ⊎ ((kind_of e ≢ OutOfMemory) × (f ≡ fault.Words e))
