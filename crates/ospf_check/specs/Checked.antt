-- What the program says of configurations that it checks.
use Rattle.std.specs.Prelude.{◌≡◌, ◌⊎◌, ◌&&◌, nat_lt, ⊤, ℕ, Bool, true, false, List, [], ◌∷◌, ◌++◌, flat_map, IsUtf8, Option, None, Some, codes, decimal, string_bytes, if◌then◌else◌}
use Rattle.std.specs.List.{enumerate_from}
use Rattle.std.specs.Io.KnownBytes.{Appends}
use Rattle.ospf_config.specs.declared.config.Config.{Config}
use Rattle.ospf_config.specs.declared.interface.Interface.{Interface}
use Rattle.ospf_config.specs.Fault.{config_fault_text}
use Rattle.ospf_config.specs.declared.fault.ConfigFault.{ConfigFault}
use Rattle.ospf_config.specs.declared.fault.ConfigFault.TheVariants as config_fault
use Rattle.ospf_files.specs.AllFaults.{AreAllExplained, explains}
use Rattle.ospf_files.specs.Explained.{IsExplained, explained_text}
use Rattle.ospf_files.specs.declared.all.FaultExplained.{FaultExplained}
use Rattle.ospf_files.specs.declared.explained.Explained.{Explained}
use Rattle.ospf_files.specs.declared.telling.Telling.{Telling}
use Rattle.ospf_files.specs.declared.telling.Telling.TheVariants as telling
use Rattle.ospf_files.specs.Files.{IsConfigIn, IsRefusedFor, bytes_of, refused_line, text_in, unread_line}
use Rattle.ospf_files.specs.Listed.{AreConfigs}
use Rattle.ospf_plan.specs.Ends.{is_slow}
use Rattle.ospf_files.specs.Status.{failure_line, failure_status}
use Rattle.ospf_files.specs.Streams.{IsBegun, IsErrorFailed, IsOutputFailed, IsTold as IsFailureTold, Written}
use Rattle.ospf_files.specs.declared.files.NamedFile.{NamedFile}
use Rattle.ospf_files.specs.declared.status.Failure.{Failure}
use Rattle.ospf_files.specs.declared.status.Failure.TheVariants as failure
use Rattle.ospf_files.specs.declared.status.Status.{Status}
use Rattle.ospf_files.specs.declared.status.Status.TheVariants as status
use Rattle.ospf_files.specs.declared.streams.FailedStreams.{FailedStreams}
use Rattle.ospf_check.specs.declared.check.CheckFault.{CheckFault}
use Rattle.ospf_check.specs.declared.check.CheckFault.TheVariants as fault
use Rattle.ospf_check.specs.declared.warning.DelayShown.{DelayShown}
use Rattle.ospf_check.specs.declared.warning.LeafShown.{LeafShown}
use Rattle.ospf_base.specs.declared.interface.InterfaceKind.{InterfaceKind}
use Rattle.ospf_base.specs.declared.interface.InterfaceKind.TheVariants as kind
use Rattle.ospf_check.specs.declared.check.Verdict.{Verdict}
use Rattle.ospf_check.specs.declared.check.Verdict.TheVariants as verdict

-- the line of a file that is accepted
abbrev pub accepted_line : NamedFile → List ℕ
accepted_line file = string_bytes file.name ++ codes ": ok\n"

-- a line of what is said about a file, behind two spaces
abbrev pub indented_line : List ℕ → List ℕ
indented_line text = codes "  " ++ (text ++ codes "\n")

-- what follows from an InfTransDelay over MaxAgeDiff
abbrev pub delay_meaning : List ℕ
delay_meaning =
    codes
    "above 900, the acknowledgment of an LSA may count for another instance, and the LSA is retransmitted without end; at both ends of a point-to-point link, or at one interface of a broadcast network with others, neighbors may never reach Full (RFC 2328, sections 13.1 and 13.3)"

-- where an interface stands, and its InfTransDelay
abbrev pub link_text : ℕ → List ℕ
link_text link = codes "interface " ++ decimal link ++ codes ": "

-- what a warning of a `transmit_delay` begins with
abbrev pub transmit_delay_text : ℕ → List ℕ
transmit_delay_text delay = codes "transmit_delay " ++ decimal delay ++ codes ": "

-- what an interface is warned of: its InfTransDelay, by which an LSA becomes
-- another instance as it is sent
abbrev pub delay_text : DelayShown → List ℕ
delay_text shown = link_text shown.link ++ transmit_delay_text shown.delay ++ delay_meaning

-- the line of the warning, where there is cause
abbrev pub delay_line : ℕ × Interface → List ℕ
delay_line i =
    if is_slow i.1.transmit_delay
    then indented_line (delay_text (record { link = i.0; delay = i.1.transmit_delay }))
    else []

-- what follows where a router that passes LSAs over can become Designated Router
abbrev pub leaf_meaning : List ℕ
leaf_meaning =
    codes
    "as Designated Router it would not flood the LSAs that it passes over (other_lsas), so the other routers would get them late or not at all; set priority = 0 to keep it out of the election (RFC 2328, section 13.3)"

-- what a warning of a `priority` begins with
abbrev pub priority_text : ℕ → List ℕ
priority_text priority = codes "priority " ++ decimal priority ++ codes ": "

-- what an interface is warned of: its router priority, by which the
-- router can become Designated Router
abbrev pub leaf_text : LeafShown → List ℕ
leaf_text shown = link_text shown.link ++ priority_text shown.priority ++ leaf_meaning

-- the interface is on a broadcast network
abbrev pub is_broadcast_network : InterfaceKind → Bool
is_broadcast_network kind.Broadcast = true
is_broadcast_network kind.PointToPoint = false

-- the router can become Designated Router there, and passes LSAs over
abbrev pub can_lead : Bool → Interface → Bool
can_lead passes_over i = passes_over && (is_broadcast_network i.kind && nat_lt 0 i.priority)

-- the line of the warning, where there is cause
abbrev pub leaf_line : Bool → ℕ × Interface → List ℕ
leaf_line passes_over i =
    if can_lead passes_over i.1
    then indented_line (leaf_text (record { link = i.0; priority = i.1.priority }))
    else []

-- all that an interface is warned of
abbrev pub warning_line : Bool → ℕ × Interface → List ℕ
warning_line passes_over i = delay_line i ++ leaf_line passes_over i

-- what is printed after the line of an accepted file: nothing, unless explanations are wanted
abbrev pub warnings : Bool → Config → List ℕ
warnings explain config =
    if explain
    then flat_map (warning_line config.passes_over) (enumerate_from 0 config.interfaces.items)
    else []

-- the line of a place
abbrev pub place_line : Explained → List ℕ
place_line place = indented_line (explained_text place)

-- what is said about bytes that are refused: that they are not UTF-8, or a line
-- for each place that has the fault
pub data IsFaultSaid (bytes : List ℕ) (fault : ConfigFault) (more : List ℕ) : Type 0 where
  no_text : (IsUtf8 bytes → ⊥) → more ≡ indented_line (codes "the file is not UTF-8")
      → IsFaultSaid bytes fault more
  its_places : (places : List Explained) → IsUtf8 bytes → IsExplained bytes fault places
      → more ≡ flat_map place_line places → IsFaultSaid bytes fault more

-- the line of a place: the fault that it has, and then the place
abbrev pub faulty_place_line : ConfigFault → Explained → List ℕ
faulty_place_line fault place =
    indented_line (config_fault_text fault ++ codes ": " ++ explained_text place)

-- the lines of a fault, one for each of its places
abbrev pub fault_told : FaultExplained → List ℕ
fault_told told = flat_map (faulty_place_line told.fault) told.places.items

-- what is printed about all faults of bytes that are refused: that they are not UTF-8, or for each
-- fault that holds a line for each of its places
pub data AreFaultsSaid (bytes : List ℕ) (more : List ℕ) : Type 0 where
  no_text_at_all : (IsUtf8 bytes → ⊥)
      → more
      ≡ indented_line (config_fault_text config_fault.NotToml ++ codes ": the file is not UTF-8")
      → AreFaultsSaid bytes more
  each_fault : (faults : List FaultExplained) → IsUtf8 bytes → AreAllExplained bytes faults
      → more ≡ flat_map fault_told faults → AreFaultsSaid bytes more

-- what is printed after the line of a refused file: nothing, or about its fault, or about all its
-- faults
abbrev pub IsExplanation : Telling → List ℕ → ConfigFault → List ℕ → Type 0
IsExplanation telling.Verdict bytes fault more = more ≡ []
IsExplanation telling.Explained bytes fault more = IsFaultSaid bytes fault more
IsExplanation telling.AllExplained bytes fault more = AreFaultsSaid bytes more

-- a file that was read, whether it is accepted, and what is printed about it on standard output and
-- on standard error
pub data IsFileTold (how : Telling) : NamedFile → Bool → List ℕ → List ℕ → Type 0 where
  accepted_told : {file : NamedFile} (bytes : List ℕ) (config : Config) → bytes_of file ≡ Some bytes
      → IsConfigIn bytes config
      → IsFileTold how file true (accepted_line file ++ warnings (explains how) config) []
  refused_told : {file : NamedFile} (bytes : List ℕ) (fault : ConfigFault) (more : List ℕ)
      → bytes_of file ≡ Some bytes → IsRefusedFor bytes fault
      → IsExplanation how bytes fault more
      → IsFileTold how file false [] (refused_line file fault ++ more)

-- what is printed about a file is what was written
pub record IsWrittenOf (how : Telling) (file : NamedFile) (accepted : Bool) (old new : Written)
    : Type 0 where
  pub out : List ℕ
  pub err : List ℕ
  pub told : IsFileTold how file accepted out err
  pub out_written : Appends old.out new.out out
  pub err_written : Appends old.err new.err err

-- the files in order, whether all are accepted, and what is printed about them
pub data AreTold (how : Telling) : List NamedFile → Bool → List ℕ → List ℕ → Type 0 where
  no_file : AreTold how [] true [] []
  one_file : {file : NamedFile} {files : List NamedFile} {accepted all : Bool}
      {out outs err errs : List ℕ} → IsFileTold how file accepted out err
      → AreTold how files all outs errs
      → AreTold how (file ∷ files) (accepted && all) (out ++ outs) (err ++ errs)

-- what is printed about the files is what was written
pub record IsWritten (how : Telling) (files : List NamedFile) (all : Bool) (old new : Written)
    : Type 0 where
  pub out : List ℕ
  pub err : List ℕ
  pub told : AreTold how files all out err
  pub out_written : Appends old.out new.out out
  pub err_written : Appends old.err new.err err

-- the text of a verdict is what is printed about the file
abbrev pub IsVerdict : Telling → NamedFile → Verdict → Type 0
IsVerdict how file (verdict.Accepted text) = IsFileTold how file true (string_bytes text) []
IsVerdict how file (verdict.Refused text) = IsFileTold how file false [] (string_bytes text)

-- the configuration of a file is added after the others
abbrev pub IsConfigKept : NamedFile → List Config → List Config → Type 0
IsConfigKept file old new =
    (config : Config) × IsConfigIn (text_in file) config × (new ≡ old ++ config ∷ [])

-- a file that is accepted has its configuration kept
abbrev pub KeepsBy : Verdict → NamedFile → List Config → List Config → Type 0
KeepsBy (verdict.Accepted text) file old new = IsConfigKept file old new
KeepsBy (verdict.Refused text) file old new = ⊤

-- where configurations are kept, that of the file is
abbrev pub KeepsIf : Bool → NamedFile → List Config → List Config → Type 0
KeepsIf true file old new = IsConfigKept file old new
KeepsIf false file old new = ⊤

-- the configurations that are passed on, if all files are accepted
abbrev pub HoldConfigs : List NamedFile → Option (List Config) → Type 0
HoldConfigs files None = ⊤
HoldConfigs files (Some configs) = AreConfigs files configs

-- what is printed on standard error about a file that is not accepted
abbrev pub IsToldOnError : Telling → NamedFile → List ℕ → Type 0
IsToldOnError how file text =
    IsFileTold how file false [] text ⊎ ((bytes_of file ≡ None) × (text ≡ unread_line file))

-- a check ended in a file: what of it was written until then, and which stream failed
pub data EndsIn (how : Telling) (file : NamedFile) (failed : FailedStreams) (old new : Written)
    : CheckFault → Type 0 where
  not_read : bytes_of file ≡ None → new.out ≡ old.out → Appends old.err new.err (unread_line file)
      → EndsIn how file failed old new fault.NotRead
  no_memory : new.out ≡ old.out → new.err ≡ old.err
      → EndsIn how file failed old new (fault.Failure failure.Memory)
  no_output : (f : Failure) (text : List ℕ) → (f ≡ failure.Memory) ⊎ (f ≡ failure.Output)
      → IsOutputFailed failed → IsFileTold how file true text [] → IsBegun old.out new.out text
      → new.err ≡ old.err
      → EndsIn how file failed old new (fault.Failure f)
  no_error : (f : Failure) (text : List ℕ) → (f ≡ failure.Memory) ⊎ (f ≡ failure.Error)
      → IsErrorFailed failed → IsToldOnError how file text → new.out ≡ old.out
      → IsBegun old.err new.err text
      → EndsIn how file failed old new (fault.Failure f)

-- a check ended in one of the files, for this cause; all files before it were reported
pub record IsCutIn (how : Telling) (files : List NamedFile) (failed : FailedStreams)
    (old new : Written) (cause : CheckFault) : Type 0 where
  pub before : List NamedFile
  pub file : NamedFile
  pub after : List NamedFile
  pub files_are : files ≡ before ++ file ∷ after
  pub all : Bool
  pub between : Written
  pub told : IsWritten how before all old between
  pub ends : EndsIn how file failed between new cause

-- the status that a check ends with in a file
abbrev pub status_of : CheckFault → Status
status_of fault.NotRead = status.Stream
status_of (fault.Failure f) = failure_status f

-- what is printed last: for a failure, its line
abbrev pub IsLastTold : FailedStreams → FailedStreams → Option (List ℕ) → Option (List ℕ)
    → CheckFault → Type 0
IsLastTold before after old new fault.NotRead = (after ≡ before) × (new ≡ old)
IsLastTold before after old new (fault.Failure f) =
    IsFailureTold before after old new (failure_line f)

-- a check ended in one of the files: the files before it were reported in full, that one in part,
-- and last comes what failed, as far as that could be written
pub record IsCheckCutShort (how : Telling) (files : List NamedFile) (failed : FailedStreams)
    (old new : Written) (status : Status) : Type 0 where
  pub cause : CheckFault
  pub failed_then : FailedStreams
  pub err_then : Option (List ℕ)
  pub cut : IsCutIn how files failed_then old (record new { err = err_then }) cause
  pub last : IsLastTold failed_then failed err_then new.err cause
  pub status_is : status ≡ status_of cause
