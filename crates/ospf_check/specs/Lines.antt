-- Checks as JSON of version 2 (RFC 8259), an object on each line.
use Rattle.std.specs.Prelude.{◌≡◌, not, ℕ, Bool, true, false, List, [], ◌∷◌, ◌++◌, flat_map, length, map, IsUtf8, Option, None, Some, is_some, codes, string_bytes, if◌then◌else◌}
use Rattle.std.specs.List.{enumerate_from, list_any}
use Rattle.std.specs.Io.KnownBytes.{Appends}
use Rattle.serde_json.specs.Data.{Data, array, null, number, object, string, unsigned, member, no_members}
use Rattle.serde_json.specs.View.{items_of}
use Rattle.serde_json.specs.Written.{compact_text}
use Rattle.ospf_config.specs.declared.config.Config.{Config}
use Rattle.ospf_config.specs.declared.interface.Interface.{Interface}
use Rattle.ospf_config.specs.Fault.{config_fault_text}
use Rattle.ospf_config.specs.declared.fault.ConfigFault.{ConfigFault}
use Rattle.ospf_config.specs.declared.fault.ConfigFault.TheVariants as config_fault
use Rattle.ospf_files.specs.AllFaults.{AreAllExplained}
use Rattle.ospf_files.specs.Explained.{explained_text}
use Rattle.ospf_files.specs.declared.all.FaultExplained.{FaultExplained}
use Rattle.ospf_files.specs.declared.explained.Explained.{Explained}
use Rattle.ospf_files.specs.declared.explained.Explained.TheVariants as said
use Rattle.ospf_files.specs.declared.explained.Section.{Section}
use Rattle.ospf_files.specs.declared.explained.Section.TheVariants as section
use Rattle.ospf_files.specs.declared.telling.Telling.{Telling}
use Rattle.ospf_files.specs.Files.{IsConfigIn, IsRefusedFor, text_in}
use Rattle.ospf_files.specs.Status.{failure_line, failure_status}
use Rattle.ospf_files.specs.Streams.{IsBegun, IsOutputCut, IsTold as IsFailureTold, Written, written_on}
use Rattle.ospf_files.specs.declared.files.NamedFile.{NamedFile}
use Rattle.ospf_files.specs.declared.status.Failure.{Failure}
use Rattle.ospf_files.specs.declared.status.Status.{Status}
use Rattle.ospf_files.specs.declared.streams.FailedStreams.{FailedStreams}
use Rattle.ospf_plan.specs.Ends.{is_slow}
use Rattle.ospf_plan.specs.Parts.{AreFindings}
use Rattle.ospf_plan.specs.declared.finding.Finding.{Finding}
use Rattle.ospf_check.specs.Area.{is_fault}
use Rattle.ospf_check.specs.Checked.{HoldConfigs, IsCheckCutShort, IsWritten, can_lead, delay_text, leaf_text}
use Rattle.ospf_check.specs.Json.{finding_data}

-- a value on a line
abbrev pub value_line : Data → List ℕ
value_line d = compact_text d ++ codes "\n"

-- values as an array
abbrev pub items_data : List Data → Data
items_data ds = array (items_of ds)

-- ---- the first line

-- how many files there are, no warnings, and the version
abbrev pub check_head_data : ℕ → Data
check_head_data count =
    object
    (member (codes "input")
    (object (member (codes "files") (number (unsigned count)) no_members))
    (member (codes "version") (number (unsigned 2))
    (member (codes "warnings") (items_data []) no_members)))

-- ---- a file

-- a fault: its number and name, the number of the host or interface that has the key, the key, the
-- line, and what is wrong in words
abbrev pub fault_data : ConfigFault → (host interface key line : Data) → List ℕ → Data
fault_data fault host interface key line text =
    object
    (member (codes "code") (string (config_fault_text fault))
    (member (codes "host") host
    (member (codes "interface") interface
    (member (codes "key") key
    (member (codes "line") line
    (member (codes "text") (string text) no_members))))))

-- the number of the host that has the key, if it is that of a host
abbrev pub host_data : Section → Data
host_data section.Top = null
host_data (section.Interface n) = null
host_data (section.Host n) = number (unsigned n)

-- the number of the interface that has the key, if it is that of an interface
abbrev pub interface_data : Section → Data
interface_data section.Top = null
interface_data (section.Interface n) = number (unsigned n)
interface_data (section.Host n) = null

-- the number of the host at a place
abbrev pub place_host : Explained → Data
place_host (said.Line n) = null
place_host (said.Key p) = host_data p.section

-- the number of the interface
abbrev pub place_interface : Explained → Data
place_interface (said.Line n) = null
place_interface (said.Key p) = interface_data p.section

-- the key
abbrev pub place_key : Explained → Data
place_key (said.Line n) = null
place_key (said.Key p) = string (string_bytes p.key)

-- the line, if the file is not TOML
abbrev pub toml_line : Explained → Data
toml_line (said.Line n) = number (unsigned n)
toml_line (said.Key p) = null

-- a place that has the fault
abbrev pub fault_place_data : ConfigFault → Explained → Data
fault_place_data fault e =
    fault_data fault (place_host e) (place_interface e) (place_key e) (toml_line e)
    (explained_text e)

-- bytes that are no text
abbrev pub no_text_data : Data
no_text_data = fault_data config_fault.NotToml null null null null (codes "the file is not UTF-8")

-- a fault, once for each of its places
abbrev pub fault_items : FaultExplained → List Data
fault_items f = map (fault_place_data f.fault) f.places.items

-- all faults of bytes that are refused: that they are no text, or each fault that holds
pub data AreFaultItems (bytes : List ℕ) (ds : List Data) : Type 0 where
  no_text : (IsUtf8 bytes → ⊥) → ds ≡ no_text_data ∷ [] → AreFaultItems bytes ds
  each_place : (faults : List FaultExplained) → IsUtf8 bytes → AreAllExplained bytes faults
      → ds ≡ flat_map fault_items faults → AreFaultItems bytes ds

-- a warning: the number of the interface, the key, what it is warned of in words, and the value
abbrev pub warning_data : ℕ → List ℕ → List ℕ → ℕ → Data
warning_data link key text value =
    object
    (member (codes "interface") (number (unsigned link))
    (member (codes "key") (string key)
    (member (codes "text") (string text)
    (member (codes "value") (number (unsigned value)) no_members))))

-- the warning of an InfTransDelay, where there is cause
abbrev pub delay_items : ℕ × Interface → List Data
delay_items i =
    if is_slow i.1.transmit_delay
    then warning_data i.0 (codes "transmit_delay")
    (delay_text (record { link = i.0; delay = i.1.transmit_delay }))
    i.1.transmit_delay
    ∷ []
    else []

-- the warning of a router priority, where there is cause
abbrev pub leaf_items : Bool → ℕ × Interface → List Data
leaf_items passes_over i =
    if can_lead passes_over i.1
    then warning_data i.0 (codes "priority")
    (leaf_text (record { link = i.0; priority = i.1.priority }))
    i.1.priority
    ∷ []
    else []

-- all that an interface is warned of
abbrev pub warning_items : Bool → ℕ × Interface → List Data
warning_items passes_over i = delay_items i ++ leaf_items passes_over i

-- all that the interfaces of a configuration are warned of
abbrev pub config_warnings : Config → List Data
config_warnings config =
    flat_map (warning_items config.passes_over) (enumerate_from 0 config.interfaces.items)

-- the faults of a file, its name, and its warnings
abbrev pub file_line_data : (faults : List Data) → List ℕ → (warnings : List Data) → Data
file_line_data faults name warnings =
    object
    (member (codes "faults") (items_data faults)
    (member (codes "file") (string name)
    (member (codes "warnings") (items_data warnings) no_members)))

-- a file that is accepted has no faults, and one that is refused has no warnings
pub data IsFileData (file : NamedFile) (d : Data) : Type 0 where
  accepted : (config : Config) → IsConfigIn (text_in file) config
      → d ≡ file_line_data [] (string_bytes file.name) (config_warnings config) → IsFileData file d
  refused : (fault : ConfigFault) (ds : List Data) → IsRefusedFor (text_in file) fault
      → AreFaultItems (text_in file) ds → d ≡ file_line_data ds (string_bytes file.name) []
      → IsFileData file d

-- it is on a line
abbrev pub IsFileLine : NamedFile → List ℕ → Type 0
IsFileLine file line = (d : Data) × IsFileData file d × (line ≡ value_line d)

-- the files in order, each on its line
pub data AreFileLines : List NamedFile → List ℕ → Type 0 where
  no_file : AreFileLines [] []
  one_more : {files : List NamedFile} {file : NamedFile} {lines line : List ℕ}
      → AreFileLines files lines → IsFileLine file line
      → AreFileLines (files ++ file ∷ []) (lines ++ line)

-- ---- all lines

-- a finding on a line
abbrev pub finding_line : List NamedFile → Finding → List ℕ
finding_line files f = value_line (finding_data files f)

-- what is wrong between the configurations in files on lines, and whether all of it are notes:
-- where they are of one area, and all files are accepted
abbrev pub AreTogether : Bool → List NamedFile → Option (List Config) → Bool → List ℕ → Type 0
AreTogether area files None sound text = (sound ≡ false) × (text ≡ [])
AreTogether false files (Some configs) sound text = (sound ≡ true) × (text ≡ [])
AreTogether true files (Some configs) sound text =
    (found : List Finding) × AreFindings configs found × (sound ≡ not (list_any is_fault found))
    × (text ≡ flat_map (finding_line files) found)

-- the first line, the lines of the files, and what is wrong between them
pub record AreCheckLines (area : Bool) (files : List NamedFile) (configs : Option (List Config))
    (sound : Bool) (text : List ℕ) : Type 0 where
  pub of_files : List ℕ
  pub are_files : AreFileLines files of_files
  pub together : List ℕ
  pub are_together : AreTogether area files configs sound together
  pub text_is : text ≡ value_line (check_head_data (length files)) ++ (of_files ++ together)

-- these lines are printed
abbrev pub IsTextPrinted : Bool → List NamedFile → Option (List Config) → Bool
    → (out_old out_new : Option (List ℕ)) → Type 0
IsTextPrinted area files configs sound out_old out_new =
    (text : List ℕ) × AreCheckLines area files configs sound text × Appends out_old out_new text

-- the files are reported as without JSON, of which another stream gets what is said of those that
-- are accepted; and the lines are printed
pub record IsLinesPrinted (how : Telling) (area : Bool) (files : List NamedFile) (sound : Bool)
    (old new : Written) : Type 0 where
  pub configs : Option (List Config)
  pub hold : HoldConfigs files configs
  pub other_old : Option (List ℕ)
  pub other_new : Option (List ℕ)
  pub reported :
      IsWritten how files (is_some configs) (record old { out = other_old })
      (record new { out = other_new })
  pub printed : IsTextPrinted area files configs sound old.out new.out

-- ---- where it ends early

-- nothing was printed, or a beginning of the lines
pub data IsTextCut (area : Bool) (files : List NamedFile) (configs : Option (List Config))
    (failed : FailedStreams) (out_old out_new : Option (List ℕ)) : Failure → Type 0 where
  at_none : {x : Failure} → out_new ≡ out_old → IsOutputCut failed x
      → IsTextCut area files configs failed out_old out_new x
  at_text : {x : Failure} (sound : Bool) (text : List ℕ)
      → AreCheckLines area files configs sound text → IsBegun out_old out_new text
      → IsOutputCut failed x
      → IsTextCut area files configs failed out_old out_new x

-- and last what failed, as far as that could be written
pub record IsLinesCutShort (area : Bool) (files : List NamedFile) (configs : Option (List Config))
    (failed : FailedStreams) (old new : Written) (status : Status) : Type 0 where
  pub cause : Failure
  pub failed_then : FailedStreams
  pub cut : IsTextCut area files configs failed_then old.out new.out cause
  pub last : IsFailureTold failed_then failed old.err new.err (failure_line cause)
  pub status_is : status ≡ failure_status cause

-- it ended in one of the files, and nothing was printed; or after them
pub data IsLinesCut (how : Telling) (area : Bool) (files : List NamedFile) (failed : FailedStreams)
    : (old new : Written) → Status → Type 0 where
  in_a_file : {b c : Option (List ℕ)} {old new : Written} {status : Status}
      → IsCheckCutShort how files failed (record old { out = b }) (record new { out = c }) status
      → new.out ≡ old.out → IsLinesCut how area files failed old new status
  behind_them :
      {b c err_then : Option (List ℕ)} {old new : Written} {status : Status}
      (configs : Option (List Config))
      → IsWritten how files (is_some configs) (record old { out = b }) (written_on c err_then)
      → HoldConfigs files configs
      → IsLinesCutShort area files configs failed (record old { err = err_then }) new status
      → IsLinesCut how area files failed old new status
