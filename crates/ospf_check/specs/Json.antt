-- What is wrong between the configurations of one area as a value of JSON (RFC 8259).
use Rattle.std.specs.Prelude.{◌≡◌, not, ℕ, Bool, true, false, List, ◌++◌, map, Option, None, Some, codes, decimal}
use Rattle.std.specs.List.{list_any}
use Rattle.std.specs.Io.KnownBytes.{Appends}
use Rattle.serde_json.specs.Data.{Data, array, boolean, null, number, object, string, unsigned, member, no_members}
use Rattle.serde_json.specs.View.{items_of}
use Rattle.serde_json.specs.Written.{compact_text}
use Rattle.ospf_base.specs.Text.{number_text}
use Rattle.ospf_config.specs.Texts.{kind_text}
use Rattle.ospf_config.specs.declared.config.Config.{Config}
use Rattle.ospf_config.specs.declared.interface.Port.{Port}
use Rattle.ospf_files.specs.Listed.{AreConfigs}
use Rattle.ospf_files.specs.Status.{failure_line, failure_status}
use Rattle.ospf_files.specs.Streams.{IsBegun, IsOutputCut, IsTold as IsFailureTold, Written, written_on}
use Rattle.ospf_files.specs.declared.files.NamedFile.{NamedFile}
use Rattle.ospf_files.specs.declared.status.Failure.{Failure}
use Rattle.ospf_files.specs.declared.status.Status.{Status}
use Rattle.ospf_files.specs.declared.streams.FailedStreams.{FailedStreams}
use Rattle.ospf_plan.specs.Parts.{AreFindings}
use Rattle.ospf_plan.specs.Shown.{area_fault_text, is_note, meaning_text}
use Rattle.ospf_plan.specs.declared.ends.LinkEnd.{LinkEnd}
use Rattle.ospf_plan.specs.declared.fault.AreaFault.{AreaFault}
use Rattle.ospf_plan.specs.declared.fault.AreaFault.TheVariants as fault
use Rattle.ospf_plan.specs.declared.finding.Finding.{Finding}
use Rattle.ospf_files.specs.declared.telling.Telling.TheVariants as telling
use Rattle.ospf_check.specs.Area.{is_fault, name_at}
use Rattle.ospf_check.specs.Checked.{IsCheckCutShort, IsWritten}

-- ---- a finding

-- the key that a fault is about
abbrev pub key_text : AreaFault → List ℕ
key_text fault.SameRouter = codes "router_id"
key_text fault.Partitioned = codes "router_id"
key_text fault.Area = codes "area"
key_text fault.Kind = codes "kind"
key_text fault.Hello = codes "hello"
key_text fault.Dead = codes "dead"
key_text fault.Mtu = codes "mtu"
key_text fault.NoDr = codes "priority"
key_text fault.LoneDr = codes "priority"
key_text fault.OneSided = codes "port"
key_text fault.Cost = codes "cost"
key_text fault.Delay = codes "transmit_delay"
key_text fault.SamePort = codes "port"
key_text fault.WrongSubnetPeer = codes "port"
key_text fault.Unheard = codes "port"
key_text (fault.UnknownPeer peer) = codes "peers"
key_text _ = codes "address"

-- the port of an interface, if it has one
abbrev pub port_data : Option Port → Data
port_data None = null
port_data (Some port) = number (unsigned port.number)

-- its address, and the length of its prefix
abbrev pub prefix_data : LinkEnd → Data
prefix_data e = string (number_text e.address.address.0 ++ codes "/" ++ decimal e.address.length)

-- what an interface has at this key
abbrev pub value_data : AreaFault → LinkEnd → Data
value_data fault.SameRouter e = string (number_text e.router.0)
value_data fault.Partitioned e = string (number_text e.router.0)
value_data fault.Area e = string (number_text e.area.0)
value_data fault.Kind e = string (kind_text e.kind)
value_data fault.Hello e = number (unsigned e.hello)
value_data fault.Dead e = number (unsigned e.dead)
value_data fault.Mtu e = number (unsigned e.mtu)
value_data fault.NoDr e = number (unsigned e.priority)
value_data fault.LoneDr e = number (unsigned e.priority)
value_data fault.OneSided e = port_data e.port
value_data fault.Cost e = number (unsigned e.cost)
value_data fault.Delay e = number (unsigned e.transmit_delay)
value_data fault.SamePort e = port_data e.port
value_data fault.WrongSubnetPeer e = port_data e.port
value_data fault.Unheard e = port_data e.port
value_data (fault.UnknownPeer peer) e = number (unsigned peer)
value_data _ e = prefix_data e

-- the number of the interface, where the key is one of an interface
abbrev pub place_data : AreaFault → LinkEnd → Data
place_data fault.SameRouter e = null
place_data fault.Partitioned e = null
place_data _ e = number (unsigned e.link)

-- what an interface has, and where, by the name of its file
abbrev pub side_data : AreaFault → LinkEnd → List ℕ → Data
side_data f e name =
    object
    (member (codes "file") (string name)
    (member (codes "interface") (place_data f e)
    (member (codes "key") (string (key_text f))
    (member (codes "value") (value_data f e) no_members))))

-- what the other interface has, where there is one
abbrev pub other_data : AreaFault → LinkEnd → List ℕ → Data
other_data fault.NoNeighbor e name = null
other_data (fault.UnknownPeer peer) e name = null
other_data fault.LoneDr e name = null
other_data f e name = side_data f e name

-- the number and the name of the fault, what follows from it, whether
-- it is a note, and the interfaces
abbrev pub told_data : AreaFault → Data → Data → Data
told_data f here other =
    object
    (member (codes "code") (string (area_fault_text f))
    (member (codes "here") here
    (member (codes "meaning") (string (meaning_text f))
    (member (codes "note") (boolean (is_note f))
    (member (codes "other") other no_members)))))

-- the object of a finding
abbrev pub finding_data : List NamedFile → Finding → Data
finding_data files f =
    told_data f.fault (side_data f.fault f.here (name_at files f.here.file))
    (other_data f.fault f.other (name_at files f.other.file))

-- the findings in their order
abbrev pub findings_data : List NamedFile → List Finding → Data
findings_data files findings = array (items_of (map (finding_data files) findings))

-- as they are printed, on a line
abbrev pub findings_line : List NamedFile → List Finding → List ℕ
findings_line files findings = compact_text (findings_data files findings) ++ codes "\n"

-- ---- what is printed

-- the files hold configurations, and what is wrong between these is printed,
-- and whether nothing is but notes
pub record IsAreaPrinted (files : List NamedFile) (sound : Bool) (out_old out_new : Option (List ℕ))
    : Type 0 where
  pub configs : List Config
  pub are : AreConfigs files configs
  pub findings : List Finding
  pub are_findings : AreFindings configs findings
  pub sound_is : sound ≡ not (list_any is_fault findings)
  pub written : Appends out_old out_new (findings_line files findings)

-- files that are refused are reported on standard error; if all are accepted, what is wrong between
-- them is printed. Reports on accepted files go to another stream
pub data IsJson (files : List NamedFile) : Bool → (old new : Written) → Type 0 where
  one_by_one : {b c : Option (List ℕ)} {old new : Written}
      → IsWritten telling.Verdict files false (record old { out = b }) (record new { out = c })
      → new.out ≡ old.out → IsJson files false old new
  together : {sound : Bool} {b c : Option (List ℕ)} {old new : Written}
      → IsWritten telling.Verdict files true (record old { out = b }) (record new { out = c })
      → IsAreaPrinted files sound old.out new.out → IsJson files sound old new

-- ---- where it ends early

-- nothing was printed, or a beginning of it was
pub data IsPrintCut (files : List NamedFile) (configs : List Config) (failed : FailedStreams)
    (out_old out_new : Option (List ℕ)) : Failure → Type 0 where
  at_none : {x : Failure} → out_new ≡ out_old → IsOutputCut failed x
      → IsPrintCut files configs failed out_old out_new x
  at_line : {x : Failure} (findings : List Finding) → AreFindings configs findings
      → IsBegun out_old out_new (findings_line files findings) → IsOutputCut failed x
      → IsPrintCut files configs failed out_old out_new x

-- and last what failed, as far as that could be written
pub record IsPrintCutShort (files : List NamedFile) (configs : List Config) (failed : FailedStreams)
    (old new : Written) (status : Status) : Type 0 where
  pub cause : Failure
  pub failed_then : FailedStreams
  pub cut : IsPrintCut files configs failed_then old.out new.out cause
  pub last : IsFailureTold failed_then failed old.err new.err (failure_line cause)
  pub status_is : status ≡ failure_status cause

-- it ended in one of the files, or after them
pub data IsJsonCut (files : List NamedFile) (failed : FailedStreams)
    : (old new : Written) → Status → Type 0 where
  in_a_file : {b c : Option (List ℕ)} {old new : Written} {status : Status}
      → IsCheckCutShort telling.Verdict files failed (record old { out = b })
      (record new { out = c }) status
      → new.out ≡ old.out → IsJsonCut files failed old new status
  behind_them :
      {b c err_then : Option (List ℕ)} {old new : Written} {status : Status} (configs : List Config)
      → IsWritten telling.Verdict files true (record old { out = b }) (written_on c err_then)
      → AreConfigs files configs
      → IsPrintCutShort files configs failed (record old { err = err_then }) new status
      → IsJsonCut files failed old new status
