-- Findings as values of JSON.
use Rattle.std.proofs.Common.{◌≡◌, ◌∙◌, ◌&&◌, ◌<◌, ◌+◌, ◌∷◌, ◌++◌, ℕ, Bool, false, not, List, [], Option, None, Some, Result, Ok, Err, IfErr, IfOk, OnErr, OnOk, ap, get_or, length, map, refl, sym, take}
use Rattle.std.specs.List.{list_any}
use Rattle.std.specs.Io.KnownBytes.{Appends}
use Rattle.std.proofs.lemmas.List.{take_more}
use Rattle.std.proofs.lemmas.List.Folds.{list_any-append}
use Rattle.serde_json.specs.View.{items_of}
use Rattle.serde_json.specs.Written.{has_float, items_have_float}
use Rattle.ospf_config.specs.declared.config.Config.{Config}
use Rattle.ospf_config.specs.declared.interface.Port.{Port}
use Rattle.ospf_files.specs.Listed.{AreConfigs}
use Rattle.ospf_files.specs.Streams.{IsBegun, IsOutputCut}
use Rattle.ospf_files.specs.declared.files.NamedFile.{NamedFile}
use Rattle.ospf_files.specs.declared.status.Failure.{Failure}
use Rattle.ospf_files.specs.declared.streams.FailedStreams.{FailedStreams}
use Rattle.ospf_plan.specs.Parts.{AreFindings}
use Rattle.ospf_plan.specs.Shown.{is_note}
use Rattle.ospf_plan.specs.declared.ends.LinkEnd.{LinkEnd}
use Rattle.ospf_plan.specs.declared.fault.AreaFault.{AreaFault}
use Rattle.ospf_plan.specs.declared.fault.AreaFault.TheVariants as fault
use Rattle.ospf_plan.specs.declared.finding.Finding.{Finding}
use Rattle.ospf_check.proofs.AreaWritten.{both_notes}
use Rattle.ospf_check.specs.Area.{is_fault, name_at}
use Rattle.ospf_check.specs.Json.{IsAreaPrinted, IsPrintCut, at_line, finding_data, findings_line, other_data, port_data, side_data}

-- one finding more, and whether all are notes
pub notes_next : (fs : List Finding) (i : ℕ) (f : Finding) (sound : Bool) → i < length fs → f ≡ get_or fs i f → sound ≡ not (list_any is_fault (take i fs))
    → (sound && is_note f.fault) ≡ not (list_any is_fault (take (i + 1) fs))
notes_next fs i f sound within at so_far =
    let more : take (i + 1) fs ≡ take i fs ++ f ∷ [] = take_more fs i f within ∙ ap (λ last. take i fs ++ last ∷ []) (sym at) in
    ap (λ b. b && is_note f.fault) so_far ∙ both_notes (list_any is_fault (take i fs)) (is_note f.fault)
    ∙ ap not (sym (list_any-append is_fault (take i fs) (f ∷ []))) ∙ ap (λ gs. not (list_any is_fault gs)) (sym more)

-- ---- no value is a float

port_plain : (port : Option Port) → has_float (port_data port) ≡ false
port_plain None = refl
port_plain (Some port) = refl

side_plain : (f : AreaFault) (e : LinkEnd) (name : List ℕ) → has_float (side_data f e name) ≡ false
side_plain fault.SameRouter e name = refl
side_plain fault.SameAddress e name = refl
side_plain fault.Area e name = refl
side_plain fault.Kind e name = refl
side_plain fault.Hello e name = refl
side_plain fault.Dead e name = refl
side_plain fault.Mtu e name = refl
side_plain fault.Mask e name = refl
side_plain fault.TooManyRouters e name = refl
side_plain fault.NoDr e name = refl
side_plain fault.OneSided e name = rw (port_plain e.port) refl
side_plain fault.Cost e name = refl
side_plain fault.NoNeighbor e name = refl
side_plain fault.Delay e name = refl
side_plain fault.SamePort e name = rw (port_plain e.port) refl
side_plain fault.WrongSubnetPeer e name = rw (port_plain e.port) refl
side_plain (fault.UnknownPeer peer) e name = refl
side_plain fault.Partitioned e name = refl
side_plain fault.Unheard e name = rw (port_plain e.port) refl
side_plain fault.LoneDr e name = refl

other_plain : (f : AreaFault) (e : LinkEnd) (name : List ℕ) → has_float (other_data f e name) ≡ false
other_plain fault.SameRouter e name = side_plain fault.SameRouter e name
other_plain fault.SameAddress e name = side_plain fault.SameAddress e name
other_plain fault.Area e name = side_plain fault.Area e name
other_plain fault.Kind e name = side_plain fault.Kind e name
other_plain fault.Hello e name = side_plain fault.Hello e name
other_plain fault.Dead e name = side_plain fault.Dead e name
other_plain fault.Mtu e name = side_plain fault.Mtu e name
other_plain fault.Mask e name = side_plain fault.Mask e name
other_plain fault.TooManyRouters e name = side_plain fault.TooManyRouters e name
other_plain fault.NoDr e name = side_plain fault.NoDr e name
other_plain fault.OneSided e name = side_plain fault.OneSided e name
other_plain fault.Cost e name = side_plain fault.Cost e name
other_plain fault.NoNeighbor e name = refl
other_plain fault.Delay e name = side_plain fault.Delay e name
other_plain fault.SamePort e name = side_plain fault.SamePort e name
other_plain fault.WrongSubnetPeer e name = side_plain fault.WrongSubnetPeer e name
other_plain (fault.UnknownPeer peer) e name = refl
other_plain fault.Partitioned e name = side_plain fault.Partitioned e name
other_plain fault.Unheard e name = side_plain fault.Unheard e name
other_plain fault.LoneDr e name = refl

pub finding_plain : (files : List NamedFile) (f : Finding) → has_float (finding_data files f) ≡ false
finding_plain files f = rw (side_plain f.fault f.here (name_at files f.here.file), other_plain f.fault f.other (name_at files f.other.file)) refl

pub findings_plain : (files : List NamedFile) (fs : List Finding) → items_have_float (items_of (map (finding_data files) fs)) ≡ false
findings_plain files [] = refl
findings_plain files (f ∷ fs) = rw (finding_plain files f, findings_plain files fs) refl

-- ---- what is printed

module _ (files : List NamedFile) (configs : List Config) (failed : FailedStreams) (a b : Option (List ℕ)) (fs : List Finding) (are : AreFindings configs fs) where
  pub area_printed : (r : Result Bool Failure) → AreConfigs files configs → IfOk r (λ sound. sound ≡ not (list_any is_fault fs)) → OnOk r (Appends a b (findings_line files fs))
      → IfOk r (λ sound. IsAreaPrinted files sound a b)
  area_printed (Ok sound) hold is written = record { configs = configs; are = hold; findings = fs; are_findings = are; sound_is = is; written = written }
  area_printed (Err e) hold is written = tt

  pub area_cut : (r : Result Bool Failure) → OnErr r (IsBegun a b (findings_line files fs)) → IfErr r (IsOutputCut failed) → IfErr r (IsPrintCut files configs failed a b)
  area_cut (Ok sound) begun cut = tt
  area_cut (Err e) begun cut = at_line fs are begun cut
