-- What is told of findings, one after the other.
use Rattle.std.proofs.Common.{◌≡◌, ◌⊎◌, ◌∙◌, ◌&&◌, ◌||◌, not, Bool, true, false, ap, sym, subst, ◌+◌, ◌<◌, ℕ, suc, List, [], ◌∷◌, ◌++◌, length, take, drop, get_or, flat_map, Option, Result, Ok, Err, IfErr, IfOk, OnErr, refl}
use Rattle.std.specs.List.{list_any}
use Rattle.std.specs.Prelude.{⊤}
use Rattle.std.proofs.lemmas.List.{take_more, flat_map_more, take-append-drop}
use Rattle.std.proofs.lemmas.List.Folds.{list_any-append}
use Rattle.std.proofs.Math.Seq.{drop-cons}
use Rattle.std.specs.Io.KnownBytes.{Appends}
use Rattle.ospf_files.proofs.Written.{both_written, nothing_written}
use Rattle.ospf_files.specs.declared.files.NamedFile.{NamedFile}
use Rattle.ospf_files.specs.Streams.{IsBegun, Written, with_error, with_output, written_on}
use Rattle.ospf_config.specs.declared.config.Config.{Config}
use Rattle.ospf_files.specs.declared.status.Failure.{Failure}
use Rattle.ospf_files.specs.declared.status.Failure.TheVariants as failure
use Rattle.ospf_files.specs.Listed.{AreConfigs}
use Rattle.ospf_plan.specs.Parts.{AreFindings}
use Rattle.ospf_files.specs.declared.streams.FailedStreams.{FailedStreams}
use Rattle.ospf_plan.specs.Shown.{is_note}
use Rattle.ospf_plan.specs.declared.finding.Finding.{Finding}
use Rattle.ospf_check.specs.Area.{EndsAtFinding, IsAreaCut, IsAreaTold, IsCutAtFinding, IsFindingsWritten, at_error, at_one, at_output, fault_lines, is_fault, note_lines}

pub no_findings : (explain : Bool) (files : List NamedFile) (now : Written) → IsFindingsWritten explain files [] true now now
no_findings explain files now = record { sound_is = refl; out_written = nothing_written now.out; err_written = nothing_written now.err }

pub both_notes : (a b : Bool) → (not a && b) ≡ not (a || (not b || false))
both_notes true true = refl
both_notes true false = refl
both_notes false true = refl
both_notes false false = refl

pub finding_written : (explain : Bool) (files : List NamedFile) (old between new : Written) (fs : List Finding) (i : ℕ) (f : Finding) (sound : Bool) → i < length fs → f ≡ get_or fs i f
    → IsFindingsWritten explain files (take i fs) sound old between → Appends between.out new.out (note_lines explain files f) → Appends between.err new.err (fault_lines explain files f)
    → IsFindingsWritten explain files (take (i + 1) fs) (sound && is_note f.fault) old new
finding_written explain files old between new fs i f sound within at so_far notes faults =
    let more : take (i + 1) fs ≡ take i fs ++ f ∷ [] = take_more fs i f within ∙ ap (λ last. take i fs ++ last ∷ []) (sym at) in
    record {
      sound_is = ap (λ b. b && is_note f.fault) so_far.sound_is ∙ both_notes (list_any is_fault (take i fs)) (is_note f.fault)
          ∙ ap not (sym (list_any-append is_fault (take i fs) (f ∷ []))) ∙ ap (λ gs. not (list_any is_fault gs)) (sym more);
      out_written = subst (Appends old.out new.out) (flat_map_more (note_lines explain files) [] (take i fs) f ∙ ap (flat_map (note_lines explain files)) (sym more))
          (both_written old.out between.out new.out _ _ so_far.out_written notes);
      err_written = subst (Appends old.err new.err) (flat_map_more (fault_lines explain files) [] (take i fs) f ∙ ap (flat_map (fault_lines explain files)) (sym more))
          (both_written old.err between.err new.err _ _ so_far.err_written faults);
    }

-- the telling ended at a finding, behind findings that were told
pub cut_at : (explain : Bool) (files : List NamedFile) (old between new : Written) (fs : List Finding) (i : ℕ) (f : Finding) (sound : Bool) (failed : FailedStreams) (cause : Failure) → i < length fs
    → f ≡ get_or fs i f → IsFindingsWritten explain files (take i fs) sound old between → EndsAtFinding explain files failed f between new cause → IsCutAtFinding explain files fs failed old new cause
cut_at explain files old between new fs i f sound failed cause within at so_far ends = record {
  before = take i fs;
  finding = f;
  after = drop (suc i) fs;
  findings_are = sym (ap (λ g. take i fs ++ g ∷ drop (suc i) fs) at ∙ ap (λ rest. take i fs ++ rest) (sym (drop-cons fs i f within)) ∙ take-append-drop i fs);
  sound = sound;
  between = between;
  told = so_far;
  ends = ends;
}

-- standard output failed at a note
pub output_ended : (explain : Bool) (files : List NamedFile) (f : Finding) (before failed : FailedStreams) (a b x : Option (List ℕ)) (text : List ℕ) (r : Result ⊤ Failure)
    → IfErr r (λ why. (why ≡ failure.Memory) ⊎ (why ≡ failure.Output)) → OnErr r (failed ≡ with_output before) → OnErr r (IsBegun a b text) → text ≡ note_lines explain files f
    → IfErr r (EndsAtFinding explain files failed f (written_on a x) (written_on b x))
output_ended explain files f before failed a b x text (Ok done) why failed_is begun is = tt
output_ended explain files f before failed a b x text (Err e) why failed_is begun is =
    at_output e why (ap (λ (s : FailedStreams). s.output) failed_is) (subst (IsBegun a b) is begun) refl

-- standard error failed at a fault
pub error_ended : (explain : Bool) (files : List NamedFile) (f : Finding) (before failed : FailedStreams) (a x y : Option (List ℕ)) (text : List ℕ) (r : Result ⊤ Failure)
    → IfErr r (λ why. (why ≡ failure.Memory) ⊎ (why ≡ failure.Error)) → OnErr r (failed ≡ with_error before) → OnErr r (IsBegun x y text) → text ≡ fault_lines explain files f
    → IfErr r (EndsAtFinding explain files failed f (written_on a x) (written_on a y))
error_ended explain files f before failed a x y text (Ok done) why failed_is begun is = tt
error_ended explain files f before failed a x y text (Err e) why failed_is begun is =
    at_error e why (ap (λ (s : FailedStreams). s.error) failed_is) refl (subst (IsBegun x y) is begun)

-- the telling ended at one of the findings of the configurations
pub area_ended : (explain : Bool) (files : List NamedFile) (configs : List Config) (failed : FailedStreams) (old new : Written) (fs : List Finding) (r : Result Bool Failure)
    → AreFindings configs fs → IfErr r (IsCutAtFinding explain files fs failed old new) → IfErr r (IsAreaCut explain files configs failed old new)
area_ended explain files configs failed old new fs (Ok sound) are cut = tt
area_ended explain files configs failed old new fs (Err e) are cut = at_one fs are cut

-- the findings of the configurations in the files are told
pub area_told : (explain : Bool) (files : List NamedFile) (configs : List Config) (old new : Written) (fs : List Finding) (r : Result Bool Failure)
    → AreConfigs files configs → AreFindings configs fs → IfOk r (λ sound. IsFindingsWritten explain files fs sound old new) → IfOk r (λ sound. IsAreaTold explain files sound old new)
area_told explain files configs old new fs (Ok sound) are found told = record { configs = configs; are = are; findings = fs; are_findings = found; told = told }
area_told explain files configs old new fs (Err e) are found told = tt
