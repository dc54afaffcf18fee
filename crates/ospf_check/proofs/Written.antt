-- What is told of files, one after the other.
use Rattle.std.proofs.Common.{◌≡◌, ◌∙◌, ◌&&◌, Bool, true, false, ap, sym, subst, ◌+◌, ◌<◌, ℕ, suc, List, [], ◌∷◌, ◌++◌, length, take, drop, get_or, flat_map, Option, Some, ◌⊎◌, inl, append_assoc, append-nil, refl}
use Rattle.std.specs.Bool.{⊤}
use Rattle.std.proofs.lemmas.List.{take_more, flat_map_more}
use Rattle.ospf_files.specs.AllFaults.{explains}
use Rattle.ospf_files.specs.declared.explained.Explained.{Explained}
use Rattle.ospf_files.specs.declared.telling.Telling.{Telling}
use Rattle.ospf_files.proofs.Listed.{config_read, files_split}
use Rattle.ospf_files.proofs.Written.{both_written, nothing_written}
use Rattle.ospf_config.specs.declared.config.Config.{Config}
use Rattle.ospf_config.specs.declared.fault.ConfigFault.{ConfigFault}
use Rattle.ospf_files.specs.Files.{IsConfigIn, IsRefusedFor, bytes_of, refused_line}
use Rattle.ospf_files.specs.Streams.{IsBegun, Written, with_error, with_output, written_on}
use Rattle.ospf_files.specs.declared.status.Failure.{Failure}
use Rattle.ospf_files.specs.declared.status.Failure.TheVariants as failure
use Rattle.ospf_files.specs.declared.streams.FailedStreams.{FailedStreams}
use Rattle.ospf_check.specs.declared.check.CheckFault.{CheckFault}
use Rattle.ospf_check.specs.declared.check.CheckFault.TheVariants as fault
use Rattle.ospf_check.specs.Checked.{AreTold, EndsIn, IsCutIn, IsExplanation, IsFileTold, IsWritten, IsWrittenOf, KeepsIf, accepted_line, accepted_told, no_error, no_file, no_output, one_file, place_line, refused_told, warnings}
use Rattle.ospf_files.specs.declared.files.NamedFile.{NamedFile}
use Rattle.ospf_files.specs.Listed.{AreConfigs}

-- where all files are accepted these are their configurations
abbrev pub AreAllKept : List NamedFile → Bool → List Config → Type 0
AreAllKept files true configs = AreConfigs files configs
AreAllKept files false configs = ⊤

and_assoc : (a b c : Bool) → ((a && b) && c) ≡ (a && (b && c))
and_assoc true b c = refl
and_assoc false b c = refl

and_true : (a : Bool) → (a && true) ≡ a
and_true true = refl
and_true false = refl

-- one more file
more_told : (how : Telling) (files : List NamedFile) (all : Bool) (outs errs : List ℕ) (file : NamedFile) (accepted : Bool) (out err : List ℕ) → AreTold how files all outs errs
    → IsFileTold how file accepted out err → AreTold how (files ++ file ∷ []) (all && accepted) (outs ++ out) (errs ++ err)
more_told how _ _ _ _ file accepted out err no_file is = rw (sym (append-nil out), sym (append-nil err), sym (and_true accepted)) (one_file is no_file)
more_told how _ _ _ _ file accepted out err (one_file {accepted = a} {all = all} {out = o} {outs = outs} {err = e} {errs = errs} first rest) is =
    rw (and_assoc a all accepted, append_assoc o outs out, append_assoc e errs err) (one_file first (more_told how _ all outs errs file accepted out err rest is))

pub no_files : (how : Telling) (now : Written) → IsWritten how [] true now now
no_files how now = record { out = []; err = []; told = no_file; out_written = nothing_written now.out; err_written = nothing_written now.err }

pub file_written : (how : Telling) (old between new : Written) (files : List NamedFile) (i : ℕ) (file : NamedFile) (all accepted : Bool) → i < length files
    → file ≡ get_or files i file → IsWritten how (take i files) all old between → IsWrittenOf how file accepted between new
    → IsWritten how (take (i + 1) files) (all && accepted) old new
file_written how old between new files i file all accepted within at so_far next =
    let more = ap (λ last. take i files ++ last ∷ []) at ∙ sym (take_more files i file within) in
    record {
      out = so_far.out ++ next.out;
      err = so_far.err ++ next.err;
      told = subst (λ front. AreTold how front (all && accepted) (so_far.out ++ next.out) (so_far.err ++ next.err)) more
          (more_told how (take i files) all so_far.out so_far.err file accepted next.out next.err so_far.told next.told);
      out_written = both_written old.out between.out new.out so_far.out next.out so_far.out_written next.out_written;
      err_written = both_written old.err between.err new.err so_far.err next.err so_far.err_written next.err_written;
    }

-- the line of one place more
pub lines_more : (places : List Explained) (i : ℕ) (place : Explained) (line so_far lines : List ℕ) → i < length places → place ≡ get_or places i place → line ≡ place_line place
    → so_far ≡ flat_map place_line (take i places) → lines ≡ so_far ++ line → lines ≡ flat_map place_line (take (i + 1) places)
lines_more places i place line so_far lines within is shown front all =
    all ∙ ap (λ l. so_far ++ l) shown ∙ ap (λ l. l ++ place_line place) front ∙ ap (λ p. flat_map place_line (take i places) ++ place_line p) is
    ∙ flat_map_more place_line [] (take i places) (get_or places i place) ∙ ap (flat_map place_line) (sym (take_more places i place within))

-- a check that ended in a file, behind files that were told
pub cut_in : (how : Telling) (old between new : Written) (files : List NamedFile) (i : ℕ) (file : NamedFile) (all : Bool) (failed : FailedStreams) (cause : CheckFault) → i < length files
    → file ≡ get_or files i file → IsWritten how (take i files) all old between → EndsIn how file failed between new cause → IsCutIn how files failed old new cause
cut_in how old between new files i file all failed cause within at so_far ends = record {
  before = take i files;
  file = file;
  after = drop (suc i) files;
  files_are = files_split files i file within at;
  all = all;
  between = between;
  told = so_far;
  ends = ends;
}

-- an accepted file
pub accepted_verdict : (how : Telling) (file : NamedFile) (bytes lines : List ℕ) (config : Config) → bytes_of file ≡ Some bytes → IsConfigIn bytes config
    → lines ≡ accepted_line file ++ warnings (explains how) config → IsFileTold how file true lines []
accepted_verdict how file bytes lines config held is text = subst (λ t. IsFileTold how file true t []) (sym text) (accepted_told bytes config held is)

-- the configuration of one file more
pub kept_more : (files : List NamedFile) (i : ℕ) (file : NamedFile) (old new : List Config) (all accepted : Bool) → i < length files → file ≡ get_or files i file
    → AreAllKept (take i files) all old → KeepsIf accepted file old new → AreAllKept (take (i + 1) files) (all && accepted) new
kept_more files i file old new true true within at are kept = config_read files i file old new kept.0 within at are kept.1 kept.2
kept_more files i file old new true false within at are kept = tt
kept_more files i file old new false accepted within at are kept = tt

-- a refused file
pub refused_verdict : (how : Telling) (file : NamedFile) (bytes : List ℕ) (fault : ConfigFault) (lines more : List ℕ) → bytes_of file ≡ Some bytes → IsRefusedFor bytes fault → IsExplanation how bytes fault more
    → lines ≡ refused_line file fault ++ more → IsFileTold how file false [] lines
refused_verdict how file bytes fault lines more held is because text = subst (λ t. IsFileTold how file false [] t) (sym text) (refused_told bytes fault more held is because)

-- standard output failed at the line of an accepted file
pub output_ends : (how : Telling) (file : NamedFile) (before failed : FailedStreams) (a b x : Option (List ℕ)) (f : Failure) (line text : List ℕ)
    → IsFileTold how file true line [] → text ≡ line → (f ≡ failure.Memory) ⊎ (f ≡ failure.Output) → failed ≡ with_output before → IsBegun a b text
    → EndsIn how file failed (written_on a x) (written_on b x) (fault.Failure f)
output_ends how file before failed a b x f line text told is why failed_is begun =
    no_output f line why (ap (λ (s : FailedStreams). s.output) failed_is) told (subst (IsBegun a b) is begun) refl

-- standard error failed at the lines of a refused file
pub error_ends : (how : Telling) (file : NamedFile) (before failed : FailedStreams) (a x y : Option (List ℕ)) (f : Failure) (lines text : List ℕ)
    → IsFileTold how file false [] lines → text ≡ lines → (f ≡ failure.Memory) ⊎ (f ≡ failure.Error) → failed ≡ with_error before → IsBegun x y text
    → EndsIn how file failed (written_on a x) (written_on a y) (fault.Failure f)
error_ends how file before failed a x y f lines text told is why failed_is begun =
    no_error f lines why (ap (λ (s : FailedStreams). s.error) failed_is) (inl told) refl (subst (IsBegun x y) is begun)

-- standard error is as it was when the files were told
pub told_then : (how : Telling) (files : List NamedFile) (old between : Written) (err : Option (List ℕ)) → IsWritten how files true old between → err ≡ between.err
    → IsWritten how files true old (record between { err = err })
told_then how files old between err told same = subst (λ e. IsWritten how files true old (record between { err = e })) (sym same) told
