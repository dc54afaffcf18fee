-- What is answered of configurations, by what the program prints into two texts that were empty.
use Rattle.std.proofs.Common.{◌≡◌, ◌≢◌, ◌⊎◌, ◌∙◌, ap, subst, sym, ℕ, List, [], true, false}
use Rattle.ospf_files.specs.Streams.{Written}
use Rattle.ospf_files.specs.declared.files.NamedFile.{NamedFile}
use Rattle.ospf_files.specs.declared.status.Status.{Status}
use Rattle.ospf_files.specs.declared.status.Status.TheVariants as status
use Rattle.ospf_files.specs.declared.streams.FailedStreams.{FailedStreams}
use Rattle.ospf_files.specs.declared.telling.Telling.{Telling}
use Rattle.ospf_check.specs.Checked.{IsCheckCutShort, IsWritten}
use Rattle.ospf_check.specs.Area.{IsCheckCut, IsChecked}
use Rattle.ospf_c.specs.Answered.{nothing, streams}
use Rattle.ospf_c.specs.Files.{IsAreaCheckAnswer, IsCheckAnswer}

-- the streams of two texts that are empty
pub begin : (a b : List ℕ) → a ≡ [] → b ≡ [] → streams a b ≡ nothing
begin a b no_out no_err = ap (λ x. streams x b) no_out ∙ ap (λ y. streams [] y) no_err

-- the same texts on the streams
pub same_streams : (x y text warnings : List ℕ) → text ≡ x → warnings ≡ y → streams x y ≡ streams text warnings
same_streams x y text warnings t w = ap (λ a. streams a y) (sym t) ∙ ap (λ b. streams text b) (sym w)

-- files that are checked, each by itself
pub check_answered : (how h : Telling) (named files : List NamedFile) (s : Status) (old new : Written) (text warnings : List ℕ)
    → h ≡ how → files ≡ named → old ≡ nothing → new ≡ streams text warnings
    → (s ≡ status.Done → IsWritten h files true old new) → (s ≡ status.Refused → IsWritten h files false old new)
    → ((s ≡ status.Memory) ⊎ (s ≡ status.Stream) → (failed : FailedStreams) × IsCheckCutShort h files failed old new s)
    → s ≢ status.Words → IsCheckAnswer how named s text warnings
check_answered how h named files s old new text warnings is_how are_files begins ends done refused cut not_words =
    subst (λ (a : Telling). IsCheckAnswer a named s text warnings) is_how
    (subst (λ (fs : List NamedFile). IsCheckAnswer h fs s text warnings) are_files (record {
      done = λ is. subst (λ (n : Written). IsWritten h files true nothing n) ends (subst (λ (o : Written). IsWritten h files true o new) begins (done is));
      refused = λ is. subst (λ (n : Written). IsWritten h files false nothing n) ends (subst (λ (o : Written). IsWritten h files false o new) begins (refused is));
      cut = λ is. subst (λ (n : Written). (failed : FailedStreams) × IsCheckCutShort h files failed nothing n s) ends
          (subst (λ (o : Written). (failed : FailedStreams) × IsCheckCutShort h files failed o new s) begins (cut is));
      not_words = not_words;
    }))

-- files of one area
pub area_answered : (how h : Telling) (named files : List NamedFile) (s : Status) (old new : Written) (text warnings : List ℕ)
    → h ≡ how → files ≡ named → old ≡ nothing → new ≡ streams text warnings
    → (s ≡ status.Done → IsChecked h files true old new) → (s ≡ status.Refused → IsChecked h files false old new)
    → ((s ≡ status.Memory) ⊎ (s ≡ status.Stream) → (failed : FailedStreams) × IsCheckCut h files failed old new s)
    → s ≢ status.Words → IsAreaCheckAnswer how named s text warnings
area_answered how h named files s old new text warnings is_how are_files begins ends done refused cut not_words =
    subst (λ (a : Telling). IsAreaCheckAnswer a named s text warnings) is_how
    (subst (λ (fs : List NamedFile). IsAreaCheckAnswer h fs s text warnings) are_files (record {
      done = λ is. subst (λ (n : Written). IsChecked h files true nothing n) ends (subst (λ (o : Written). IsChecked h files true o new) begins (done is));
      refused = λ is. subst (λ (n : Written). IsChecked h files false nothing n) ends (subst (λ (o : Written). IsChecked h files false o new) begins (refused is));
      cut = λ is. subst (λ (n : Written). (failed : FailedStreams) × IsCheckCut h files failed nothing n s) ends
          (subst (λ (o : Written). (failed : FailedStreams) × IsCheckCut h files failed o new s) begins (cut is));
      not_words = not_words;
    }))
