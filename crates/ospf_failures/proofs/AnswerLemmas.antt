-- How what is asked of failures ends.
use Rattle.std.proofs.Common.{◌≡◌, ◌≢◌, ◌∙◌, ◌⊎◌, ◌++◌, ◌∷◌, ℕ, List, [], ap, sym, refl, subst, inl, inr, Option, IfSome, string_bytes}
use Rattle.std.specs.Io.KnownBytes.{Appends}
use Rattle.ospf_graph.specs.EdgeLists.Listed.{advertisements_of}
use Rattle.ospf_files.specs.Status.{failure_line, failure_status}
use Rattle.ospf_files.specs.Streams.{IsBegun, IsTold, Written, with_error, with_output}
use Rattle.ospf_files.specs.declared.status.Failure.{Failure}
use Rattle.ospf_files.specs.declared.status.Failure.TheVariants as failure
use Rattle.ospf_files.specs.declared.status.Status.{Status}
use Rattle.ospf_files.specs.declared.status.Status.TheVariants as status
use Rattle.ospf_files.specs.declared.streams.FailedStreams.{FailedStreams}
use Rattle.ospf_table.proofs.Lines.{map_some}
use Rattle.ospf_table.specs.Line.{LeavesOut, Reads}
use Rattle.ospf_whatif.specs.Failure.{HasLarge}
use Rattle.ospf_failures.specs.Answer.{FailuresEndsBy, IsFailuresAnswerBegun, IsFailuresAnswerOf, IsFailuresAnswered, IsFailuresCutShort, IsFailuresEnding, IsUnreported, IsFailuresRefusal, IsFailuresRefusalBegun, IsRefusalOf, IsFailuresRefusalTold, IsFailuresSaid, IsUnserved, IsFailuresWarningBegun, IsRebuilding, SaysOf, WarnsOf, head_of, in_answer, in_refusal, in_warning, is_answered, is_refused, names_of, of_area, of_name}
use Rattle.ospf_harm.specs.Asked.{IsAllPrinted}
use Rattle.ospf_failures.specs.Without.{IsFaultOfNames, IsFirstUnnamed}
use Rattle.ospf_harm.proofs.AnswerLemmas.{both_some, refusal_weaker}
use Rattle.ospf_harm.specs.Input.{IsAreaRefusal}
use Rattle.ospf_failures.specs.declared.answer.FailuresAnswer.{FailuresAnswer}
use Rattle.ospf_failures.specs.declared.answer.FailuresJob.{FailuresJob}
use Rattle.ospf_failures.specs.declared.answer.FailuresJob.TheVariants.{All, Root, Without}
use Rattle.ospf_harm.specs.declared.asked.FailuresStatus.{FailuresStatus}
use Rattle.ospf_harm.specs.declared.asked.FailuresStatus.TheVariants.{Ended, Unmet}
use Rattle.ospf_failures.specs.declared.answer.Unreported.{Unreported}
use Rattle.ospf_failures.specs.declared.answer.Unreported.TheVariants as fault

-- ---- an answer

pub answer_made : (input : Option (List ℕ)) (job : FailuresJob) (answer : FailuresAnswer) (listing : List (List ℕ)) (left_out : ℕ) (body : List ℕ)
    → IfSome input (λ bytes. Reads bytes [] listing) → IfSome input (λ bytes. LeavesOut bytes left_out)
    → (IsRebuilding job → HasLarge (advertisements_of listing) → ⊥) → WarnsOf job listing (string_bytes answer.warning)
    → SaysOf job (advertisements_of listing) body answer.said.end
    → string_bytes answer.said.text ≡ head_of job listing left_out (string_bytes answer.warning) ++ body → IfSome input (IsFailuresAnswerOf job answer)
answer_made input job answer listing left_out body reads leaves small warned says text =
    both_some input (λ bytes. Reads bytes [] listing) (λ bytes. LeavesOut bytes left_out) (IsFailuresAnswerOf job answer)
    (λ bytes read leaves_out. record {
      listing = listing;
      reads = read;
      left_out = left_out;
      leaves_out = leaves_out;
      small = small;
      warned = warned;
      body = body;
      says = says;
      text_is = text;
    }) reads leaves

module _ (input : Option (List ℕ)) (job : FailuresJob) (answer : FailuresAnswer) (is : IfSome input (IsFailuresAnswerOf job answer)) where
  pub answer_said : (old new : Written) (warning text : List ℕ) → IsAllPrinted answer.said.end → warning ≡ string_bytes answer.warning
      → text ≡ string_bytes answer.said.text → Appends old.err new.err warning → Appends old.out new.out text → IsFailuresSaid input job old new answer.said.end
  answer_said old new warning text whole warning_is text_is err out =
      is_answered whole (map_some input (IsFailuresAnswerOf job answer) (IsFailuresAnswered job answer.said.end old new) (λ bytes of_it. record {
        text = string_bytes answer.said.text;
        warning = string_bytes answer.warning;
        is = of_it;
        out = subst (Appends old.out new.out) text_is out;
        err = subst (Appends old.err new.err) warning_is err;
      }) is)

  pub warning_cut : (f : Failure) (before failed : FailedStreams) (old : Written) (err : Option (List ℕ)) (warning : List ℕ) → (f ≡ failure.Memory) ⊎ (f ≡ failure.Error)
      → failed ≡ with_error before → warning ≡ string_bytes answer.warning → IsBegun old.err err warning → FailuresEndsBy input job failed old (record old { err = err }) f
  warning_cut f before failed old err warning why failed_is warning_is begun =
      in_warning why (ap (λ (s : FailedStreams). s.error) failed_is) refl
      (map_some input (IsFailuresAnswerOf job answer) (IsFailuresWarningBegun job old.err err) (λ bytes of_it. record {
        end = answer.said.end;
        text = string_bytes answer.said.text;
        warning = string_bytes answer.warning;
        is = of_it;
        begun = subst (IsBegun old.err err) warning_is begun;
      }) is)

  pub answer_cut : (f : Failure) (before failed : FailedStreams) (old new : Written) (warning text : List ℕ) → (f ≡ failure.Memory) ⊎ (f ≡ failure.Output)
      → failed ≡ with_output before → warning ≡ string_bytes answer.warning → text ≡ string_bytes answer.said.text → Appends old.err new.err warning
      → IsBegun old.out new.out text → FailuresEndsBy input job failed old new f
  answer_cut f before failed old new warning text why failed_is warning_is text_is err begun =
      in_answer why (ap (λ (s : FailedStreams). s.output) failed_is) (map_some input (IsFailuresAnswerOf job answer) (IsFailuresAnswerBegun job old new) (λ bytes of_it. record {
        end = answer.said.end;
        text = string_bytes answer.said.text;
        warning = string_bytes answer.warning;
        is = of_it;
        err = subst (Appends old.err new.err) warning_is err;
        begun = subst (IsBegun old.out new.out) text_is begun;
      }) is)

-- ---- a refusal

pub refusal_said : (input : Option (List ℕ)) (job : FailuresJob) (s : Status) (old : Written) (err : Option (List ℕ)) (text : List ℕ) → IsRefusalOf input job text s
    → Appends old.err err text → IsFailuresSaid input job old (record old { err = err }) (Ended s)
refusal_said input job status.Refused old err text is told =
    is_refused (inl refl) (λ e. absurd (cc e)) refl
    (map_some input (λ bytes. IsFailuresRefusal job bytes text status.Refused) (IsFailuresRefusalTold job status.Refused old.err err)
    (λ bytes refusal. record { text = text; is = refusal; told = told }) is)
refusal_said input job status.Words old err text is told =
    is_refused (inr refl) (λ e. is.0) refl
    (map_some input (λ bytes. IsFailuresRefusal job bytes text status.Words) (IsFailuresRefusalTold job status.Words old.err err)
    (λ bytes refusal. record { text = text; is = refusal; told = told }) is.1)
refusal_said input job status.Done old err text is told = absurd is
refusal_said input job status.Memory old err text is told = absurd is
refusal_said input job status.Stream old err text is told = absurd is

refused_begun : (input : Option (List ℕ)) (job : FailuresJob) (s : Status) (x y : Option (List ℕ)) (text : List ℕ) → IsRefusalOf input job text s → IsBegun x y text
    → IfSome input (IsFailuresRefusalBegun job x y)
refused_begun input job status.Refused x y text is begun =
    map_some input (λ bytes. IsFailuresRefusal job bytes text status.Refused) (IsFailuresRefusalBegun job x y)
    (λ bytes refusal. record { s = status.Refused; text = text; is = refusal; begun = begun }) is
refused_begun input job status.Words x y text is begun =
    map_some input (λ bytes. IsFailuresRefusal job bytes text status.Words) (IsFailuresRefusalBegun job x y)
    (λ bytes refusal. record { s = status.Words; text = text; is = refusal; begun = begun }) is.1
refused_begun input job status.Done x y text is begun = absurd is
refused_begun input job status.Memory x y text is begun = absurd is
refused_begun input job status.Stream x y text is begun = absurd is

pub refusal_cut : (input : Option (List ℕ)) (job : FailuresJob) (s : Status) (f : Failure) (before failed : FailedStreams) (old : Written) (err : Option (List ℕ)) (text : List ℕ)
    → IsRefusalOf input job text s → (f ≡ failure.Memory) ⊎ (f ≡ failure.Error) → failed ≡ with_error before → IsBegun old.err err text
    → FailuresEndsBy input job failed old (record old { err = err }) f
refusal_cut input job s f before failed old err text is why failed_is begun =
    in_refusal why (ap (λ (s : FailedStreams). s.error) failed_is) refl (refused_begun input job s old.err err text is begun)

-- some name is that of nothing
some_name : {A : Type 0} (xs ys : List A) (x : A) → xs ++ x ∷ ys ≡ [] → ⊥
some_name [] ys x e = cc e
some_name (y ∷ xs) ys x e = cc e

-- without parts that are named router-LSAs are made again
named_rebuilds : (job : FailuresJob) → names_of job ≢ [] → IsRebuilding job
named_rebuilds (Root asked) named = absurd (named refl)
named_rebuilds (All each strict form carrier) named = absurd (named refl)
named_rebuilds (Without root names addresses) named = named

pub area_refused : (P : Type 0) (input : Option (List ℕ)) (job : FailuresJob) (text : List ℕ) → (P → IsRebuilding job) → IfSome input (λ bytes. IsAreaRefusal P bytes text)
    → IsRefusalOf input job text status.Refused
area_refused P input job text k is =
    map_some input (λ bytes. IsAreaRefusal P bytes text) (λ bytes. IsFailuresRefusal job bytes text status.Refused)
    (λ bytes r. of_area (refusal_weaker P (IsRebuilding job) bytes text k r)) is

pub names_refused : (input : Option (List ℕ)) (job : FailuresJob) (listing : List (List ℕ)) (f : Unreported) → IfSome input (λ bytes. Reads bytes [] listing)
    → (IsRebuilding job → HasLarge (advertisements_of listing) → ⊥) → IsFaultOfNames (IsFirstUnnamed (advertisements_of listing) (names_of job)) f → IsUnreported input job f
names_refused input job listing (fault.Refused text) reads small is = absurd is
names_refused input job listing (fault.Unnamed text) reads small is =
    let named : names_of job ≢ [] = λ none. some_name is.1.first.before is.1.first.after is.0 (sym is.1.first.names_are ∙ none) in (
      named,
      map_some input (λ bytes. Reads bytes [] listing) (λ bytes. IsFailuresRefusal job bytes (string_bytes text) status.Words)
          (λ bytes read. of_name listing is.0 read (small (named_rebuilds job named)) is.1 is.2) reads,
    )
names_refused input job listing (fault.Failure f) reads small is = inl is

-- ---- the end

pub ended_early : (input : Option (List ℕ)) (job : FailuresJob) (f : Failure) (failed_then failed : FailedStreams) (old new : Written) (err_then : Option (List ℕ)) (s : Status)
    → FailuresEndsBy input job failed_then old (record new { err = err_then }) f → IsTold failed_then failed err_then new.err (failure_line f) → s ≡ failure_status f
    → IsFailuresEnding input job failed old new (Ended s)
ended_early input job f failed_then failed old new err_then s ends last is =
    inr (record { cause = f; failed_then = failed_then; err_then = err_then; ends = ends; last = last; end_is = ap Ended is })

early : (f : Failure) → (failure_status f ≡ status.Memory) ⊎ (failure_status f ≡ status.Stream)
early failure.Memory = inl refl
early failure.Input = inr refl
early failure.Output = inr refl
early failure.Error = inr refl
early failure.Closed = inr refl

-- what is refused is no other status
not_done : (s : Status) → IsUnserved s → s ≡ status.Done → ⊥
not_done s (inl r) e = cc (r, e)
not_done s (inr w) e = cc (w, e)

not_memory : (s : Status) → IsUnserved s → s ≡ status.Memory → ⊥
not_memory s (inl r) e = cc (r, e)
not_memory s (inr w) e = cc (w, e)

not_stream : (s : Status) → IsUnserved s → s ≡ status.Stream → ⊥
not_stream s (inl r) e = cc (r, e)
not_stream s (inr w) e = cc (w, e)

module _ (input : Option (List ℕ)) (job : FailuresJob) (failed : FailedStreams) (old new : Written) where
  -- ended early it is neither whole nor refused
  not_early : (end : FailuresStatus) (s : Status) → IsFailuresCutShort input job failed old new end → end ≡ Ended s → (s ≡ status.Memory) ⊎ (s ≡ status.Stream)
  not_early end s cut is =
      let same : Ended s ≡ Ended (failure_status cut.cause) = sym is ∙ cut.end_is in
      let status_is : s ≡ failure_status cut.cause = cc in
      elim (early cut.cause) [ inl m ↦ inl (status_is ∙ m) | inr t ↦ inr (status_is ∙ t) ]

  pub whole_answered : (end : FailuresStatus) → IsFailuresEnding input job failed old new end → IsAllPrinted end → IfSome input (IsFailuresAnswered job end old new)
  whole_answered end (inl (is_answered w h)) whole = h
  whole_answered _ (inl (is_refused {s = s} unserved names same told)) (inl e) = let is : s ≡ status.Done = cc e in absurd (not_done s unserved is)
  whole_answered _ (inl (is_refused unserved names same told)) (inr e) = absurd (cc e)
  whole_answered end (inr cut) (inl e) = elim (not_early end status.Done cut e) [ inl m ↦ absurd (cc m) | inr t ↦ absurd (cc t) ]
  whole_answered end (inr cut) (inr e) = let same : Unmet ≡ Ended (failure_status cut.cause) = sym e ∙ cut.end_is in absurd (cc same)

  -- whole, it is not refused
  whole_served : (end : FailuresStatus) (s : Status) → IsAllPrinted end → IsUnserved s → end ≡ Ended s → ⊥
  whole_served end s (inl w) unserved e = let same : Ended s ≡ Ended status.Done = sym e ∙ w in let is : s ≡ status.Done = cc same in not_done s unserved is
  whole_served end s (inr w) unserved e = let same : Ended s ≡ Unmet = sym e ∙ w in cc same

  early_served : (end : FailuresStatus) (s : Status) → IsFailuresCutShort input job failed old new end → IsUnserved s → end ≡ Ended s → ⊥
  early_served end s cut unserved e = elim (not_early end s cut e) [ inl m ↦ not_memory s unserved m | inr t ↦ not_stream s unserved t ]

  pub refused_told : (end : FailuresStatus) → IsFailuresEnding input job failed old new end → (s : Status) → IsUnserved s → end ≡ Ended s
      → IfSome input (IsFailuresRefusalTold job s old.err new.err)
  refused_told end (inl (is_answered w h)) s unserved e = absurd (whole_served end s w unserved e)
  refused_told _ (inl (is_refused {s = t} of_it names same told)) s unserved e =
      let is : t ≡ s = cc e in subst (λ (u : Status). IfSome input (IsFailuresRefusalTold job u old.err new.err)) is told
  refused_told end (inr cut) s unserved e = absurd (early_served end s cut unserved e)

  pub refused_unwritten : (end : FailuresStatus) → IsFailuresEnding input job failed old new end → (s : Status) → IsUnserved s → end ≡ Ended s → new.out ≡ old.out
  refused_unwritten end (inl (is_answered w h)) s unserved e = absurd (whole_served end s w unserved e)
  refused_unwritten _ (inl (is_refused of_it names same told)) s unserved e = same
  refused_unwritten end (inr cut) s unserved e = absurd (early_served end s cut unserved e)

  pub early_cut : (end : FailuresStatus) → IsFailuresEnding input job failed old new end → (end ≡ Ended status.Memory) ⊎ (end ≡ Ended status.Stream)
      → IsFailuresCutShort input job failed old new end
  early_cut end (inl (is_answered (inl w) h)) (inl e) = absurd (cc (w, e))
  early_cut end (inl (is_answered (inl w) h)) (inr e) = absurd (cc (w, e))
  early_cut end (inl (is_answered (inr w) h)) (inl e) = absurd (cc (w, e))
  early_cut end (inl (is_answered (inr w) h)) (inr e) = absurd (cc (w, e))
  early_cut _ (inl (is_refused {s = s} unserved names same told)) (inl e) = let is : s ≡ status.Memory = cc e in absurd (not_memory s unserved is)
  early_cut _ (inl (is_refused {s = s} unserved names same told)) (inr e) = let is : s ≡ status.Stream = cc e in absurd (not_stream s unserved is)
  early_cut end (inr cut) e = cut

  pub not_words : (end : FailuresStatus) → IsFailuresEnding input job failed old new end → names_of job ≡ [] → end ≢ Ended status.Words
  not_words end (inl (is_answered w h)) none e = whole_served end status.Words w (inr refl) e
  not_words _ (inl (is_refused {s = s} unserved names same told)) none e = let is : s ≡ status.Words = cc e in names is none
  not_words end (inr cut) none e = early_served end status.Words cut (inr refl) e
