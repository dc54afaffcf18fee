-- What is printed of the failures of the area whose LSAs are the lines
-- of an input, and how that ends.
use Rattle.std.specs.Prelude.{◌≡◌, ◌≢◌, ◌⊎◌, ℕ, Bool, true, false, List, [], ◌++◌, IfSome, IsPermutation, Option, String, string_bytes, vec_items}
use Rattle.std.specs.Io.KnownBytes.{Appends}
use Rattle.std.specs.declared.alloc.Global.{Global}
use Rattle.ospf_base.specs.declared.ids.RouterId.{RouterId}
use Rattle.ospf_graph.specs.EdgeLists.Listed.{advertisements_of}
use Rattle.ospf_graph.specs.Advertisements.{Advertisement, IsListed}
use Rattle.ospf_files.specs.Status.{failure_line, failure_status}
use Rattle.ospf_files.specs.Streams.{IsBegun, IsErrorFailed, IsOfError, IsOfInput, IsOfOutput, IsOutputFailed, IsTold, Written}
use Rattle.ospf_files.specs.declared.status.Failure.{Failure}
use Rattle.ospf_files.specs.declared.status.Status.{Status}
use Rattle.ospf_files.specs.declared.status.Status.TheVariants as status
use Rattle.ospf_files.specs.declared.streams.FailedStreams.{FailedStreams}
use Rattle.ospf_table.specs.Line.{LeavesOut, Reads}
use Rattle.ospf_whatif.specs.Failure.{HasLarge}
use Rattle.ospf_harm.specs.Carrier.{AreHiddenBy}
use Rattle.ospf_harm.specs.declared.carrier.Carrier.{Carrier}
use Rattle.ospf_harm.specs.declared.carrier.Carrier.TheVariants.{Direct}
use Rattle.ospf_harm.specs.declared.hidden.HiddenCost.{HiddenCost}
use Rattle.std.specs.List.Sorted.{IsSorted}
use Rattle.ospf_failures.specs.HarmLines.{overall_harm_cmp, overalls_harm_text, overalls_lines}
use Rattle.ospf_failures.specs.Json.{overalls_json}
use Rattle.ospf_failures.specs.Overall.{AreOveralls, CutsSomewhere, overalls_text}
use Rattle.ospf_failures.specs.Without.{IsFirstUnnamed, IsTableWithout, unnamed_line}
use Rattle.ospf_failures.specs.declared.answer.FailuresAnswer.{FailuresAnswer}
use Rattle.ospf_failures.specs.declared.answer.Unreported.{Unreported}
use Rattle.ospf_failures.specs.declared.answer.Unreported.TheVariants as fault
use Rattle.ospf_harm.specs.declared.asked.FailuresForm.{FailuresForm}
use Rattle.ospf_harm.specs.declared.asked.FailuresForm.TheVariants as form
use Rattle.ospf_failures.specs.declared.answer.FailuresJob.{FailuresJob}
use Rattle.ospf_failures.specs.declared.answer.FailuresJob.TheVariants.{All, Root, Without}
use Rattle.ospf_harm.specs.declared.asked.FailuresStatus.{FailuresStatus}
use Rattle.ospf_harm.specs.declared.asked.FailuresStatus.TheVariants.{Ended}
use Rattle.ospf_failures.specs.declared.overall.RouteDetail.{RouteDetail}
use Rattle.ospf_failures.specs.declared.overall.RouteDetail.TheVariants as detail
use Rattle.ospf_failures.specs.declared.overall.Overall.{Overall}
use Rattle.ospf_harm.specs.Input.{IsAreaRefusal}
use Rattle.ospf_harm.specs.Asked.{IsAllPrinted, IsEndBy, IsRebuiltFor}
use Rattle.ospf_harm.specs.Warnings.{TellsOfRoot, WarnsAt, WarnsOfArea}
use Rattle.ospf_harm.specs.Said.{SaysChanges, form_head}

-- ---- statuses

-- the router-LSA of some router is listed
abbrev pub HasRouter : List Advertisement → Type 0
HasRouter adverts = (router : RouterId) × IsListed adverts router

-- what a strict run reports over all routers: some failure cuts a prefix off from one of them, or
-- no router-LSA is listed, so that nothing was checked
abbrev pub IsUnmetSomewhere : List Advertisement → List Overall → Type 0
IsUnmetSomewhere adverts printed = CutsSomewhere printed ⊎ (HasRouter adverts → ⊥)

-- ---- what is asked

-- the names of the parts to leave out
abbrev pub names_of : FailuresJob → List (String Global)
names_of (Root asked) = []
names_of (All each strict form carrier) = []
names_of (Without root names addresses) = vec_items names

-- router-LSAs are rebuilt: if parts are named, and on direct cables, where some failures happen
-- together
abbrev pub IsRebuilding : FailuresJob → Type 0
IsRebuilding (Root asked) = IsRebuiltFor asked
IsRebuilding (All each strict form carrier) = carrier ≡ Direct
IsRebuilding (Without root names addresses) = vec_items names ≢ []

-- ---- what is refused

-- the text of a refusal. If the input is refused, it is about the first refused line or, where
-- router-LSAs are rebuilt, about the first router with too many links; if the words are refused,
-- about the first name that is not in the area
pub data IsFailuresRefusal (job : FailuresJob) (input : List ℕ) (text : List ℕ)
    : Status → Type 0 where
  of_area : IsAreaRefusal (IsRebuilding job) input text
      → IsFailuresRefusal job input text status.Refused
  of_name : (listing : List (List ℕ)) (name : String Global) → Reads input [] listing
      → (HasLarge (advertisements_of listing) → ⊥)
      → IsFirstUnnamed (advertisements_of listing) (names_of job) name → text ≡ unnamed_line name
      → IsFailuresRefusal job input text status.Words

-- the input or the words are refused
abbrev pub IsUnserved : Status → Type 0
IsUnserved s = (s ≡ status.Refused) ⊎ (s ≡ status.Words)

-- ---- what is printed

-- how much is stored about the routes that change, by whether each of them is printed
abbrev pub detail_of : Bool → FailuresForm → RouteDetail
detail_of true form.Text = detail.Lines
detail_of true form.Json = detail.Routes
detail_of true form.JsonLines = detail.Routes
detail_of true form.Harm = detail.Lines
detail_of false form = detail.Sums

-- what is printed over all routers, in a form
abbrev pub added_text : FailuresForm → Bool → List HiddenCost → List Overall → List ℕ
added_text form.Text each hidden printed = overalls_text printed
added_text form.Json each hidden printed = overalls_json each hidden printed
added_text form.JsonLines each hidden printed = overalls_lines each hidden printed
added_text form.Harm each hidden printed = overalls_harm_text printed

-- they are printed by how much they harm
pub record AreOverallsByHarm (printed shown : List Overall) : Type 0 where
  pub permuted : IsPermutation printed shown
  pub in_order : IsSorted overall_harm_cmp shown

-- in the order of the form
abbrev pub AreShownOveralls : FailuresForm → List Overall → List Overall → Type 0
AreShownOveralls form.Text printed shown = shown ≡ printed
AreShownOveralls form.Json printed shown = shown ≡ printed
AreShownOveralls form.JsonLines printed shown = AreOverallsByHarm printed shown
AreShownOveralls form.Harm printed shown = AreOverallsByHarm printed shown

-- what each failure changes at all routers where links are carried so, in a form
pub record SaysOverall (carrier : Carrier) (adverts : List Advertisement) (each strict : Bool)
    (form : FailuresForm) (text : List ℕ) (end : FailuresStatus) : Type 0 where
  pub printed : List Overall
  pub are : AreOveralls carrier adverts (detail_of each form) printed
  pub shown : List Overall
  pub are_shown : AreShownOveralls form printed shown
  pub hidden : List HiddenCost
  pub are_hidden : AreHiddenBy carrier adverts hidden
  pub text_is : text ≡ added_text form each hidden shown
  pub ends : IsEndBy strict (IsUnmetSomewhere adverts printed) end

-- what is asked of the area, and the status that it ends with
abbrev pub SaysOf : FailuresJob → List Advertisement → List ℕ → FailuresStatus → Type 0
SaysOf (Root asked) adverts text end = SaysChanges asked adverts text end
SaysOf (All each strict form carrier) adverts text end =
    SaysOverall carrier adverts each strict form text end
SaysOf (Without root names addresses) adverts text end =
    IsTableWithout adverts (vec_items names) root (vec_items addresses) text
    × (end ≡ Ended status.Done)

-- all that it warns of
abbrev pub WarnsOf : FailuresJob → List (List ℕ) → List ℕ → Type 0
WarnsOf (Root asked) listing text = WarnsAt asked.root asked.carrier listing text
WarnsOf (All each strict form carrier) listing text = WarnsOfArea carrier listing text
WarnsOf (Without root names addresses) listing text =
    TellsOfRoot (advertisements_of listing) root text

-- the line before what is asked: in version 2 of the JSON what was read, and the warning
abbrev pub head_of : FailuresJob → List (List ℕ) → ℕ → List ℕ → List ℕ
head_of (Root asked) listing left_out warning = form_head asked.form listing left_out warning
head_of (All each strict form carrier) listing left_out warning =
    form_head form listing left_out warning
head_of (Without root names addresses) listing left_out warning = []

-- the answer of the area whose LSAs the lines of the input are, none of whose routers has too many
-- links where router-LSAs are made again; and what it warns of. A line about the input may come
-- before what is asked
pub record IsFailuresAnswer (job : FailuresJob) (end : FailuresStatus) (input text warning : List ℕ)
    : Type 0 where
  pub listing : List (List ℕ)
  pub reads : Reads input [] listing
  pub left_out : ℕ
  pub leaves_out : LeavesOut input left_out
  pub small : IsRebuilding job → HasLarge (advertisements_of listing) → ⊥
  pub warned : WarnsOf job listing warning
  pub body : List ℕ
  pub says : SaysOf job (advertisements_of listing) body end
  pub text_is : text ≡ head_of job listing left_out warning ++ body

-- the answer is written to standard output, its warning to standard error, and the status is that
-- of the answer
pub record IsFailuresAnswered (job : FailuresJob) (end : FailuresStatus) (old new : Written)
    (input : List ℕ) : Type 0 where
  pub text : List ℕ
  pub warning : List ℕ
  pub is : IsFailuresAnswer job end input text warning
  pub out : Appends old.out new.out text
  pub err : Appends old.err new.err warning

-- the refusal is written to standard error
pub record IsFailuresRefusalTold (job : FailuresJob) (s : Status)
    (err_old err_new : Option (List ℕ)) (input : List ℕ) : Type 0 where
  pub text : List ℕ
  pub is : IsFailuresRefusal job input text s
  pub told : Appends err_old err_new text

-- ---- what stands written where it ends early

-- a beginning of the refusal
pub record IsFailuresRefusalBegun (job : FailuresJob) (err_old err_new : Option (List ℕ))
    (input : List ℕ) : Type 0 where
  pub s : Status
  pub text : List ℕ
  pub is : IsFailuresRefusal job input text s
  pub begun : IsBegun err_old err_new text

-- a beginning of the warning
pub record IsFailuresWarningBegun (job : FailuresJob) (err_old err_new : Option (List ℕ))
    (input : List ℕ) : Type 0 where
  pub end : FailuresStatus
  pub text : List ℕ
  pub warning : List ℕ
  pub is : IsFailuresAnswer job end input text warning
  pub begun : IsBegun err_old err_new warning

-- the warning, and a beginning of the answer
pub record IsFailuresAnswerBegun (job : FailuresJob) (old new : Written) (input : List ℕ)
    : Type 0 where
  pub end : FailuresStatus
  pub text : List ℕ
  pub warning : List ℕ
  pub is : IsFailuresAnswer job end input text warning
  pub err : Appends old.err new.err warning
  pub begun : IsBegun old.out new.out text

-- it ended by a failure: before anything was written; at the refusal;
-- at the warning; or at the answer
pub data FailuresEndsBy (input : Option (List ℕ)) (job : FailuresJob) (failed : FailedStreams)
    (old new : Written) : Failure → Type 0 where
  unwritten : {f : Failure} → IsOfInput f → new.out ≡ old.out → new.err ≡ old.err
      → FailuresEndsBy input job failed old new f
  in_refusal : {f : Failure} → IsOfError f → IsErrorFailed failed
      → new.out ≡ old.out → IfSome input (IsFailuresRefusalBegun job old.err new.err)
      → FailuresEndsBy input job failed old new f
  in_warning : {f : Failure} → IsOfError f → IsErrorFailed failed
      → new.out ≡ old.out → IfSome input (IsFailuresWarningBegun job old.err new.err)
      → FailuresEndsBy input job failed old new f
  in_answer : {f : Failure} → IsOfOutput f → IsOutputFailed failed
      → IfSome input (IsFailuresAnswerBegun job old new)
      → FailuresEndsBy input job failed old new f

-- it ended by a failure, which was reported last, as far as that could be written
pub record IsFailuresCutShort (input : Option (List ℕ)) (job : FailuresJob) (failed : FailedStreams)
    (old new : Written) (end : FailuresStatus) : Type 0 where
  pub cause : Failure
  pub failed_then : FailedStreams
  pub err_then : Option (List ℕ)
  pub ends : FailuresEndsBy input job failed_then old (record new { err = err_then }) cause
  pub last : IsTold failed_then failed err_then new.err (failure_line cause)
  pub end_is : end ≡ Ended (failure_status cause)

-- ---- on the way

-- the text of a refusal that ends with this status
abbrev pub IsRefusalOf : Option (List ℕ) → FailuresJob → List ℕ → Status → Type 0
IsRefusalOf input job text status.Refused =
    IfSome input (λ bytes. IsFailuresRefusal job bytes text status.Refused)
IsRefusalOf input job text status.Words =
    (names_of job ≢ []) × IfSome input (λ bytes. IsFailuresRefusal job bytes text status.Words)
IsRefusalOf input job text _ = ⊥

-- why there is no answer
abbrev pub IsUnreported : Option (List ℕ) → FailuresJob → Unreported → Type 0
IsUnreported input job (fault.Refused text) =
    IsRefusalOf input job (string_bytes text) status.Refused
IsUnreported input job (fault.Unnamed text) = IsRefusalOf input job (string_bytes text) status.Words
IsUnreported input job (fault.Failure f) = IsOfInput f

-- the answer for the input
abbrev pub IsFailuresAnswerOf : FailuresJob → FailuresAnswer → List ℕ → Type 0
IsFailuresAnswerOf job answer input =
    IsFailuresAnswer job answer.said.end input (string_bytes answer.said.text)
    (string_bytes answer.warning)

-- the answer is printed, or the refusal is reported
pub data IsFailuresSaid (input : Option (List ℕ)) (job : FailuresJob) (old new : Written)
    : FailuresStatus → Type 0 where
  is_answered : {end : FailuresStatus} → IsAllPrinted end
      → IfSome input (IsFailuresAnswered job end old new) → IsFailuresSaid input job old new end
  is_refused : {s : Status} → IsUnserved s → (s ≡ status.Words → names_of job ≢ [])
      → new.out ≡ old.out → IfSome input (IsFailuresRefusalTold job s old.err new.err)
      → IsFailuresSaid input job old new (Ended s)

-- one of these, or it ended early
abbrev pub IsFailuresEnding : Option (List ℕ) → FailuresJob → FailedStreams → Written → Written
    → FailuresStatus → Type 0
IsFailuresEnding input job failed old new end =
    IsFailuresSaid input job old new end ⊎ IsFailuresCutShort input job failed old new end
