-- Words of a kind, and reports of them.
use Rattle.std.proofs.Common.{◌≡◌, ◌≢◌, ◌++◌, ◌∷◌, ◌⊎◌, ℕ, List, [], String, Option, None, Some, IfNone, IfSome, Result, Ok, Err, IfErr, vec_items, refl, sym, ap, subst, ◌∙◌, inl, inr}
use Rattle.std.specs.List.{AllZip}
use Rattle.std.specs.Result.{IsErrAnd}
use Rattle.std.specs.declared.alloc.Global.{Global}
use Rattle.ospf_graph.specs.Advertisements.{Advertisement}
use Rattle.ospf_files.specs.declared.report.Report.{Report}
use Rattle.ospf_table.specs.Line.{LeavesOut, Reads, Refuses}
use Rattle.ospf_table.specs.Refusal.{refusal_line}
use Rattle.ospf_table.specs.declared.table.EntryFault.{EntryFault}
use Rattle.ospf_whatif.specs.declared.failure.AreaFailure.{AreaFailure}
use Rattle.ospf_change.specs.Edit.Answer.{HasWords, IsEditReport, IsEditReportOf, ReportSays, of_line, of_listing}
use Rattle.ospf_change.specs.Edit.Words.{IsFirstUnknownAmong, IsFirstOf, IsFirstUnknown, IsWordFor, in_costs, in_downs, in_drains}
use Rattle.ospf_change.specs.declared.edit.change.Change.{Change}
use Rattle.ospf_change.specs.declared.edit.words.EditJob.{EditJob}
use Rattle.ospf_change.specs.declared.edit.words.WordKind.{WordKind}

-- where nothing is found
pub none_weaker : {X : Type 0} (o : Option X) (P Q : Type 0) → (P → Q) → IfNone o P → IfNone o Q
none_weaker None P Q k is = k is
none_weaker (Some x) P Q k is = tt

-- an error that is passed on
pub err_kept : {X E : Type 0} (r : Result X E) (P Q : E → Type 0) → IsErrAnd r P → ((e : E) → P e → Q e) → IfErr r Q
err_kept (Ok x) P Q is k = absurd is
err_kept (Err e) P Q is k = k e is

-- by equal lists
pub named_same : (A : List Advertisement) (s t : List AreaFailure) (kind : WordKind) (v w : List (String Global)) (cs : List Change) → s ≡ t → v ≡ w
    → AllZip (IsWordFor A s kind) v cs → AllZip (IsWordFor A t kind) w cs
named_same A s t kind v w cs single words is =
    subst (λ (l : List AreaFailure). AllZip (IsWordFor A l kind) w cs) single (subst (λ (l : List (String Global)). AllZip (IsWordFor A s kind) l cs) words is)

pub first_same : (A : List Advertisement) (s t : List AreaFailure) (kind : WordKind) (v w : List (String Global)) (text : List ℕ) → s ≡ t → v ≡ w
    → IsFirstUnknownAmong A s kind v text → IsFirstUnknownAmong A t kind w text
first_same A s t kind v w text single words is =
    subst (λ (l : List AreaFailure). IsFirstUnknownAmong A l kind w text) single (subst (λ (l : List (String Global)). IsFirstUnknownAmong A s kind l text) words is)

-- a word that names nothing is a word
some_word : (before : List (String Global)) (word : String Global) (after : List (String Global)) → before ++ word ∷ after ≡ [] → ⊥
some_word [] word after none = cc
some_word (w ∷ before) word after none = cc

some_among : (A : List Advertisement) (s : List AreaFailure) (kind : WordKind) (words : List (String Global)) (text : List ℕ) → IsFirstUnknownAmong A s kind words text → words ≢ []
some_among A s kind words text first none = some_word first.before first.word first.after (sym first.words_are ∙ none)

some_of : (A : List Advertisement) (s : List AreaFailure) (job : EditJob) (text : List ℕ) → IsFirstOf A s job text → HasWords job
some_of A s job text (in_downs first) = inl (inl (some_among A s _ (vec_items job.down) text first))
some_of A s job text (in_costs downs first) = inl (inr (some_among A s _ (vec_items job.costs) text first))
some_of A s job text (in_drains downs costs first) = inr (some_among A s _ (vec_items job.drains) text first)

pub unnamed_is_word : (A : List Advertisement) (job : EditJob) (text : List ℕ) → IsFirstUnknown A job text → HasWords job
unnamed_is_word A job text is = some_of A is.0 job text is.2

-- the report of an input that may not be known
pub listing_reported : (input : Option (List ℕ)) (job : EditJob) (listing : List (List ℕ)) (left_out : ℕ) (report : Report)
    → IfSome input (λ bytes. Reads bytes [] listing) → IfSome input (λ bytes. LeavesOut bytes left_out) → IsEditReportOf job listing left_out report
    → IfSome input (λ bytes. IsEditReport job bytes report)
listing_reported None job listing left_out report reads counted is = tt
listing_reported (Some bytes) job listing left_out report reads counted is = of_listing listing left_out reads counted is

pub line_reported : (input : Option (List ℕ)) (job : EditJob) (number : ℕ) (fault : EntryFault) (report : Report)
    → IfSome input (λ bytes. Refuses bytes [] number fault) → ReportSays report (refusal_line number fault) [] 3
    → IfSome input (λ bytes. IsEditReport job bytes report)
line_reported None job number fault report refused says = tt
line_reported (Some bytes) job number fault report refused says = of_line number fault refused says
