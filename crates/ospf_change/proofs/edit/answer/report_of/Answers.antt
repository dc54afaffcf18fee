use Rattle.std.proofs.Common.{◌≡◌, List, ℕ, string_bytes, subst, sym}
use Rattle.std.specs.List.{All}
use Rattle.std.proofs.lemmas.Result.{IfOk-weaker}
use Rattle.ospf_graph.specs.EdgeLists.Listed.{advertisements_of}
use Rattle.ospf_change.specs.Edit.Answer.{too_large, unnamed}
use Rattle.ospf_change.specs.Edit.Change.{HasRightCost}
use Rattle.ospf_change.specs.Edit.Words.{IsFaultOfEditWords, IsFirstUnknown}
use Rattle.ospf_change.proofs.Edits.AnswerLemmas.{job_right}
use Rattle.ospf_change.proofs.Edits.KindLemmas.{unnamed_is_word}
use Rattle.ospf_change.proofs.edit.answer.report_of.Goals as goal

pub returns-in-Some : goal.returns-in-Some
returns-in-Some c =
    let is = c.in-Some.ensures.some in
    IfOk-weaker c.router_refused.result _ _ (λ report says. too_large c.in-Some.router is.0 is.1 says) c.router_refused.ensures

pub edited-requires-clause-costs : goal.edited-requires-clause-costs
edited-requires-clause-costs c =
    subst (All HasRightCost) (sym c.deref.ensures.value) (job_right (advertisements_of c.args.read.listing) c.args.job.now c.in-Ok.changes.items c.in-Ok.ensures.named)

pub returns-in-Err-Word : goal.returns-in-Err-Word
returns-in-Err-Word c =
    let A = advertisements_of c.args.read.listing in
    let text = string_bytes c.in-Err-Word.line in
    let first = subst (IsFaultOfEditWords (IsFirstUnknown A c.args.job.now)) c.in-Err-Word.field-0-is c.in-Err-Word.ensures.fault in
    let small = c.in_default.ensures.none in
    unnamed text (small (unnamed_is_word A c.args.job.now text first)) first c.refusal.ensures
