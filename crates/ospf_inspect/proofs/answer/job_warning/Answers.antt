use Rattle.std.proofs.Common.{List, subst, sym, string_bytes}
use Rattle.std.proofs.lemmas.Result.{IfOk-weaker}
use Rattle.ospf_base.specs.declared.ids.Addr.{Addr}
use Rattle.ospf_inspect.specs.Answer.{WarnsOfJob, WarnsOfLookups}
use Rattle.ospf_inspect.specs.declared.answer.InspectJob.{InspectJob}
use Rattle.ospf_inspect.proofs.answer.job_warning.Goals as goal

pub returns-in-Table : goal.returns-in-Table
returns-in-Table c =
    IfOk-weaker c.unlisted_text.result _ _ (λ text is. subst (λ (j : InspectJob). WarnsOfJob j c.args.listing.now (string_bytes text)) (sym c.in-Table.is) is) c.unlisted_text.ensures

pub returns-in-TableLines : goal.returns-in-TableLines
returns-in-TableLines c =
    IfOk-weaker c.lookups_warning.result _ _
    (λ text is. subst (λ (j : InspectJob). WarnsOfJob j c.args.listing.now (string_bytes text)) (sym c.in-TableLines.is)
    (subst (λ (those : List Addr). WarnsOfLookups c.args.listing.now c.in-TableLines.root those (string_bytes text)) c.deref.ensures.value is)) c.lookups_warning.ensures

pub returns-in-Path : goal.returns-in-Path
returns-in-Path c =
    IfOk-weaker c.way_warning.result _ _ (λ text is. subst (λ (j : InspectJob). WarnsOfJob j c.args.listing.now (string_bytes text)) (sym c.in-Path.is) is) c.way_warning.ensures
