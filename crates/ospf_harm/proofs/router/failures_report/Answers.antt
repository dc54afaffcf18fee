use Rattle.std.proofs.Common.{[], IsTrue, string_bytes, subst}
use Rattle.ospf_table.specs.Line.{LeavesOut, Reads}
use Rattle.ospf_harm.specs.Input.{IsAreaUnread}
use Rattle.ospf_harm.specs.Router.{IsRouterReport}
use Rattle.ospf_harm.proofs.AnswerLemmas.{both_some, refusal_reported}
use Rattle.ospf_harm.proofs.router.failures_report.Goals as goal

pub report_at-requires : goal.report_at-requires
report_at-requires g c = λ direct. c.in-Ok.ensures.small (c.is_rebuilding.ensures.1 direct)

pub returns-in_ok-report-in-Ok : goal.returns-in_ok-report-in-Ok
returns-in_ok-report-in-Ok g c =
    let read = c.in-Ok.read in
    both_some (g.R.Read.remaining c.args.input) (λ bytes. Reads bytes [] read.listing) (λ bytes. LeavesOut bytes read.left_out)
    (λ bytes. IsRouterReport c.args.asked.now bytes c.in_ok-report-in-Ok.report) (λ bytes reads leaves. c.in_ok-report-in-Ok.ensures bytes reads leaves)
    c.in-Ok.ensures.whole c.in-Ok.ensures.counted

pub returns-in-Err-Refused : goal.returns-in-Err-Refused
returns-in-Err-Refused g c =
    let why = subst (IsAreaUnread (IsTrue c.is_rebuilding.result) (g.R.Read.remaining c.args.input)) c.in-Err-Refused.field-0-is c.in-Err-Refused.ensures.fault in
    refusal_reported (IsTrue c.is_rebuilding.result) c.args.asked.now (g.R.Read.remaining c.args.input) (string_bytes c.in-Err-Refused.text) c.refusal.result
    c.is_rebuilding.ensures.0 why c.refusal.ensures
