use Rattle.std.proofs.Common.{subst}
use Rattle.std.proofs.lemmas.Result.{IfErr-weaker, IfOk-weaker}
use Rattle.ospf_run.proofs.Reported.{ends_by, report_comes, report_cut}
use Rattle.ospf_run.specs.Runs.{RunsTo, asked_of}
use Rattle.std.specs.Result.{IfOk}
use Rattle.ospf_run.proofs.run.say.Goals as goal

pub returns-in-Ok : goal.returns-in-Ok
returns-in-Ok g c =
    let settings = c.args.settings.now in
    let has = subst (λ r. IfOk r (λ all. RunsTo g.M.Machine.rules settings c.args.files.now all.0.items all.1)) c.in-Ok.is c.requires.ran in
    ends_by g.M.Machine.rules settings c.args.files.now c.report.new.streams _ _ c.report.result
    (IfOk-weaker c.report.result _ _ (λ status reported. report_comes (asked_of settings) c.args.files.now c.in-Ok.outcomes.items c.deref.result.now c.in-Ok.extras
    status _ _ has.0 has.1 c.deref.ensures.value reported) c.report.ensures.reported)
    (IfErr-weaker c.report.result _ _ (λ failure cut. report_cut (asked_of settings) c.args.files.now c.in-Ok.outcomes.items c.deref.result.now c.in-Ok.extras
    c.report.new.streams failure _ _ has.0 has.1 c.deref.ensures.value cut) c.report.ensures.cut)

pub returns-in-Err : goal.returns-in-Err
returns-in-Err g c = c.tell_stop.ensures (g.O.Write.contents c.args.out.now)
