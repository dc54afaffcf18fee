use Rattle.std.proofs.Common.{sym, subst, refl}
use Rattle.ospf_plan.specs.Parts.{AreFindings}
use Rattle.ospf_check.specs.Area.{at_none}
use Rattle.ospf_check.proofs.AreaWritten.{area_ended, area_told}
use Rattle.ospf_check.proofs.area.tell_area.Goals as goal

pub returns-in-Ok-clause-told : goal.returns-in-Ok-clause-told
returns-in-Ok-clause-told g c are =
    let found = subst (AreFindings c.args.configs.now) (sym c.deref.ensures.value) c.in-Ok.ensures in
    area_told _ _ _ _ _ _ c.tell_findings.result are found c.tell_findings.ensures.told

pub returns-in-Ok-clause-cut : goal.returns-in-Ok-clause-cut
returns-in-Ok-clause-cut g c =
    let found = subst (AreFindings c.args.configs.now) (sym c.deref.ensures.value) c.in-Ok.ensures in
    area_ended _ _ _ _ _ _ _ c.tell_findings.result found c.tell_findings.ensures.cut

pub returns-in-Err-clause-cut : goal.returns-in-Err-clause-cut
returns-in-Err-clause-cut g c = at_none refl refl
