use Rattle.std.proofs.Common.{refl, subst, sym}
use Rattle.ospf_files.specs.Streams.{no_room}
use Rattle.ospf_plan.specs.Parts.{AreFindings}
use Rattle.ospf_check.specs.Json.{at_none}
use Rattle.ospf_check.proofs.JsonLemmas.{area_cut, area_printed}
use Rattle.ospf_check.proofs.json.print_area.Goals as goal

pub returns-in-Ok-clause-printed : goal.returns-in-Ok-clause-printed
returns-in-Ok-clause-printed g c are =
    let found = subst (AreFindings c.args.configs.now) (sym c.deref.ensures.value) c.in-Ok.ensures in
    area_printed c.args.files.now c.args.configs.now c.args.streams.now _ _ _ found c.print_findings.result are c.print_findings.ensures.sound c.print_findings.ensures.printed

pub returns-in-Ok-clause-cut : goal.returns-in-Ok-clause-cut
returns-in-Ok-clause-cut g c =
    let found = subst (AreFindings c.args.configs.now) (sym c.deref.ensures.value) c.in-Ok.ensures in
    area_cut c.args.files.now c.args.configs.now _ _ _ _ found c.print_findings.result c.print_findings.ensures.begun c.print_findings.ensures.cut

pub returns-in-Err-clause-cut : goal.returns-in-Err-clause-cut
returns-in-Err-clause-cut g c = at_none refl no_room
