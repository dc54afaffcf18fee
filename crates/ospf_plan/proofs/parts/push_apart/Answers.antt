use Rattle.std.proofs.Common.{◌++◌, ◌∙◌, ap}
use Rattle.std.specs.List.{filter_map}
use Rattle.ospf_plan.specs.Joins.{set_has}
use Rattle.ospf_plan.specs.Parts.{apart}
use Rattle.ospf_plan.proofs.PartLemmas.{on_ok}
use Rattle.ospf_plan.proofs.parts.push_apart.Goals as goal

pub returns : goal.returns
returns c =
    let reached = set_has c.in_ok-reached.reached in
    on_ok c.push_each.result (λ told. (
      reached,
      c.in_ok-reached.ensures,
      told ∙ ap (λ o. c.args.findings.now.items ++ filter_map (apart reached o) c.args.ends.now) c.first_of_all.ensures,
    )) c.push_each.ensures
