use Rattle.std.proofs.Common.{rules, ◌∙◌, ap, filter}
use Rattle.std.proofs.lemmas.Fn.{filter_same}
use Rattle.ospf_plan.specs.Ends.{can_be_elected}
use Rattle.ospf_plan.proofs.ends.electors.Goals as goal

pub returns : goal.returns
returns c = filter_same _ can_be_elected _ (λ x b f' k. search rules) _ _ c.retain.ensures.filtered ∙ ap (λ es. filter can_be_elected es) c.in_ok-some.ensures.items
