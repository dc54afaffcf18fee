use Rattle.std.proofs.Common.{rules, ◌∙◌, ap, filter}
use Rattle.std.proofs.lemmas.Fn.{filter_same}
use Rattle.ospf_plan.specs.Ends.{is_slow_end}
use Rattle.ospf_plan.proofs.ends.slow_ends.Goals as goal

pub returns : goal.returns
returns c = filter_same _ is_slow_end _ (λ x b f' k. search rules) _ _ c.retain.ensures.filtered ∙ ap (λ es. filter is_slow_end es) c.in_ok-some.ensures.items
