use Rattle.std.proofs.Common.{rules, ◌∙◌, ℕ, ap, filter, not, Option}
use Rattle.std.proofs.lemmas.Fn.{filter_same}
use Rattle.ospf_plan.specs.declared.ends.LinkEnd.{LinkEnd}
use Rattle.ospf_plan.specs.Ends.{end_in, first_on, is_found, network_key}
use Rattle.ospf_plan.proofs.UnheardLemmas.{one_function}
use Rattle.ospf_plan.proofs.index.others.Goals as goal

pub returns : goal.returns
returns c =
    let without : (ℕ × ℕ → Option LinkEnd) → LinkEnd → _ = λ first e. not (is_found (first (network_key e.address)) e) in
    filter_same _ (without (end_in c.args.firsts.now)) _ (λ x b f' k. search rules) _ _ c.retain.ensures.filtered
    ∙ ap (λ es. filter (without (end_in c.args.firsts.now)) es) c.in_ok-rest.ensures.items
    ∙ ap (λ first. filter (without first) c.args.ends.now) (one_function (end_in c.args.firsts.now) (first_on c.args.ends.now) c.requires)
