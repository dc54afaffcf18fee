use Rattle.std.proofs.Common.{rules, ◌≡◌, ◌∙◌, ap, filter}
use Rattle.std.proofs.lemmas.Fn.{filter_same}
use Rattle.ospf_plan.specs.Ends.{can_be_elected, end_in, first_on, others}
use Rattle.ospf_plan.specs.Parts.{can_be_adjacent, first_linked, linked_in}
use Rattle.ospf_plan.proofs.UnheardLemmas.{one_function}
use Rattle.ospf_plan.proofs.parts.adjacent_ends.Goals as goal

pub returns : goal.returns
returns c =
    let ends = c.args.ends.now in
    let third = end_in c.args.thirds.now in
    let led = linked_in c.in_ok-led.led in
    let at : third ≡ first_on (others (others ends)) = one_function third (first_on (others (others ends))) c.requires in
    let electors : c.deref.result.now ≡ filter can_be_elected ends = search rules in
    let leads : led ≡ first_linked (filter can_be_elected ends) =
    one_function led (first_linked (filter can_be_elected ends)) (λ k. c.in_ok-led.ensures k ∙ ap (λ es. first_linked es k) electors) in
    filter_same _ (can_be_adjacent third led) _ (λ x b f' k. search rules) _ _ c.retain.ensures.filtered
    ∙ ap (λ es. filter (can_be_adjacent third led) es) c.in_ok-some.ensures.items
    ∙ ap (λ t. filter (can_be_adjacent t led) ends) at
    ∙ ap (λ l. filter (can_be_adjacent (first_on (others (others ends))) l) ends) leads
