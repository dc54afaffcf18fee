use Rattle.std.proofs.Common.{◌<◌, ◌∙◌, ap, sym, arith, length, Some, None, cond, take}
use Rattle.std.specs.Option.{option_or}
use Rattle.ospf_plan.specs.Parts.{first_linked, link_of, same_link}
use Rattle.ospf_plan.proofs.Steps.{find_more}
use Rattle.ospf_plan.proofs.parts.links_of.Goals as goal

pub loop-end-preserved : goal.loop-end-preserved
loop-end-preserved c k =
    let ends = c.args.ends.now in
    let i = c.loop-end.end-index in
    let end = c.end-item.result in
    let within : i < length ends = omega arith in
    c.in_ok-add_linked.ensures k
    ∙ ap (λ o. option_or o (cond (same_link c.link_of.result k) (Some end) None)) (c.loop-end.invariant k)
    ∙ ap (λ q. option_or (first_linked (take i ends) k) (cond (same_link q k) (Some end) None)) c.link_of.ensures
    ∙ sym (find_more ends i end within c.end-item.is (λ e. same_link (link_of e) k))
