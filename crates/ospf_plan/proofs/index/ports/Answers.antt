use Rattle.std.proofs.Common.{◌<◌, ◌==◌, ◌∙◌, ap, sym, arith, length, take, Some, None, cond}
use Rattle.std.specs.Option.{option_or}
use Rattle.ospf_plan.specs.Ends.{first_at_port, port_of}
use Rattle.ospf_plan.proofs.Steps.{find_more}
use Rattle.ospf_plan.proofs.index.ports.Goals as goal

pub loop-end-preserved : goal.loop-end-preserved
loop-end-preserved c p =
    let ends = c.args.ends.now in
    let i = c.loop-end.end-index in
    let end = c.end-item.result in
    let within : i < length ends = omega arith in
    c.in_ok-add_holder.ensures p
    ∙ ap (λ o. option_or o (cond (c.from.result == p) (Some end) None)) (c.loop-end.invariant p)
    ∙ ap (λ n. option_or (first_at_port (take i ends) p) (cond (n == p) (Some end) None)) c.from.ensures
    ∙ ap (λ n. option_or (first_at_port (take i ends) p) (cond (n == p) (Some end) None)) c.port_of.ensures
    ∙ sym (find_more ends i end within c.end-item.is (λ e. port_of e == p))
