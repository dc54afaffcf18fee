use Rattle.std.proofs.Common.{◌∙◌, ap, set, sym}
use Rattle.std.proofs.lemmas.List.Edits.{map_over_more}
use Rattle.ospf_adjacency.specs.LinkSteps.Parts.{link_timed}
use Rattle.ospf_area.specs.State.{LinkValue}
use Rattle.ospf_adjacency.proofs.link_steps.ticks.count_timers.Goals as goal

pub loop-link-preserved : goal.loop-link-preserved
loop-link-preserved c =
    ap (λ (v : LinkValue). set c.loop-link.links c.loop-link.link-index v) (c.link_timers.ensures ∙ ap link_timed (sym c.link-item.is))
    ∙ map_over_more link_timed c.args.links.now c.loop-link.links c.loop-link.link-index c.link-item.result c.loop-link-test.true c.loop-link.invariant c.link-item.is
