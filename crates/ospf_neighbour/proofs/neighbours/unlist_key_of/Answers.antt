use Rattle.std.proofs.Common.{◌∙◌, ap, set, sym}
use Rattle.std.proofs.lemmas.List.Edits.{map_over_more}
use Rattle.ospf_neighbour.specs.Lists.{key_unlisted}
use Rattle.ospf_neighbour.specs.Neighbour.{NeighbourValue}
use Rattle.ospf_neighbour.proofs.neighbours.unlist_key_of.Goals as goal

pub loop-neighbour-preserved : goal.loop-neighbour-preserved
loop-neighbour-preserved c =
    ap (λ (n : NeighbourValue). set c.loop-neighbour.all c.loop-neighbour.neighbour-index n) (c.unlist_key.ensures ∙ ap (key_unlisted c.args.key.now) (sym c.neighbour-item.is))
    ∙ map_over_more (key_unlisted c.args.key.now) c.args.all.now c.loop-neighbour.all c.loop-neighbour.neighbour-index c.neighbour-item.result c.loop-neighbour-test.true c.loop-neighbour.invariant c.neighbour-item.is
