use Rattle.std.proofs.Common.{rules}
use Rattle.ospf_graph.specs.EdgeLists.Listed.{advertisements_of}
use Rattle.ospf_whatif.proofs.WithoutLemmas.{has_large}
use Rattle.ospf_whatif.proofs.area.without_small.Goals as goal

pub unreachable-requires : goal.unreachable-requires
unreachable-requires c =
    c.requires (has_large c.args.failure.now (advertisements_of c.args.listing.now) (c.without.ensures.large (search rules)))
