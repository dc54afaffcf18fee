use Rattle.std.proofs.Common.{sym, ◌∙◌, ap, List}
use Rattle.ospf_lsa.specs.declared.link.Link.{Link}
use Rattle.ospf_graph.specs.Advertisements.{transit_address}
use Rattle.ospf_graph.proofs.edges.lookups.transit_link_data.Goals as goal

pub returns : goal.returns
returns c = sym (c.loop-link.invariant ∙ ap (λ (ls : List Link). transit_address c.args.id ls) c.in-None.ensures.steps.0)
