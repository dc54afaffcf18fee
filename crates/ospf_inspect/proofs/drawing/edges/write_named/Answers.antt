use Rattle.std.proofs.Common.{ℕ, List, ap, codes, subst, sym, ◌∙◌}
use Rattle.std.specs.Fmt.{HasWritten}
use Rattle.ospf_inspect.proofs.AreaDrawing.Drawn.{five_pieces}
use Rattle.ospf_inspect.specs.AreaDrawing.Graph.{named_unless, network_node, router_node}
use Rattle.ospf_inspect.proofs.drawing.edges.write_named.Goals as goal

pub returns-else-links_to_network : goal.returns-else-links_to_network
returns-else-links_to_network g c =
    λ plain ok. subst (λ (text : List ℕ). HasWritten g.W.Write.write_str_gives c.args.f.now text c.writeln.new.self)
    (five_pieces (codes "  ") (network_node c.args.network) (codes " -- ") (router_node c.args.router.0) (codes " [dir=forward, style=dashed];\n")
    ∙ sym (ap (named_unless c.args.network c.args.router) (sym c.links_to_network.ensures ∙ c.if-links_to_network.false)))
    (c.writeln.ensures.writes plain ok)
