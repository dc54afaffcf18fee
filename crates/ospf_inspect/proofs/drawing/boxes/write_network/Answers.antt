use Rattle.std.proofs.Common.{ℕ, List, codes, subst}
use Rattle.std.specs.Fmt.{HasWritten}
use Rattle.ospf_inspect.proofs.AreaDrawing.Drawn.{five_pieces}
use Rattle.ospf_inspect.specs.AreaDrawing.Graph.{network_node}
use Rattle.ospf_inspect.specs.AreaDrawing.Graph.{prefix_under}
use Rattle.ospf_inspect.proofs.drawing.boxes.write_network.Goals as goal

pub returns : goal.returns
returns g c =
    λ plain ok. subst (λ (text : List ℕ). HasWritten g.W.Write.write_str_gives c.args.f.now text c.writeln.new.self)
    (five_pieces (codes "  ") (network_node c.args.id) (codes " [shape=box, style=\"filled,rounded\", label=\"") (prefix_under c.args.id c.args.mask) (codes "\"];\n"))
    (c.writeln.ensures.writes plain ok)
