use Rattle.ospf_inspect.proofs.AreaDrawing.Ones.{prefix_is_drawn}
use Rattle.ospf_inspect.proofs.drawing.graph_laws.prefixes_are_drawn.Goals as goal

pub returns : goal.returns
returns c = prefix_is_drawn
