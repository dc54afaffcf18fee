use Rattle.ospf_inspect.proofs.AreaDrawing.Names.{names_tell_apart}
use Rattle.ospf_inspect.proofs.drawing.graph_laws.names_tell_apart.Goals as goal

pub returns : goal.returns
returns c = names_tell_apart
