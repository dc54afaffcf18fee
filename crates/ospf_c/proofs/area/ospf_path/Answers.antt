use Rattle.std.proofs.Common.{rules}
use Rattle.ospf_c.specs.Tables.{of_path}
use Rattle.ospf_c.proofs.area.ospf_path.Goals as goal

pub returns-in-Ok : goal.returns-in-Ok
returns-in-Ok c = let e = c.inspect.ensures in (e.0, e.1, e.2, of_path c.in-Ok.job (search rules) e.3, e.4)
