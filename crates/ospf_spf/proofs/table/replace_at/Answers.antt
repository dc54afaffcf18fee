use Rattle.std.proofs.Common.{arith}
use Rattle.ospf_spf.proofs.PutLemmas.{set_there}
use Rattle.ospf_spf.proofs.table.replace_at.Goals as goal

pub returns-else-is_same_route-clause-items : goal.returns-else-is_same_route-clause-items
returns-else-is_same_route-clause-items c = set_there c.args.routes.now.items c.args.place c.in-Put.route c.args.change (let within = c.requires.within in let many = c.args.routes.now.ok.0 in omega arith) c.in-Put.is
