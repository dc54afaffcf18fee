use Rattle.std.proofs.Common.{rules}
use Rattle.ospf_script.proofs.Expecting.{long_route}
use Rattle.ospf_script.proofs.expect.route_in.Goals as goal

pub returns-in_err-hops-clause-memory : goal.returns-in_err-hops-clause-memory
returns-in_err-hops-clause-memory c = search (rules, long_route)
