use Rattle.ospf_run.proofs.Known.{looked_on}
use Rattle.ospf_run.proofs.look.look_once.Goals as goal

pub returns : goal.returns
returns c = record {
  fib = c.lookup.ensures.fib;
  tables = looked_on c.lookup.result _ _ c.lookup.ensures.known c.lookup.ensures.closed;
}
