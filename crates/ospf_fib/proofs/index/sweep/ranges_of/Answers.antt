use Rattle.std.proofs.Common.{arith, length}
use Rattle.ospf_fib.proofs.PrefixIndex.RangeLemmas.{all_swept}
use Rattle.ospf_fib.proofs.index.sweep.ranges_of.Goals as goal

pub returns-clause-exact : goal.returns-clause-exact
returns-clause-exact c =
    all_swept c.args.routes.now (length c.args.routes.now) c.close_to.new.self.opened.items c.close_to.new.self.ranges c.requires.order (omega arith) c.close_to.ensures.swept
    (λ some. omega (arith, c.close_to.ensures.open some))
