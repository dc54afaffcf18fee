use Rattle.ospf_whatif.proofs.StubLemmas.{all_are}
use Rattle.ospf_whatif.proofs.stubs.all_failures.Goals as goal

pub returns-clause-all : goal.returns-clause-all
returns-clause-all c =
    all_are c.args.listing.now c.in_ok-failures.failures.items c.add_stubs.new.failures.items c.put_in_order.new.failures.items c.in_ok-failures.ensures.all c.in_ok-add_stubs.ensures
    c.put_in_order.ensures.same
