use Rattle.std.proofs.Common.{subst, sym, AllPairs, List}
use Rattle.ospf_spf.specs.Changes.{IsChangeBefore}
use Rattle.ospf_spf.specs.declared.changes.Change.{Change}
use Rattle.ospf_fib.proofs.publisher.planned.Goals as goal

pub new-requires-clause-in_order : goal.new-requires-clause-in_order
new-requires-clause-in_order c = subst (λ (l : List Change). AllPairs IsChangeBefore l) (sym c.as_slice.ensures.changes) c.as_slice.ensures.in_order
