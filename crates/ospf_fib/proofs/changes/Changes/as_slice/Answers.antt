use Rattle.std.proofs.Common.{subst, AllPairs, List}
use Rattle.ospf_spf.specs.Changes.{IsChangeBefore}
use Rattle.ospf_spf.specs.declared.changes.Change.{Change}
use Rattle.ospf_fib.proofs.changes.Changes.as_slice.Goals as goal

pub returns-clause-in_order : goal.returns-clause-in_order
returns-clause-in_order c = subst (λ (l : List Change). AllPairs IsChangeBefore l) c.self.view_is c.self.invariant.0
