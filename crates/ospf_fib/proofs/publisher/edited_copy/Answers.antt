use Rattle.std.proofs.Common.{subst, sym, AllPairs, List}
use Rattle.ospf_spf.specs.Changes.{IsChangeBefore}
use Rattle.ospf_spf.specs.declared.changes.Change.{Change}
use Rattle.ospf_fib.proofs.publisher.edited_copy.Goals as goal

pub edit-requires-clause-in_order : goal.edit-requires-clause-in_order
edit-requires-clause-in_order c = subst (λ (l : List Change). AllPairs IsChangeBefore l) (sym c.as_slice.ensures.changes) c.as_slice.ensures.in_order
