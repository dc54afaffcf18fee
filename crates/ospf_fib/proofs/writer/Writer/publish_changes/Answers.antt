use Rattle.std.proofs.Common.{subst, sym, AllPairs, List}
use Rattle.ospf_spf.specs.Changes.{IsChangeBefore}
use Rattle.ospf_spf.specs.declared.changes.Change.{Change}
use Rattle.ospf_fib.proofs.writer.Writer.publish_changes.Goals as goal

pub of-changes-requires-clause-in_order : goal.of-changes-requires-clause-in_order
of-changes-requires-clause-in_order g c = subst (λ (l : List Change). AllPairs IsChangeBefore l) (sym c.in_ok-copy_changes.ensures) c.requires.in_order
