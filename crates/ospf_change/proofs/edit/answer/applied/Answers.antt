use Rattle.std.proofs.Common.{rules}
use Rattle.ospf_graph.specs.EdgeLists.Listed.{advertisements_of}
use Rattle.ospf_change.proofs.Edits.ChangedLemmas.{none_large}
use Rattle.ospf_change.proofs.edit.answer.applied.Goals as goal

pub unreachable-requires : goal.unreachable-requires
unreachable-requires c = none_large c.args.changes.now (advertisements_of c.args.listing) c.requires.small (c.apply.ensures.large (search rules))
