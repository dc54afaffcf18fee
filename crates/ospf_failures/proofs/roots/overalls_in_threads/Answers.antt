use Rattle.std.proofs.Common.{arith}
use Rattle.rayon.specs.Lists.{chunks_of}
use Rattle.ospf_graph.specs.EdgeLists.Listed.{advertisements_of}
use Rattle.ospf_failures.proofs.RootLemmas.{groups_few, over_groups}
use Rattle.ospf_failures.proofs.roots.overalls_in_threads.Goals as goal

pub added_up-requires : goal.added_up-requires
added_up-requires g c =
    let size = c.group_size-size.result in (
      advertisements_of c.args.at.0.now,
      c.args.detail,
      chunks_of size c.args.roots.now,
      groups_few size c.args.roots.now c.group_size-size.ensures (omega arith),
      c.in_ok-pieces.ensures,
    )

pub returns : goal.returns
returns g c =
    let A = advertisements_of c.args.at.0.now in
    let size = c.group_size-size.result in
    over_groups A c.args.detail c.args.outages.now size c.args.roots.now c.in_ok-overalls.overalls.items c.group_size-size.ensures
    (c.in_ok-overalls.ensures A c.args.detail (chunks_of size c.args.roots.now) c.in_ok-pieces.ensures)
