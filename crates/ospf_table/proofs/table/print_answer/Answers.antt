use Rattle.std.proofs.Common.{inl, refl}
use Rattle.ospf_files.proofs.Written.{nothing_begun}
use Rattle.ospf_files.specs.Streams.{no_room}
use Rattle.ospf_table.proofs.Written.{routes_begun}
use Rattle.ospf_table.proofs.table.print_answer.Goals as goal

pub returns-in_default-clause-begun : goal.returns-in_default-clause-begun
returns-in_default-clause-begun g c = routes_begun _ _ c.args.table.now c.args.table.now c.args.addresses.now refl (nothing_begun _ _)

pub returns-in_default-clause-cut : goal.returns-in_default-clause-cut
returns-in_default-clause-cut g c = inl no_room
