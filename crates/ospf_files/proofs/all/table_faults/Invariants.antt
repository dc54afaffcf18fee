use Rattle.std.proofs.Common.{take}
use Rattle.toml.specs.View.{table_view}
use Rattle.ospf_config.specs.Tables.{HasConfigFault}
use Rattle.ospf_files.specs.AllFaults.{AreFaultsExplained}
use Rattle.ospf_files.specs.Explained.{AreTablePlaces}
use Rattle.ospf_files.proofs.all.table_faults.Given as goal

-- the faults so far
abbrev pub invariant-loop-fault : goal.invariant-loop-fault
invariant-loop-fault l =
    AreFaultsExplained (HasConfigFault (table_view l.table)) (AreTablePlaces (table_view l.table)) (take l.fault-index l.fault-items) l.out.items
