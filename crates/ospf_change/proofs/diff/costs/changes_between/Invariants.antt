use Rattle.std.proofs.Common.{◌≡◌, ◌++◌}
use Rattle.std.specs.Prelude.{filter_map}
use Rattle.std.specs.BTreeMap.{get}
use Rattle.ospf_change.specs.Diff.Costs.{change_in, interface_cmp}
use Rattle.ospf_change.proofs.diff.costs.changes_between.Given as goal

-- with those of the entries that are left, all changes
abbrev pub invariant-loop-interface : goal.invariant-loop-interface
invariant-loop-interface l =
    l.found.items ++ filter_map (change_in (get interface_cmp l.new)) l.interface-iterator ≡ filter_map (change_in (get interface_cmp l.new)) l.old.entries
