use Rattle.std.proofs.Common.{◌≡◌, ◌≤◌, ◌++◌, take, vec_capacity}
use Rattle.std.specs.List.{flat_map, AllByRecursion}
use Rattle.ospf_packet.specs.Requests.{request_entry_bytes, RequestEntryFits}
use Rattle.ospf_packet.proofs.write.push_entries.Given as goal

abbrev pub invariant-loop-entry : goal.invariant-loop-entry
invariant-loop-entry l = record {
  bytes : l.out.items ≡ l.fn.out.items ++ flat_map request_entry_bytes (take l.entry-index l.entries);
  capacity : vec_capacity l.fn.out ≤ vec_capacity l.out;
  fit : AllByRecursion RequestEntryFits (take l.entry-index l.entries);
}
