use Rattle.std.proofs.Common.{◌≡◌, ◌+◌, ◌≤◌, ◌++◌, vec_len, vec_capacity}
use Rattle.std.specs.List.{AllZip}
use Rattle.ospf_drive.specs.Driven.{IsThreadJoined}
use Rattle.ospf_drive.proofs.all.join_all.Given as goal

-- each thread so far has its result, and there is room for those of the threads that are left
abbrev pub invariant-loop-running : goal.invariant-loop-running
invariant-loop-running g l = record {
  walked : l.fn.threads.items ≡ l.yielded ++ l.running-iterator.rest.items;
  room : vec_len l.results + l.running-iterator.rest.len ≤ vec_capacity l.results;
  joined : AllZip (IsThreadJoined g.M.Machine.rules) l.yielded l.results.items;
}
