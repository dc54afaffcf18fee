use Rattle.std.proofs.Common.{◌≡◌, ◌++◌}
use Rattle.ospf_change.proofs.edit.applied.listed.Given as goal

abbrev pub invariant-loop-link : goal.invariant-loop-link
invariant-loop-link l = record {
  walked : l.fn.links ≡ l.yielded ++ l.link-iterator;
  all_so_far : l.all.items ≡ l.yielded;
}
