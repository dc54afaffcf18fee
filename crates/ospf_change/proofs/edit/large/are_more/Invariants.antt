use Rattle.std.proofs.Common.{◌≡◌, ◌+◌, ◌++◌, length}
use Rattle.ospf_change.proofs.edit.large.are_more.Given as goal

-- as many are left as have not been seen
abbrev pub invariant-loop-link : goal.invariant-loop-link
invariant-loop-link l = record {
  walked : l.fn.links ≡ l.yielded ++ l.link-iterator;
  counted : l.left + length l.yielded ≡ l.fn.most;
}
