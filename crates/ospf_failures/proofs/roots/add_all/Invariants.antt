use Rattle.std.proofs.Common.{◌≡◌, ◌++◌, length}
use Rattle.ospf_failures.proofs.RootLemmas.{HasAdded}
use Rattle.ospf_failures.proofs.roots.add_all.Given as goal

-- those so far are added
abbrev pub invariant-loop-one : goal.invariant-loop-one
invariant-loop-one l = record {
  walked : l.fn.more.items ≡ l.yielded ++ l.one-iterator.rest.items;
  place : l.place ≡ length l.yielded;
  added : HasAdded l.fn.overalls.items l.yielded l.place l.overalls.items;
}
