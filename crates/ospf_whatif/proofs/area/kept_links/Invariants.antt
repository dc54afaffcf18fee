use Rattle.std.proofs.Common.{◌≡◌, ◌++◌}
use Rattle.ospf_whatif.specs.Failure.{kept_links}
use Rattle.ospf_whatif.proofs.area.kept_links.Given as goal

abbrev pub invariant-loop-link : goal.invariant-loop-link
invariant-loop-link l = record {
  walked : l.fn.links ≡ l.yielded ++ l.link-iterator;
  kept_so_far : l.kept.items ≡ kept_links l.inner l.failure l.router l.yielded;
}
