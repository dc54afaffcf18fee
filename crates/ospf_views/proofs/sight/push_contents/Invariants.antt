use Rattle.std.proofs.Common.{◌≡◌, ◌++◌, take}
use Rattle.std.specs.Prelude.{flat_map}
use Rattle.ospf_base.specs.Sums.{contents}
use Rattle.ospf_views.proofs.sight.push_contents.Given as goal

abbrev pub invariant-loop-lsa : goal.invariant-loop-lsa
invariant-loop-lsa l = l.seen.items ≡ l.initial.seen.items ++ flat_map contents (take l.lsa-index l.lsas)
