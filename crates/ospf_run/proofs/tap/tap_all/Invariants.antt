use Rattle.std.proofs.Common.{◌≡◌, ◌+◌, ◌++◌, List, length}
use Rattle.std.specs.List.{AllZip}
use Rattle.ospf_run.proofs.tap.tap_all.Given as goal

-- each wire that is gone has its tapped one, and a wire is left for each other configuration
abbrev pub invariant-loop-place : goal.invariant-loop-place
invariant-loop-place g l = record {
  left : l.wires.rest.len + l.place ≡ length l.configs;
  tapped : (gone : List _) × (l.fn.wires.items ≡ gone ++ l.wires.rest.items) × AllZip (λ wire it. it.wire ≡ wire) gone l.all.items;
}
