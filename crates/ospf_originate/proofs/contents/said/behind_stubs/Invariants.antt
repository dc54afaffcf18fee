use Rattle.std.proofs.Common.{◌≡◌, option_copied, take}
use Rattle.std.specs.List.{flat_map}
use Rattle.ospf_originate.specs.Wants.Said.{behind, stub_bytes}
use Rattle.ospf_originate.proofs.contents.said.behind_stubs.Given as goal

abbrev pub invariant-loop-stub : goal.invariant-loop-stub
invariant-loop-stub l = option_copied l.rest ≡ behind (flat_map stub_bytes (take l.stub-index l.stubs)) (option_copied l.fn.bytes)
