use Rattle.std.proofs.Common.{take}
use Rattle.std.specs.List.{AllZip}
use Rattle.ospf_failures.specs.Without.{IsNamedBy}
use Rattle.ospf_failures.proofs.without.named_among.Given as goal

-- those that are named so far
abbrev pub invariant-loop-name : goal.invariant-loop-name
invariant-loop-name l = AllZip (IsNamedBy l.single) (take l.name-index l.names) l.failures.items
