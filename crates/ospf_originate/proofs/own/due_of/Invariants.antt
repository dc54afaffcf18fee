use Rattle.std.proofs.Common.{◌≡◌, take}
use Rattle.std.specs.List.{AllByRecursion}
use Rattle.ospf_originate.specs.Steps.{HasUsedNumber, action_of}
use Rattle.ospf_originate.proofs.Words.{due_of}
use Rattle.ospf_originate.proofs.own.due_of.Given as goal

abbrev pub invariant-loop-key : goal.invariant-loop-key
invariant-loop-key l = record {
  is : l.out.items ≡ due_of (action_of l.area) (take l.key-index l.keys);
  used : AllByRecursion HasUsedNumber l.out.items;
}
