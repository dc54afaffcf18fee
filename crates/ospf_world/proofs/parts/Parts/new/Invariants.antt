use Rattle.std.proofs.Common.{◌≡◌, ◌++◌}
use Rattle.ospf_world.proofs.NewFacts.{IsBegun}
use Rattle.ospf_world.proofs.parts.Parts.new.Given as goal

abbrev pub invariant-loop-config : goal.invariant-loop-config
invariant-loop-config l = record {
  walked : l.fn.configs.items ≡ l.yielded ++ l.config-iterator.rest.items;
  begun : IsBegun l.yielded l.slots.items l.places;
}
