use Rattle.std.proofs.Common.{◌≡◌, ◌≤◌, ◌-◌, drop, take}
use Rattle.ospf_commands.specs.Deliveries.Batches.{offers_from}
use Rattle.ospf_commands.proofs.delivery.batches.waiting_offers.Given as goal

abbrev pub invariant-loop-place : goal.invariant-loop-place
invariant-loop-place l = record {
  low : l.world.offered ≤ l.place;
  events : l.events.items ≡ offers_from l.world.slots l.world.offered (take (l.place - l.world.offered) (drop l.world.offered l.world.logs.datagrams));
}
