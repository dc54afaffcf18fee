use Rattle.std.proofs.Common.{◌≡◌, ◌++◌, take}
use Rattle.std.specs.List.{enumerate_from, flat_map}
use Rattle.ospf_commands.specs.Deliveries.Many.{events_on}
use Rattle.ospf_commands.proofs.delivery.many.push_links.Given as goal

abbrev pub invariant-loop-link : goal.invariant-loop-link
invariant-loop-link l =
    l.events.items ≡ l.initial.events.items ++ flat_map (events_on l.many l.config.router_id) (take l.link (enumerate_from 0 l.config.interfaces.items))
