use Rattle.std.proofs.Common.{rules}
use borrow.Author.Tests.{tests}
use Rattle.std.proofs.lemmas.Iterator.{YieldsList-from_map, YieldsList-from_slice, items_from_collect}
use Rattle.std.proofs.lemmas.Iterator.Consumers.{YieldsList-from_filter}
use Rattle.ospf_world.specs.Worlds.{SlotValue}
use Rattle.ospf_views.specs.RecordFiles.Drawings.{is_stopped}
use Rattle.ospf_views.proofs.records.drawings.stopped_in.Goals as goal

pub returns : goal.returns
returns c =
    items_from_collect _ c.collect.ensures.ran
    (YieldsList-from_map _ (λ (s : SlotValue). s.config.router_id)
    (YieldsList-from_filter _ is_stopped (YieldsList-from_slice c.args.slots.now cc) c.filter.ensures.closure (λ x b q k. search (rules, tests)))
    c.map.ensures.closure (λ x r q k. search rules))
