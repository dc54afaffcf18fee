use Rattle.std.proofs.Common.{sym, ◌∙◌, ◌<◌, length, rules}
use Rattle.ospf_world.proofs.PlaceFacts.{placed, at_within}
use Rattle.ospf_world.proofs.LendFacts.{lends, none_at}
use Rattle.ospf_world.proofs.parts.Parts.router.Goals as goal

pub index-requires : goal.index-requires
index-requires c = let h : c.in-Some.place < length c.self.inside.slots.items = at_within c.self.inside.slots.items _ _ (placed _ _ _ (sym (c.self.invariant.0 c.args.router.0) ∙ (sym c.place.ensures ∙ c.in-Some.is))) in search rules

pub returns-in-Some : goal.returns-in-Some
returns-in-Some c = rw (← c.self.view_is) (lends (record { slots = c.self.inside.slots.items; logs = c.self.inside.logs; ticks = c.self.inside.ticks.items; offered = c.self.inside.offered }) c.args.router c.in-Some.place c.index.result.now c.running.result (sym (c.self.invariant.0 c.args.router.0) ∙ (sym c.place.ensures ∙ c.in-Some.is)) c.index.ensures c.running.ensures)

pub returns-in-None : goal.returns-in-None
returns-in-None c = rw (← c.self.view_is) (none_at (record { slots = c.self.inside.slots.items; logs = c.self.inside.logs; ticks = c.self.inside.ticks.items; offered = c.self.inside.offered }) c.args.router (sym (c.self.invariant.0 c.args.router.0) ∙ (sym c.place.ensures ∙ c.in-None.is)))
