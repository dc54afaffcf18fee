use Rattle.std.proofs.Common.{refl, ◌∷◌, []}
use Rattle.ospf_router.specs.Steps.{is_dropped}
use Rattle.ospf_world.specs.Worlds.{world_of}
use Rattle.ospf_world.proofs.ComesFacts.{does_comes, does_same, does_tick}
use Rattle.ospf_world.proofs.ExactFacts.{exact_on, exact_reached}
use Rattle.ospf_world.proofs.Reached.{keeping}
use Rattle.ospf_world.proofs.world.World.step.Goals as goal

pub invariant_of-self : goal.invariant_of-self
invariant_of-self c = exact_on _ _ _ _ c.step.ensures c.self.invariant

pub returns-clause-does : goal.returns-clause-does
returns-clause-does c = rw (← c.self.view_is) c.step.ensures

pub returns-clause-comes : goal.returns-clause-comes
returns-clause-comes c = rw (← c.self.view_is) (does_comes _ _ _ _ c.step.ensures)

pub returns-clause-same : goal.returns-clause-same
returns-clause-same c = rw (← c.self.view_is) (does_same _ _ _ _ c.step.ensures)

pub returns-clause-reached : goal.returns-clause-reached
returns-clause-reached c = exact_reached c.step.new.self (exact_on _ _ _ _ c.step.ensures c.self.invariant)

pub returns-clause-exact : goal.returns-clause-exact
returns-clause-exact c = exact_on _ _ _ _ c.step.ensures c.self.invariant

pub returns-clause-headline : goal.returns-clause-headline
returns-clause-headline c = rw (← c.self.view_is) (c.headline.ensures is_dropped (c.args.event ∷ []) _ _ (exact_reached c.self.inside.parts c.self.invariant) (world_of c.step.new.self, (c.step.result, does_comes _ _ _ _ c.step.ensures), refl))

pub returns-clause-sound : goal.returns-clause-sound
returns-clause-sound c = rw (← c.self.view_is) (c.soundness.ensures is_dropped c.args.event _ _ (exact_reached c.self.inside.parts c.self.invariant) (c.step.result, does_comes _ _ _ _ c.step.ensures))

pub returns-clause-ticks : goal.returns-clause-ticks
returns-clause-ticks c = rw (← c.self.view_is) (does_tick _ _ _ _ c.step.ensures)

pub returns-clause-lawful : goal.returns-clause-lawful
returns-clause-lawful c = rw (← c.self.view_is) (keeping _ _ _ _ c.step.ensures)
