use Rattle.ospf_commands.proofs.Deliveries.KeepFacts.{KeepsTo}
use Rattle.ospf_commands.proofs.delivery.losses.kept_offers.Given as goal

abbrev pub invariant-loop-offer : goal.invariant-loop-offer
invariant-loop-offer l = KeepsTo l.percent l.offers l.initial.generator l.kept.items l.offer-index l.generator
