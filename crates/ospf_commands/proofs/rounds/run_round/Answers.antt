use Rattle.std.proofs.Common.{sym, subst, refl, Option, Some}
use Rattle.ospf_commands.specs.Rounds.{RoundBy}
use Rattle.ospf_commands.specs.Simulations.{moved}
use Rattle.ospf_commands.specs.declared.delivery.losses.Losses.{Losses}
use Rattle.ospf_commands.proofs.rounds.run_round.Goals as goal

pub returns-in-Some-clause-round : goal.returns-in-Some-clause-round
returns-in-Some-clause-round g c =
    subst (λ (found : Option Losses). RoundBy found c.args.most c.args.simulation.now c.round_losing.result (record (moved c.args.simulation.now c.round_losing.new.world) { losses = Some c.round_losing.new.losses }))
    (sym c.in-Some.is) (c.round_losing.new.world, c.round_losing.new.losses, c.round_losing.ensures.round, refl)

pub returns-in-None-clause-round : goal.returns-in-None-clause-round
returns-in-None-clause-round g c =
    subst (λ (found : Option Losses). RoundBy found c.args.most c.args.simulation.now c.round_watched.result (moved c.args.simulation.now c.round_watched.new.self))
    (sym c.in-None.is) (c.round_watched.new.self, c.round_watched.ensures.round, refl)
