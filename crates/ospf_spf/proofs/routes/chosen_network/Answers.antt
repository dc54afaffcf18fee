use Rattle.std.proofs.Common.{arith, ◌≤◌, length}
use Rattle.std.proofs.lemmas.List.{take_all}
use Rattle.ospf_spf.proofs.NetworkLemmas.{network_kept, network_more}
use Rattle.ospf_spf.proofs.routes.chosen_network.Goals.{in-Some, in_default}
use Rattle.ospf_spf.proofs.routes.chosen_network.Goals as goal

pub loop-reach-preserved : goal.loop-reach-preserved
loop-reach-preserved c =
    elim c.match-network_at.branch [
      | in-Some w ↦
          rw w.largest-is
          (network_more c.args.reaches.now c.loop-reach.reach-index c.reach-item.result c.args.prefix c.args.cost c.loop-reach.largest w.in-Some.id w.larger.result c.loop-reach-test.true
          (rw (← c.reach-item.is) w.in-Some.ensures) c.loop-reach.invariant w.larger.ensures)
      | in_default w ↦
          rw w.largest-is
          (network_kept c.args.reaches.now c.loop-reach.reach-index c.reach-item.result c.args.prefix c.args.cost c.loop-reach.largest c.loop-reach-test.true
          (rw (← c.reach-item.is) w.in_default.ensures) c.loop-reach.invariant)
    ]

pub returns : goal.returns
returns c =
    let end : length c.args.reaches.now ≤ c.loop-reach.reach-index = omega arith in
    rw take_all at c.loop-reach.invariant
