use Rattle.std.proofs.Common.{arith, ◌≤◌, [], length, get_or}
use Rattle.std.proofs.lemmas.List.{take_all}
use Rattle.std.proofs.lemmas.List.Elements.{Contains-get_or}
use Rattle.ospf_spf.proofs.NetworkLemmas.{chosen_is}
use Rattle.ospf_spf.proofs.HopLemmas.{HasHopAmong, adds_gathered, gathers_both, gathers_kept, gathers_same, among_more, among_kept}
use Rattle.ospf_spf.proofs.routes.hops_by.Goals.{then-counts+in_ok-add_hops_by, else-counts}
use Rattle.ospf_spf.specs.Reach.{HasHop, HasHopOf}
use Rattle.ospf_spf.proofs.routes.hops_by.Goals as goal

pub loop-reach-preserved : goal.loop-reach-preserved
loop-reach-preserved g c =
    let reaches = c.args.reaches.now in
    let starts = (g.P.Paths.kept c.args.paths.now).starts in
    let chosen = chosen_is reaches c.args.prefix c.args.cost c.chosen_network-network.result c.chosen_network-network.ensures
    (get_or reaches c.loop-reach.reach-index c.reach-item.result) (Contains-get_or reaches c.loop-reach.reach-index c.reach-item.result c.loop-reach-test.true) in
    elim c.if-counts.branch [
      | then-counts+in_ok-add_hops_by w ↦
          rw w.hops-is
          (gathers_kept (HasHopAmong reaches _ starts c.args.prefix c.args.cost) [] w.add_hops_by.new.hops.items w.leave_once-left.new.hops.items
          (gathers_both (HasHopAmong reaches _ starts c.args.prefix c.args.cost) (HasHop starts (get_or reaches c.loop-reach.reach-index c.reach-item.result).vertex) (HasHopAmong reaches _ starts c.args.prefix c.args.cost)
          [] c.loop-reach.hops.items w.add_hops_by.new.hops.items c.loop-reach.invariant (rw (← c.reach-item.is) w.in_ok-add_hops_by.ensures)
          (among_more reaches c.loop-reach.reach-index c.reach-item.result starts c.args.prefix c.args.cost c.loop-reach-test.true (chosen.0 (rw (← c.reach-item.is) (c.counts.ensures.0 w.if-counts.true))))) w.leave_once-left.ensures)
      | else-counts w ↦
          rw w.hops-is
          (gathers_same (HasHopAmong reaches _ starts c.args.prefix c.args.cost) (HasHopAmong reaches _ starts c.args.prefix c.args.cost)
          [] c.loop-reach.hops.items c.loop-reach.invariant
          (among_kept reaches c.loop-reach.reach-index c.reach-item.result starts c.args.prefix c.args.cost c.loop-reach-test.true (λ yes. let t = c.counts.ensures.1 (rw c.reach-item.is (chosen.1 yes)) in cc)))
    ]

pub returns : goal.returns
returns g c =
    let end : length c.args.reaches.now ≤ c.loop-reach.reach-index = omega arith in
    adds_gathered (HasHopOf c.args.reaches.now (g.P.Paths.kept c.args.paths.now).starts c.args.prefix c.args.cost) [] c.loop-reach.hops.items c.of.result
    (rw take_all at c.loop-reach.invariant) c.of.ensures.hops c.of.ensures.in_order
