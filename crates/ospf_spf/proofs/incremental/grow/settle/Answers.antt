use Rattle.ospf_spf.specs.IncrementalSpf.Growth.{IsAt, HasEdge, HasStart}
use Rattle.std.specs.List.{Contains}
use Rattle.ospf_spf.proofs.IncrementalSpf.ChangedLemmas.{extends_holds, extends_none, extends_then}
use Rattle.ospf_spf.proofs.IncrementalSpf.GrowthLemmas.{settled}
use Rattle.ospf_spf.proofs.IncrementalSpf.GrowthSteps.{left_in, none_waits, spares_same, spares_then, taken_out, was_in}
use Rattle.ospf_spf.proofs.incremental.grow.settle.Goals as goal

pub returns-in_default-clause-settles : goal.returns-in_default-clause-settles
returns-in_default-clause-settles c h all root g =
    settled (Contains all) (Contains c.args.edges.now) root (IsAt c.loop.found.reached.items) (HasStart c.loop.found.reached.items) (HasEdge c.loop.waits.list) (c.loop.invariant.grows all root g)
    (none_waits c.loop.waits.list c.in_default.ensures.none.0)

pub loop-preserved : goal.loop-preserved
loop-preserved c =
    record {
      grows = λ all root g.
          c.in_ok-take_edge.ensures.pays c.if-not-branch.false all root c.loop.waits.list (c.loop.invariant.grows all root g)
          (was_in c.in-Some.candidate c.loop.waits.list c.take_least.new.self.list c.in-Some.ensures.taken)
          (taken_out c.in-Some.candidate c.loop.waits.list c.take_least.new.self.list c.in-Some.ensures.taken)
          (left_in c.in-Some.candidate c.loop.waits.list c.take_least.new.self.list c.in-Some.ensures.taken);
      near = c.in_ok-take_edge.ensures.near;
      places = c.in_ok-take_edge.ensures.places;
      spares = spares_then c.loop.changed.items c.take_edge.new.changed.items c.args.found.now.reached.items c.loop.found.reached.items c.take_edge.new.found.reached.items
          (extends_holds _ _ c.in_ok-take_edge.ensures.changed) c.loop.invariant.spares c.in_ok-take_edge.ensures.spares;
      changed = extends_then _ _ _ c.loop.invariant.changed c.in_ok-take_edge.ensures.changed;
    }

pub loop-init : goal.loop-init
loop-init c =
    record {
      grows = λ all root g. g;
      near = c.requires.near;
      places = c.requires.places;
      spares = spares_same c.args.changed.now.items c.args.found.now.reached.items;
      changed = extends_none _;
    }

pub returns-then-not-branch-clause-spares : goal.returns-then-not-branch-clause-spares
returns-then-not-branch-clause-spares c =
    spares_then c.loop.changed.items c.take_edge.new.changed.items c.args.found.now.reached.items c.loop.found.reached.items c.take_edge.new.found.reached.items
    (extends_holds _ _ c.in_ok-take_edge.ensures.changed) c.loop.invariant.spares c.in_ok-take_edge.ensures.spares

pub returns-then-not-branch-clause-changed : goal.returns-then-not-branch-clause-changed
returns-then-not-branch-clause-changed c = extends_then _ _ _ c.loop.invariant.changed c.in_ok-take_edge.ensures.changed

pub returns-in_err-take_edge-clause-changed : goal.returns-in_err-take_edge-clause-changed
returns-in_err-take_edge-clause-changed c = extends_then _ _ _ c.loop.invariant.changed c.in_err-take_edge.ensures.changed
