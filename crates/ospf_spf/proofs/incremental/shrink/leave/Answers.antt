use Rattle.ospf_spf.specs.IncrementalSpf.Growth.{HasStart, IsAt}
use Rattle.ospf_spf.proofs.IncrementalSpf.ShrinkSteps.{leaves_more}
use Rattle.ospf_spf.proofs.incremental.shrink.leave.Goals as goal

pub loop-vertex-preserved : goal.loop-vertex-preserved
loop-vertex-preserved c =
    let rs = c.args.found.now.reached.items in
    let ks = c.loop-vertex.found.reached.items in
    let ls = c.take_out.new.found.reached.items in
    record {
      places = c.in_ok-take_out.ensures.places;
      left = leaves_more (IsAt rs) (IsAt ks) (IsAt ls) (HasStart rs) (HasStart ks) (HasStart ls) c.args.gone.now c.loop-vertex.vertex-index _ c.loop-vertex-test.true
          c.loop-vertex.invariant.left c.in_ok-take_out.ensures.left;
    }
