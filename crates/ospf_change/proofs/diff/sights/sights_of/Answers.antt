use Rattle.std.proofs.Common.{◌≤◌, List, arith, length, subst}
use Rattle.std.proofs.lemmas.List.{get_or_default, take_all}
use Rattle.ospf_base.specs.declared.ids.RouterId.{RouterId}
use Rattle.ospf_graph.specs.EdgeLists.Listed.{advertisements_of}
use Rattle.ospf_change.specs.Diff.Sights.{AreSeen}
use Rattle.ospf_change.proofs.Diffs.SightLemmas.{none_seen, room_after, room_at_start, room_for_one, seen_more}
use Rattle.ospf_change.proofs.diff.sights.sights_of.Goals as goal

pub loop-router-init : goal.loop-router-init
loop-router-init c = record {
  seen = none_seen (advertisements_of c.args.before.now) (advertisements_of c.args.after.now) c.args.routers.now c.none-sights.result c.none-sights.ensures.lines
      c.none-sights.ensures.sums;
  room = room_at_start _ c.none-sights.result.sums (omega arith) c.none-sights.ensures.sums;
}

pub see-requires : goal.see-requires
see-requires c = room_for_one _ c.loop-router.sights.sums (omega arith) c.loop-router.invariant.room

pub loop-router-preserved : goal.loop-router-preserved
loop-router-preserved c = record {
  seen = seen_more (advertisements_of c.args.before.now) (advertisements_of c.args.after.now) c.args.routers.now c.loop-router.router-index _ c.loop-router.sights c.see.new.self
      c.loop-router-test.true (get_or_default c.args.routers.now c.loop-router.router-index _ _ c.loop-router-test.true) c.in_ok-see.ensures c.loop-router.invariant.seen;
  room = room_after _ _ c.loop-router.sights.sums c.see.new.self.sums c.in_ok-see.ensures.found c.in_ok-see.ensures.few c.in_ok-see.ensures.sums_are (omega arith)
      c.loop-router.invariant.room;
}

pub returns : goal.returns
returns c =
    let end : length c.args.routers.now ≤ c.loop-router.router-index = omega (arith, c.loop-router-test.false) in
    subst (λ (l : List RouterId). AreSeen (advertisements_of c.args.before.now) (advertisements_of c.args.after.now) l c.loop-router.sights)
    (take_all c.loop-router.router-index c.args.routers.now end) c.loop-router.invariant.seen
