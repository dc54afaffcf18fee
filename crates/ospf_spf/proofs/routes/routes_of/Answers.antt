use Rattle.ospf_spf.proofs.Groups.{routes_more, routes_kept, routes_complete}
use Rattle.ospf_spf.proofs.routes.routes_of.Goals.{then-is_first+in_ok-route_at+in_ok-push, else-is_first}
use Rattle.ospf_spf.proofs.routes.routes_of.Goals as goal

pub loop-place-preserved : goal.loop-place-preserved
loop-place-preserved c =
    elim c.if-is_first.branch [
      | then-is_first+in_ok-route_at+in_ok-push w ↦
          rw w.routes-is
          (routes_more c.args.reaches.now c.args.starts.now c.loop-place.place c.loop-place-test.true c.loop-place.routes.items c.loop-place.invariant c.requires.reaches_in_order
          (c.is_first.ensures.first w.if-is_first.true) _ w.in_ok-route_at.ensures.prefix w.in_ok-route_at.ensures.route w.push.new.self.items w.in_ok-push.ensures.items)
      | else-is_first w ↦
          rw w.routes-is
          (let same = c.is_first.ensures.later w.if-is_first.false in
          routes_kept c.args.reaches.now c.args.starts.now c.loop-place.place c.loop-place-test.true c.loop-place.routes.items c.loop-place.invariant same.0 same.1)
    ]

pub returns-clause-complete : goal.returns-clause-complete
returns-clause-complete c =
    routes_complete c.args.reaches.now c.args.starts.now c.loop-place.place c.loop-place.routes.items c.loop-place-test.false c.loop-place.invariant
