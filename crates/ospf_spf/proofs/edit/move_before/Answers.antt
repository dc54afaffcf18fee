use Rattle.std.proofs.Common.{arith, refl, subst, sym, List}
use Rattle.ospf_graph.specs.declared.route.Route.{Route}
use Rattle.ospf_spf.specs.Changes.{IsMoved}
use Rattle.ospf_spf.proofs.OrderLemmas.{one_moved}
use Rattle.ospf_spf.proofs.edit.move_before.Goals as goal

pub loop-prefix-preserved : goal.loop-prefix-preserved
loop-prefix-preserved c =
    let m = one_moved c.args.prefix c.args.left.now.items c.args.made.now.items c.loop-prefix.left.items c.loop-prefix.made.items c.pop_front.new.self.items c.in-Some.route
    c.loop-prefix.invariant.0 c.in-Some.ensures.items (c.loop-prefix-test.ensures.0 refl) in (
      subst (λ (l : List Route). IsMoved c.args.prefix c.args.left.now.items c.args.made.now.items c.pop_front.new.self.items l) (sym c.push_in_room.ensures.items) m,
      omega (arith, c.in-Some.ensures.len, c.push_in_room.ensures.len),
      omega (arith, c.push_in_room.ensures.room),
    )
