use Rattle.std.proofs.Common.{◌+◌, ◌≤◌, ◌++◌, ◌∷◌, [], List, length, subst, sym, arith}
use Rattle.ospf_base.specs.declared.ids.RouterId.{RouterId}
use Rattle.ospf_world.specs.Worlds.{world_of}
use Rattle.ospf_world.proofs.WalkFacts.{Completes, walk_ends, walk_goes, walk_turns, whole_walk}
use Rattle.ospf_world.proofs.world.World.walk_from.Goals as goal

pub returns-in-Ends : goal.returns-in-Ends
returns-in-Ends c =
    let w = world_of c.args.self.now in
    let slots = c.slots-count.result.now in
    whole_walk c.args.self.now slots c.args.address.0 c.args.choices.now c.args.from c.push.new.self.items (c.loop-i.routers.items ++ c.loop-i.at ∷ []) (c.loop-i.cost + c.in-Ends.last) c.in-Ends.end c.slots-count.ensures c.in_ok-push.ensures.items
    (walk_ends w c.args.address.0 c.args.choices.now c.args.from (length slots) c.loop-i.i c.loop-i.at c.loop-i.routers.items c.loop-i.cost c.choice_at.result c.in-Ends.last c.leg.result c.in-Ends.end
    c.loop-i-test.true c.choice_at.ensures c.leg.ensures c.in-Ends.is c.loop-i.invariant.completes)

pub loop-i-preserved : goal.loop-i-preserved
loop-i-preserved c =
    let w = world_of c.args.self.now in
    let slots = c.slots-count.result.now in
    record {
      completes = subst (λ (rs : List RouterId). Completes w c.args.address.0 c.args.choices.now c.args.from (length slots) (c.loop-i.i + 1) c.in-Goes.next rs (c.loop-i.cost + c.in-Goes.link)) (sym c.in_ok-push.ensures.items)
          (walk_goes w c.args.address.0 c.args.choices.now c.args.from (length slots) c.loop-i.i c.loop-i.at c.loop-i.routers.items c.loop-i.cost c.choice_at.result c.in-Goes.link c.leg.result c.in-Goes.next
          c.loop-i-test.true c.choice_at.ensures c.leg.ensures c.in-Goes.is c.loop-i.invariant.completes);
      low = let low = c.loop-i.invariant.low in omega arith;
    }

pub returns : goal.returns
returns c =
    let w = world_of c.args.self.now in
    let slots = c.slots-count.result.now in
    let past : length slots ≤ c.loop-i.i = omega arith in
    whole_walk c.args.self.now slots c.args.address.0 c.args.choices.now c.args.from c.push-2.new.self.items (c.loop-i.routers.items ++ c.loop-i.at ∷ []) c.loop-i.cost _ c.slots-count.ensures c.in_ok-push-2.ensures.items
    (walk_turns w c.args.address.0 c.args.choices.now c.args.from (length slots) c.loop-i.i c.loop-i.at c.loop-i.routers.items c.loop-i.cost past c.loop-i.invariant.completes)
