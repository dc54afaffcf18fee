use Rattle.std.proofs.Common.{refl}
use Rattle.ospf_spf.proofs.OrderLemmas.{parted_none, parted_one, first_there}
use Rattle.ospf_spf.proofs.edit.part.Goals as goal

pub returns-then-is_first_to-clause-parted : goal.returns-then-is_first_to-clause-parted
returns-then-is_first_to-clause-parted c =
    let first = c.if-is_first_to.ensures.0 refl in
    let popped = first_there c.move_before.new.left.items c.pop_front-route.new.self.items c.pop_front-route.ensures.rest first.0 in
    parted_one c.args.prefix c.args.left.now.items c.args.made.now.items c.move_before.new.left.items c.move_before.new.made.items c.pop_front-route.new.self.items popped.0
    c.requires.order c.move_before.ensures.moved popped.1 first

pub returns-else-is_first_to-clause-parted : goal.returns-else-is_first_to-clause-parted
returns-else-is_first_to-clause-parted c =
    parted_none c.args.prefix c.args.left.now.items c.args.made.now.items c.move_before.new.left.items c.move_before.new.made.items
    c.requires.order c.move_before.ensures.moved c.move_before.ensures.first (λ f. let t = c.if-is_first_to.ensures.1 f in cc)
