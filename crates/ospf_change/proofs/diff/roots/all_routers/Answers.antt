use Rattle.ospf_change.proofs.Diffs.SightLemmas.{routers_among}
use Rattle.ospf_change.proofs.diff.roots.all_routers.Goals as goal

pub returns : goal.returns
returns c =
    routers_among c.args.before.now c.args.after.now c.new-routers.result.items c.add_routers.new.routers.items c.add_routers-2.new.routers.items c.put_in_order.new.routers.items
    c.new-routers.ensures.items c.in_ok-add_routers.ensures c.in_ok-add_routers-2.ensures c.put_in_order.ensures.same c.put_in_order.ensures.rising
