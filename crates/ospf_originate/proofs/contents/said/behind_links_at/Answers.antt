use Rattle.std.proofs.Common.{rules, option_copied}
use Rattle.ospf_originate.proofs.Wants.SaidLemmas.{broadcast_behind, down_behind, ends_behind}
use Rattle.ospf_originate.proofs.contents.said.behind_links_at.Goals as goal

pub returns-then-is_down : goal.returns-then-is_down
returns-then-is_down c = down_behind c.args.stub_router c.args.link.now (option_copied c.args.bytes) (search rules)

pub returns-in-PointToPoint : goal.returns-in-PointToPoint
returns-in-PointToPoint c = ends_behind c.args.stub_router c.args.link.now (option_copied c.args.bytes) (option_copied c.behind_neighbours-rest.result) _ (search rules) (search rules) (search rules) (search rules)

pub returns-in-Broadcast : goal.returns-in-Broadcast
returns-in-Broadcast c = broadcast_behind c.args.stub_router c.args.link.now (option_copied c.args.bytes) _ (search rules) (search rules) (search rules)
