use Rattle.std.proofs.Common.{rules, ◌≡◌, true, is_some}
use Rattle.ospf_world.proofs.NewFacts.{same_router}
use Rattle.ospf_world.proofs.parts.add.Goals as goal

pub returns-then-is_some : goal.returns-then-is_some
returns-then-is_some c = let h : is_some c.place.result ≡ true = search rules in same_router _ _ _ c.place.result c.place.ensures h
