use Rattle.std.proofs.Common.{rules, ◌≡◌, true, nat_lt, vec_len}
use Rattle.ospf_world.specs.Slots.{FeedsOn}
use Rattle.ospf_world.proofs.slot.Slot.feed_on.Goals as goal

pub returns-then-link-len : goal.returns-then-link-len
returns-then-link-len c = let h : nat_lt c.args.link (vec_len c.args.self.now.config.interfaces) ≡ true = search rules in FeedsOn.OnLink h c.feed.ensures
