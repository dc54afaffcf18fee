use Rattle.std.proofs.Common.{rules, ◌≡◌, ◌<◌, true, length, nat_lt, vec_len}
use Rattle.ospf_world.proofs.SlotFacts.{delivers}
use Rattle.ospf_world.proofs.slot.Slot.deliver.Goals as goal

pub returns : goal.returns
returns c =
    let h : nat_lt c.args.link (vec_len c.args.self.now.config.interfaces) ≡ true = search rules in
    let within : c.args.place < length c.args.logs.now.datagrams = search rules in
    delivers _ _ _ _ _ _ _ h within c.hand.ensures
