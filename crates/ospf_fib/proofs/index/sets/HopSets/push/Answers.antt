use Rattle.std.proofs.Common.{◌≡◌, length, refl, arith}
use Rattle.ospf_fib.proofs.PrefixIndex.SetLemmas.{one_part_more}
use Rattle.ospf_fib.proofs.index.sets.HopSets.push.Goals as goal

pub returns-clause-lists : goal.returns-clause-lists
returns-clause-lists c =
    let old = c.args.self.now in
    let long : c.len.result ≡ length old.hops.items = omega arith in
    rw (c.in-Ok.ensures.items, c.in-Ok-push.ensures.items) (one_part_more old.hops.items c.args.hops.now old.sets.items (record { first = c.len.result; count = length c.args.hops.now }) c.requires.stand long refl)
