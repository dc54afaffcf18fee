use Rattle.std.proofs.Common.{false, arith}
use Rattle.ospf_lsdb.specs.Database.{held_of, removed}
use Rattle.ospf_lsdb.proofs.IndexLemmas.{index_puts, no_more, removed_none, removed_of_none}
use Rattle.ospf_lsdb.proofs.lsdb.Lsdb.remove_expired.Goals as goal

pub invariant_of-self : goal.invariant_of-self
invariant_of-self c =
    let held = held_of c.self.inside.dated c.args.key.now in
    let after = c.remove_expired-was_expired.new.self in
    let count = no_more c.args.key.now removed removed_of_none c.self.inside.dated after c.is_database.ensures c.is_database-2.ensures c.remove_expired-was_expired.ensures.entry in
    index_puts c.args.key.now (removed held) false c.self.inside.dated after c.self.inside.expired c.remove.new.self c.is_database.ensures c.is_database-2.ensures c.remove_expired-was_expired.ensures.entry
    c.self.invariant.keys (removed_none held) c.remove.ensures.rising c.remove.ensures.keys (omega (arith, count, c.remove.ensures.room, c.self.invariant.room))
