use Rattle.std.proofs.Common.{◌≤◌, ap, arith, length, option_map, refl, sym, true, ◌∙◌}
use Rattle.ospf_lsdb.specs.Database.{expired, held_of}
use Rattle.ospf_lsdb.proofs.IndexLemmas.{expired_same, expired_there, fresh_room, index_kept, index_puts, no_more}
use Rattle.ospf_lsdb.proofs.lsdb.Lsdb.expire.Goals as goal
use Rattle.ospf_lsdb.proofs.lsdb.Lsdb.expire.Goals.{After-is_database-2}

count : (c : After-is_database-2) → length c.expire-was_fresh.new.self ≤ length c.self.inside.dated
count c = no_more c.args.key.now (λ o. option_map expired o) refl c.self.inside.dated c.expire-was_fresh.new.self c.is_database.ensures c.is_database-2.ensures c.expire-was_fresh.ensures.entry

pub put-requires : goal.put-requires
put-requires c =
    let fewer = fresh_room c.self.inside.dated c.args.key.now (sym c.expire-was_fresh.ensures.was_fresh ∙ c.if-was_fresh.true) in
    let keys = ap length c.self.invariant.keys in
    omega (arith, fewer, keys, c.self.invariant.room)

pub invariant_of-self : goal.invariant_of-self
invariant_of-self c =
    let held = held_of c.self.inside.dated c.args.key.now in
    let there = expired_there held (sym c.expire-was_fresh.ensures.was_fresh ∙ c.if-was_fresh.true) in
    index_puts c.args.key.now (option_map expired held) true c.self.inside.dated c.expire-was_fresh.new.self c.self.inside.expired c.put.new.self c.is_database.ensures c.is_database-2.ensures c.expire-was_fresh.ensures.entry
    c.self.invariant.keys there c.put.ensures.rising c.put.ensures.keys (omega (arith, count (goal.at.invariant_of-self c).After-is_database-2, c.put.ensures.room, c.self.invariant.room))

pub invariant_of-self-else-was_fresh : goal.invariant_of-self-else-was_fresh
invariant_of-self-else-was_fresh c =
    let held = held_of c.self.inside.dated c.args.key.now in
    let same = expired_same held (sym c.expire-was_fresh.ensures.was_fresh ∙ c.if-was_fresh.false) in
    index_kept c.args.key.now (option_map expired held) c.self.inside.dated c.expire-was_fresh.new.self c.self.inside.expired c.is_database.ensures c.is_database-2.ensures c.expire-was_fresh.ensures.entry
    c.self.invariant same (omega (arith, count (goal.at.invariant_of-self-else-was_fresh c).After-is_database-2, c.self.invariant.room))
