use Rattle.std.proofs.Common.{◌≡◌, ◌+◌, List, filter, length, arith, ap}
use Rattle.ospf_lsdb.specs.Database.{Held, is_fresh}
use Rattle.ospf_lsdb.proofs.IndexLemmas.{others}
use Rattle.ospf_lsdb.proofs.lsdb.Lsdb.fresh.Goals as goal
use Rattle.ospf_lsdb.proofs.lsdb.Lsdb.fresh.Goals.{After-len-2}

all : (c : After-len-2) → c.len-2.result + length (filter (λ h. is_fresh h.entry) c.self.inside.dated) ≡ length c.self.inside.dated
all c =
    let keys = ap length c.self.invariant.keys in
    let count = others c.self.inside.dated c.len.ensures.database.ages in
    omega (arith, keys, count, c.len-2.ensures)

pub overflow_sub-result : goal.overflow_sub-result
overflow_sub-result c = omega (arith, all (goal.at.overflow_sub-result c).After-len-2, c.len.ensures.count)

pub returns : goal.returns
returns c =
    let same = ap (λ (db : List Held). length (filter (λ h. is_fresh h.entry) db)) c.self.view_is in
    omega (arith, same, all (goal.at.returns c).After-len-2, c.len.ensures.count)
