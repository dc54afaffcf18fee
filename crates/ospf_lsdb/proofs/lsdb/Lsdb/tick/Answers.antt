use Rattle.std.proofs.Common.{sym, ◌∙◌, ◌||◌, List, ap, arith, length}
use Rattle.ospf_base.specs.declared.ids.LsaKey.{LsaKey}
use Rattle.ospf_lsdb.specs.Moments.{among}
use Rattle.ospf_lsdb.proofs.IndexLemmas.{index_ages, index_stays, room_for_all}
use Rattle.ospf_lsdb.proofs.lsdb.Lsdb.tick.Goals as goal

pub put_all-requires : goal.put_all-requires
put_all-requires c =
    let all = room_for_all c.self.inside.dated c.tick-looks.new.self c.self.inside.expired c.is_database.ensures c.is_database-2.ensures c.tick-looks.ensures.ages c.self.invariant in
    let come = ap length c.reached.ensures.keys in
    omega (arith, all, come)

pub invariant_of-self : goal.invariant_of-self
invariant_of-self c =
    index_stays c.self.inside.dated c.tick-looks.new.self c.self.inside.expired c.is_database.ensures c.is_database-2.ensures c.tick-looks.ensures.ages c.self.invariant
    (sym c.if-looks-eq0.true ∙ c.tick-looks.ensures.looks)

pub invariant_of-self-2 : goal.invariant_of-self-2
invariant_of-self-2 c =
    index_ages c.self.inside.dated c.tick-looks.new.self c.self.inside.expired c.put_all.new.self c.is_database.ensures c.is_database-2.ensures c.tick-looks.ensures.ages c.self.invariant
    c.put_all.ensures.rising
    (λ k. c.put_all.ensures.keys k ∙ ap (λ (come : List LsaKey). among come k || among c.self.inside.expired.keys k) c.reached.ensures.keys) c.put_all.ensures.room
