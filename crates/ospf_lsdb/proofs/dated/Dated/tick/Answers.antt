use Rattle.std.proofs.Common.{◌≤◌, subst, List, map, arith}
use Rattle.ospf_lsdb.specs.Database.{Held, Ages}
use Rattle.ospf_lsdb.specs.Moments.{ahead}
use Rattle.ospf_lsdb.specs.Timers.{held_at}
use Rattle.ospf_lsdb.proofs.TickLemmas.{then_at}
use Rattle.ospf_lsdb.proofs.IdleLemmas.{idle_kept, idle_less, idle_ages, idle_looks}
use Rattle.ospf_lsdb.proofs.dated.Dated.tick.Goals as goal

pub invariant_of-self : goal.invariant_of-self
invariant_of-self c =
    let two : 2 ≤ ahead c.self.inside.clock c.self.inside.next = omega arith in
    record {
      kept = idle_kept c.self.inside.clock (ahead c.self.inside.clock c.self.inside.next) c.self.inside.entries c.self.inside.due c.self.invariant.kept c.self.invariant.quiet two;
      quiet = idle_less c.self.inside.clock c.self.inside.next c.self.inside.due c.self.invariant.kept.on_ring c.self.invariant.quiet two;
    }

pub returns-then-moments_until-ge2-clause-ages : goal.returns-then-moments_until-ge2-clause-ages
returns-then-moments_until-ge2-clause-ages c = λ k.
    let two : 2 ≤ ahead c.self.inside.clock c.self.inside.next = omega arith in
    subst (λ (db : List Held). Ages db (map (held_at (then_at c.self.inside.clock) c.self.inside.due) c.self.inside.entries.entries)) c.self.view_is
    (idle_ages c.self.inside.clock (ahead c.self.inside.clock c.self.inside.next) c.self.inside.entries c.self.inside.due c.self.invariant.kept c.self.invariant.quiet two) k

pub returns-then-moments_until-ge2-clause-looks : goal.returns-then-moments_until-ge2-clause-looks
returns-then-moments_until-ge2-clause-looks c =
    let two : 2 ≤ ahead c.self.inside.clock c.self.inside.next = omega arith in
    idle_looks c.self.inside.clock (ahead c.self.inside.clock c.self.inside.next) c.self.inside.entries.entries c.self.inside.due c.self.invariant.kept c.self.invariant.quiet two
