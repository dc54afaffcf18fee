use Rattle.std.proofs.Common.{ℕ, ◌≡◌, ◌&&◌, not, ap, subst, ◌∙◌, Bool, List, map, length, option_map, arith, if◌then◌else◌}
use Rattle.std.specs.Map.{keys_of}
use Rattle.ospf_base.specs.declared.ids.LsaKey.{LsaKey}
use Rattle.ospf_lsdb.specs.Database.{Held, Ages}
use Rattle.ospf_lsdb.specs.Moments.{IsIdleUntil, is_due_at, keys_at, among}
use Rattle.ospf_lsdb.specs.Timers.{AreKeptEntries, held_at, stored_of, timer_stopped}
use Rattle.ospf_lsdb.proofs.TickLemmas.{then_at, Forgets, Looks, sorted_from-rising, ticks_kept, ticks_ages, ticks_looks}
use Rattle.ospf_lsdb.proofs.RingLemmas.{ahead-of}
use Rattle.ospf_lsdb.proofs.IdleLemmas.{idle_moment}
use Rattle.ospf_lsdb.proofs.dated.Dated.tick_due.Goals as goal
use Rattle.ospf_lsdb.proofs.dated.Dated.tick_due.Goals.{After-look_at_all}

ops : (c : After-look_at_all) → Forgets c.self.inside.clock c.self.inside.due c.forget-2.new.self
ops c = λ q. c.forget-2.ensures q ∙ ap (λ (b : Bool). not (is_due_at c.self.inside.clock 3600 q) && b) (c.forget.ensures q)

looks : (c : After-look_at_all) → Looks (keys_at (then_at c.self.inside.clock) 3600 c.forget-2.new.self) c.self.inside.entries.entries c.look_at_all.new.entries.entries
looks c = λ q. c.look_at_all.ensures.entry q
    ∙ ap (λ (ks : List LsaKey). if among ks q then option_map timer_stopped (stored_of c.self.inside.entries.entries q) else stored_of c.self.inside.entries.entries q) (subst (λ (n : ℕ). c.at-keys.result ≡ keys_at n 3600 c.forget-2.new.self) (omega arith) c.at-keys.ensures.keys)

kept : (c : After-look_at_all) → AreKeptEntries (then_at c.self.inside.clock) c.look_at_all.new.entries.entries c.forget-2.new.self
kept c = ticks_kept c.self.inside.clock c.self.inside.entries c.look_at_all.new.entries c.self.inside.due c.forget-2.new.self c.self.invariant.kept c.look_at_all.ensures.ordered (ops c) (looks c)

pub invariant_of-self : goal.invariant_of-self
invariant_of-self c =
    let so_far = ahead-of (then_at c.self.inside.clock) c.idle_from.result (omega arith) c.idle_from.ensures.fits in
    record { kept = kept c; quiet = idle_moment (then_at c.self.inside.clock) c.idle_from.result _ c.forget-2.new.self (omega (arith, so_far)) (subst (λ (n : ℕ). IsIdleUntil n c.idle_from.result c.forget-2.new.self) (omega arith) c.idle_from.ensures.idle) }

pub look_at_all-requires-clause-ordered : goal.look_at_all-requires-clause-ordered
look_at_all-requires-clause-ordered c = sorted_from-rising (keys_of c.self.inside.entries.entries) c.self.invariant.kept.rising

pub returns-clause-ages : goal.returns-clause-ages
returns-clause-ages c = λ k.
    let d = (goal.at.returns-clause-ages c).After-look_at_all in
    subst (λ (db : List Held). Ages db (map (held_at (then_at c.self.inside.clock) c.forget-2.new.self) c.look_at_all.new.entries.entries)) c.self.view_is
    (ticks_ages c.self.inside.clock c.self.inside.entries.entries c.look_at_all.new.entries.entries c.self.inside.due c.forget-2.new.self c.self.invariant.kept (kept d) (ops d) (looks d)) k

pub returns-clause-looks : goal.returns-clause-looks
returns-clause-looks c =
    let d = (goal.at.returns-clause-looks c).After-look_at_all in
    c.look_at_all.ensures.looks ∙ ap (λ (ks : List LsaKey). length ks) c.at-keys.ensures.keys
    ∙ ticks_looks c.self.inside.clock c.look_at_all.new.entries.entries c.forget-2.new.self (kept d) c.at-keys.ensures.ordered
