use Rattle.std.proofs.Common.{◌≡◌, ◌≤◌, ◌<◌, ◌&&◌, Bool, not, ℕ, ap, subst, sym, ◌∙◌, Option, None, Some, true, false, option_map, List, map, arith}
use Rattle.ospf_lsdb.specs.declared.moments.AgeDue.{AgeDue}
use Rattle.ospf_lsdb.specs.Database.{Held, held_of, expired, is_fresh, is_some_and}
use Rattle.ospf_lsdb.specs.Moments.{ahead, has_due, same_due, is_coming}
use Rattle.ospf_lsdb.specs.Timers.{AreKeptEntries, held_at}
use Rattle.ospf_lsdb.proofs.MapLemmas.{Puts-words, Puts-same}
use Rattle.ospf_lsdb.proofs.ExpireLemmas.{parted, expires_kept, expires_put, held_aged, held_none, fresh_not}
use Rattle.ospf_lsdb.proofs.IdleLemmas.{idle_fewer}
use Rattle.ospf_lsdb.proofs.EntryLemmas.{expired-old}
use Rattle.std.proofs.lemmas.Bool.{lt-ltb}
use Rattle.ospf_lsdb.proofs.dated.Dated.expire.Goals as goal
use Rattle.ospf_lsdb.proofs.dated.Dated.expire.Goals.{After-remove_coming, In-Some, In_default}

-- what is due afterwards
ops : (c : After-remove_coming) (q : AgeDue) → has_due c.remove_coming.new.self q ≡ (not (is_coming c.self.inside.clock c.in-Some.age c.args.key.now q) && (not (same_due (record { moment = c.self.inside.clock; age = c.in-Some.age; key = c.args.key.now }) q) && has_due c.self.inside.due q))
ops c q = c.remove_coming.ensures q ∙ ap (λ (b : Bool). not (is_coming c.self.inside.clock c.in-Some.age c.args.key.now q) && b) (c.remove_reached.ensures.gone q)

kept : (c : After-remove_coming) → AreKeptEntries c.self.inside.clock c.stop.new.entries.entries c.remove_coming.new.self
kept c = expires_kept c.self.inside.clock c.in-Some.age c.args.key.now c.self.inside.entries c.stop.new.entries c.self.inside.due c.remove_coming.new.self c.self.invariant.kept c.stop.ensures.ordered (sym c.in-Some.ensures) c.stop.ensures.entry (ops c)

pub invariant_of-self : goal.invariant_of-self
invariant_of-self c = record {
  kept = kept c;
  quiet = idle_fewer c.self.inside.clock (ahead c.self.inside.clock c.self.inside.next) c.self.inside.due c.remove_coming.new.self c.self.invariant.quiet
      (λ q there. (parted (is_coming c.self.inside.clock c.in-Some.age c.args.key.now q) (same_due (record { moment = c.self.inside.clock; age = c.in-Some.age; key = c.args.key.now }) q) (has_due c.self.inside.due q) (sym (ops c q) ∙ there)).2);
}

none : (c : In_default) → held_of c.args.self.now c.args.key.now ≡ None
none c = subst (λ (db : List Held). held_of db c.args.key.now ≡ None) c.self.view_is (held_none c.self.inside.clock c.self.inside.entries.entries c.self.inside.due c.args.key.now c.self.invariant.kept (sym c.in_default.ensures))

pub returns-in_default-clause-entry : goal.returns-in_default-clause-entry
returns-in_default-clause-entry c =
    let is = none (goal.at.returns-in_default-clause-entry c).In_default in
    Puts-same c.args.key.now (option_map expired (held_of c.args.self.now c.args.key.now)) c.args.self.now (is ∙ sym (ap (λ (o : Option Held). option_map expired o) is))

pub returns-in_default-clause-was_fresh : goal.returns-in_default-clause-was_fresh
returns-in_default-clause-was_fresh c = sym (ap (λ (o : Option Held). is_some_and (λ h. is_fresh h.entry) o) (none (goal.at.returns-in_default-clause-was_fresh c).In_default))

held : (c : In-Some) → (h : Held) × (held_of c.args.self.now c.args.key.now ≡ Some h) × (h.entry.age ≡ c.in-Some.age) × (c.in-Some.age ≤ 3600)
held c =
    let f = held_aged c.self.inside.clock c.in-Some.age c.self.inside.entries.entries c.self.inside.due c.args.key.now c.self.invariant.kept (sym c.in-Some.ensures) in
    (f.0, subst (λ (db : List Held). held_of db c.args.key.now ≡ Some f.0) c.self.view_is f.1, f.2, f.3)

pub returns-then-age-eq-MAX_AGE-clause-entry : goal.returns-then-age-eq-MAX_AGE-clause-entry
returns-then-age-eq-MAX_AGE-clause-entry c =
    let f = held (goal.at.returns-then-age-eq-MAX_AGE-clause-entry c).In-Some in
    let old : 3600 ≤ f.0.entry.age = omega (arith, f.2, c.if-age-eq-MAX_AGE.true) in
    Puts-same c.args.key.now (option_map expired (held_of c.args.self.now c.args.key.now)) c.args.self.now
    (f.1 ∙ sym (ap (λ (o : Option Held). option_map expired o) f.1 ∙ ap (λ (h : Held). Some h) (expired-old f.0 old)))

pub returns-then-age-eq-MAX_AGE-clause-was_fresh : goal.returns-then-age-eq-MAX_AGE-clause-was_fresh
returns-then-age-eq-MAX_AGE-clause-was_fresh c =
    let f = held (goal.at.returns-then-age-eq-MAX_AGE-clause-was_fresh c).In-Some in
    let old : is_fresh f.0.entry ≡ false = fresh_not f.0 (omega (arith, f.2, c.if-age-eq-MAX_AGE.true)) in
    sym old ∙ sym (ap (λ (o : Option Held). is_some_and (λ h. is_fresh h.entry) o) f.1)

young : (age : ℕ) → (age ≡ 3600 → ⊥) → age ≤ 3600 → age < 3600
young age apart most = omega arith

pub returns-clause-entry : goal.returns-clause-entry
returns-clause-entry c =
    let d = (goal.at.returns-clause-entry c).After-remove_coming in
    let f = held (goal.at.returns-clause-entry c).In-Some in
    let view = map (held_at c.self.inside.clock c.self.inside.due) c.self.inside.entries.entries in
    Puts-words c.args.key.now (option_map expired (held_of view c.args.key.now)) (option_map expired (held_of c.args.self.now c.args.key.now)) view c.args.self.now (map (held_at c.self.inside.clock c.remove_coming.new.self) c.stop.new.entries.entries)
    (ap (λ (db : List Held). option_map expired (held_of db c.args.key.now)) c.self.view_is) c.self.view_is
    (expires_put c.self.inside.clock c.in-Some.age c.args.key.now c.self.inside.entries c.stop.new.entries c.self.inside.due c.remove_coming.new.self c.self.invariant.kept (kept d) (young c.in-Some.age c.if-age-eq-MAX_AGE.false f.3) (sym c.in-Some.ensures) c.stop.ensures.entry (ops d))

pub returns-clause-was_fresh : goal.returns-clause-was_fresh
returns-clause-was_fresh c =
    let f = held (goal.at.returns-clause-was_fresh c).In-Some in
    let less = young c.in-Some.age c.if-age-eq-MAX_AGE.false f.3 in
    let fresh : is_fresh f.0.entry ≡ true = lt-ltb f.0.entry.age 3600 (omega (arith, f.2)) in
    sym fresh ∙ sym (ap (λ (o : Option Held). is_some_and (λ h. is_fresh h.entry) o) f.1)
