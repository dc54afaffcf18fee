use Rattle.std.proofs.Common.{◌≡◌, ◌≤◌, not, ℕ, ap, subst, sym, ◌∙◌, Option, None, Some, List, map, arith, if◌then◌else◌}
use Rattle.ospf_base.specs.declared.ids.LsaKey.{LsaKey}
use Rattle.ospf_lsdb.specs.declared.dated.Stored.{Stored}
use Rattle.ospf_lsdb.specs.Database.{Held, held_of, removed, is_expired, is_some_and}
use Rattle.ospf_base.specs.Keys.{same_key}
use Rattle.ospf_lsdb.specs.Timers.{AreKeptEntries, held_at, stored_of, age_of}
use Rattle.ospf_lsdb.proofs.EntryLemmas.{removed-young, removed-old, is_expired-young, is_expired-old}
use Rattle.ospf_lsdb.proofs.MapLemmas.{Puts-words, Puts-same}
use Rattle.ospf_lsdb.specs.Moments.{ahead, has_due, same_due}
use Rattle.ospf_lsdb.proofs.IdleLemmas.{idle_fewer}
use Rattle.ospf_lsdb.proofs.MomentLemmas.{and_right}
use Rattle.ospf_lsdb.proofs.TimerLemmas.{stored_updated}
use Rattle.ospf_lsdb.proofs.ExpireLemmas.{removes_kept, removes_put, held_aged, held_none}
use Rattle.ospf_lsdb.proofs.dated.Dated.remove_expired.Goals as goal
use Rattle.ospf_lsdb.proofs.dated.Dated.remove_expired.Goals.{After-remove_reached, In-Some, In_default}

none : (c : In_default) → held_of c.args.self.now c.args.key.now ≡ None
none c = subst (λ (db : List Held). held_of db c.args.key.now ≡ None) c.self.view_is (held_none c.self.inside.clock c.self.inside.entries.entries c.self.inside.due c.args.key.now c.self.invariant.kept (sym c.in_default.ensures))

held : (c : In-Some) → (h : Held) × (held_of c.args.self.now c.args.key.now ≡ Some h) × (h.entry.age ≡ c.in-Some.age) × (c.in-Some.age ≤ 3600)
held c =
    let f = held_aged c.self.inside.clock c.in-Some.age c.self.inside.entries.entries c.self.inside.due c.args.key.now c.self.invariant.kept (sym c.in-Some.ensures) in
    (f.0, subst (λ (db : List Held). held_of db c.args.key.now ≡ Some f.0) c.self.view_is f.1, f.2, f.3)

pub returns-in_default-clause-entry : goal.returns-in_default-clause-entry
unfolding removed
returns-in_default-clause-entry c =
    let is = none (goal.at.returns-in_default-clause-entry c).In_default in
    Puts-same c.args.key.now (removed (held_of c.args.self.now c.args.key.now)) c.args.self.now (is ∙ sym (ap removed is))

pub returns-in_default-clause-was_expired : goal.returns-in_default-clause-was_expired
returns-in_default-clause-was_expired c = sym (ap (λ (o : Option Held). is_some_and is_expired o) (none (goal.at.returns-in_default-clause-was_expired c).In_default))

pub returns-then-age-lt-MAX_AGE-clause-entry : goal.returns-then-age-lt-MAX_AGE-clause-entry
returns-then-age-lt-MAX_AGE-clause-entry c =
    let f = held (goal.at.returns-then-age-lt-MAX_AGE-clause-entry c).In-Some in
    Puts-same c.args.key.now (removed (held_of c.args.self.now c.args.key.now)) c.args.self.now
    (f.1 ∙ sym (ap removed f.1 ∙ removed-young f.0 (omega (arith, f.2, c.if-age-lt-MAX_AGE.true))))

pub returns-then-age-lt-MAX_AGE-clause-was_expired : goal.returns-then-age-lt-MAX_AGE-clause-was_expired
returns-then-age-lt-MAX_AGE-clause-was_expired c =
    let f = held (goal.at.returns-then-age-lt-MAX_AGE-clause-was_expired c).In-Some in
    sym (is_expired-young f.0 (omega (arith, f.2, c.if-age-lt-MAX_AGE.true))) ∙ sym (ap (λ (o : Option Held). is_some_and is_expired o) f.1)

aged : (clock age : ℕ) (es : List (LsaKey × Stored)) (key : LsaKey) → age_of clock es key ≡ Some age → 3600 ≤ age → age ≤ 3600 → age_of clock es key ≡ Some 3600
aged clock age es key is old most = is ∙ ap (λ (n : ℕ). Some n) (omega arith)

old_of : (c : After-remove_reached) → age_of c.self.inside.clock c.self.inside.entries.entries c.args.key.now ≡ Some 3600
old_of c =
    let f = held_aged c.self.inside.clock c.in-Some.age c.self.inside.entries.entries c.self.inside.due c.args.key.now c.self.invariant.kept (sym c.in-Some.ensures) in
    aged c.self.inside.clock c.in-Some.age c.self.inside.entries.entries c.args.key.now (sym c.in-Some.ensures) c.if-age-lt-MAX_AGE.false f.3

put : (c : After-remove_reached) (q : LsaKey) → stored_of c.remove.new.self.entries q ≡ (if same_key c.args.key.now q then None else stored_of c.self.inside.entries.entries q)
put c q = stored_updated c.self.inside.entries c.remove.new.self c.args.key.now None c.remove.ensures.updates q

kept : (c : After-remove_reached) → AreKeptEntries c.self.inside.clock c.remove.new.self.entries c.remove_reached.new.self
kept c = removes_kept c.self.inside.clock c.args.key.now c.self.inside.entries c.remove.new.self c.self.inside.due c.remove_reached.new.self c.self.invariant.kept c.remove.ensures.ordered (old_of c) (put c) c.remove_reached.ensures.gone

pub invariant_of-self : goal.invariant_of-self
invariant_of-self c = record {
  kept = kept (goal.at.invariant_of-self c).After-remove_reached;
  quiet = idle_fewer c.self.inside.clock (ahead c.self.inside.clock c.self.inside.next) c.self.inside.due c.remove_reached.new.self c.self.invariant.quiet
      (λ q there. and_right (not (same_due (record { moment = c.self.inside.clock; age = 3600; key = c.args.key.now }) q)) (has_due c.self.inside.due q) (sym (c.remove_reached.ensures.gone q) ∙ there));
}

pub returns-clause-entry : goal.returns-clause-entry
returns-clause-entry c =
    let d = (goal.at.returns-clause-entry c).After-remove_reached in
    let f = held (goal.at.returns-clause-entry c).In-Some in
    let old : 3600 ≤ f.0.entry.age = omega (arith, f.2, c.if-age-lt-MAX_AGE.false) in
    let most : f.0.entry.age ≤ 3600 = omega (arith, f.2, f.3) in
    let view = map (held_at c.self.inside.clock c.self.inside.due) c.self.inside.entries.entries in
    Puts-words c.args.key.now None (removed (held_of c.args.self.now c.args.key.now)) view c.args.self.now (map (held_at c.self.inside.clock c.remove_reached.new.self) c.remove.new.self.entries)
    (sym (ap removed f.1 ∙ removed-old f.0 old most)) c.self.view_is
    (removes_put c.self.inside.clock c.args.key.now c.self.inside.entries c.remove.new.self c.self.inside.due c.remove_reached.new.self c.self.invariant.kept (kept d) (old_of d) (put d) c.remove_reached.ensures.gone)

pub returns-clause-was_expired : goal.returns-clause-was_expired
returns-clause-was_expired c =
    let f = held (goal.at.returns-clause-was_expired c).In-Some in
    sym (is_expired-old f.0 (omega (arith, f.2, c.if-age-lt-MAX_AGE.false)) (omega (arith, f.2, f.3))) ∙ sym (ap (λ (o : Option Held). is_some_and is_expired o) f.1)
