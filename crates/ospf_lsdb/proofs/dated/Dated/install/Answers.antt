use Rattle.std.proofs.Common.{◌≡◌, ◌&&◌, ◌||◌, not, ap, subst, sym, ◌∙◌, Option, None, Some, option_map, List, ℕ, Bool, true, arith, map, if◌then◌else◌}
use Rattle.ospf_base.specs.declared.ids.LsaKey.{LsaKey}
use Rattle.ospf_base.specs.Sums.{contents}
use Rattle.ospf_lsa.specs.Header.{header_of}
use Rattle.ospf_lsa.specs.Lsa.{key_of}
use Rattle.ospf_lsa.specs.declared.header.LsaHeader.{LsaHeader}
use Rattle.ospf_lsdb.specs.Database.{Held, key_in, entry_from, Installs}
use Rattle.ospf_base.specs.Keys.{same_key}
use Rattle.ospf_lsdb.specs.declared.moments.AgeDue.{AgeDue}
use Rattle.ospf_lsdb.specs.declared.dated.Stored.{Stored}
use Rattle.ospf_lsdb.specs.Moments.{ahead, has_due, same_due, is_coming, IsIdleUntil}
use Rattle.ospf_lsdb.specs.Timers.{AreKeptEntries, held_at, stored_of, age_at, age_of}
use Rattle.ospf_lsdb.proofs.EntryLemmas.{key_of-contents, key-entry_from}
use Rattle.ospf_lsdb.proofs.MomentLemmas.{and_right}
use Rattle.ospf_lsdb.proofs.TimerLemmas.{stored_of-get, stored_updated}
use Rattle.ospf_lsdb.proofs.InstallLemmas.{Replaces, replaces_none, replaces_same, replaces_other, installs_kept, installs_put, undone_due, same_kept, same_view}
use Rattle.ospf_lsdb.proofs.IdleLemmas.{idle_installed}
use Rattle.ospf_lsdb.proofs.dated.Dated.install.Goals as goal
use Rattle.ospf_lsdb.proofs.dated.Dated.install.Goals.{After-insert, In-Ok-Some, In-Ok-None, After-remove_reached, After-remove_coming-in-Err, then-old_age-age, else-old_age-age}

key_is : (c : After-insert) → c.key-key.result ≡ key_in (contents c.args.lsa)
key_is c = c.key-key.ensures ∙ ap key_of c.view.ensures.same ∙ key_of-contents c.args.lsa

key_from : (c : After-insert) → c.key-key.result ≡ key_in (entry_from c.args.lsa c.args.tick c.args.by_flooding).contents
key_from c = c.key-key.ensures ∙ ap key_of c.view.ensures.same ∙ key-entry_from c.args.lsa c.args.tick c.args.by_flooding

age_is : (c : After-insert) → c.ticks-age.result ≡ (header_of c.args.lsa).age
age_is c = c.ticks-age.ensures.value ∙ ap (λ (h : LsaHeader). h.age) (c.header.ensures.value ∙ ap header_of c.view-2.ensures.same)

-- what is left of what was due and of what the LSA comes to is no nearer than either
quiet : (c : After-insert) (after : List AgeDue) → ((q : AgeDue) → has_due after q ≡ true → has_due c.add_coming.new.self q ≡ true) → IsIdleUntil c.self.inside.clock (ahead c.self.inside.clock c.sooner-self-inside.result) after
quiet c after fewer =
    idle_installed c.self.inside.clock (ahead c.self.inside.clock c.self.inside.next) c.ticks-age.result c.until_told.result (ahead c.self.inside.clock c.sooner-self-inside.result) c.key-key.result c.self.inside.due after c.self.invariant.kept.on_ring c.self.invariant.quiet
    c.until_told.ensures.refresh c.until_told.ensures.expiry (omega arith) (omega arith) (λ q there. sym (c.in_ok-add_coming.ensures.ok q) ∙ fewer q there)

-- ---- where there was an entry

put_some : (c : In-Ok-Some) (q : LsaKey) → stored_of c.insert.new.self.entries q ≡ (if same_key c.key-key.result q then Some (record { lsa = contents c.args.lsa; timer = c.new-2.result; tick = c.args.tick; by_flooding = c.args.by_flooding }) else stored_of c.self.inside.entries.entries q)
put_some c q = stored_updated c.self.inside.entries c.insert.new.self c.key-key.result (Some (record { lsa = c.new.result; timer = c.new-2.result; tick = c.args.tick; by_flooding = c.args.by_flooding })) c.in-Ok-Some.ensures.updates q
    ∙ ap (λ (l : List ℕ). if same_key c.key-key.result q then Some (record { lsa = l; timer = c.new-2.result; tick = c.args.tick; by_flooding = c.args.by_flooding }) else stored_of c.self.inside.entries.entries q) c.new.ensures

was : (c : After-remove_reached) → age_of c.self.inside.clock c.self.inside.entries.entries c.key-key.result ≡ Some c.age-old_age.result
was c =
    let there : stored_of c.self.inside.entries.entries c.key-key.result ≡ Some c.in-Ok-Some.old = sym (stored_of-get c.self.inside.entries c.key-key.result) ∙ sym c.in-Ok-Some.ensures.old ∙ c.in-Ok-Some.field-0-is in
    ap (λ (o : Option Stored). option_map (λ s. age_at c.self.inside.clock s.timer) o) there ∙ ap (λ (n : ℕ). Some n) (sym c.age-old_age.ensures)

gone : (c : After-remove_reached) (q : AgeDue) → has_due c.remove_reached.new.self q ≡ (not (same_due (record { moment = c.self.inside.clock; age = c.age-old_age.result; key = c.key-key.result }) q) && has_due c.add_coming.new.self q)
gone c q =
    subst (λ (n : ℕ). has_due c.remove_reached.new.self q ≡ (not (same_due (record { moment = c.self.inside.clock; age = n; key = c.key-key.result }) q) && has_due c.add_coming.new.self q)) (omega arith)
    (c.remove_reached.ensures.gone q)

ops_same : (c : After-remove_reached) (q : AgeDue) → has_due c.remove_reached.new.self q ≡ (not (same_due (record { moment = c.self.inside.clock; age = c.age-old_age.result; key = c.key-key.result }) q) && (is_coming c.self.inside.clock c.ticks-age.result c.key-key.result q || has_due c.self.inside.due q))
ops_same c q = gone c q ∙ ap (λ (b : Bool). not (same_due (record { moment = c.self.inside.clock; age = c.age-old_age.result; key = c.key-key.result }) q) && b) (c.in_ok-add_coming.ensures.ok q)

same_age : (c : After-remove_reached) → c.age-old_age.result ≡ c.ticks-age.result → Replaces c.self.inside.clock c.ticks-age.result c.key-key.result c.self.inside.due c.remove_reached.new.self
same_age c same = replaces_same c.self.inside.clock c.age-old_age.result c.ticks-age.result c.key-key.result c.self.inside.entries.entries c.self.inside.due c.remove_reached.new.self c.self.invariant.kept.on_ring c.self.invariant.kept.are_due (was c) same (ops_same c)

other_age : (c : After-remove_reached) (after : List AgeDue) → (c.age-old_age.result ≡ c.ticks-age.result → ⊥)
    → ((q : AgeDue) → has_due after q ≡ (not (is_coming c.self.inside.clock c.age-old_age.result c.key-key.result q) && has_due c.remove_reached.new.self q)) → Replaces c.self.inside.clock c.ticks-age.result c.key-key.result c.self.inside.due after
other_age c after differ ops = replaces_other c.self.inside.clock c.age-old_age.result c.ticks-age.result c.key-key.result c.self.inside.entries.entries c.self.inside.due after c.self.invariant.kept.on_ring c.self.invariant.kept.are_due (was c) differ
    (λ q. ops q ∙ ap (λ (b : Bool). not (is_coming c.self.inside.clock c.age-old_age.result c.key-key.result q) && b) (ops_same c q))

kept_some : (c : After-remove_reached) (after : List AgeDue) → Replaces c.self.inside.clock c.ticks-age.result c.key-key.result c.self.inside.due after → AreKeptEntries c.self.inside.clock c.insert.new.self.entries after
kept_some c after replaces =
    let d = (goal.at.After-remove_reached c).In-Ok-Some in
    let e = (goal.at.After-remove_reached c).After-insert in
    installs_kept c.self.inside.clock c.ticks-age.result c.key-key.result (record { lsa = contents c.args.lsa; timer = c.new-2.result; tick = c.args.tick; by_flooding = c.args.by_flooding }) c.self.inside.entries c.insert.new.self c.self.inside.due after c.self.invariant.kept c.in-Ok-Some.ensures.ordered
    (put_some d) (sym (key_is e)) c.new-2.ensures.age c.new-2.ensures.expired c.ticks-age.ensures.at_most replaces

installed_some : (c : After-remove_reached) (after : List AgeDue) → Replaces c.self.inside.clock c.ticks-age.result c.key-key.result c.self.inside.due after → Installs (entry_from c.args.lsa c.args.tick c.args.by_flooding) c.args.self.now (map (held_at c.self.inside.clock after) c.insert.new.self.entries)
installed_some c after replaces =
    let d = (goal.at.After-remove_reached c).In-Ok-Some in
    let e = (goal.at.After-remove_reached c).After-insert in
    subst (λ (db : List Held). Installs (entry_from c.args.lsa c.args.tick c.args.by_flooding) db (map (held_at c.self.inside.clock after) c.insert.new.self.entries)) c.self.view_is
    (installs_put c.self.inside.clock c.ticks-age.result c.key-key.result c.args.lsa c.new-2.result c.args.tick c.args.by_flooding c.self.inside.entries c.insert.new.self c.self.inside.due after c.self.invariant.kept (kept_some c after replaces)
    (put_some d) (key_from e) c.new-2.ensures.age (age_is e) replaces)

left : (c : After-remove_reached) (q : AgeDue) → has_due c.remove_reached.new.self q ≡ true → has_due c.add_coming.new.self q ≡ true
left c q there = and_right (not (same_due (record { moment = c.self.inside.clock; age = c.age-old_age.result; key = c.key-key.result }) q)) (has_due c.add_coming.new.self q) (sym (gone c q) ∙ there)

pub invariant_of-self-then-old_age-age : goal.invariant_of-self-then-old_age-age
invariant_of-self-then-old_age-age c =
    let d = (goal.at.invariant_of-self-then-old_age-age c).After-remove_reached in
    record {
      kept = kept_some d c.remove_coming.new.self (other_age d c.remove_coming.new.self c.if-old_age-age.true c.remove_coming.ensures);
      quiet = quiet (goal.at.invariant_of-self-then-old_age-age c).After-insert c.remove_coming.new.self
          (λ q there. left d q (and_right (not (is_coming c.self.inside.clock c.age-old_age.result c.key-key.result q)) (has_due c.remove_reached.new.self q) (sym (c.remove_coming.ensures q) ∙ there)));
    }

pub invariant_of-self-else-old_age-age : goal.invariant_of-self-else-old_age-age
invariant_of-self-else-old_age-age c =
    let d = (goal.at.invariant_of-self-else-old_age-age c).After-remove_reached in
    record {
      kept = kept_some d c.remove_reached.new.self (same_age d c.if-old_age-age.false);
      quiet = quiet (goal.at.invariant_of-self-else-old_age-age c).After-insert c.remove_reached.new.self (left d);
    }

pub returns-in-Ok-Some-clause-ok : goal.returns-in-Ok-Some-clause-ok
returns-in-Ok-Some-clause-ok c = λ k.
    let d = (goal.at.returns-in-Ok-Some-clause-ok c).After-remove_reached in
    let e = entry_from c.args.lsa c.args.tick c.args.by_flooding in
    elim c.if-old_age-age.branch [
      | then-old_age-age w ↦
          subst (λ (db : List Held). Installs e c.args.self.now db) (sym w.self-is)
          (installed_some d w.remove_coming.new.self (other_age d w.remove_coming.new.self w.if-old_age-age.true w.remove_coming.ensures)) k
      | else-old_age-age w ↦
          subst (λ (db : List Held). Installs e c.args.self.now db) (sym w.self-is)
          (installed_some d c.remove_reached.new.self (same_age d w.if-old_age-age.false)) k
    ]

-- ---- where there was none

put_none : (c : In-Ok-None) (q : LsaKey) → stored_of c.insert.new.self.entries q ≡ (if same_key c.key-key.result q then Some (record { lsa = contents c.args.lsa; timer = c.new-2.result; tick = c.args.tick; by_flooding = c.args.by_flooding }) else stored_of c.self.inside.entries.entries q)
put_none c q = stored_updated c.self.inside.entries c.insert.new.self c.key-key.result (Some (record { lsa = c.new.result; timer = c.new-2.result; tick = c.args.tick; by_flooding = c.args.by_flooding })) c.in-Ok-None.ensures.updates q
    ∙ ap (λ (l : List ℕ). if same_key c.key-key.result q then Some (record { lsa = l; timer = c.new-2.result; tick = c.args.tick; by_flooding = c.args.by_flooding }) else stored_of c.self.inside.entries.entries q) c.new.ensures

was_none : (c : In-Ok-None) → age_of c.self.inside.clock c.self.inside.entries.entries c.key-key.result ≡ None
was_none c =
    let there : stored_of c.self.inside.entries.entries c.key-key.result ≡ None = sym (stored_of-get c.self.inside.entries c.key-key.result) ∙ sym c.in-Ok-None.ensures.old ∙ c.in-Ok-None.field-0-is in
    ap (λ (o : Option Stored). option_map (λ s. age_at c.self.inside.clock s.timer) o) there

replaces : (c : In-Ok-None) → Replaces c.self.inside.clock c.ticks-age.result c.key-key.result c.self.inside.due c.add_coming.new.self
replaces c = replaces_none c.self.inside.clock c.ticks-age.result c.key-key.result c.self.inside.entries.entries c.self.inside.due c.add_coming.new.self c.self.invariant.kept.on_ring c.self.invariant.kept.are_due (was_none c) c.in_ok-add_coming.ensures.ok

kept_none : (c : In-Ok-None) → AreKeptEntries c.self.inside.clock c.insert.new.self.entries c.add_coming.new.self
kept_none c =
    let e = (goal.at.In-Ok-None c).After-insert in
    installs_kept c.self.inside.clock c.ticks-age.result c.key-key.result (record { lsa = contents c.args.lsa; timer = c.new-2.result; tick = c.args.tick; by_flooding = c.args.by_flooding }) c.self.inside.entries c.insert.new.self c.self.inside.due c.add_coming.new.self c.self.invariant.kept c.in-Ok-None.ensures.ordered
    (put_none c) (sym (key_is e)) c.new-2.ensures.age c.new-2.ensures.expired c.ticks-age.ensures.at_most (replaces c)

pub invariant_of-self-in-Ok-None : goal.invariant_of-self-in-Ok-None
invariant_of-self-in-Ok-None c = record { kept = kept_none c; quiet = quiet (goal.at.invariant_of-self-in-Ok-None c).After-insert c.add_coming.new.self (λ q there. there) }

pub returns-in-Ok-None-clause-ok : goal.returns-in-Ok-None-clause-ok
returns-in-Ok-None-clause-ok c = λ k.
    let e = (goal.at.returns-in-Ok-None-clause-ok c).After-insert in
    subst (λ (db : List Held). Installs (entry_from c.args.lsa c.args.tick c.args.by_flooding) db (map (held_at c.self.inside.clock c.add_coming.new.self) c.insert.new.self.entries)) c.self.view_is
    (installs_put c.self.inside.clock c.ticks-age.result c.key-key.result c.args.lsa c.new-2.result c.args.tick c.args.by_flooding c.self.inside.entries c.insert.new.self c.self.inside.due c.add_coming.new.self c.self.invariant.kept (kept_none c)
    (put_none c) (key_from e) c.new-2.ensures.age (age_is e) (replaces c)) k

-- ---- where memory ran out

undone : (c : After-remove_coming-in-Err) (q : AgeDue) → has_due c.remove_coming-in-Err.new.self q ≡ (not (is_coming c.self.inside.clock c.ticks-age.result c.key-key.result q) && has_due c.add_coming.new.self q)
undone c q =
    subst (λ (n : ℕ). has_due c.remove_coming-in-Err.new.self q ≡ (not (is_coming c.self.inside.clock n c.key-key.result q) && has_due c.add_coming.new.self q)) (omega arith) (c.remove_coming-in-Err.ensures q)

nothing : (c : After-remove_coming-in-Err) (q : AgeDue) → has_due c.remove_coming-in-Err.new.self q ≡ has_due c.self.inside.due q
nothing c =
    let none : stored_of c.self.inside.entries.entries c.key-key.result ≡ None = sym (stored_of-get c.self.inside.entries c.key-key.result) ∙ c.in-Err.ensures.absent in
    undone_due c.self.inside.clock c.ticks-age.result c.key-key.result c.self.inside.entries.entries c.self.inside.due c.remove_coming-in-Err.new.self c.self.invariant.kept.on_ring c.self.invariant.kept.are_due
    (ap (λ (o : Option Stored). option_map (λ s. age_at c.self.inside.clock s.timer) o) none)
    (λ q. undone c q ∙ ap (λ (b : Bool). not (is_coming c.self.inside.clock c.ticks-age.result c.key-key.result q) && b) (c.in_ok-add_coming.ensures.ok q))

pub invariant_of-self-in-Err : goal.invariant_of-self-in-Err
invariant_of-self-in-Err c =
    let d = (goal.at.invariant_of-self-in-Err c).After-insert in
    record {
      kept = subst (λ (es : List (LsaKey × Stored)). AreKeptEntries c.self.inside.clock es c.remove_coming-in-Err.new.self) (sym c.in-Err.ensures.err)
          (same_kept c.self.inside.clock c.self.inside.entries.entries c.self.inside.due c.remove_coming-in-Err.new.self c.self.invariant.kept (nothing c));
      quiet = quiet d c.remove_coming-in-Err.new.self
          (λ q there. and_right (not (is_coming c.self.inside.clock c.ticks-age.result c.key-key.result q)) (has_due c.add_coming.new.self q) (sym (undone (goal.at.invariant_of-self-in-Err c).After-remove_coming-in-Err q) ∙ there));
    }

pub returns-clause-err : goal.returns-clause-err
returns-clause-err c =
    let d = (goal.at.returns-clause-err c).After-remove_coming-in-Err in
    ap (λ (es : List (LsaKey × Stored)). map (held_at c.self.inside.clock c.remove_coming-in-Err.new.self) es) c.in-Err.ensures.err
    ∙ same_view c.self.inside.clock c.self.inside.entries.entries c.self.inside.due c.remove_coming-in-Err.new.self (nothing d) ∙ c.self.view_is
