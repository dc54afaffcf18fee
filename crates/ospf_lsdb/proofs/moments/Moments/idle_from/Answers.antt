use Rattle.std.proofs.Common.{rules, inr, ◌≡◌, subst, sym, ◌∙◌, true, List}
use Rattle.std.specs.BTreeSet as sorted
use Rattle.std.specs.declared.ops.Bound.TheVariants.{Included, Unbounded}
use Rattle.ospf_lsdb.specs.declared.moments.AgeDue.{AgeDue}
use Rattle.ospf_lsdb.specs.Moments.{ahead, due_cmp, has_due, IsIdleUntil}
use Rattle.ospf_lsdb.proofs.FirstLemmas.{at_once, first_later, first_around}
use Rattle.ospf_lsdb.proofs.MomentLemmas.{has-contains}
use Rattle.ospf_lsdb.proofs.moments.Moments.idle_from.Goals as goal
use Rattle.ospf_lsdb.proofs.moments.Moments.idle_from.Goals.{After-moments_until, After-moments_until-in-Some-first}

-- where something is due from this moment on
later : (c : After-moments_until) → (has_due c.self.inside.set.keys c.in-Some.due.now ≡ true) × IsIdleUntil c.args.clock (ahead c.args.clock c.in-Some.due.now.moment) c.self.inside.set.keys
later c =
    first_later c.args.clock c.self.inside.set c.in-Some.due.now c.next.new.self c.moments_until.ensures.moment_fits
    (subst (λ (dues : List AgeDue). sorted.IsKeyRangeOf due_cmp (Included (at_once c.args.clock)) Unbounded c.self.inside.set dues) c.in-Some.ensures.steps (c.range.ensures.in_range (search rules)))

pub returns-in-Some-clause-idle : goal.returns-in-Some-clause-idle
returns-in-Some-clause-idle c = rw (c.moments_until.ensures.count, ← c.self.view_is) (later (goal.at.returns-in-Some-clause-idle c).After-moments_until).1

pub returns-in-Some-clause-until : goal.returns-in-Some-clause-until
returns-in-Some-clause-until c = inr (
  c.in-Some.due.now,
  subst (λ (dues : List AgeDue). has_due dues c.in-Some.due.now ≡ true) c.self.view_is (later (goal.at.returns-in-Some-clause-until c).After-moments_until).0,
  sym c.moments_until.ensures.count,
)

-- where nothing is
around : (c : After-moments_until-in-Some-first) → IsIdleUntil c.args.clock (ahead c.args.clock c.in-Some-first.due.now.moment) c.self.inside.set.keys
around c =
    first_around c.args.clock c.self.inside.set c.in-Some-first.due.now c.moments_until-in-Some-first.ensures.clock_fits
    (subst (λ (dues : List AgeDue). sorted.IsKeyRangeOf due_cmp (Included (at_once c.args.clock)) Unbounded c.self.inside.set dues) c.in_default.ensures.steps.0 (c.range.ensures.in_range (search rules)))
    c.in-Some-first.ensures.least

pub returns-in-Some-first-clause-idle : goal.returns-in-Some-first-clause-idle
returns-in-Some-first-clause-idle c = rw (c.moments_until-in-Some-first.ensures.count, ← c.self.view_is) (around (goal.at.returns-in-Some-first-clause-idle c).After-moments_until-in-Some-first)

pub returns-in-Some-first-clause-until : goal.returns-in-Some-first-clause-until
returns-in-Some-first-clause-until c = inr (
  c.in-Some-first.due.now,
  subst (λ (dues : List AgeDue). has_due dues c.in-Some-first.due.now ≡ true) c.self.view_is (sym (has-contains c.self.inside.set c.in-Some-first.due.now) ∙ c.in-Some-first.ensures.member),
  sym c.moments_until-in-Some-first.ensures.count,
)
