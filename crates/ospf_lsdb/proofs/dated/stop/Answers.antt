use Rattle.std.proofs.Common.{◌≡◌, ap, subst, sym, ◌∙◌, Option, None, Some, IsSome, refl}
use Rattle.std.specs.BTreeMap as tree
use Rattle.std.specs.BTreeMap.{BTreeMap}
use Rattle.ospf_base.specs.declared.ids.LsaKey.{LsaKey}
use Rattle.ospf_base.specs.Keys.{key_cmp}
use Rattle.ospf_lsdb.specs.Timers.{stored_of}
use Rattle.ospf_lsdb.specs.declared.dated.Stored.{Stored}
use Rattle.ospf_lsdb.specs.declared.dated.Timer.TheVariants.{Expired}
use Rattle.ospf_lsdb.proofs.TimerLemmas.{stored_of-get, stored_updated, stopped_put, stopped_none}
use Rattle.ospf_lsdb.proofs.dated.stop.Goals as goal

pub returns-in-Some-clause-entry : goal.returns-in-Some-clause-entry
returns-in-Some-clause-entry c = λ q.
    let m = c.args.entries.now in
    let w = record c.in-Some.stored.now { timer = Expired } in
    let there : Some c.in-Some.stored.now ≡ tree.get key_cmp m c.args.key.now = c.in-Some.ensures.value in
    let is_some : IsSome (tree.get key_cmp m c.args.key.now) = subst (λ (o : Option Stored). IsSome o) there refl in
    let up = (c.get_mut.follows.holds w).3 is_some in
    stopped_put c.args.key.now q c.in-Some.stored.now m.entries _ (sym (stored_of-get m c.args.key.now) ∙ sym there)
    (stored_updated m (c.get_mut.follows.lender w) c.args.key.now (Some w) up q)

pub returns-in_default-clause-entry : goal.returns-in_default-clause-entry
returns-in_default-clause-entry c = λ q.
    let m = c.args.entries.now in
    let none : stored_of m.entries c.args.key.now ≡ None = sym (stored_of-get m c.args.key.now) ∙ sym c.in_default.ensures.value in
    ap (λ (n : BTreeMap LsaKey Stored). stored_of n.entries q) c.get_mut.follows.holds-at-none ∙ stopped_none c.args.key.now q m.entries none
