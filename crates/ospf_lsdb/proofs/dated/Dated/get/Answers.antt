use Rattle.std.proofs.Common.{◌≡◌, ap, subst, sym, ◌∙◌, Option, None, Some, option_map, List}
use Rattle.ospf_lsdb.specs.Database.{Entry, Held, entry_of, IsDatabase}
use Rattle.ospf_lsdb.specs.declared.dated.Stored.{Stored}
use Rattle.ospf_lsdb.specs.Timers.{held_at, stored_of}
use Rattle.ospf_lsdb.proofs.TimerLemmas.{IsDatabase-stored, held_of-stored, stored_of-get, stored_one}
use Rattle.ospf_lsdb.proofs.dated.Dated.get.Goals as goal

pub returns-in_err-stored-clause-entry : goal.returns-in_err-stored-clause-entry
returns-in_err-stored-clause-entry c =
    let none : stored_of c.self.inside.entries.entries c.args.key.now ≡ None = sym (stored_of-get c.self.inside.entries c.args.key.now) ∙ sym c.in_err-stored.ensures.value in
    let held = held_of-stored c.self.inside.clock c.self.inside.due c.self.inside.entries.entries c.self.invariant.kept.stored c.args.key.now in
    c.from_residual.ensures
    ∙ sym (ap (λ (o : Option Held). option_map (λ h. h.entry) o) (held ∙ ap (λ (o : Option Stored). option_map (λ s. held_at c.self.inside.clock c.self.inside.due (c.args.key.now, s)) o) none))
    ∙ ap (λ (db : List Held). entry_of db c.args.key.now) c.self.view_is

pub returns-in_err-stored-clause-database : goal.returns-in_err-stored-clause-database
returns-in_err-stored-clause-database c = subst (λ (d : List Held). IsDatabase d) c.self.view_is (IsDatabase-stored c.self.inside.clock c.self.inside.entries.entries c.self.inside.due c.self.invariant.kept)

pub at-requires : goal.at-requires
at-requires c =
    let some : stored_of c.self.inside.entries.entries c.args.key.now ≡ Some c.in_ok-stored.stored.now = sym (stored_of-get c.self.inside.entries c.args.key.now) ∙ sym c.in_ok-stored.ensures.value in
    (stored_one c.self.inside.clock c.self.inside.entries.entries c.self.invariant.kept.stored c.args.key.now c.in_ok-stored.stored.now some).1

pub returns-clause-entry : goal.returns-clause-entry
returns-clause-entry c =
    let s = c.in_ok-stored.stored.now in
    let some : stored_of c.self.inside.entries.entries c.args.key.now ≡ Some s = sym (stored_of-get c.self.inside.entries c.args.key.now) ∙ sym c.in_ok-stored.ensures.value in
    let held = held_of-stored c.self.inside.clock c.self.inside.due c.self.inside.entries.entries c.self.invariant.kept.stored c.args.key.now in
    ap (λ (e : Entry). Some e) c.at.ensures
    ∙ sym (ap (λ (o : Option Held). option_map (λ h. h.entry) o) (held ∙ ap (λ (o : Option Stored). option_map (λ s. held_at c.self.inside.clock c.self.inside.due (c.args.key.now, s)) o) some))
    ∙ ap (λ (db : List Held). entry_of db c.args.key.now) c.self.view_is

pub returns-clause-database : goal.returns-clause-database
returns-clause-database c = subst (λ (d : List Held). IsDatabase d) c.self.view_is (IsDatabase-stored c.self.inside.clock c.self.inside.entries.entries c.self.inside.due c.self.invariant.kept)
