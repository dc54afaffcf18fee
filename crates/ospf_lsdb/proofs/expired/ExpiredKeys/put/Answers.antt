use Rattle.std.proofs.Common.{◌≡◌, ◌∙◌, ap, refl, sym, subst, true, List}
use Rattle.std.specs.List.{insert}
use Rattle.ospf_base.specs.Rising.{IsRisingBy}
use Rattle.ospf_base.specs.Keys.{Precedes}
use Rattle.ospf_base.specs.declared.ids.LsaKey.{LsaKey}
use Rattle.ospf_lsdb.specs.Expired.{KeysValue, SetsKey}
use Rattle.ospf_lsdb.proofs.KeyLists.{found_there, put_in}
use Rattle.ospf_lsdb.proofs.expired.ExpiredKeys.put.Goals as goal
use Rattle.ospf_lsdb.proofs.expired.ExpiredKeys.put.Goals.{Else-is_err}

pub returns-in_default-clause-keys : goal.returns-in_default-clause-keys
returns-in_default-clause-keys c =
    let there = found_there c.deref.result.now c.args.key c.in_default.field-0 c.in_default.ensures.bound c.in_default.ensures.ok in
    subst (λ (l : List LsaKey). SetsKey c.args.key true l l) (c.deref.ensures.value ∙ ap (λ (v : KeysValue). v.keys) c.self.view_is) there

put : (c : Else-is_err) → IsRisingBy Precedes c.insert.new.self.items × SetsKey c.args.key true c.args.self.now.keys c.insert.new.self.items
put c =
    let rises : IsRisingBy Precedes c.deref.result.now = subst (λ (l : List LsaKey). IsRisingBy Precedes l) (sym c.deref.ensures.value) c.self.invariant in
    let done : c.insert.new.self.items ≡ insert c.self.inside.keys.items c.in-Err.place c.args.key = c.insert.ensures.items ∙ (let went = c.if-is_err.ensures.negation in rw went refl) in
    let is : c.insert.new.self.items ≡ insert c.deref.result.now c.in-Err.place c.args.key = done ∙ ap (λ (l : List LsaKey). insert l c.in-Err.place c.args.key) (sym c.deref.ensures.value) in
    let made = put_in c.deref.result.now c.args.key c.in-Err.place rises c.in-Err.ensures.bound c.in-Err.ensures.position c.insert.new.self.items is in
    (made.0, subst (λ (l : List LsaKey). SetsKey c.args.key true l c.insert.new.self.items) (c.deref.ensures.value ∙ ap (λ (v : KeysValue). v.keys) c.self.view_is) made.1)

pub invariant_of-self : goal.invariant_of-self
invariant_of-self c = (put c).0

pub returns-clause-keys : goal.returns-clause-keys
returns-clause-keys c = (put c).1

pub returns-clause-rising : goal.returns-clause-rising
returns-clause-rising c = (put c).0
