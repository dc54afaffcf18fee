use Rattle.std.proofs.Common.{◌≡◌, ◌+◌, ◌++◌, ◌∙◌, ap, drop, sym, subst, take, false, List}
use Rattle.ospf_base.specs.Rising.{IsRisingBy}
use Rattle.ospf_base.specs.Keys.{Precedes}
use Rattle.ospf_base.specs.declared.ids.LsaKey.{LsaKey}
use Rattle.ospf_lsdb.specs.Expired.{KeysValue, SetsKey}
use Rattle.ospf_lsdb.proofs.KeyLists.{not_there, taken_out}
use Rattle.ospf_lsdb.proofs.expired.ExpiredKeys.remove.Goals as goal
use Rattle.ospf_lsdb.proofs.expired.ExpiredKeys.remove.Goals.{After-remove}

pub returns-in_default-clause-keys : goal.returns-in_default-clause-keys
returns-in_default-clause-keys c =
    let rises : IsRisingBy Precedes c.deref.result.now = subst (λ (l : List LsaKey). IsRisingBy Precedes l) (sym c.deref.ensures.value) c.self.invariant in
    let gone = not_there c.deref.result.now c.args.key.now c.in_default.field-0 rises c.in_default.ensures.bound c.in_default.ensures.position in
    subst (λ (l : List LsaKey). SetsKey c.args.key.now false l l) (c.deref.ensures.value ∙ ap (λ (v : KeysValue). v.keys) c.self.view_is) gone

out : (c : After-remove) → IsRisingBy Precedes c.remove.new.self.items × SetsKey c.args.key.now false c.args.self.now.keys c.remove.new.self.items
out c =
    let rises : IsRisingBy Precedes c.deref.result.now = subst (λ (l : List LsaKey). IsRisingBy Precedes l) (sym c.deref.ensures.value) c.self.invariant in
    let is : c.remove.new.self.items ≡ take c.in-Ok.place c.deref.result.now ++ drop (c.in-Ok.place + 1) c.deref.result.now = c.remove.ensures.by_index.2 ∙ ap (λ (l : List LsaKey). take c.in-Ok.place l ++ drop (c.in-Ok.place + 1) l) (sym c.deref.ensures.value) in
    let taken = taken_out c.deref.result.now c.args.key.now c.in-Ok.place rises c.in-Ok.ensures.bound c.in-Ok.ensures.ok c.remove.new.self.items is in
    (taken.0, subst (λ (l : List LsaKey). SetsKey c.args.key.now false l c.remove.new.self.items) (c.deref.ensures.value ∙ ap (λ (v : KeysValue). v.keys) c.self.view_is) taken.1)

pub invariant_of-self : goal.invariant_of-self
invariant_of-self c = (out (goal.at.invariant_of-self c).After-remove).0

pub returns-in-Ok-clause-keys : goal.returns-in-Ok-clause-keys
returns-in-Ok-clause-keys c = (out c).1

pub returns-in-Ok-clause-rising : goal.returns-in-Ok-clause-rising
returns-in-Ok-clause-rising c = (out c).0
