use Rattle.std.proofs.Common.{◌≡◌, ◌∙◌, ◌++◌, ◌∷◌, [], List, None, Some, true, ap, sym, subst}
use Rattle.std.specs.HashMap.{get}
use Rattle.std.specs.List.{position, remove}
use Rattle.std.proofs.lemmas.Bool.{false≢true}
use Rattle.ospf_neighbour.specs.Lists.{TellsInstances, key_eq, without_key}
use Rattle.ospf_neighbour.specs.OneAKey.{IsAloneOfKeys}
use Rattle.ospf_neighbour.specs.declared.neighbour.Listed.{Listed}
use Rattle.ospf_neighbour.proofs.KeyLemmas.{TellsInstances-put}
use Rattle.ospf_neighbour.proofs.LawLemmas.{alone_put}
use Rattle.ospf_neighbour.proofs.OneLemmas.{key_leaves, no_key_place_leaves}
use Rattle.ospf_neighbour.proofs.Words.{is_of_key}
use Rattle.ospf_neighbour.proofs.retransmissions.Retransmissions.put.Goals as goal
use Rattle.ospf_neighbour.proofs.retransmissions.Retransmissions.put.Goals.{then-self+in_ok-insert, else-self}

same_entries : (c : goal.In_ok-push) → c.if-self.self-inside.entries.items ≡ c.self.inside.entries.items
same_entries c = elim c.if-self.branch [
  | then-self+in_ok-insert w ↦ ap (λ r. r.entries.items) w.self-inside-is
  | else-self w ↦ ap (λ r. r.entries.items) w.self-inside-is
]

replaced : (c : goal.In_ok-push) → c.push.new.self.items ≡ without_key c.args.entry.instance.key c.self.inside.entries.items ++ c.args.entry ∷ []
replaced c =
    let e = c.args.entry in
    let key = e.instance.key in
    let old = c.self.inside.entries.items in
    let found : position (is_of_key key) old ≡ Some c.in-Some.at = ap (position (is_of_key key)) c.self.view_is ∙ sym c.key_place.ensures ∙ c.in-Some.is in
    c.in_ok-push.ensures.items
    ∙ ap (λ (ls : List Listed). ls ++ e ∷ [])
    (c.remove.ensures.items ∙ ap (λ (ls : List Listed). remove ls c.in-Some.at) (same_entries c) ∙ key_leaves key old c.in-Some.at c.remove.result c.self.invariant.1 found)

-- where the instances are kept, the new one is among them
told : (c : goal.In_ok-push) → c.if-self.self-inside.is_keyed ≡ true → TellsInstances (get key_eq c.if-self.self-inside.instances) c.push.new.self.items
told c keyed =
    let e = c.args.entry in
    elim c.if-self.branch [
      | then-self+in_ok-insert w ↦
          let put = TellsInstances-put (get key_eq c.self.inside.instances) (get key_eq w.insert.new.self) e c.self.inside.entries.items
          (c.self.invariant.0 w.if-self.true) w.in_ok-insert.ensures.updates.0 in
          subst (λ r. TellsInstances (get key_eq r.instances) c.push.new.self.items) (sym w.self-inside-is) (subst (TellsInstances (get key_eq w.insert.new.self)) (sym (replaced c)) put)
      | else-self w ↦ absurd (false≢true (sym w.if-self.false ∙ ap (λ r. r.is_keyed) (sym w.self-inside-is) ∙ keyed))
    ]

pub invariant_of-self-in-Some : goal.invariant_of-self-in-Some
invariant_of-self-in-Some c = (told c, subst IsAloneOfKeys (sym (replaced c)) (alone_put c.self.inside.entries.items c.args.entry c.self.invariant.1))

pub returns-in-Some-clause-ok : goal.returns-in-Some-clause-ok
returns-in-Some-clause-ok c = replaced c ∙ ap (λ (ls : List Listed). without_key c.args.entry.instance.key ls ++ c.args.entry ∷ []) c.self.view_is

pub invariant_of-self-2 : goal.invariant_of-self-2
invariant_of-self-2 c =
    let e = c.args.entry in
    let key = e.instance.key in
    let old = c.self.inside.entries.items in
    let none : position (is_of_key key) old ≡ None = ap (position (is_of_key key)) c.self.view_is ∙ sym c.key_place.ensures ∙ c.in_default.is in
    let items : without_key key old ++ e ∷ [] ≡ c.push-2.new.self.items =
    ap (λ (ls : List Listed). ls ++ e ∷ []) (sym (no_key_place_leaves key old none)) ∙ sym (c.in_ok-push-2.ensures.items ∙ ap (λ (ls : List Listed). ls ++ e ∷ []) c.reserve.ensures.items) in (
      λ keyed. subst (TellsInstances (get key_eq c.insert-2.new.self)) items
          (TellsInstances-put (get key_eq c.self.inside.instances) (get key_eq c.insert-2.new.self) e old (c.self.invariant.0 keyed) c.in_ok-insert-2.ensures.updates.0),
      subst IsAloneOfKeys items (alone_put old e c.self.invariant.1),
    )

pub returns-clause-ok : goal.returns-clause-ok
returns-clause-ok c =
    let e = c.args.entry in
    c.in_ok-push-2.ensures.items
    ∙ ap (λ (ls : List Listed). ls ++ e ∷ [])
    (c.reserve.ensures.items ∙ c.self.view_is ∙ no_key_place_leaves e.instance.key c.args.self.now (sym c.key_place.ensures ∙ c.in_default.is))
