use Rattle.std.proofs.Common.{◌≡◌, ◌∙◌, Some, ap, not, sym, subst}
use Rattle.std.specs.HashMap.{get}
use Rattle.std.specs.List.{position}
use Rattle.ospf_neighbour.specs.Lists.{TellsInstances, is_of_instance, key_eq, without_instance, without_key}
use Rattle.ospf_neighbour.specs.OneAKey.{IsAloneOfKeys}
use Rattle.ospf_neighbour.specs.declared.neighbour.Listed.{Listed}
use Rattle.ospf_neighbour.proofs.KeyLemmas.{TellsInstances-remove, alone_leaves, no_place_leaves, place_listed}
use Rattle.ospf_neighbour.proofs.LawLemmas.{alone_kept}
use Rattle.ospf_neighbour.proofs.OneLemmas.{place_leaves}
use Rattle.ospf_neighbour.proofs.retransmissions.Retransmissions.remove_instance.Goals as goal

pub invariant_of-self : goal.invariant_of-self
invariant_of-self c =
    let i = c.args.instance.now in
    let old = c.self.inside.entries.items in
    let now = get key_eq c.remove-in-Some.new.self in
    let alone = c.self.invariant.1 in
    let found : position (is_of_instance i) old ≡ Some c.in-Some.at = ap (position (is_of_instance i)) c.self.view_is ∙ sym c.place_of.ensures ∙ c.in-Some.is in
    let left : without_instance i old ≡ c.remove.new.self.items = sym (place_leaves i old c.in-Some.at c.remove.result alone found) ∙ sym c.remove.ensures.items in
    let same : without_key i.key old ≡ c.remove.new.self.items = alone_leaves i old alone (place_listed i old c.in-Some.at c.remove.result found) ∙ left in (
      λ keyed. subst (TellsInstances now) same (TellsInstances-remove (get key_eq c.self.inside.instances) now i.key old (c.self.invariant.0 keyed) c.remove-in-Some.ensures.updates.0),
      subst IsAloneOfKeys left (alone_kept (λ (l : Listed). not (is_of_instance i l)) old alone),
    )

pub returns-in-Some : goal.returns-in-Some
returns-in-Some c =
    let i = c.args.instance.now in
    let old = c.self.inside.entries.items in
    let found : position (is_of_instance i) old ≡ Some c.in-Some.at = ap (position (is_of_instance i)) c.self.view_is ∙ sym c.place_of.ensures ∙ c.in-Some.is in
    c.remove.ensures.items ∙ place_leaves i old c.in-Some.at c.remove.result c.self.invariant.1 found ∙ ap (without_instance i) c.self.view_is

pub returns-in_default : goal.returns-in_default
returns-in_default c = no_place_leaves c.args.instance.now c.args.self.now (sym c.place_of.ensures ∙ c.in_default.is)
