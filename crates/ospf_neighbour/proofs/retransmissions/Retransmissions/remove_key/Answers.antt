use Rattle.std.proofs.Common.{◌≡◌, ◌∙◌, Some, ap, not, sym, subst}
use Rattle.std.specs.HashMap.{get}
use Rattle.std.specs.List.{position}
use Rattle.ospf_neighbour.specs.Lists.{TellsInstances, key_eq, without_key}
use Rattle.ospf_neighbour.specs.OneAKey.{IsAloneOfKeys}
use Rattle.ospf_neighbour.specs.declared.neighbour.Listed.{Listed}
use Rattle.ospf_neighbour.proofs.KeyLemmas.{TellsInstances-remove}
use Rattle.ospf_neighbour.proofs.LawLemmas.{alone_kept}
use Rattle.ospf_neighbour.proofs.OneLemmas.{key_leaves, no_key_place_leaves}
use Rattle.ospf_neighbour.proofs.Words.{is_of_key}
use Rattle.ospf_neighbour.proofs.retransmissions.Retransmissions.remove_key.Goals as goal

pub invariant_of-self : goal.invariant_of-self
invariant_of-self c =
    let key = c.args.key.now in
    let old = c.self.inside.entries.items in
    let now = get key_eq c.remove-in-Some.new.self in
    let alone = c.self.invariant.1 in
    let found : position (is_of_key key) old ≡ Some c.in-Some.at = ap (position (is_of_key key)) c.self.view_is ∙ sym c.key_place.ensures ∙ c.in-Some.is in
    let left : without_key key old ≡ c.remove.new.self.items = sym (key_leaves key old c.in-Some.at c.remove.result alone found) ∙ sym c.remove.ensures.items in (
      λ keyed. subst (TellsInstances now) left (TellsInstances-remove (get key_eq c.self.inside.instances) now key old (c.self.invariant.0 keyed) c.remove-in-Some.ensures.updates.0),
      subst IsAloneOfKeys left (alone_kept (λ (l : Listed). not (is_of_key key l)) old alone),
    )

pub returns-in-Some : goal.returns-in-Some
returns-in-Some c =
    let key = c.args.key.now in
    let old = c.self.inside.entries.items in
    let found : position (is_of_key key) old ≡ Some c.in-Some.at = ap (position (is_of_key key)) c.self.view_is ∙ sym c.key_place.ensures ∙ c.in-Some.is in
    c.remove.ensures.items ∙ key_leaves key old c.in-Some.at c.remove.result c.self.invariant.1 found ∙ ap (without_key key) c.self.view_is

pub returns-in_default : goal.returns-in_default
returns-in_default c = no_key_place_leaves c.args.key.now c.args.self.now (sym c.key_place.ensures ∙ c.in_default.is)
