use Rattle.std.proofs.Common.{◌≡◌, ◌∙◌, Some, ap, sym, subst, map, set}
use Rattle.std.specs.HashMap.{get}
use Rattle.std.specs.List.{position}
use Rattle.ospf_neighbour.specs.Lists.{TellsInstances, is_of_instance, key_eq, sent_again}
use Rattle.ospf_neighbour.specs.OneAKey.{IsAloneOfKeys}
use Rattle.ospf_neighbour.specs.declared.neighbour.Listed.{Listed}
use Rattle.ospf_neighbour.proofs.KeyLemmas.{TellsInstances-sent}
use Rattle.ospf_neighbour.proofs.LawLemmas.{alone_sent}
use Rattle.ospf_neighbour.proofs.OneLemmas.{no_place_sent, place_sent}
use Rattle.ospf_neighbour.proofs.retransmissions.Retransmissions.mark.Goals as goal

marked : (c : goal.After-self-1) → set c.self.inside.entries.items c.in-Some.at (record c.index_mut.result.now { sent_at = c.args.tick })
    ≡ map (sent_again c.args.instance.now c.args.tick) c.self.inside.entries.items
marked c =
    let i = c.args.instance.now in
    let old = c.self.inside.entries.items in
    let found : position (is_of_instance i) old ≡ Some c.in-Some.at = ap (position (is_of_instance i)) c.self.view_is ∙ sym c.place_of.ensures ∙ c.in-Some.is in
    ap (λ (l : Listed). set old c.in-Some.at (record l { sent_at = c.args.tick })) c.index_mut.ensures.value
    ∙ place_sent i c.args.tick old c.in-Some.at c.index_mut.result.now c.self.invariant.1 found

pub invariant_of-self : goal.invariant_of-self
invariant_of-self c =
    let i = c.args.instance.now in
    let old = c.self.inside.entries.items in
    let tells = get key_eq c.self.inside.instances in (
      λ keyed. subst (TellsInstances tells) (sym (marked c)) (TellsInstances-sent tells i c.args.tick old (c.self.invariant.0 keyed)),
      subst IsAloneOfKeys (sym (marked c)) (alone_sent i c.args.tick old c.self.invariant.1),
    )

pub returns : goal.returns
returns c = marked c ∙ ap (map (sent_again c.args.instance.now c.args.tick)) c.self.view_is

pub returns-in_default : goal.returns-in_default
returns-in_default c = no_place_sent c.args.instance.now c.args.tick c.args.self.now (sym c.place_of.ensures ∙ c.in_default.is)
