use Rattle.std.proofs.Common.{◌∙◌, sym, ap}
use Rattle.ospf_neighbour.specs.Lists.{is_listed}
use Rattle.ospf_neighbour.proofs.KeyLemmas.{listed_told, unlisted_told}
use Rattle.ospf_neighbour.proofs.retransmissions.Retransmissions.is_listed.Goals as goal

pub returns-in-Some : goal.returns-in-Some
returns-in-Some c =
    let i = c.args.instance.now in
    let old = c.self.inside.entries.items in
    let told = sym (c.self.invariant.0 c.if-self.true i.key) ∙ sym c.in-Some.ensures.value in
    c.is_same.ensures ∙ sym (listed_told i c.in-Some.kept.now old c.self.invariant.1 told) ∙ ap (is_listed i) c.self.view_is

pub returns-in-None : goal.returns-in-None
returns-in-None c =
    let i = c.args.instance.now in
    let old = c.self.inside.entries.items in
    let none = sym (c.self.invariant.0 c.if-self.true i.key) ∙ sym c.in-None.ensures.value in
    sym (unlisted_told i old none) ∙ ap (is_listed i) c.self.view_is
