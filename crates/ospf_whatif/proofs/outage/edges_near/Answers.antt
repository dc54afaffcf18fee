use Rattle.std.proofs.Common.{rules, ◌≡◌, ◌↔◌, ◌∙◌, IsTrue, ap, subst}
use Rattle.std.proofs.lemmas.Fn.{filter_same}
use Rattle.std.specs.List.{filter}
use Rattle.ospf_graph.specs.Elsewhere.{Touches}
use Rattle.ospf_whatif.proofs.LostLemmas.{are_near, touch_test, touching}
use Rattle.ospf_whatif.proofs.outage.edges_near.Goals as goal

pub returns : goal.returns
returns c = λ A graph.
    are_near A c.args.vertex c.args.area.now.edges.items c.retain.new.self.items graph.edges_are
    (filter_same _ (touching c.args.vertex) _ (λ x b f' k. let same : IsTrue b ↔ Touches c.args.vertex x = search rules in (touch_test c.args.vertex x b same, search rules)) _ _ c.retain.ensures.filtered
    ∙ ap (filter (touching c.args.vertex)) (c.in_ok-near.ensures.items ∙ c.deref.ensures.value))
