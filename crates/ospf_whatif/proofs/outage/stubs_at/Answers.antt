use Rattle.std.proofs.Common.{rules, ◌≡◌, ◌↔◌, IsTrue}
use Rattle.std.proofs.lemmas.Fn.{filter_same}
use Rattle.ospf_graph.specs.EdgeLists.Listed.{advertisements_of}
use Rattle.ospf_whatif.proofs.LostLemmas.{are_stubs_at, is_to, to_test}
use Rattle.ospf_whatif.proofs.outage.stubs_at.Goals as goal

pub returns : goal.returns
returns c =
    are_stubs_at (advertisements_of c.args.listing.now) c.args.router c.args.prefix c.in_ok-ends.ends.items c.retain.new.self.items c.in_ok-ends.ensures
    (filter_same _ (is_to c.args.prefix) _ (λ x b f' k. let same : IsTrue b ↔ (x.prefix ≡ c.args.prefix) = search rules in (to_test c.args.prefix x b same, search rules)) _ _ c.retain.ensures.filtered)
