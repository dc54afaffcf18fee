use Rattle.std.proofs.Common.{◌≤◌, ◌+◌, ◌≡◌, length, take}
use Rattle.std.specs.List.{Contains}
use Rattle.std.proofs.lemmas.List.{take_all}
use Rattle.ospf_graph.specs.Tree.{hop_of_start}
use Rattle.ospf_graph.specs.declared.graph.Start.{Start}
use Rattle.ospf_graph.specs.declared.hop.NextHop.{NextHop}
use Rattle.ospf_spf.proofs.HopLemmas.{gathers_one, gathers_same, start_more, starts_told}
use Rattle.ospf_spf.specs.Reach.{HasHop}
use Rattle.ospf_spf.proofs.routes.add_hops_by.Goals as goal

pub loop-start-preserved : goal.loop-start-preserved
loop-start-preserved g c =
    let starts = c.starts-start-items.result.now in
    let i = c.loop-start.start-index in
    gathers_one (λ (h : NextHop). (x : Start) × Contains (take i starts) x × (h ≡ hop_of_start x)) (λ (h : NextHop). (x : Start) × Contains (take (i + 1) starts) x × (h ≡ hop_of_start x))
    c.args.hops.now.items c.loop-start.hops.items c.push.new.self.items c.hop_from.result c.loop-start.invariant c.in_ok-push.ensures.items
    (start_more starts i _ c.loop-start-test.true c.hop_from.result c.hop_from.ensures)

pub returns : goal.returns
returns g c =
    let starts = c.starts-start-items.result.now in
    let end : length starts ≤ c.loop-start.start-index = c.loop-start-test.false in
    gathers_same (λ (h : NextHop). (x : Start) × Contains starts x × (h ≡ hop_of_start x)) (HasHop (g.P.Paths.kept c.args.paths.now).starts c.args.vertex) c.args.hops.now.items c.loop-start.hops.items
    (rw take_all at c.loop-start.invariant) (starts_told (g.P.Paths.kept c.args.paths.now).starts c.args.vertex starts c.starts-start-items.ensures)
