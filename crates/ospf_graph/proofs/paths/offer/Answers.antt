use Rattle.std.proofs.Common.{arith}
use Rattle.std.proofs.lemmas.List.Sorted.{length_permutation}
use Rattle.ospf_graph.proofs.CandidateLemmas.{joins_one}
use Rattle.ospf_graph.proofs.paths.offer.Goals as goal

pub returns-clause-joins : goal.returns-clause-joins
returns-clause-joins c =
    let updates = c.in_ok-insert.ensures.updates in
    let at = c.vertex_order-end.ensures in
    joins_one c.args.candidate _ _ c.args.candidates.now.list c.push.new.self.list
    (λ under. let yes = c.if-is_undercut.ensures.1 (under.0, rw at under.1, under.2) in cc)
    (rw (← at) updates.1)
    (λ q other. updates.2 q (rw at other))
    c.in_ok-push.ensures.added

pub returns-clause-looks : goal.returns-clause-looks
returns-clause-looks c = let more = length_permutation _ _ c.in_ok-push.ensures.added in let now = c.in_ok-push.ensures.looks in omega arith
