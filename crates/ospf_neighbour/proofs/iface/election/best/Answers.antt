use Rattle.std.proofs.Common.{◌∷◌, [], map, take, get_or, sym, ap, ◌∙◌, subst}
use Rattle.std.proofs.lemmas.List.{take_more, map-append}
use Rattle.ospf_base.specs.Addresses.{nowhere}
use Rattle.ospf_neighbour.specs.declared.iface.candidate.Candidate.{Candidate}
use Rattle.ospf_neighbour.specs.Interface.Election.{declaring}
use Rattle.ospf_neighbour.specs.Interface.Choice.{BelongsTo, BestOr}
use Rattle.ospf_neighbour.proofs.Interface.Choosing.{best_more, IsBestOrNone}
use Rattle.ospf_neighbour.proofs.iface.election.best.Goals as goal

pub loop-c-preserved : goal.loop-c-preserved
loop-c-preserved c =
    let all = c.args.candidates.now in
    let i = c.loop-c.c-index in
    let d : Candidate = record { id = record { 0 = 0 }; address = nowhere; priority = 0; dr = nowhere; backup = nowhere } in
    let f = declaring c.args.me c.args.own in
    let one_more = ap (map f) (take_more all i d c.loop-c-test.true) ∙ map-append f (take i all) (get_or all i d ∷ []) in
    let chosen = subst (λ x. BestOr (BelongsTo c.args.standing) c.loop-c.best x c.better-best.result) c.declare.ensures c.better-best.ensures in
    subst (λ xs. IsBestOrNone (BelongsTo c.args.standing) xs c.better-best.result) (sym one_more)
    (best_more (BelongsTo c.args.standing) (map f (take i all)) (f (get_or all i d)) c.loop-c.best c.better-best.result c.loop-c.invariant chosen)
