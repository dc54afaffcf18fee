use Rattle.std.proofs.Common.{ap, sym, ◌∙◌}
use Rattle.std.proofs.lemmas.Slice.Eq.{slice_eq-Decides}
use Rattle.ospf_spf.proofs.SameRoute.{hops_decide, route_same}
use Rattle.ospf_spf.proofs.changes.is_same_route.Goals as goal

pub returns-then-a-b : goal.returns-then-a-b
returns-then-a-b c =
    let a = c.args.a.now in
    let b = c.args.b.now in
    let by = slice_eq-Decides hops_decide c.as_slice.result.now c.as_slice-then-a-b.result.now c.eq.result c.eq.ensures in (
      λ t. route_same a b c.requires c.if-a-b.true (sym c.as_slice.ensures.hops ∙ by.0 t ∙ c.as_slice-then-a-b.ensures.hops),
      λ e. by.1 (c.as_slice.ensures.hops ∙ ap (λ r. r.hops) e ∙ sym c.as_slice-then-a-b.ensures.hops),
    )
