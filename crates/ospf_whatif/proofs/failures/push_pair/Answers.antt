use Rattle.std.proofs.Common.{◌≡◌, ◌∙◌, sym, arith}
use Rattle.ospf_whatif.specs.Single.{IsPairOf}
use Rattle.ospf_whatif.specs.declared.failure.AreaFailure.TheVariants.{Link}
use Rattle.ospf_graph.proofs.EdgeLists.AddsLemmas.{adds_push}
use Rattle.ospf_graph.specs.Pairs.{pair_code}
use Rattle.ospf_whatif.proofs.failures.push_pair.Goals as goal

pub returns-in_ok-push-in-Link : goal.returns-in_ok-push-in-Link
returns-in_ok-push-in-Link c =
    let told : c.pair_order.result ≡ pair_code c.in-Link.a.0 c.in-Link.b.0 = omega (arith, c.pair_order.ensures) in
    rw c.in_ok-push-in-Link.ensures.items
    (adds_push (IsPairOf c.args.failure.now) c.args.pairs.now.items c.pair_order.result
    (λ q. (
      (λ g.
          let is : Link c.in-Link.a c.in-Link.b c.in-Link.subnet ≡ Link g.0 g.1 g.2 = sym c.in-Link.is ∙ g.3 in
          let one : c.in-Link.a ≡ g.0 = cc in
          let two : c.in-Link.b ≡ g.1 = cc in
          told ∙ (λ i. pair_code ((one i).0) ((two i).0)) ∙ sym g.4),
      (λ same. (c.in-Link.a, c.in-Link.b, c.in-Link.subnet, c.in-Link.is, sym same ∙ told)),
    )))
