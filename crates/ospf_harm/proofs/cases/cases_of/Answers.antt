use Rattle.std.proofs.Common.{◌≡◌, ◌∙◌, ◌↔◌, List, map, subst, sym}
use Rattle.std.specs.List.{All, AllPairs, Contains}
use Rattle.ospf_graph.specs.EdgeLists.Listed.{advertisements_of}
use Rattle.ospf_whatif.specs.Single.{AreFailures, IsFailureBefore}
use Rattle.ospf_whatif.specs.declared.failure.AreaFailure.{AreaFailure}
use Rattle.ospf_harm.specs.Carrier.{together}
use Rattle.ospf_harm.specs.Reports.{IsOtherFailure}
use Rattle.ospf_harm.proofs.FoundLemmas.{all_computable}
use Rattle.ospf_harm.proofs.cases.cases_of.Goals as goal

pub returns : goal.returns
returns c =
    let A = advertisements_of c.args.listing.now in
    let carrier = c.args.carrier in
    let bs = c.in_ok-breakdowns.breakdowns.items in
    let all : AreFailures A c.deref.result.now = subst (λ (l : List AreaFailure). AreFailures A l) (sym c.deref.ensures.value) c.in_ok-single.ensures.all in
    let names : map (λ b. b.failure) bs ≡ c.in_ok-failures.failures.items = c.in_ok-breakdowns.ensures.failures ∙ c.deref-3.ensures.value in
    record {
      ready = record { graph = c.in_ok-area.ensures; before = c.in_ok-before.ensures.before };
      root_is = c.in_ok-before.ensures.root;
      single = c.in_ok-single.single.items;
      are_single = record { all = c.in_ok-single.ensures.all; in_order = c.in_ok-single.ensures.in_order };
      whole = subst (λ (l : List AreaFailure). (f : AreaFailure) → Contains l f ↔ IsOtherFailure carrier A c.args.root f) (sym names) (c.in_ok-failures.ensures.all A all);
      rising = subst (AllPairs IsFailureBefore) (sym names) c.in_ok-failures.ensures.rising;
      parts = subst (λ (l : List AreaFailure). All (λ b. b.parts.items ≡ together carrier l b.failure) bs) c.deref-2.ensures.value c.in_ok-breakdowns.ensures.together;
      computable = all_computable carrier A c.deref-2.result.now bs c.requires c.in_ok-breakdowns.ensures.together;
    }
