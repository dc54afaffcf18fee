use Rattle.std.proofs.Common.{◌∙◌, ◌<◌, List, length, refl, subst, sym}
use Rattle.ospf_graph.specs.EdgeLists.Listed.{advertisements_of}
use Rattle.ospf_whatif.specs.Failure.{HasLarge}
use Rattle.ospf_whatif.specs.declared.failure.AreaFailure.{AreaFailure}
use Rattle.ospf_failures.proofs.roots.outage_of.Goals as goal

pub of_all-requires-clause-small : goal.of_all-requires-clause-small
of_all-requires-clause-small c =
    subst (λ (l : List AreaFailure). 1 < length l → HasLarge (advertisements_of c.args.listing.now) → ⊥) (sym c.deref.ensures.value) c.requires.small

pub returns : goal.returns
returns c = record {
  failure_is = refl;
  parts_are = c.in_ok-outage.ensures.failures ∙ c.deref.ensures.value;
  outage = c.in_ok-outage.ensures.outage;
}
