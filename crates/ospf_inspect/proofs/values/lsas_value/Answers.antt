use Rattle.std.proofs.Common.{◌≡◌, ◌≤◌, ◌∙◌, ℕ, List, arith, length, map, subst, take}
use Rattle.std.proofs.lemmas.List.{take_all}
use Rattle.serde_json.proofs.Views.{view-Array}
use Rattle.serde_json.specs.View.{view}
use Rattle.ospf_graph.specs.EdgeLists.Listed.{advertisements_of}
use Rattle.ospf_inspect.specs.Values.{TellsLsa}
use Rattle.ospf_inspect.specs.Json.{AreValues}
use Rattle.ospf_inspect.proofs.ValueLemmas.{none_yet, pushed_next}
use Rattle.ospf_inspect.proofs.values.lsas_value.Goals as goal

pub returns : goal.returns
returns c =
    let end : length c.lsas-lsa-items.result.now ≤ c.loop-lsa.lsa-index = omega (arith, c.loop-lsa-test.false) in
    let all : take c.loop-lsa.lsa-index c.lsas-lsa-items.result.now ≡ c.args.listing.now = take_all c.loop-lsa.lsa-index c.lsas-lsa-items.result.now end ∙ c.lsas-lsa-items.ensures.lsas in (
      map view c.loop-lsa.items.items,
      subst (λ (xs : List (List ℕ)). AreValues (TellsLsa (advertisements_of c.args.listing.now)) xs (map view c.loop-lsa.items.items)) all c.loop-lsa.invariant,
      view-Array c.loop-lsa.items,
    )

pub loop-lsa-init : goal.loop-lsa-init
loop-lsa-init c = none_yet (TellsLsa (advertisements_of c.args.listing.now)) c.new-items.result.items c.new-items.ensures.items

pub loop-lsa-preserved : goal.loop-lsa-preserved
loop-lsa-preserved c =
    pushed_next (TellsLsa (advertisements_of c.args.listing.now)) c.lsas-lsa-items.result.now c.loop-lsa.lsa-index c.lsa-item.result c.loop-lsa.items.items c.push.new.self.items
    c.in_ok-lsa_value.field-0 c.loop-lsa-test.true c.lsa-item.is c.in_ok-push.ensures.items c.loop-lsa.invariant c.in_ok-lsa_value.ensures
