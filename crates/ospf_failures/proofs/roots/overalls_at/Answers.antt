use Rattle.std.proofs.Common.{◌≡◌, ◌++◌, ◌∙◌, List, [], ap, append_assoc, arith, length, refl}
use Rattle.std.proofs.lemmas.List.{length-append, take-append-drop}
use Rattle.ospf_base.specs.declared.ids.RouterId.{RouterId}
use Rattle.ospf_graph.specs.EdgeLists.Listed.{advertisements_of}
use Rattle.ospf_failures.proofs.RootLemmas.{fit_all, joined_on}
use Rattle.ospf_failures.proofs.roots.overalls_at.Goals as goal

pub loop-rest-init : goal.loop-rest-init
loop-rest-init g c = ([], refl, c.in_ok-overalls.ensures (advertisements_of c.args.at.0.now) c.args.detail)

pub add_all-requires : goal.add_all-requires
add_all-requires g c =
    let part = c.split_at.result.0.now in
    let behind = c.split_at.result.1.now in
    let done = c.loop-rest.invariant.0 in
    let cut : part ++ behind ≡ c.loop-rest.rest.now =
    (λ i. c.split_at.ensures.front i ++ c.split_at.ensures.back i) ∙ take-append-drop c.min.result c.loop-rest.rest.now in
    let whole : (done ++ part) ++ behind ≡ c.args.roots.now = append_assoc done part behind ∙ ap (λ (l : List RouterId). done ++ l) cut ∙ c.loop-rest.invariant.1 in
    let one = length-append done part in
    let two = length-append (done ++ part) behind in
    let all : length ((done ++ part) ++ behind) ≡ length c.args.roots.now = ap length whole in
    fit_all (advertisements_of c.args.at.0.now) c.args.detail done part c.args.outages.now c.loop-rest.overalls.items c.in_ok-found.found.items
    (omega (arith, one, two, all)) c.loop-rest.invariant.2 c.in_ok-found.ensures

pub loop-rest-preserved : goal.loop-rest-preserved
loop-rest-preserved g c =
    let part = c.split_at.result.0.now in
    let behind = c.split_at.result.1.now in
    let done = c.loop-rest.invariant.0 in
    let cut : part ++ behind ≡ c.loop-rest.rest.now =
    (λ i. c.split_at.ensures.front i ++ c.split_at.ensures.back i) ∙ take-append-drop c.min.result c.loop-rest.rest.now in (
      done ++ part,
      append_assoc done part behind ∙ ap (λ (l : List RouterId). done ++ l) cut ∙ c.loop-rest.invariant.1,
      joined_on (advertisements_of c.args.at.0.now) c.args.detail done part c.args.outages.now c.loop-rest.overalls.items c.in_ok-found.found.items c.add_all.new.overalls.items
          c.loop-rest.invariant.2 c.in_ok-found.ensures c.in_ok-add_all.ensures,
    )
