use Rattle.std.proofs.Common.{◌≡◌, ◌∙◌, ◌+◌, ◌++◌, ◌<◌, ◌≤◌, List, [], ◌∷◌, ap, arith, length, subst, sym, take}
use Rattle.std.proofs.lemmas.List.{length-take-le, take_all, take_more}
use Rattle.std.proofs.lemmas.Slice.Zip.{AllZip-long}
use Rattle.std.specs.List.{AllZip}
use Rattle.ospf_base.specs.declared.ids.RouterId.{RouterId}
use Rattle.ospf_graph.specs.EdgeLists.Listed.{advertisements_of}
use Rattle.ospf_failures.specs.Overall.{IsSeenAt}
use Rattle.ospf_failures.proofs.RootLemmas.{rooms_for_one, seen_on}
use Rattle.ospf_failures.proofs.roots.overalls_over.Goals as goal

pub see_all-requires-clause-long : goal.see_all-requires-clause-long
see_all-requires-clause-long c =
    AllZip-long (IsSeenAt (advertisements_of c.args.listing.now) c.args.detail (take c.loop-root.root-index c.args.roots.now)) c.args.outages.now c.loop-root.overalls.items c.loop-root.invariant

pub see_all-requires-clause-room : goal.see_all-requires-clause-room
see_all-requires-clause-room c =
    let i = c.loop-root.root-index in
    let within : i < length c.args.roots.now = c.loop-root-test.true in
    let few = length-take-le i c.args.roots.now (omega (arith, within)) in
    rooms_for_one (advertisements_of c.args.listing.now) c.args.detail (take i c.args.roots.now) c.args.outages.now c.loop-root.overalls.items (omega (arith, within, few)) c.loop-root.invariant

pub loop-root-preserved : goal.loop-root-preserved
loop-root-preserved c =
    let A = advertisements_of c.args.listing.now in
    let i = c.loop-root.root-index in
    let roots = c.args.roots.now in
    let before = c.in_ok-before.before in
    let one : take i roots ++ before.root ∷ [] ≡ take (i + 1) roots =
    ap (λ (r : RouterId). take i roots ++ r ∷ []) c.in_ok-before.ensures.root ∙ sym (take_more roots i _ c.loop-root-test.true) in
    subst (λ (l : List RouterId). AllZip (IsSeenAt A c.args.detail l) c.args.outages.now c.see_all.new.overalls.items) one
    (seen_on A c.args.detail (take i roots) before c.in_ok-before.ensures.before c.args.outages.now c.loop-root.overalls.items c.see_all.new.overalls.items c.loop-root.invariant c.in_ok-see_all.ensures)

pub returns : goal.returns
returns c =
    let end : length c.args.roots.now ≤ c.loop-root.root-index = omega (arith, c.loop-root-test.false) in
    subst (λ (l : List RouterId). AllZip (IsSeenAt (advertisements_of c.args.listing.now) c.args.detail l) c.args.outages.now c.loop-root.overalls.items)
    (take_all c.loop-root.root-index c.args.roots.now end) c.loop-root.invariant
