use Rattle.std.proofs.Common.{◌≡◌, ◌∙◌, List, ap, subst, sym}
use Rattle.std.specs.List.{All, AllZip}
use Rattle.ospf_base.specs.declared.ids.RouterId.{RouterId}
use Rattle.ospf_graph.specs.EdgeLists.Listed.{advertisements_of}
use Rattle.ospf_harm.specs.Carrier.{together}
use Rattle.ospf_whatif.specs.Single.{AreFailures}
use Rattle.ospf_harm.specs.declared.carrier.Breakdown.{Breakdown}
use Rattle.ospf_whatif.specs.declared.failure.AreaFailure.{AreaFailure}
use Rattle.ospf_failures.specs.Overall.{AreOutages, IsOutageOf, IsSeenAt, roots_in}
use Rattle.ospf_harm.specs.Together.{IsComputable}
use Rattle.ospf_failures.specs.declared.roots.FailureOutage.{FailureOutage}
use Rattle.ospf_harm.proofs.FoundLemmas.{all_computable}
use Rattle.ospf_failures.proofs.OverallLemmas.{overalls_are}
use Rattle.ospf_failures.proofs.RootLemmas.{outages_all, overalls_by_parts}
use Rattle.ospf_failures.proofs.overall.overalls.Goals as goal

pub outages_of-requires-clause-small : goal.outages_of-requires-clause-small
outages_of-requires-clause-small g c κs within =
    let A = advertisements_of c.args.listing.now in
    subst (λ (l : List Breakdown). All (IsComputable A) l) (sym c.deref-4.ensures.value)
    (all_computable c.args.carrier A c.deref-2.result.now c.in_ok-breakdowns.breakdowns.items c.requires c.in_ok-breakdowns.ensures.together)

pub overalls_at-requires-clause-outages : goal.overalls_at-requires-clause-outages
overalls_at-requires-clause-outages g c κs within =
    let A = advertisements_of c.args.listing.now in
    subst (AreOutages A) (sym c.deref-6.ensures.value) (outages_all A c.deref-4.result.now c.in_ok-outages.outages.items c.in_ok-outages.ensures)

pub returns : goal.returns
returns g c =
    let A = advertisements_of c.args.listing.now in
    let detail = c.args.detail in
    let single = c.in_ok-single.single.items in
    let bs = c.in_ok-breakdowns.breakdowns.items in
    let outages = c.in_ok-outages.outages.items in
    let overalls = c.in_ok-overalls.overalls.items in
    let all : AreFailures A c.deref.result.now = subst (λ (l : List AreaFailure). AreFailures A l) (sym c.deref.ensures.value) c.in_ok-single.ensures.all in
    let parts : All (λ b. b.parts.items ≡ together c.args.carrier single b.failure) bs =
    subst (λ (l : List AreaFailure). All (λ b. b.parts.items ≡ together c.args.carrier l b.failure) bs) c.deref-2.ensures.value c.in_ok-breakdowns.ensures.together in
    let of_bs : AllZip (IsOutageOf A) bs outages = subst (λ (l : List Breakdown). AllZip (IsOutageOf A) l outages) c.deref-4.ensures.value c.in_ok-outages.ensures in
    let roots_are : c.deref-7.result.now ≡ roots_in single = c.deref-7.ensures.value ∙ c.in_ok-roots.ensures ∙ ap roots_in c.deref-5.ensures.value in
    let seen : AllZip (IsSeenAt A detail (roots_in single)) outages overalls =
    subst (λ (l : List FailureOutage). AllZip (IsSeenAt A detail (roots_in single)) l overalls) c.deref-6.ensures.value
    (subst (λ (r : List RouterId). AllZip (IsSeenAt A detail r) c.deref-6.result.now overalls) roots_are c.in_ok-overalls.ensures) in
    overalls_are c.args.carrier A detail single c.in_ok-failures.failures.items bs overalls c.sort.new.overalls.items
    (record { all = c.in_ok-single.ensures.all; in_order = c.in_ok-single.ensures.in_order })
    (c.in_ok-failures.ensures.all A all) c.in_ok-failures.ensures.in_order (c.in_ok-breakdowns.ensures.failures ∙ c.deref-3.ensures.value) parts
    (overalls_by_parts A detail (roots_in single) bs outages overalls of_bs seen) c.sort.ensures.same c.sort.ensures.in_order
