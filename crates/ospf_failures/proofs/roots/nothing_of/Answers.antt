use Rattle.std.proofs.Common.{◌+◌, ◌≤◌, List, [], arith, length, subst, sym, take}
use Rattle.std.proofs.lemmas.List.{take_all}
use Rattle.std.specs.List.{AllZip}
use Rattle.ospf_failures.specs.Overall.{IsSeenAt, left_after_outage}
use Rattle.ospf_failures.specs.declared.roots.FailureOutage.{FailureOutage}
use Rattle.ospf_harm.proofs.FoundLemmas.{zip_more}
use Rattle.ospf_failures.proofs.OverallLemmas.{none_yet}
use Rattle.ospf_failures.proofs.roots.nothing_of.Goals as goal

pub loop-outage-preserved : goal.loop-outage-preserved
loop-outage-preserved c = λ adverts detail.
    let R = IsSeenAt adverts detail [] in
    let i = c.loop-outage.outage-index in
    let x = c.outage-item.result in
    let o = c.none.result in
    let none : IsSeenAt adverts detail [] x o = record { failure_is = c.none.ensures.failure; so_far = none_yet adverts (left_after_outage adverts x) detail o c.none.ensures.sums c.none.ensures.harm c.none.ensures.lines c.none.ensures.sights } in
    subst (AllZip R (take (i + 1) c.args.outages.now)) (sym c.in_ok-push.ensures.items)
    (zip_more R c.args.outages.now i x c.loop-outage.overalls.items o c.loop-outage-test.true c.outage-item.is (c.loop-outage.invariant adverts detail) none)

pub returns : goal.returns
returns c = λ adverts detail.
    let end : length c.args.outages.now ≤ c.loop-outage.outage-index = omega (arith, c.loop-outage-test.false) in
    subst (λ (l : List FailureOutage). AllZip (IsSeenAt adverts detail []) l c.loop-outage.overalls.items) (take_all c.loop-outage.outage-index c.args.outages.now end)
    (c.loop-outage.invariant adverts detail)
