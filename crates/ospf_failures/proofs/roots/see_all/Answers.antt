use Rattle.std.proofs.Common.{◌≡◌, ◌++◌, ◌∙◌, ◌<◌, ◌≤◌, [], List, ap, arith, drop, get_or, length, subst, sym, take}
use Rattle.std.proofs.lemmas.List.{append-nil, drop_all, take_all}
use Rattle.ospf_graph.specs.EdgeLists.Listed.{advertisements_of}
use Rattle.ospf_failures.specs.Overall.{AreSeenMore, HasRoomForOne, Sees, left_after_outage}
use Rattle.ospf_failures.specs.declared.overall.Overall.{Overall}
use Rattle.ospf_failures.specs.declared.roots.FailureOutage.{FailureOutage}
use Rattle.ospf_failures.proofs.RootLemmas.{has_seen, now_len, room_there, seen_whole}
use Rattle.ospf_failures.proofs.roots.see_all.Goals as goal

pub loop-place-init : goal.loop-place-init
loop-place-init c = ([], tt, c.deref_mut-overall-items.ensures.value)

pub see-requires-clause-room : goal.see-requires-clause-room
see-requires-clause-room c =
    let A = advertisements_of c.args.listing.now in
    let old = c.args.overalls.now.items in
    let now = c.loop-place.overall-items in
    let place = c.loop-place.place in
    let at = c.overall-item.result in
    let n : length c.deref_mut-overall-items.result.now ≡ length old = ap length c.deref_mut-overall-items.ensures.value in
    let m = now_len A c.args.before.now c.args.detail c.args.outages.now old c.requires.long place now c.loop-place.invariant in
    let lt : place < length old = omega (arith, c.loop-place-test.true, n, m) in
    subst HasRoomForOne c.overall-item.is
    (room_there A c.args.before.now c.args.detail c.args.outages.now old c.requires.long place now c.loop-place.invariant lt at c.overall-item.is c.requires.room)

pub loop-place-preserved : goal.loop-place-preserved
loop-place-preserved c =
    let A = advertisements_of c.args.listing.now in
    let b = c.args.before.now in
    let outages = c.args.outages.now in
    let old = c.args.overalls.now.items in
    let now = c.loop-place.overall-items in
    let place = c.loop-place.place in
    let at = c.overall-item.result in
    let x = c.index-outages-place.result in
    let new = c.see.new.self in
    let n : length c.deref_mut-overall-items.result.now ≡ length old = ap length c.deref_mut-overall-items.ensures.value in
    let m = now_len A b c.args.detail outages old c.requires.long place now c.loop-place.invariant in
    let lt : place < length old = omega (arith, c.loop-place-test.true, n, m) in
    let sees : Sees (left_after_outage A x) b c.args.detail at new =
    subst (λ (y : FailureOutage). Sees (left_after_outage A y) b c.args.detail at new) (sym c.index-outages-place.is)
    (subst (λ (o : Overall). Sees (left_after_outage A (get_or outages place x)) b c.args.detail o new) (sym c.overall-item.is) c.in_ok-see.ensures) in
    has_seen A b c.args.detail outages old c.requires.long place now c.loop-place.invariant lt at c.overall-item.is x new c.index-outages-place.is sees

pub returns : goal.returns
returns c =
    let A = advertisements_of c.args.listing.now in
    let b = c.args.before.now in
    let outages = c.args.outages.now in
    let old = c.args.overalls.now.items in
    let now = c.loop-place.overall-items in
    let place = c.loop-place.place in
    let n : length c.deref_mut-overall-items.result.now ≡ length old = ap length c.deref_mut-overall-items.ensures.value in
    let m = now_len A b c.args.detail outages old c.requires.long place now c.loop-place.invariant in
    let all : length old ≤ place = omega (arith, c.loop-place-test.false, n, m) in
    let none : drop (length now) old ≡ [] = drop_all (length now) old (omega (arith, m)) in
    let same : now ++ drop (length now) old ≡ now = ap (λ (l : List Overall). now ++ l) none ∙ append-nil now in
    let len = c.args.overalls.now.ok.0 in
    let whole : take c.args.overalls.now.len now ≡ now = take_all c.args.overalls.now.len now (omega (arith, m, len)) in
    subst (AreSeenMore A b c.args.detail outages old) (sym (ap (take c.args.overalls.now.len) same ∙ whole))
    (seen_whole A b c.args.detail outages old now place c.requires.long all c.loop-place.invariant)
