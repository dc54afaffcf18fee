use Rattle.std.proofs.Common.{◌≡◌, ◌∙◌, List, Option, None, Some, IsTrue, Bool, true, false, ap, sym, slice_get}
use Rattle.std.proofs.lemmas.Option.{get_or_from_slice_get}
use Rattle.ospf_neighbour.specs.Neighbour.{NeighbourValue}
use Rattle.ospf_neighbour.specs.Neighbours.{neighbour_of, place_for}
use Rattle.ospf_adjacency.specs.Heard.{neighbourhood}
use Rattle.ospf_adjacency.proofs.LinkSteps.Words.{request_by, answered_by}
use Rattle.ospf_adjacency.proofs.LinkSteps.RequestLemmas.{requested_found}
use Rattle.ospf_adjacency.proofs.LinkSteps.WorkLemmas.{is_found, is_none}
use Rattle.ospf_adjacency.proofs.link_steps.requests.answer_in.Goals as goal
use Rattle.ospf_adjacency.proofs.link_steps.requests.answer_in.Goals.{Then-not-is_at}

subst-true : (b : Bool) → b ≡ true → IsTrue b
subst-true b e = e

nobody : (c : Then-not-is_at) → neighbour_of c.args.all.now.items c.args.from.router ≡ None
nobody c =
    let ns = c.args.all.now.items in
    let at : c.place_for-place.result ≡ place_for ns c.args.from.router.0 = c.place_for-place.ensures ∙ ap (λ (l : List NeighbourValue). place_for l c.args.from.router.0) c.deref.ensures.value in
    is_none ns c.place_for-place.result c.args.from.router c.requires.rising at
    (λ o there. c.is_at.ensures.other c.if-not-is_at.true o (ap (λ (l : List NeighbourValue). slice_get l c.place_for-place.result) c.deref-2.ensures.value ∙ there))

pub returns-then-not-is_at-clause-turn : goal.returns-then-not-is_at-clause-turn
returns-then-not-is_at-clause-turn c =
    let x = neighbourhood c.args.all.now.items false c.args.outbox.now in
    ap (λ (o : Option NeighbourValue). request_by o c.args.at.now.iface c.args.at.now.local c.args.delay c.args.database.now c.args.requests x) (sym (nobody (goal.at.returns-then-not-is_at-clause-turn c).Then-not-is_at))

pub returns-then-not-is_at-clause-keys : goal.returns-then-not-is_at-clause-keys
returns-then-not-is_at-clause-keys c =
    c.new.ensures.empty ∙ ap (λ (o : Option NeighbourValue). answered_by o c.args.database.now c.args.requests) (sym (nobody (goal.at.returns-then-not-is_at-clause-keys c).Then-not-is_at))

pub take_request-requires : goal.take_request-requires
take_request-requires c =
    let ns = c.args.all.now.items in
    let k = c.place_for-place.result in
    let e = c.index_mut-neighbour.result.now in
    let h = c.is_at.ensures.there (subst-true c.is_at.result c.if-not-is_at.false) in
    let there : slice_get ns k ≡ Some h.0 = ap (λ (l : List NeighbourValue). slice_get l k) (sym c.deref-2.ensures.value) ∙ h.1 in
    let is : e ≡ h.0 = c.index_mut-neighbour.ensures.value ∙ get_or_from_slice_get ns k h.0 e there in
    c.requires.exchanging e (is_found ns k c.args.from.router e (c.place_for-place.ensures ∙ ap (λ (l : List NeighbourValue). place_for l c.args.from.router.0) c.deref.ensures.value) (there ∙ ap (λ (n : NeighbourValue). Some n) (sym is)) (ap (λ (n : NeighbourValue). n.router) is ∙ h.2))

pub returns-clause-turn : goal.returns-clause-turn
returns-clause-turn c =
    let ns = c.args.all.now.items in
    let k = c.place_for-place.result in
    let e = c.index_mut-neighbour.result.now in
    let h = c.is_at.ensures.there (subst-true c.is_at.result c.if-not-is_at.false) in
    let there : slice_get ns k ≡ Some h.0 = ap (λ (l : List NeighbourValue). slice_get l k) (sym c.deref-2.ensures.value) ∙ h.1 in
    let is : e ≡ h.0 = c.index_mut-neighbour.ensures.value ∙ get_or_from_slice_get ns k h.0 e there in
    requested_found c.args.at.now.iface c.args.at.now.local c.args.from.router c.args.delay c.args.database.now c.args.requests ns c.args.outbox.now c.take_request.new.outbox k
    e c.take_request.new.neighbour
    (c.place_for-place.ensures ∙ ap (λ (l : List NeighbourValue). place_for l c.args.from.router.0) c.deref.ensures.value) (there ∙ ap (λ (n : NeighbourValue). Some n) (sym is)) (ap (λ (n : NeighbourValue). n.router) is ∙ h.2)
    c.in_ok-keys.ensures.turn

pub returns-clause-keys : goal.returns-clause-keys
returns-clause-keys c =
    let ns = c.args.all.now.items in
    let k = c.place_for-place.result in
    let e = c.index_mut-neighbour.result.now in
    let h = c.is_at.ensures.there (subst-true c.is_at.result c.if-not-is_at.false) in
    let there : slice_get ns k ≡ Some h.0 = ap (λ (l : List NeighbourValue). slice_get l k) (sym c.deref-2.ensures.value) ∙ h.1 in
    let is : e ≡ h.0 = c.index_mut-neighbour.ensures.value ∙ get_or_from_slice_get ns k h.0 e there in
    c.in_ok-keys.ensures.keys
    ∙ ap (λ (o : Option NeighbourValue). answered_by o c.args.database.now c.args.requests)
    (sym (is_found ns k c.args.from.router e (c.place_for-place.ensures ∙ ap (λ (l : List NeighbourValue). place_for l c.args.from.router.0) c.deref.ensures.value)
    (there ∙ ap (λ (n : NeighbourValue). Some n) (sym is)) (ap (λ (n : NeighbourValue). n.router) is ∙ h.2)))
