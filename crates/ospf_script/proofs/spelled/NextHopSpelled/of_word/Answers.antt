use Rattle.ospf_script.proofs.Hopping.{at_parts, hop_across, hop_over, no_behind, no_front, not_attached, parts_are}
use Rattle.ospf_script.proofs.Plain.{finds_none}
use Rattle.ospf_script.proofs.spelled.NextHopSpelled.of_word.Goals as goal

pub returns-in_err-local-2 : goal.returns-in_err-local-2
returns-in_err-local-2 c =
    let parts = rw c.in_ok-local.was at c.parts_at.ensures.some in
    let none = rw c.in_err-local-2.was at c.address_of.ensures in
    let other = not_attached c.args.word.now c.in_ok-local.local.now c.in_ok-local.behind.now parts.0 in
    finds_none _ _ c.from_residual-in_err-local-2.ensures (λ hop h.
    no_front _ _ hop (parts_are c.args.word.now hop c.in_ok-local.local.now c.in_ok-local.behind.now h other parts.0 parts.1) none)

pub returns-in_err-router : goal.returns-in_err-router
returns-in_err-router c =
    let parts = rw c.in_ok-local.was at c.parts_at.ensures.some in
    let none = rw c.in_err-router.was at c.router_of.ensures in
    let other = not_attached c.args.word.now c.in_ok-local.local.now c.in_ok-local.behind.now parts.0 in
    finds_none _ _ c.from_residual-in_err-router.ensures (λ hop h.
    no_behind _ _ hop (parts_are c.args.word.now hop c.in_ok-local.local.now c.in_ok-local.behind.now h other parts.0 parts.1) c.in_default.ensures.none none)

pub returns-in_default : goal.returns-in_default
returns-in_default c =
    let parts = rw c.in_ok-local.was at c.parts_at.ensures.some in
    let first = rw c.in_ok-local-2.was at c.address_of.ensures in
    let second = rw c.in_ok-router.was at c.router_of.ensures in
    hop_over c.args.word.now c.in_ok-local.local.now c.in_ok-local.behind.now c.in_ok-local-2.local c.in_ok-router.router parts.0 first second

pub returns-in_err-router-2 : goal.returns-in_err-router-2
returns-in_err-router-2 c =
    let parts = rw c.in_ok-local.was at c.parts_at.ensures.some in
    let none = rw c.in_err-router-2.was at c.router_of-2.ensures in
    let other = not_attached c.args.word.now c.in_ok-local.local.now c.in_ok-local.behind.now parts.0 in
    finds_none _ _ c.from_residual-in_err-router-2.ensures (λ hop h.
    at_parts _ _ c.in-Some.router.now c.in-Some.address.now hop
    (parts_are c.args.word.now hop c.in_ok-local.local.now c.in_ok-local.behind.now h other parts.0 parts.1) c.in-Some.ensures.some.0 c.in-Some.ensures.some.1
    (λ router address r a. none router r))

pub returns-in_err-address : goal.returns-in_err-address
returns-in_err-address c =
    let parts = rw c.in_ok-local.was at c.parts_at.ensures.some in
    let none = rw c.in_err-address.was at c.address_of-2.ensures in
    let other = not_attached c.args.word.now c.in_ok-local.local.now c.in_ok-local.behind.now parts.0 in
    finds_none _ _ c.from_residual-in_err-address.ensures (λ hop h.
    at_parts _ _ c.in-Some.router.now c.in-Some.address.now hop
    (parts_are c.args.word.now hop c.in_ok-local.local.now c.in_ok-local.behind.now h other parts.0 parts.1) c.in-Some.ensures.some.0 c.in-Some.ensures.some.1
    (λ router address r a. none address a))

pub returns : goal.returns
returns c =
    let parts = rw c.in_ok-local.was at c.parts_at.ensures.some in
    let first = rw c.in_ok-local-2.was at c.address_of.ensures in
    let second = rw c.in_ok-router-2.was at c.router_of-2.ensures in
    let third = rw c.in_ok-address.was at c.address_of-2.ensures in
    hop_across c.args.word.now c.in_ok-local.local.now c.in_ok-local.behind.now c.in-Some.router.now c.in-Some.address.now c.in_ok-local-2.local c.in_ok-router-2.router c.in_ok-address.address parts.0 c.in-Some.ensures.some.0 first second third
