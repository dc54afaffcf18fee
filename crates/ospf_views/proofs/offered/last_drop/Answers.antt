use Rattle.std.proofs.Common.{◌≡◌, ◌∙◌, ap, sym, subst, string_bytes}
use Rattle.std.specs.Prelude.{IfOk}
use Rattle.ospf_views.specs.Offered.{drop_in, is_for_link}
use Rattle.ospf_views.proofs.LastDrops.{is_before, is_last}
use Rattle.ospf_views.proofs.offered.last_drop.Goals as goal

pub returns-then-branch : goal.returns-then-branch
returns-then-branch c =
    let last = is_last (is_for_link c.args.world.now c.args.place.0 c.args.place.1 c.args.from) c.loop-datagram.rest.now c.in-Some.before.now c.in-Some.datagram.now _
    c.in-Some.ensures.cases.0 (sym c.in_ok-is_for_link.ensures ∙ c.if-branch.true) c.loop-datagram.invariant in
    subst (λ t. IfOk c.drop_reason.result (λ line. string_bytes line ≡ t)) (sym (ap (drop_in c.args.router.now.area c.args.place.1) last)) c.drop_reason.ensures

pub loop-datagram-preserved : goal.loop-datagram-preserved
loop-datagram-preserved c =
    is_before (is_for_link c.args.world.now c.args.place.0 c.args.place.1 c.args.from) c.loop-datagram.rest.now c.in-Some.before.now c.in-Some.datagram.now _
    c.in-Some.ensures.cases.0 (sym c.in_ok-is_for_link.ensures ∙ c.if-branch.false) c.loop-datagram.invariant
