use Rattle.std.proofs.Common.{◌≡◌, ◌∙◌, ap, sym, subst, string_bytes}
use Rattle.std.specs.Prelude.{IfOk}
use Rattle.ospf_views.specs.Offered.{is_of_kind, misfit_in}
use Rattle.ospf_views.proofs.LastDrops.{is_before, is_last}
use Rattle.ospf_views.proofs.offered.last_misfit.Goals as goal

pub returns-then-branch : goal.returns-then-branch
returns-then-branch c =
    let last = is_last (is_of_kind c.args.world.now c.args.place.0 c.args.place.1 c.args.from c.args.kind) c.loop-datagram.left.now c.in-Some.before.now c.in-Some.datagram.now _
    c.in-Some.ensures.cases.0 (sym c.in_ok-is_of_kind.ensures ∙ c.if-branch.true) c.loop-datagram.invariant in
    subst (λ t. IfOk c.sender_misfit.result (λ line. string_bytes line ≡ t)) (sym (ap (misfit_in c.args.router.now.area c.args.place.1) last)) c.sender_misfit.ensures

pub loop-datagram-preserved : goal.loop-datagram-preserved
loop-datagram-preserved c =
    is_before (is_of_kind c.args.world.now c.args.place.0 c.args.place.1 c.args.from c.args.kind) c.loop-datagram.left.now c.in-Some.before.now c.in-Some.datagram.now _
    c.in-Some.ensures.cases.0 (sym c.in_ok-is_of_kind.ensures ∙ c.if-branch.false) c.loop-datagram.invariant
