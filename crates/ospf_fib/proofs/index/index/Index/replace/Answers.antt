use Rattle.std.proofs.Common.{◌≡◌, get_or, sym, ap, ◌∙◌, arith}
use Rattle.std.proofs.lemmas.List.{get_or_default}
use Rattle.std.proofs.lemmas.List.Sums.{sum_by_more_le}
use Rattle.ospf_spf.specs.declared.changes.Change.TheVariants.{Put}
use Rattle.ospf_fib.proofs.PrefixIndex.RoutePut.{follow_next, follow_start}
use Rattle.ospf_fib.specs.PrefixIndex.Room.{hops_put}
use Rattle.ospf_fib.proofs.index.index.Index.replace.Goals as goal

pub loop-change-init : goal.loop-change-init
loop-change-init c = follow_start c.args.routes.now c.args.changes.now c.args.self.now c.requires.table c.requires.index c.requires.replace

pub put-requires-clause-room : goal.put-requires-clause-room
put-requires-clause-room c =
    let changes = c.args.changes.now in
    let n = c.loop-change.change-index in
    let m = c.loop-change.invariant in
    let change = c.change-item.result in
    let most = sum_by_more_le hops_put changes n change (omega arith) in
    omega (arith, most, ap hops_put (sym c.change-item.is ∙ c.in-Put.is), m.hops, m.room_hops, c.requires.room.hops)

pub loop-change-preserved : goal.loop-change-preserved
loop-change-preserved c =
    let changes = c.args.changes.now in
    let n = c.loop-change.change-index in
    let q = c.in-Put.route in
    let put = c.put.ensures in
    let is : get_or changes n (Put q) ≡ Put q = get_or_default changes n (Put q) c.change-item.result (omega arith) ∙ sym c.change-item.is ∙ c.in-Put.is in
    follow_next c.args.routes.now changes n c.args.self.now c.loop-change.self c.put.new.self q (omega arith) is c.requires.have_hops c.loop-change.invariant put.put put.longer
