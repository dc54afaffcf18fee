use Rattle.std.proofs.Common.{◌≡◌, ◌<◌, ◌≤◌, List, [], ap, length, refl, subst, sym, arith}
use Rattle.std.specs.List.{AllZip}
use Rattle.std.proofs.lemmas.List.{take_all}
use Rattle.ospf_graph.specs.Advertisements.{Advertisement}
use Rattle.ospf_graph.specs.EdgeLists.Listed.{advertisements_of}
use Rattle.ospf_whatif.specs.Failure.{HasLarge, IsLeftLsa}
use Rattle.ospf_whatif.proofs.WithoutLemmas.{bytes_more, left_by_none, left_more, small_without, zip_same}
use Rattle.ospf_whatif.proofs.area.without_all.Goals as goal

pub loop-failure-init : goal.loop-failure-init
loop-failure-init c = record { left = refl; bytes = zip_same (IsLeftLsa (advertisements_of c.args.listing) []) (left_by_none (advertisements_of c.args.listing)) c.args.listing; small = c.requires }

pub loop-failure-preserved : goal.loop-failure-preserved
loop-failure-preserved c = record {
  left =
      left_more c.args.failures.now c.loop-failure.failure-index c.failure-item.result (advertisements_of c.args.listing) (advertisements_of c.loop-failure.left)
      (advertisements_of c.in_ok-left.left) c.loop-failure-test.true c.failure-item.is c.loop-failure.invariant.left c.in_ok-left.ensures.left;
  bytes =
      bytes_more c.args.failures.now c.loop-failure.failure-index c.failure-item.result (advertisements_of c.args.listing) (advertisements_of c.loop-failure.left)
      c.args.listing c.loop-failure.left c.in_ok-left.left c.loop-failure-test.true c.failure-item.is c.loop-failure.invariant.left c.loop-failure.invariant.bytes c.in_ok-left.ensures.bytes;
  small = λ some. subst (λ (a : List Advertisement). HasLarge a → ⊥) (sym c.in_ok-left.ensures.left)
      (small_without c.failure-item.result (advertisements_of c.loop-failure.left) (c.loop-failure.invariant.small some));
}

pub without_small-requires : goal.without_small-requires
without_small-requires c =
    let lt : c.loop-failure.failure-index < length c.args.failures.now = c.loop-failure-test.true in
    c.loop-failure.invariant.small (λ none. (let zero' : length c.args.failures.now ≡ 0 = ap length none in omega arith))

pub returns-clause-bytes : goal.returns-clause-bytes
returns-clause-bytes c =
    let end : length c.args.failures.now ≤ c.loop-failure.failure-index = omega (arith, c.loop-failure-test.false) in
    subst (λ fs. AllZip (IsLeftLsa (advertisements_of c.args.listing) fs) c.args.listing c.loop-failure.left) (take_all c.loop-failure.failure-index c.args.failures.now end) c.loop-failure.invariant.bytes
