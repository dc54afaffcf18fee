use Rattle.std.proofs.Common.{◌∙◌, ap, refl, arith, length}
use Rattle.ospf_graph.proofs.SameStarts.{same_both, settled_length}
use Rattle.ospf_graph.proofs.reached.tidy_all.Goals as goal

pub loop-place-init : goal.loop-place-init
loop-place-init c = record { settled = refl; starts = λ b. (λ m. m, λ m. m); places = λ places are. are }

pub tidy_at-requires : goal.tidy_at-requires
tidy_at-requires c =
    let now = settled_length c.loop-place.reached.items in
    let first = settled_length c.args.reached.now.items in
    let same = ap length c.loop-place.invariant.settled in
    let low = c.loop-place-test.true in
    omega arith

pub loop-place-preserved : goal.loop-place-preserved
loop-place-preserved c =
    record {
      settled = c.tidy_at.ensures.settled ∙ c.loop-place.invariant.settled;
      starts = same_both c.args.reached.now.items c.loop-place.reached.items c.tidy_at.new.reached.items c.loop-place.invariant.starts c.tidy_at.ensures.starts;
      places = λ places are. c.tidy_at.ensures.places places (c.loop-place.invariant.places places are);
    }
