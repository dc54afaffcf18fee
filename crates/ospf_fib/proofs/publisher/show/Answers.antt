use Rattle.std.proofs.Common.{ap, ◌∙◌}
use Rattle.left_right.specs.Sides.{view}
use Rattle.ospf_fib.specs.PrefixIndex.Rule.{counter_of}
use Rattle.ospf_fib.proofs.Kept.{swaps}
use Rattle.ospf_fib.proofs.publisher.show.Goals as goal

pub publish_as-requires : goal.publish_as-requires
publish_as-requires g c next is =
    let now = c.args.copies.desk in
    swaps now.place.id (view now.place) now.shown.value next (ap counter_of (ap (λ e. e.list.fib) is ∙ c.requires))
