use Rattle.std.proofs.Common.{◌≡◌, IsTrue, map, ◌∙◌}
use Rattle.ospf_base.specs.Sums.{contents}
use Rattle.ospf_lsdb.specs.Database.{entries}
use Rattle.ospf_router.proofs.ListLemmas.{fresh_of, listed_fresh, none_left, walk_over}
use Rattle.ospf_router.proofs.SameListings.{same_listing}
use Rattle.ospf_router.proofs.listed.lists_as.Goals as goal

all_same : (c : goal.After-is_none) → IsTrue c.is_none.result → fresh_of (entries c.args.database.now) ≡ map contents c.args.listing.now
all_same c t =
    let over = walk_over c.next-2.result _ _ c.is_none.result c.next-2.ensures.steps c.is_none.ensures t in
    c.loop-entry.invariant (none_left c.loop-entry.entry-iterator c.loop-entry.left.rest.now c.in-None.ensures.steps.0 over.0)

pub returns-clause-same : goal.returns-clause-same
returns-clause-same c = λ t. listed_fresh c.args.database.now ∙ all_same c t

pub returns-clause-listing : goal.returns-clause-listing
returns-clause-listing c = λ t. same_listing c.args.database.now c.args.listing.now (all_same c t) c.lsas.ensures.listing
