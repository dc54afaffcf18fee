use Rattle.std.proofs.Common.{ℕ, List, subst}
use Rattle.ospf_lsa.specs.Listing.{IsPut}
use Rattle.ospf_router.proofs.followed.with_entry.Goals as goal

pub returns-in-Ok-grow-clause-grown : goal.returns-in-Ok-grow-clause-grown
returns-in-Ok-grow-clause-grown c = record { root = c.in-Ok-grow.ensures.root; kept = c.in-Ok-grow.ensures.touched; spares = c.in-Ok-grow.ensures.spares }

pub returns-in-Ok-grow-clause-put : goal.returns-in-Ok-grow-clause-put
returns-in-Ok-grow-clause-put c = subst (λ (lsa : List ℕ). IsPut lsa c.args.grown.tree.listing c.in-Ok-grow.tree.listing) c.in-Ok.ensures.ok c.in-Ok-grow.ensures.listing
