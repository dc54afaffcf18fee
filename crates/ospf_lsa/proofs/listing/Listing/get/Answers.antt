use Rattle.std.proofs.Common.{subst}
use Rattle.ospf_lsa.specs.Listing.{HasKey}
use Rattle.ospf_lsa.proofs.ListingLemmas.{no_key_at}
use Rattle.ospf_lsa.proofs.listing.Listing.get.Goals as goal

pub returns-in-Err-clause-none : goal.returns-in-Err-clause-none
returns-in-Err-clause-none c =
    subst (λ l. HasKey l c.args.key.now → ⊥) c.self.view_is
    (no_key_at c.self.inside.lsas.items c.args.key.now c.in-Err.field-0 (rw c.deref-2.ensures.value at c.in-Err.ensures.place))
