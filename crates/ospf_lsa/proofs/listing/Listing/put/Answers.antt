use Rattle.std.proofs.Common.{List, ℕ, subst}
use Rattle.ospf_lsa.specs.Listing.{IsPut}
use Rattle.ospf_lsa.proofs.PutLemmas.{from_ok}
use Rattle.ospf_lsa.proofs.listing.Listing.put.Goals as goal

pub returns-clause-ok : goal.returns-clause-ok
returns-clause-ok c =
    let there = from_ok c.put_in.result (IsPut c.args.lsa c.self.inside.lsas.items c.put_in.new.lsas.items) c.if-is_err.ensures.negation c.put_in.ensures.ok in
    subst (λ (ls : List (List ℕ)). IsPut c.args.lsa ls c.put_in.new.lsas.items) c.self.view_is there
