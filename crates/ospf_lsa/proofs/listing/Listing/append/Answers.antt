use Rattle.std.proofs.Common.{◌≡◌, List, ℕ, length, subst, sym, ◌∙◌, arith}
use Rattle.std.specs.List.{AllByRecursion, insert}
use Rattle.ospf_base.specs.Keys.{Precedes}
use Rattle.ospf_lsa.specs.Header.{header_of, HeaderFits}
use Rattle.ospf_lsa.specs.Lsa.{IsLsa, key_of}
use Rattle.ospf_lsa.specs.Listing.{IsListing}
use Rattle.ospf_lsa.proofs.KeyLemmas.{either, err_more, insert_last, ok_more}
use Rattle.ospf_lsa.proofs.ListingLemmas.{IsListing-last}
use Rattle.ospf_lsa.proofs.listing.Listing.append.Goals as goal

pub invariant_of-self : goal.invariant_of-self
invariant_of-self c =
    let is : IsLsa c.args.lsa = rw c.view-view.ensures.same at c.as_bytes-lsa.ensures.valid in
    let fits : HeaderFits (header_of c.args.lsa) = rw c.view-view.ensures.same at c.header-fits.ensures.fits in
    let below = subst (λ (ls : List (List ℕ)). AllByRecursion (λ o. Precedes (key_of o) (key_of c.args.lsa)) ls) (sym c.self.view_is) c.requires.last in
    let grown = IsListing-last c.self.inside.lsas.items c.args.lsa c.self.invariant.listing (is, fits, c.requires.young) below in
    let lsas = c.insert_at.new.lsas.items in
    let end : c.len-end.result ≡ length c.self.inside.lsas.items = omega arith in
    record {
      listing = either c.insert_at.result (IsListing lsas)
          (ok_more c.insert_at.result (lsas ≡ insert c.self.inside.lsas.items c.len-end.result c.args.lsa) (IsListing lsas)
          (λ is. subst (λ (ls : List (List ℕ)). IsListing ls) (sym (is ∙ insert_last c.self.inside.lsas.items c.len-end.result c.args.lsa end)) grown) c.insert_at.ensures.ok)
          (err_more c.insert_at.result (lsas ≡ c.self.inside.lsas.items) (IsListing lsas)
          (λ is. subst (λ (ls : List (List ℕ)). IsListing ls) (sym is) c.self.invariant.listing) c.insert_at.ensures.err);
      keys_are = c.insert_at.ensures.keys;
    }
