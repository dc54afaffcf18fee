use Rattle.std.proofs.Common.{◌≡◌, ℕ, List, Option, Some, None, sym, subst, ◌∙◌}
use Rattle.std.specs.Prelude.{IfSome, IfNone}
use Rattle.ospf_base.specs.declared.ids.RouterId.{RouterId}
use Rattle.ospf_lsa.specs.declared.link.Link.{Link}
use Rattle.ospf_graph.specs.Advertisements.{Advertisement, IsAddressOn, transit_address}
use Rattle.ospf_graph.specs.EdgeLists.Listed.{advertisements_of}
use Rattle.ospf_graph.specs.EdgeLists.Near.{AreLinksBy, IsFirstAddress, HasNoAddress}
use Rattle.ospf_graph.proofs.edges.lookups.address_on.Goals as goal

module _ (A : List Advertisement) (n : ℕ) (router : RouterId) (links : List Link) (are : AreLinksBy A router links) where
  address_is : (other : ℕ) → IsAddressOn A n router other → transit_address n links ≡ Some other
  address_is other is = subst (λ (ls : List Link). transit_address n ls ≡ Some other) (are.only is.links is.listed) is.first

  first_one : (r : Option ℕ) → r ≡ transit_address n links → IfSome r (IsFirstAddress A n router)
  first_one None is = tt
  first_one (Some address) is = (
    record { links = links; listed = are.listed; first = sym is },
    λ other at. let both : Some address ≡ Some other = is ∙ address_is other at in cc,
  )

  no_one : (r : Option ℕ) → r ≡ transit_address n links → IfNone r (HasNoAddress A n router)
  no_one None is = λ other at. let both : None ≡ Some other = is ∙ address_is other at in cc
  no_one (Some address) is = tt

pub returns-in-Some-clause-found : goal.returns-in-Some-clause-found
returns-in-Some-clause-found c =
    first_one (advertisements_of c.args.listing.now) c.args.id c.args.router c.in-Some.links c.in-Some.ensures.found c.transit_link_data.result c.transit_link_data.ensures

pub returns-in-Some-clause-none : goal.returns-in-Some-clause-none
returns-in-Some-clause-none c =
    no_one (advertisements_of c.args.listing.now) c.args.id c.args.router c.in-Some.links c.in-Some.ensures.found c.transit_link_data.result c.transit_link_data.ensures
