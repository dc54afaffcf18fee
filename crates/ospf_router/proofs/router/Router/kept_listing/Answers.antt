use Rattle.std.proofs.Common.{◌≡◌, map, ap, ◌∙◌}
use Rattle.ospf_base.specs.Sums.{contents}
use Rattle.ospf_router.specs.Routers.{RouterValue, listing_of}
use Rattle.ospf_router.proofs.ListingFacts.{kept_same, none_by, told_by}
use Rattle.ospf_router.proofs.router.Router.kept_listing.Goals as goal

same : (c : goal.After-listing) → map contents c.self.inside.routes.listing ≡ map contents (listing_of c.args.self.now.area)
same c =
    kept_same c.self.inside.links c.self.inside.routes c.self.inside.area c.in-Some.field-0 c.in-Some.is c.self.invariant
    ∙ ap (λ (r : RouterValue). map contents (listing_of r.area)) c.self.view_is

pub returns-in-Some-clause-told : goal.returns-in-Some-clause-told
returns-in-Some-clause-told c = told_by c.listing.result c.self.inside.routes.listing (listing_of c.args.self.now.area) (same c) c.listing.ensures.some

pub returns-in-Some-clause-none : goal.returns-in-Some-clause-none
returns-in-Some-clause-none c = λ is. none_by c.self.inside.routes.listing (listing_of c.args.self.now.area) (same c) (c.listing.ensures.none is)
