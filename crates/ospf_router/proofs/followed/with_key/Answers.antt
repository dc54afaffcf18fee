use Rattle.std.proofs.Common.{sym}
use Rattle.ospf_lsa.specs.Listing.{IsPut}
use Rattle.ospf_lsdb.specs.Database.{lsa_of}
use Rattle.ospf_router.specs.Listings.{AreListedAt, StayListed}
use Rattle.ospf_router.proofs.KeepLemmas.{put_listed, put_stay}
use Rattle.ospf_router.proofs.ServedLemmas.{each_some}
use Rattle.ospf_router.proofs.followed.with_key.Goals as goal
use Rattle.ospf_router.specs.declared.followed.Grown.{Grown}

pub returns-clause-listed : goal.returns-clause-listed
returns-clause-listed c =
    let db = c.args.database.now in
    let old = c.args.grown.tree.listing in
    each_some c.with_entry.result (λ (g : Grown). IsPut (lsa_of c.in-Some.entry) old g.tree.listing) (λ (g : Grown). AreListedAt db c.args.key.now g.tree.listing)
    (λ g put. put_listed db c.args.key.now c.in-Some.entry (sym c.in-Some.ensures.entry) old g.tree.listing put) c.with_entry.ensures.put

pub returns-clause-stay : goal.returns-clause-stay
returns-clause-stay c =
    let db = c.args.database.now in
    let old = c.args.grown.tree.listing in
    each_some c.with_entry.result (λ (g : Grown). IsPut (lsa_of c.in-Some.entry) old g.tree.listing) (λ (g : Grown). StayListed db old g.tree.listing)
    (λ g put. put_stay db c.args.key.now c.in-Some.entry (sym c.in-Some.ensures.entry) old g.tree.listing put) c.with_entry.ensures.put
