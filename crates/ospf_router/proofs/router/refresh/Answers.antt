use Rattle.std.proofs.Common.{List, ap, subst, sym}
use Rattle.ospf_area.specs.State.{AreaValue}
use Rattle.ospf_lsdb.specs.Database.{Held}
use Rattle.ospf_router.specs.Listings.{ListsBut}
use Rattle.ospf_router.proofs.router.refresh.Goals as goal

pub follow-requires : goal.follow-requires
follow-requires c =
    subst (λ (db : List Held). ListsBut c.args.taken.now.out db c.args.routes.now.listing) (sym (ap (λ (s : AreaValue). s.database) c.area.view_is)) c.requires.listed
