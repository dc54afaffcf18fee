-- Tables of a tree's listing are those of a database that lists the same.
use Rattle.std.proofs.Common.{ℕ, List, Option, None, Some, Result, Ok, Err, IfOk, IfSome, refl, sym, subst, ◌∙◌}
use Rattle.ospf_base.specs.declared.ids.RouterId.{RouterId}
use Rattle.ospf_base.specs.declared.prefix.Prefix.{Prefix}
use Rattle.ospf_graph.specs.EdgeLists.Listed.{advertisements_of}
use Rattle.ospf_graph.specs.Advertisements.{Advertisement}
use Rattle.ospf_graph.specs.Routes.{IsTable}
use Rattle.ospf_graph.specs.declared.route.Route.{Route}
use Rattle.ospf_lsa.specs.Listing.{IsListing}
use Rattle.ospf_lsdb.specs.Database.{Held, IsDatabase, listed}
use Rattle.ospf_router.specs.Kept.{IsGrownFrom}
use Rattle.ospf_router.specs.declared.followed.Grown.{Grown}
use Rattle.ospf_router.specs.Listings.{ListsAs}
use Rattle.ospf_router.specs.Routes.{AreRoutes}
use Rattle.ospf_router.proofs.ListLemmas.{same_told}
use Rattle.ospf_spf.specs.Spared.{IsSparedPrefix}
use Rattle.ospf_router.specs.Growing.{GrowingValue}

-- the table of a listing is that of the database
pub routes_of : (db : List Held) (router : RouterId) (lsas : List (List ℕ)) (table : List Route) → IsDatabase db → IsListing (listed db) → ListsAs db lsas
    → IsTable (advertisements_of lsas) router table → AreRoutes router db table
routes_of db router lsas table is listing same table_is =
    record {
      database = is;
      listing = listing;
      routes = subst (λ (a : List Advertisement). IsTable a router table) (sym (same_told (listed db) lsas same)) table_is;
    }

-- what is said of a value that may not be there
pub each_some : {T E : Type 0} (r : Result (Option T) E) (P Q : T → Type 0) → ((x : T) → P x → Q x) → IfOk r (λ o. IfSome o P) → IfOk r (λ o. IfSome o Q)
each_some (Ok (Some x)) P Q f h = f x h
each_some (Ok None) P Q f h = tt
each_some (Err e) P Q f h = tt

spared_then : (A B C : List Advertisement) (root : RouterId) (p : Prefix) → IsSparedPrefix A B root p → IsSparedPrefix B C root p → IsSparedPrefix A C root p
spared_then A B C root p first then = record { routes = λ r of is. then.routes r of (first.routes r of is); ways = λ w. first.ways (then.ways w) }

-- one LSA more
pub grown_more : (tree : GrowingValue) (before : List Prefix) (mid new : Grown) → IsGrownFrom tree before mid → IsGrownFrom mid.tree mid.touched.items new → IsGrownFrom tree before new
grown_more tree before mid new first then =
    record {
      root = then.root ∙ first.root;
      kept = λ p m. then.kept p (first.kept p m);
      spares = λ p free.
          let A = advertisements_of tree.listing in
          let B = advertisements_of mid.tree.listing in
          let C = advertisements_of new.tree.listing in
          spared_then A B C tree.root p (first.spares p (λ m. free (then.kept p m)))
          (subst (λ (r : RouterId). IsSparedPrefix B C r p) first.root (then.spares p free));
    }
