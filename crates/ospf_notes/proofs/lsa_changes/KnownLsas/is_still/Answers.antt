use Rattle.std.proofs.Common.{◌≡◌, ℕ, List, [], subst, sym}
use Rattle.ospf_lsdb.specs.Database.{listed}
use Rattle.ospf_router.proofs.KeepLemmas.{listing_all, lists_all}
use Rattle.ospf_router.specs.Listings.{ListsBut}
use Rattle.ospf_notes.specs.LsaChanges.{lsa_changes}
use Rattle.ospf_notes.proofs.Listed.{none_brought, nothing_changes}
use Rattle.ospf_notes.proofs.lsa_changes.KnownLsas.is_still.Goals as goal

pub returns-then-brings_none : goal.returns-then-brings_none
returns-then-brings_none c = λ t but own.
    let none = c.brings_none.ensures c.if-brings_none.true in
    let e = c.lists_as_many.ensures in
    let out = c.args.out.now in
    let db = c.args.database.now in
    let known = c.self.inside.listing in
    let all = none_brought out db known (subst (λ (l : List (List ℕ)). ListsBut out db l) (sym c.self.view_is) but) none.0 none.1 in
    let same = lists_all db known e.database e.listing all (e.many t) in
    let is = listing_all db known e.database e.listing all (e.many t) in
    subst (λ (l : List (List ℕ)). lsa_changes own out.taken l (listed db) ≡ []) c.self.view_is (nothing_changes own out.taken known (listed db) e.listing is same)
