-- The routers that list the same have tables of one listing, and walks along them arrive.
use Rattle.std.proofs.Common.{◌≡◌, inl, inr, ◌+◌, ◌++◌, ℕ, List, [], ◌∷◌, filter, Some, refl, sym, ap, subst, ◌∙◌}
use Rattle.std.specs.List.{Contains}
use Rattle.std.proofs.lemmas.Option.{same_Some}
use Rattle.std.proofs.lemmas.List.Elements.{All-contains}
use Rattle.ospf_base.specs.declared.ids.RouterId.{RouterId}
use Rattle.ospf_lsa.specs.Lsa.{instance_of}
use Rattle.ospf_lsdb.specs.Database.{lsa_of, is_fresh, listed, entries}
use Rattle.ospf_lsdb.proofs.Words.{AreKeysRising}
use Rattle.ospf_exchange.proofs.LawLemmas.{of_copy}
use Rattle.ospf_graph.specs.Advertisements.{IsListed}
use Rattle.ospf_graph.specs.Routes.{IsTable, IsRoute}
use Rattle.ospf_graph.specs.Walk.{HaveReachedTables, IsReachedFrom, IsBest, IsNext, IsWalkStep, IsWalk, IsOnWay, IsSoundWalk, IsLinkCost}
use Rattle.ospf_graph.specs.declared.hop.NextHop.{NextHop}
use Rattle.ospf_graph.proofs.WalkLaw.{next_reached, reached_on}
use Rattle.ospf_graph.specs.declared.route.Route.{Route}
use Rattle.ospf_spf.specs.Walks as spf
use Rattle.ospf_area.specs.State.{database_entry}
use Rattle.ospf_area.proofs.Words.{copy_in}
use Rattle.ospf_router.specs.AreaStep.Words.{HasCopy}
use Rattle.ospf_router.proofs.AreaStep.StateFacts.{same_contents, key_of-lsa_of, Contains-map, Contains-map_cases, Contains-filter_cases}
use Rattle.ospf_world.specs.Listings.{ListTheSame}
use Rattle.ospf_world.specs.Sound.{NoCollision}
use Rattle.ospf_world.specs.World.{World, Running, router_at, listing, HasItsTable}
use Rattle.ospf_world.specs.Walks.{adverts, table_at, table_in, AllReachedAgree, StepsOn, WalksOn, StandsOnWay, RunningWalksArrive}
use Rattle.ospf_world.proofs.Facts.{Facts}
use Rattle.ospf_world.proofs.SameListing.{same_advertisements, AgreeByInstance}

-- what is listed is a copy of the database
listed_has : (x : Running) (lsa : List ℕ) → AreKeysRising x.state.database → Contains (listing x) lsa → HasCopy x.state lsa
listed_has x lsa rises c =
    let (h, inside, is) = Contains-map_cases (λ h. lsa_of h.entry) (filter (λ h. is_fresh h.entry) x.state.database) lsa c in
    let in_db = (Contains-filter_cases (λ h. is_fresh h.entry) x.state.database h inside).0 in
    let in_entries = Contains-map lsa_of (entries x.state.database) h.entry (Contains-map (λ h. h.entry) x.state.database h in_db) in
    let (e, has, same) = of_copy lsa_of x.state.database rises (lsa_of h.entry) in_entries in
    let whole : lsa_of e ≡ lsa = same ∙ is in
    subst (λ lsa. HasCopy x.state lsa) whole (ap copy_in (subst (λ key. database_entry x.state key ≡ Some e) (sym (key_of-lsa_of e)) has))

-- LSAs of one instance in two listings have equal contents
agree_by_instance : (w : World) (a b : RouterId) (x y : Running) → Facts w → NoCollision w.issued → router_at w a ≡ Some x → router_at w b ≡ Some y → AgreeByInstance (listing x) (listing y)
agree_by_instance w a b x y facts none at_a at_b u v in_u in_v same =
    let was_u = facts.database a x u at_a (listed_has x u (facts.tables a x at_a).is_database.rising in_u) in
    let was_v = facts.database b y v at_b (listed_has y v (facts.tables b y at_b).is_database.rising in_v) in
    let one : instance_of was_u.entry.lsa ≡ instance_of was_v.entry.lsa = same_contents was_u.entry.lsa u was_u.is ∙ (same ∙ sym (same_contents was_v.entry.lsa v was_v.is)) in
    sym was_u.is ∙ (none was_u.place was_v.place was_u.entry was_v.entry was_u.at was_v.at one ∙ was_v.is)

-- routers that list the same instances list the same
pub same_adverts : (w : World) (a b : RouterId) (x y : Running) → Facts w → NoCollision w.issued → router_at w a ≡ Some x → router_at w b ≡ Some y → ListTheSame (listing x) (listing y) → adverts x ≡ adverts y
same_adverts w a b x y facts none at_a at_b same =
    same_advertisements (listing x) (listing y) (facts.tables a x at_a).is_listing.rising (facts.tables b y at_b).is_listing.rising same
    (agree_by_instance w a b x y facts none at_a at_b)

-- the router of a best route is listed
best_listed : (x : Running) (address : ℕ) (first : Route) → HasItsTable x → IsBest x.table address first → IsListed (adverts x) x.state.router
best_listed x address first has best = (All-contains (IsRoute (adverts x) x.state.router) x.table first has.is_table.sound best.listed).way.listed

module _ (w : World) (a : RouterId) (x : Running) (law : spf.WalksArrive) (facts : Facts w) (none : NoCollision w.issued) (runs : router_at w a ≡ Some x) (agree : AllReachedAgree w a x) where
  -- a router that is reached runs, lists the same, and has the table of that listing
  record HasOurs (r : RouterId) (y : Running) : Type 0 where
    runs_as : router_at w r ≡ Some y
    same : adverts x ≡ adverts y
    table_is : table_at w r ≡ y.table
    is_table : IsTable (adverts x) r (table_at w r)

  abbrev IsReached : RouterId → Type 0
  IsReached r = IsListed (adverts x) r × IsReachedFrom (adverts x) a r

  ours : (r : RouterId) → IsReached r → (y : Running) × HasOurs r y
  ours r reached =
      let (y, at, same) = agree r reached.0 reached.1 in
      let one : adverts x ≡ adverts y = same_adverts w a r x y facts none runs at same in
      let table : table_at w r ≡ y.table = ap table_in at in (
        y,
        record {
          runs_as = at;
          same = one;
          table_is = table;
          is_table =
              subst (λ routes. IsTable (adverts x) r routes) (sym table)
              (subst (λ adv. IsTable adv r y.table) (sym one)
              (subst (λ q. IsTable (adverts y) q y.table) (facts.router r y at) (facts.tables r y at).is_table));
        },
      )

  have_tables : (b : RouterId) → IsReached b → HaveReachedTables (adverts x) b (table_at w)
  have_tables b reached r listed on = (ours r (listed, reached_on (adverts x) a b r reached.1 on)).1.is_table

  on_way : (address : ℕ) (b : RouterId) (first : Route) → IsReached b → IsBest (table_at w b) address first → (routers : List RouterId) (c : RouterId) (paid : ℕ) → IsWalk (adverts x) (table_at w) address b routers c paid → IsSoundWalk (adverts x) (table_at w) address b first routers c paid
  on_way address b first reached best routers c paid walk = law (listing x) (table_at w) address b first (facts.tables a x runs).is_listing (have_tables b reached) reached.0 best routers c paid walk

  -- a step in the world is one in the listing, and leads to a router that is reached
  one_step : (address : ℕ) (b c : RouterId) (cost : ℕ) → IsReached b → StepsOn w address b c cost → IsWalkStep (adverts x) (table_at w) address b c cost
  one_step address b c cost reached s =
      let (y, has) = ours b reached in
      let same : s.running ≡ y = same_Some s.running y (sym s.runs ∙ has.runs_as) in
      subst (λ adv. IsWalkStep adv (table_at w) address b c cost) (ap adverts same ∙ sym has.same) s.step

  hop_reached : (b c : RouterId) (hop : NextHop) (cost : ℕ) → IsReached b → IsLinkCost (adverts x) b hop cost → IsNext hop c → IsListed (adverts x) c → IsReached c
  hop_reached b c hop cost reached link next listed = (listed, next_reached (adverts x) a b c hop cost reached.1 link.link next)

  reached_next : (address : ℕ) (b c : RouterId) (cost : ℕ) → IsReached b → IsWalkStep (adverts x) (table_at w) address b c cost → IsReached c
  reached_next address b c cost reached step =
      hop_reached b c step.hop cost reached step.link_cost step.next
      (on_way address b step.route reached step.best (c ∷ []) c (cost + 0) (cost, 0, step, (refl, refl), refl)).on_way.listed

  as_walk : (address : ℕ) (b : RouterId) (routers : List RouterId) (c : RouterId) (paid : ℕ) → IsReached b → WalksOn w address b routers c paid → IsWalk (adverts x) (table_at w) address b routers c paid
  as_walk address b [] c paid reached walk = walk
  as_walk address b (next ∷ routers) c paid reached (cost, left, s, rest, sum) =
      let step = one_step address b next cost reached s in
      (cost, left, step, as_walk address next routers c left (reached_next address b next cost reached step) rest, sum)

  -- and a walk in the listing is one in the world
  on_walk : (address : ℕ) (b : RouterId) (routers : List RouterId) (c : RouterId) (paid : ℕ) → IsReached b → IsWalk (adverts x) (table_at w) address b routers c paid → WalksOn w address b routers c paid
  on_walk address b [] c paid reached walk = walk
  on_walk address b (next ∷ routers) c paid reached (cost, left, step, rest, sum) =
      let (y, has) = ours b reached in
      let s : StepsOn w address b next cost = record { running = y; runs = has.runs_as; step = subst (λ adv. IsWalkStep adv (table_at w) address b next cost) has.same step } in
      (cost, left, s, on_walk address next routers c left (reached_next address b next cost reached step) rest, sum)

  -- it ends at a router that is reached
  walk_reaches : (address : ℕ) (b : RouterId) (routers : List RouterId) (c : RouterId) (paid : ℕ) → IsReached b → IsWalk (adverts x) (table_at w) address b routers c paid → IsReached c
  walk_reaches address b [] c paid reached walk = subst IsReached walk.0 reached
  walk_reaches address b (next ∷ routers) c paid reached (cost, left, step, rest, sum) =
      walk_reaches address next routers c left (reached_next address b next cost reached step) rest

  stands : (address : ℕ) (first : Route) (b : RouterId) (paid : ℕ) → IsReached b → IsOnWay (adverts x) (table_at w) address first b paid → StandsOnWay w address first b paid
  stands address first b paid reached way =
      let (y, has) = ours b reached in
      record {
        running = y;
        runs = has.runs_as;
        route = way.route;
        best = subst (λ routes. IsBest routes address way.route) has.table_is way.best;
        same_prefix = way.same_prefix;
        cost_left = way.cost_left;
        has_hop = way.has_hop;
        goes_on = λ hop c. elim (way.goes_on hop c) [
          | inl ends ↦ inl ends
          | inr more ↦ inr (
              let (next, cost, names, link, there) = more in
              let (z, theirs) = ours next (hop_reached b next hop cost reached link names there) in
              (next, cost, names, subst (λ adv. IsLinkCost adv b hop cost) has.same link, z, theirs.runs_as))
        ];
      }

  our_table : table_at w a ≡ x.table
  our_table = ap table_in runs

  -- the router of a walk's first route is listed, and reaches itself
  is_reached : (address : ℕ) (first : Route) → IsBest x.table address first → IsReached a
  is_reached address first best =
      (subst (λ q. IsListed (adverts x) q) (facts.router a x runs) (best_listed x address first (facts.tables a x runs) best), ([], refl))

  pub walks_arrive : RunningWalksArrive w a x
  walks_arrive address first best routers b paid walk =
      let reached = is_reached address first best in
      let listed_walk = as_walk address a routers b paid reached walk in
      let s = on_way address a first reached (subst (λ routes. IsBest routes address first) (sym our_table) best) routers b paid listed_walk in
      record {
        stands = stands address first b paid (walk_reaches address a routers b paid reached listed_walk) s.on_way;
        once = s.once;
        short = s.short;
        ends = record {
          more = s.ends.more;
          last = s.ends.last;
          total = s.ends.total;
          walk = on_walk address a (routers ++ s.ends.more) s.ends.last s.ends.total reached s.ends.walk;
          arrives = s.ends.arrives;
        };
      }
