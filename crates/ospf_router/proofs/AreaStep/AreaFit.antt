-- The calls of the area, and own LSAs, keep all links fit.
use Rattle.std.proofs.Common.{◌≡◌, ◌==◌, ◌++◌, ℕ, ℤ, Bool, true, false, List, [], ◌∷◌, Option, None, Some, refl, sym, ap, subst, ◌∙◌, if◌then◌else◌, map}
use Rattle.ospf_base.specs.Constants.{max_age}
use Rattle.ospf_base.specs.declared.ids.LsaKey.{LsaKey}
use Rattle.ospf_base.specs.declared.ids.Instance.{Instance}
use Rattle.ospf_base.specs.declared.ids.RouterId.{RouterId}
use Rattle.ospf_flood.specs.declared.acknowledgement.Acknowledgement.{Acknowledgement}
use Rattle.ospf_flood.specs.declared.acknowledgement.Acknowledgement.TheVariants as answer
use Rattle.ospf_flood.specs.declared.rule.LsaRule.{LsaRule}
use Rattle.ospf_flood.specs.declared.rule.LsaRule.TheVariants.{AcknowledgesExpired, TooSoon, Installs, BadRequest, Duplicate, Stale}
use Rattle.ospf_exchange.proofs.Words.{copy_in_database}
use Rattle.ospf_lsa.specs.Header.{header_of, key_of_header}
use Rattle.ospf_lsa.specs.Lsa.{key_of, instance_of}
use Rattle.ospf_lsa.specs.declared.header.LsaHeader.{LsaHeader}
use Rattle.ospf_lsdb.specs.Database.{Entry, reached_at}
use Rattle.ospf_lsdb.specs.Database as lsdb
use Rattle.ospf_neighbour.specs.Lists.{key_unlisted}
use Rattle.ospf_area.proofs.NeighbourLemmas.{changed_if-router, flooded-router, turned-router}
use Rattle.ospf_area.specs.Asking.{turned_to_next, turned_link}
use Rattle.ospf_area.specs.Changes.{changed_at, delayed_at}
use Rattle.ospf_area.specs.Flooding.{came_from, flooded_links, on_link, goes_anywhere, released}
use Rattle.ospf_area.specs.Numbers.{is_self_originated}
use Rattle.ospf_area.specs.Outputs.{OutputsValue}
use Rattle.ospf_area.specs.Sending.{context_of}
use Rattle.ospf_area.specs.Standing.{acknowledging}
use Rattle.ospf_area.specs.State.{AreaValue, LinkValue, database_entry}
use Rattle.ospf_area.specs.declared.changes.AdjacencyChange.{AdjacencyChange}
use Rattle.ospf_area.specs.declared.flooding.PacketSource.{PacketSource}
use Rattle.ospf_area.specs.declared.sending.RouterContext.{RouterContext}
use Rattle.ospf_area.specs.Updates.Aging.{Flushes, TickAges, copy_flooded, turned_area}
use Rattle.ospf_area.specs.Updates.Meets.{MeetsRule, Stores, header_met, heard_by, named_by, replied, reply_to, rule_met}
use Rattle.ospf_area.proofs.Updates.Words.{taken_off, copy_flooded_by, RemovesAll, Removes, TakesSlices, copies_sent, copy_sent, noted, flooded_area}
use Rattle.ospf_area.specs.Updates.Removal.{leaving}
use Rattle.ospf_area.specs.Updates.Updates.{TakesSlice, TakesUpdate}
use Rattle.ospf_area.specs.Updates.Updates.TakesSlice.{Met, PassedOver}
use Rattle.ospf_area.proofs.Updates.PassLemmas.{passed}
use Rattle.ospf_router.specs.AreaStep.Puts.{headers_met}
use Rattle.ospf_originate.specs.Steps.{Acts, Issues, OwnLsas, wants}
use Rattle.ospf_originate.proofs.Words.{ActsInTurn, IssuesIf}
use Rattle.ospf_originate.specs.Wanted.{WantedValue, wanted_of}
use Rattle.ospf_originate.specs.declared.action.DueAction.{DueAction}
use Rattle.ospf_originate.specs.declared.action.OwnAction.{OwnAction}
use Rattle.ospf_originate.specs.declared.action.OwnAction.TheVariants.{Leave, Flush, Issue}
use Rattle.ospf_router.proofs.AreaStep.FitLemmas.{AllFit, IsFor, IsKin, along, fit_from, fit_map, kin_fit, ids_map}
use Rattle.ospf_area.proofs.Updates.CopyLemmas.{copies_become}
use Rattle.ospf_area.proofs.Words.{changed_link, changed_on, delayed_on, flooded_link, released_link, changed_if, flooded_neighbour}

module _ (r : RouterId) where
  -- ---- links

  released_fit : (key : LsaKey) (xs : List LinkValue) → AllFit r xs → AllFit r (released key xs)
  released_fit key xs fit = fit_map r (released_link key) (λ x. kin_fit r x (released_link key x) (record { iface = refl; elects = refl; same = ids_map (key_unlisted key) (λ n. refl) x.neighbours })) xs fit

  flooded_fit : (key : LsaKey) (h : LsaHeader) (from : Option PacketSource) (tick : ℕ) (xs : List LinkValue) → AllFit r xs → AllFit r (flooded_links key h from tick xs)
  flooded_fit key h from tick xs fit = fit_from r (flooded_link key h from tick)
      (λ l x. record { iface = refl; elects = refl; same = ids_map (flooded_neighbour key h (on_link from l) tick) (λ n. flooded-router key h (came_from (on_link from l) n) tick n) x.neighbours }) 0 xs fit

  turned_fit : (own : RouterContext) (xs : List LinkValue) → AllFit r xs → AllFit r (map (turned_link own) xs)
  turned_fit own xs fit = fit_map r (turned_link own)
      (λ x. kin_fit r x (turned_link own x) (record { iface = refl; elects = refl; same = ids_map (turned_to_next x.settings.mtu own.tick) (turned-router x.settings.mtu own.tick) x.neighbours })) xs fit

  changed_fit : (f : PacketSource) (change : AdjacencyChange) (tick : ℕ) (xs : List LinkValue) → AllFit r xs → AllFit r (changed_at f change tick xs)
  changed_fit f change tick xs fit = fit_from r (changed_on f change tick) (λ l x. by_test x (l == f.link)) 0 xs fit
    where
      by_test : (x : LinkValue) (b : Bool) → IsKin x (if b then changed_link f.router change tick x else x)
      by_test x true = record { iface = refl; elects = refl; same = ids_map (changed_if f.router change tick) (changed_if-router f.router change tick) x.neighbours }
      by_test x false = record { iface = refl; elects = refl; same = refl }

  delayed_fit : (number : ℕ) (h : LsaHeader) (xs : List LinkValue) → AllFit r xs → AllFit r (delayed_at number h xs)
  delayed_fit number h xs fit = fit_from r (delayed_on number h) (λ l x. by_test x (l == number)) 0 xs fit
    where
      by_test : (x : LinkValue) (b : Bool) → IsKin x (if b then record x { delayed = x.delayed ++ h ∷ [] } else x)
      by_test x true = record { iface = refl; elects = refl; same = refl }
      by_test x false = record { iface = refl; elects = refl; same = refl }

  -- ---- an LSA of an Update

  turned_for : (s : AreaValue) → IsFor r s → IsFor r (turned_area s)
  turned_for s fit = record { own = fit.own; links = turned_fit (context_of s) s.links fit.links }

  acknowledging_for : (a : Acknowledgement) (f : PacketSource) (h : LsaHeader) (s : AreaValue) → IsFor r s → IsFor r (acknowledging a f h s)
  acknowledging_for answer.None f h s fit = fit
  acknowledging_for answer.Delayed f h s fit = record { own = fit.own; links = delayed_fit f.link h s.links fit.links }
  acknowledging_for answer.Direct f h s fit = record { own = fit.own; links = fit.links }

  heard_for : (key : LsaKey) (s : AreaValue) → IsFor r s → IsFor r (heard_by key s)
  heard_for key s fit = by_test (is_self_originated s.router s.links key)
    where
      by_test : (b : Bool) → IsFor r (if b then record s { heard = s.heard ++ key ∷ [] } else s)
      by_test true = record { own = fit.own; links = fit.links }
      by_test false = fit

  pub store_for : (lsa : List ℕ) (from : Option PacketSource) (s s' : AreaValue) → Stores lsa from s s' → IsFor r s → IsFor r s'
  store_for lsa from s s' stores fit = record {
    own = ap (λ (x : AreaValue). x.router) stores.rest ∙ fit.own;
    links = subst (λ (xs : List LinkValue). AllFit r xs) (sym (ap (λ (x : AreaValue). x.links) stores.rest)) (flooded_fit (key_of lsa) (header_of lsa) from s.tick (released (key_of lsa) s.links) (released_fit (key_of lsa) s.links fit.links));
  }

  replied_for : (reply : Option (List ℕ)) (f : PacketSource) (key : LsaKey) (s : AreaValue) → IsFor r s → IsFor r (replied reply f key s)
  replied_for None f key s fit = fit
  replied_for (Some lsa) f key s fit = record { own = fit.own; links = changed_fit f (AdjacencyChange.IsSent (instance_of lsa)) s.tick s.links fit.links }

  change_for : (f : PacketSource) (change : AdjacencyChange) (s : AreaValue) → IsFor r s → IsFor r (record s { links = changed_at f change s.tick s.links })
  change_for f change s fit = record { own = fit.own; links = changed_fit f change s.tick s.links fit.links }

  rule_for : (rule : Option LsaRule) (f : PacketSource) (lsa : List ℕ) (s : AreaValue) (o o' : OutputsValue) (s' : AreaValue) → MeetsRule rule f lsa s o o' s' → IsFor r s → IsFor r s'
  rule_for None f lsa s o o' s' is fit = along r s s' is.state fit
  rule_for (Some AcknowledgesExpired) f lsa s o o' s' is fit = along r _ s' is.state (acknowledging_for _ f (header_of lsa) s fit)
  rule_for (Some TooSoon) f lsa s o o' s' is fit = along r s s' is.state fit
  rule_for (Some Installs) f lsa s o o' s' is fit =
      along r _ s' is.state (heard_for (key_of lsa) _ (acknowledging_for _ f (header_of lsa) is.mid (store_for lsa (Some f) s is.mid is.stores fit)))
  rule_for (Some BadRequest) f lsa s o o' s' is fit = along r _ s' is.state (record { own = fit.own; links = changed_fit f (AdjacencyChange.Restarts s.next_dd) s.tick s.links fit.links })
  rule_for (Some Duplicate) f lsa s o o' s' is fit = along r _ s' is.state (acknowledging_for _ f (header_of lsa) _ (change_for f (AdjacencyChange.Acknowledges (instance_of lsa)) s fit))
  rule_for (Some Stale) f lsa s o o' s' is fit = along r _ s' is.state (replied_for (reply_to s (key_of lsa)) f (key_of lsa) s fit)

  slice_for : (f : PacketSource) (bytes : List ℕ) (s : AreaValue) (o o' : OutputsValue) (s' : AreaValue) → TakesSlice f bytes s o o' s' → IsFor r s → IsFor r s'
  slice_for f bytes s o o' s' (Met is mid so_far meets state outputs) fit = along r (turned_area mid) s' state (turned_for mid (rule_for (rule_met s f bytes) f bytes s o so_far mid meets fit))
  slice_for f bytes s o o' s' (PassedOver is_not passes outputs) fit =
      let p = passed s.passes_over f bytes s s' passes in
      along r (record s { direct = p.direct }) s' p.state (record { own = fit.own; links = fit.links })

  slices_for : (f : PacketSource) (slices : List (List ℕ)) (s : AreaValue) (o o' : OutputsValue) (s' : AreaValue) → TakesSlices f slices s o o' s' → IsFor r s → IsFor r s'
  slices_for f [] s o o' s' unchanged fit = along r s s' unchanged.state fit
  slices_for f (bytes ∷ slices) s o o' s' (mid, so_far, first, others) fit = slices_for f slices mid so_far o' s' others (slice_for f bytes s o so_far mid first fit)

  pub update_for : (f : PacketSource) (slices : List (List ℕ)) (s : AreaValue) (o o' : OutputsValue) (s' : AreaValue) → TakesUpdate f slices s o o' s' → IsFor r s → IsFor r s'
  update_for f slices s o o' s' is fit =
      let mid = slices_for f slices s o is.so_far is.mid is.takes fit in
      along r (record is.mid { direct = [] }) s' is.state (record { own = mid.own; links = mid.links })

  -- ---- headers of an Acknowledgment

  header_for : (f : PacketSource) (h : LsaHeader) (s : AreaValue) → IsFor r s → IsFor r (header_met f h s)
  header_for f h s fit = by_named (named_by h (copy_in_database s.database (key_of_header h)))
    where
      by_named : (i : Option Instance) → IsFor r (taken_off f i s)
      by_named None = fit
      by_named (Some i) = change_for f (AdjacencyChange.Acknowledges i) s fit

  pub headers_for : (f : PacketSource) (hs : List LsaHeader) (s : AreaValue) → IsFor r s → IsFor r (headers_met f hs s)
  headers_for f [] s fit = fit
  headers_for f (h ∷ hs) s fit = headers_for f hs (header_met f h s) (header_for f h s fit)

  -- ---- copies at MaxAge

  copy_for : (o : Option Entry) (key : LsaKey) (s : AreaValue) → IsFor r s → IsFor r (copy_flooded_by o key s)
  copy_for None key s fit = fit
  copy_for (Some e) key s fit = by_test (goes_anywhere (key_of lsa) (header_of lsa) None s.links)
    where
      lsa : List ℕ
      lsa = lsdb.lsa_of e

      by_test : (b : Bool) → IsFor r (noted key b (flooded_area lsa None s))
      by_test true = record { own = fit.own; links = flooded_fit (key_of lsa) (header_of lsa) None s.tick s.links fit.links }
      by_test false = record { own = fit.own; links = flooded_fit (key_of lsa) (header_of lsa) None s.tick s.links fit.links }

  sent_for : (key : LsaKey) (s : AreaValue) → IsFor r s → IsFor r (copy_sent key s)
  sent_for key s fit = turned_for (copy_flooded key s) (copy_for (database_entry s key) key s fit)

  all_sent_for : (keys : List LsaKey) (s : AreaValue) → IsFor r s → IsFor r (copies_sent keys s)
  all_sent_for [] s fit = fit
  all_sent_for (key ∷ keys) s fit = all_sent_for keys (copy_sent key s) (sent_for key s fit)

  -- only what is no link of it has changed
  aside_for : (s s' : AreaValue) → s'.router ≡ s.router → s'.links ≡ s.links → IsFor r s → IsFor r s'
  aside_for s s' router links fit = record { own = router ∙ fit.own; links = subst (λ (xs : List LinkValue). AllFit r xs) (sym links) fit.links }

  flush_for : (key : LsaKey) (s : AreaValue) (out out' : OutputsValue) (s' : AreaValue) → Flushes key s out out' s' → IsFor r s → IsFor r s'
  flush_for key s out out' s' is fit =
      along r (copy_sent key is.mid) s' is.sends.state (sent_for key is.mid (aside_for s is.mid (ap (λ (x : AreaValue). x.router) is.rest) (ap (λ (x : AreaValue). x.links) is.rest) fit))

  pub age_for : (s : AreaValue) (out out' : OutputsValue) (s' : AreaValue) → TickAges s out out' s' → IsFor r s → IsFor r s'
  age_for s out out' s' is fit =
      let mid = is.mid in
      let keys = reached_at max_age mid.database in
      along r (copies_sent keys mid) s' (copies_become keys mid s' out out' is.sends).state (all_sent_for keys mid
      (aside_for s mid (ap (λ (x : AreaValue). x.router) is.rest) (ap (λ (x : AreaValue). x.links) is.rest) fit))

  -- ---- own LSAs

  issue_for : (w : WantedValue) (number : ℤ) (s : AreaValue) (o o' : OutputsValue) (s' : AreaValue) → Issues w number s o o' s' → IsFor r s → IsFor r s'
  issue_for w number s o o' s' is fit =
      let stored = store_for is.lsa None s is.stored is.stores fit in
      along r _ s' is.state (record { own = stored.own; links = stored.links })

  issues_if_for : (o : Option WantedValue) (number : ℤ) (s : AreaValue) (out out' : OutputsValue) (s' : AreaValue) → IssuesIf o number s out out' s' → IsFor r s → IsFor r s'
  issues_if_for None number s out out' s' unchanged fit = along r s s' unchanged.state fit
  issues_if_for (Some w) number s out out' s' is fit = along r (turned_area is.mid) s' is.turned (turned_for is.mid (issue_for w number s out is.mid_out is.mid is.issues fit))

  acts_for : (a : OwnAction) (ws : List WantedValue) (key : LsaKey) (s : AreaValue) (out out' : OutputsValue) (s' : AreaValue) → Acts a ws key s out out' s' → IsFor r s → IsFor r s'
  acts_for Leave ws key s out out' s' unchanged fit = along r s s' unchanged.state fit
  acts_for Flush ws key s out out' s' is fit = flush_for key s out out' s' is fit
  acts_for (Issue number) ws key s out out' s' is fit = issues_if_for (wanted_of ws key) number s out out' s' is fit

  in_turn_for : (ws : List WantedValue) (due : List DueAction) (s : AreaValue) (out out' : OutputsValue) (s' : AreaValue) → ActsInTurn ws due s out out' s' → IsFor r s → IsFor r s'
  in_turn_for ws [] s out out' s' unchanged fit = along r s s' unchanged.state fit
  in_turn_for ws (d ∷ ds) s out out' s' (mid, mid_out, first, others) fit = in_turn_for ws ds mid mid_out out' s' others (acts_for d.action ws d.key s out mid_out mid first fit)

  pub own_for : (s : AreaValue) (out out' : OutputsValue) (s' : AreaValue) → OwnLsas s out out' s' → IsFor r s → IsFor r s'
  own_for s out out' s' is fit =
      let mid = in_turn_for (wants s) is.due s out out' is.mid is.each fit in
      along r (record is.mid { heard = [] }) s' is.answered (record { own = mid.own; links = mid.links })

  -- ---- what leaves

  removes_all_for : (keys : List LsaKey) (s : AreaValue) (out out' : OutputsValue) (s' : AreaValue) → RemovesAll keys s out out' s' → IsFor r s → IsFor r s'
  removes_all_for [] s out out' s' unchanged fit = along r s s' unchanged.state fit
  removes_all_for (key ∷ keys) s out out' s' (mid, so_far, first, others) fit =
      removes_all_for keys mid so_far out' s' others (aside_for s mid (ap (λ (x : AreaValue). x.router) first.rest) (ap (λ (x : AreaValue). x.links) first.rest) fit)

  pub removes_for : (s : AreaValue) (out out' : OutputsValue) (s' : AreaValue) → Removes s out out' s' → IsFor r s → IsFor r s'
  removes_for s out out' s' is fit = removes_all_for (leaving s) s out out' s' is fit
