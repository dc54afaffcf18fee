-- The calls of the area, and own LSAs, keep the Router ID, the area and the settings of the links.
use Rattle.std.proofs.Common.{◌≡◌, ◌==◌, ◌++◌, ℕ, ℤ, suc, zero, Bool, true, false, List, [], ◌∷◌, Option, None, Some, map, set, slice_get, refl, sym, ap, subst, ◌∙◌, if◌then◌else◌}
use Rattle.ospf_base.specs.Constants.{max_age}
use Rattle.ospf_base.specs.declared.ids.LsaKey.{LsaKey}
use Rattle.ospf_base.specs.declared.ids.Instance.{Instance}
use Rattle.ospf_flood.specs.declared.acknowledgement.Acknowledgement.{Acknowledgement}
use Rattle.ospf_flood.specs.declared.acknowledgement.Acknowledgement.TheVariants as answer
use Rattle.ospf_flood.specs.declared.rule.LsaRule.{LsaRule}
use Rattle.ospf_flood.specs.declared.rule.LsaRule.TheVariants.{AcknowledgesExpired, TooSoon, Installs, BadRequest, Duplicate, Stale}
use Rattle.ospf_exchange.proofs.Words.{copy_in_database}
use Rattle.ospf_lsa.specs.Header.{header_of, key_of_header}
use Rattle.ospf_lsa.specs.Lsa.{key_of, instance_of}
use Rattle.ospf_lsa.specs.declared.header.LsaHeader.{LsaHeader}
use Rattle.ospf_lsdb.specs.Database.{Entry, reached_at}
use Rattle.ospf_lsdb.specs.Database as lsdb
use Rattle.std.proofs.lemmas.Option.{same_Some}
use Rattle.ospf_area.specs.Places.{map_from}
use Rattle.ospf_area.specs.declared.state.LinkSettings.{LinkSettings}
use Rattle.ospf_neighbour.specs.declared.iface.settings.IfaceSettings.{IfaceSettings}
use Rattle.ospf_area.specs.Asking.{turned_link}
use Rattle.ospf_area.specs.Changes.{changed_at}
use Rattle.ospf_area.specs.Flooding.{goes_anywhere, released}
use Rattle.ospf_area.specs.Numbers.{is_self_originated}
use Rattle.ospf_area.specs.Outputs.{OutputsValue}
use Rattle.ospf_area.specs.Sending.{context_of}
use Rattle.ospf_area.specs.Standing.{acknowledging}
use Rattle.ospf_area.specs.State.{AreaValue, LinkValue, database_entry}
use Rattle.ospf_area.specs.declared.changes.AdjacencyChange.{AdjacencyChange}
use Rattle.ospf_area.specs.declared.flooding.PacketSource.{PacketSource}
use Rattle.ospf_area.specs.Updates.Aging.{Flushes, TickAges, copy_flooded, turned_area}
use Rattle.ospf_area.specs.Updates.Meets.{MeetsRule, Stores, header_met, heard_by, named_by, replied, reply_to, rule_met}
use Rattle.ospf_area.proofs.Updates.Words.{taken_off, copy_flooded_by, RemovesAll, Removes, TakesSlices, copies_sent, copy_sent, noted, flooded_area}
use Rattle.ospf_area.specs.Updates.Removal.{leaving}
use Rattle.ospf_area.specs.Updates.Updates.{TakesSlice, TakesUpdate}
use Rattle.ospf_area.specs.Updates.Updates.TakesSlice.{Met, PassedOver}
use Rattle.ospf_area.proofs.Updates.PassLemmas.{passed}
use Rattle.ospf_router.specs.AreaStep.Puts.{headers_met}
use Rattle.ospf_originate.specs.Steps.{Acts, Issues, OwnLsas, wants}
use Rattle.ospf_originate.proofs.Words.{ActsInTurn, IssuesIf}
use Rattle.ospf_originate.specs.Wanted.{WantedValue, wanted_of}
use Rattle.ospf_originate.specs.declared.action.DueAction.{DueAction}
use Rattle.ospf_originate.specs.declared.action.OwnAction.{OwnAction}
use Rattle.ospf_originate.specs.declared.action.OwnAction.TheVariants.{Leave, Flush, Issue}
use Rattle.ospf_area.proofs.Updates.CopyLemmas.{copies_become}
use Rattle.ospf_area.proofs.Words.{changed_link, changed_on, delayed_on, flooded_link, released_link}

-- ---- links

-- what a configuration gives a link
abbrev pub fixed : LinkValue → IfaceSettings × LinkSettings
fixed x = (x.iface.settings, x.settings)

abbrev pub all_fixed : List LinkValue → List (IfaceSettings × LinkSettings)
all_fixed xs = map fixed xs

pub mapped_fixed : (g : LinkValue → LinkValue) → ((x : LinkValue) → fixed (g x) ≡ fixed x) → (xs : List LinkValue) → all_fixed (map g xs) ≡ all_fixed xs
mapped_fixed g same [] = refl
mapped_fixed g same (x ∷ xs) = cc (same x, mapped_fixed g same xs)

placed_fixed : (g : ℕ → LinkValue → LinkValue) → ((l : ℕ) (x : LinkValue) → fixed (g l x) ≡ fixed x) → (k : ℕ) (xs : List LinkValue) → all_fixed (map_from g k xs) ≡ all_fixed xs
placed_fixed g same k [] = refl
placed_fixed g same k (x ∷ xs) = cc (same k x, placed_fixed g same (suc k) xs)

pub set_fixed : (xs : List LinkValue) (k : ℕ) (a b : LinkValue) → slice_get xs k ≡ Some a → fixed b ≡ fixed a → all_fixed (set xs k b) ≡ all_fixed xs
set_fixed [] k a b at same = refl
set_fixed (x ∷ xs) zero a b at same = ap (λ f. f ∷ all_fixed xs) (same ∙ ap fixed (sym (same_Some x a at)))
set_fixed (x ∷ xs) (suc k) a b at same = ap (λ fs. fixed x ∷ fs) (set_fixed xs k a b at same)

changed_fixed : (f : PacketSource) (change : AdjacencyChange) (tick l : ℕ) (x : LinkValue) → fixed (changed_on f change tick l x) ≡ fixed x
changed_fixed f change tick l x = by_test (l == f.link)
  where
    by_test : (b : Bool) → fixed (if b then changed_link f.router change tick x else x) ≡ fixed x
    by_test true = refl
    by_test false = refl

delayed_fixed : (number : ℕ) (h : LsaHeader) (l : ℕ) (x : LinkValue) → fixed (delayed_on number h l x) ≡ fixed x
delayed_fixed number h l x = by_test (l == number)
  where
    by_test : (b : Bool) → fixed (if b then record x { delayed = x.delayed ++ h ∷ [] } else x) ≡ fixed x
    by_test true = refl
    by_test false = refl

-- ---- the router

-- a router of the Router ID and the area of another, whose links have the same settings
pub record IsAs (a s : AreaValue) : Type 0 where
  pub own : s.router ≡ a.router
  pub area : s.area ≡ a.area
  pub links : all_fixed s.links ≡ all_fixed a.links

pub along : (a s s' : AreaValue) → s' ≡ s → IsAs a s → IsAs a s'
along a s s' is as_was = subst (λ (x : AreaValue). IsAs a x) (sym is) as_was

module _ (a : AreaValue) where
  -- ---- an LSA of an Update

  pub turned_as : (s : AreaValue) → IsAs a s → IsAs a (turned_area s)
  turned_as s as_was = record { own = as_was.own; area = as_was.area; links = mapped_fixed (turned_link (context_of s)) (λ x. refl) s.links ∙ as_was.links }

  acknowledging_as : (way : Acknowledgement) (f : PacketSource) (h : LsaHeader) (s : AreaValue) → IsAs a s → IsAs a (acknowledging way f h s)
  acknowledging_as answer.None f h s as_was = as_was
  acknowledging_as answer.Delayed f h s as_was = record { own = as_was.own; area = as_was.area; links = placed_fixed (delayed_on f.link h) (delayed_fixed f.link h) 0 s.links ∙ as_was.links }
  acknowledging_as answer.Direct f h s as_was = record { own = as_was.own; area = as_was.area; links = as_was.links }

  heard_as : (key : LsaKey) (s : AreaValue) → IsAs a s → IsAs a (heard_by key s)
  heard_as key s as_was = by_test (is_self_originated s.router s.links key)
    where
      by_test : (b : Bool) → IsAs a (if b then record s { heard = s.heard ++ key ∷ [] } else s)
      by_test true = record { own = as_was.own; area = as_was.area; links = as_was.links }
      by_test false = as_was

  pub store_as : (lsa : List ℕ) (from : Option PacketSource) (s s' : AreaValue) → Stores lsa from s s' → IsAs a s → IsAs a s'
  store_as lsa from s s' stores as_was = record {
    own = ap (λ (x : AreaValue). x.router) stores.rest ∙ as_was.own;
    area = ap (λ (x : AreaValue). x.area) stores.rest ∙ as_was.area;
    links = ap (λ (x : AreaValue). all_fixed x.links) stores.rest ∙ (placed_fixed (flooded_link (key_of lsa) (header_of lsa) from s.tick) (λ l x. refl) 0 (released (key_of lsa) s.links) ∙ (mapped_fixed (released_link (key_of lsa)) (λ x. refl) s.links ∙ as_was.links));
  }

  change_as : (f : PacketSource) (change : AdjacencyChange) (s : AreaValue) → IsAs a s → IsAs a (record s { links = changed_at f change s.tick s.links })
  change_as f change s as_was = record { own = as_was.own; area = as_was.area; links = placed_fixed (changed_on f change s.tick) (changed_fixed f change s.tick) 0 s.links ∙ as_was.links }

  replied_as : (reply : Option (List ℕ)) (f : PacketSource) (key : LsaKey) (s : AreaValue) → IsAs a s → IsAs a (replied reply f key s)
  replied_as None f key s as_was = as_was
  replied_as (Some lsa) f key s as_was = let changed = change_as f (AdjacencyChange.IsSent (instance_of lsa)) s as_was in record { own = changed.own; area = changed.area; links = changed.links }

  pub rule_as : (rule : Option LsaRule) (f : PacketSource) (lsa : List ℕ) (s : AreaValue) (o o' : OutputsValue) (s' : AreaValue) → MeetsRule rule f lsa s o o' s' → IsAs a s → IsAs a s'
  rule_as None f lsa s o o' s' is as_was = along a s s' is.state as_was
  rule_as (Some AcknowledgesExpired) f lsa s o o' s' is as_was = along a _ s' is.state (acknowledging_as _ f (header_of lsa) s as_was)
  rule_as (Some TooSoon) f lsa s o o' s' is as_was = along a s s' is.state as_was
  rule_as (Some Installs) f lsa s o o' s' is as_was =
      along a _ s' is.state (heard_as (key_of lsa) _ (acknowledging_as _ f (header_of lsa) is.mid (store_as lsa (Some f) s is.mid is.stores as_was)))
  rule_as (Some BadRequest) f lsa s o o' s' is as_was = along a _ s' is.state (let changed = change_as f (AdjacencyChange.Restarts s.next_dd) s as_was in record { own = changed.own; area = changed.area; links = changed.links })
  rule_as (Some Duplicate) f lsa s o o' s' is as_was = along a _ s' is.state (acknowledging_as _ f (header_of lsa) _ (change_as f (AdjacencyChange.Acknowledges (instance_of lsa)) s as_was))
  rule_as (Some Stale) f lsa s o o' s' is as_was = along a _ s' is.state (replied_as (reply_to s (key_of lsa)) f (key_of lsa) s as_was)

  pub slice_as : (f : PacketSource) (bytes : List ℕ) (s : AreaValue) (o o' : OutputsValue) (s' : AreaValue) → TakesSlice f bytes s o o' s' → IsAs a s → IsAs a s'
  slice_as f bytes s o o' s' (Met is mid so_far meets state outputs) as_was = along a (turned_area mid) s' state (turned_as mid (rule_as (rule_met s f bytes) f bytes s o so_far mid meets as_was))
  slice_as f bytes s o o' s' (PassedOver is_not passes outputs) as_was =
      let p = passed s.passes_over f bytes s s' passes in
      along a (record s { direct = p.direct }) s' p.state (record { own = as_was.own; area = as_was.area; links = as_was.links })

  pub slices_as : (f : PacketSource) (slices : List (List ℕ)) (s : AreaValue) (o o' : OutputsValue) (s' : AreaValue) → TakesSlices f slices s o o' s' → IsAs a s → IsAs a s'
  slices_as f [] s o o' s' unchanged as_was = along a s s' unchanged.state as_was
  slices_as f (bytes ∷ slices) s o o' s' (mid, so_far, first, others) as_was = slices_as f slices mid so_far o' s' others (slice_as f bytes s o so_far mid first as_was)

  pub update_as : (f : PacketSource) (slices : List (List ℕ)) (s : AreaValue) (o o' : OutputsValue) (s' : AreaValue) → TakesUpdate f slices s o o' s' → IsAs a s → IsAs a s'
  update_as f slices s o o' s' is as_was =
      let mid = slices_as f slices s o is.so_far is.mid is.takes as_was in
      along a (record is.mid { direct = [] }) s' is.state (record { own = mid.own; area = mid.area; links = mid.links })

  -- ---- headers of an Acknowledgment

  header_as : (f : PacketSource) (h : LsaHeader) (s : AreaValue) → IsAs a s → IsAs a (header_met f h s)
  header_as f h s as_was = by_named (named_by h (copy_in_database s.database (key_of_header h)))
    where
      by_named : (i : Option Instance) → IsAs a (taken_off f i s)
      by_named None = as_was
      by_named (Some i) = change_as f (AdjacencyChange.Acknowledges i) s as_was

  pub headers_as : (f : PacketSource) (hs : List LsaHeader) (s : AreaValue) → IsAs a s → IsAs a (headers_met f hs s)
  headers_as f [] s as_was = as_was
  headers_as f (h ∷ hs) s as_was = headers_as f hs (header_met f h s) (header_as f h s as_was)

  -- ---- copies at MaxAge

  pub copy_as : (o : Option Entry) (key : LsaKey) (s : AreaValue) → IsAs a s → IsAs a (copy_flooded_by o key s)
  copy_as None key s as_was = as_was
  copy_as (Some e) key s as_was = by_test (goes_anywhere (key_of lsa) (header_of lsa) None s.links)
    where
      lsa : List ℕ
      lsa = lsdb.lsa_of e

      by_test : (b : Bool) → IsAs a (noted key b (flooded_area lsa None s))
      by_test true = record { own = as_was.own; area = as_was.area; links = placed_fixed (flooded_link (key_of lsa) (header_of lsa) None s.tick) (λ l x. refl) 0 s.links ∙ as_was.links }
      by_test false = record { own = as_was.own; area = as_was.area; links = placed_fixed (flooded_link (key_of lsa) (header_of lsa) None s.tick) (λ l x. refl) 0 s.links ∙ as_was.links }

  pub sent_as : (key : LsaKey) (s : AreaValue) → IsAs a s → IsAs a (copy_sent key s)
  sent_as key s as_was = turned_as (copy_flooded key s) (copy_as (database_entry s key) key s as_was)

  all_sent_as : (keys : List LsaKey) (s : AreaValue) → IsAs a s → IsAs a (copies_sent keys s)
  all_sent_as [] s as_was = as_was
  all_sent_as (key ∷ keys) s as_was = all_sent_as keys (copy_sent key s) (sent_as key s as_was)

  -- only what is no link of it has changed
  pub aside_as : (s s' : AreaValue) → s'.router ≡ s.router → s'.area ≡ s.area → s'.links ≡ s.links → IsAs a s → IsAs a s'
  aside_as s s' router area links as_was = record { own = router ∙ as_was.own; area = area ∙ as_was.area; links = ap all_fixed links ∙ as_was.links }

  flush_as : (key : LsaKey) (s : AreaValue) (out out' : OutputsValue) (s' : AreaValue) → Flushes key s out out' s' → IsAs a s → IsAs a s'
  flush_as key s out out' s' is as_was =
      along a (copy_sent key is.mid) s' is.sends.state (sent_as key is.mid (aside_as s is.mid (ap (λ (x : AreaValue). x.router) is.rest) (ap (λ (x : AreaValue). x.area) is.rest) (ap (λ (x : AreaValue). x.links) is.rest) as_was))

  pub age_as : (s : AreaValue) (out out' : OutputsValue) (s' : AreaValue) → TickAges s out out' s' → IsAs a s → IsAs a s'
  age_as s out out' s' is as_was =
      let mid = is.mid in
      let keys = reached_at max_age mid.database in
      along a (copies_sent keys mid) s' (copies_become keys mid s' out out' is.sends).state (all_sent_as keys mid
      (aside_as s mid (ap (λ (x : AreaValue). x.router) is.rest) (ap (λ (x : AreaValue). x.area) is.rest) (ap (λ (x : AreaValue). x.links) is.rest) as_was))

  -- ---- own LSAs

  pub issue_as : (w : WantedValue) (number : ℤ) (s : AreaValue) (o o' : OutputsValue) (s' : AreaValue) → Issues w number s o o' s' → IsAs a s → IsAs a s'
  issue_as w number s o o' s' is as_was =
      let stored = store_as is.lsa None s is.stored is.stores as_was in
      along a _ s' is.state (record { own = stored.own; area = stored.area; links = stored.links })

  issues_if_as : (o : Option WantedValue) (number : ℤ) (s : AreaValue) (out out' : OutputsValue) (s' : AreaValue) → IssuesIf o number s out out' s' → IsAs a s → IsAs a s'
  issues_if_as None number s out out' s' unchanged as_was = along a s s' unchanged.state as_was
  issues_if_as (Some w) number s out out' s' is as_was = along a (turned_area is.mid) s' is.turned (turned_as is.mid (issue_as w number s out is.mid_out is.mid is.issues as_was))

  pub acts_as : (action : OwnAction) (ws : List WantedValue) (key : LsaKey) (s : AreaValue) (out out' : OutputsValue) (s' : AreaValue) → Acts action ws key s out out' s' → IsAs a s → IsAs a s'
  acts_as Leave ws key s out out' s' unchanged as_was = along a s s' unchanged.state as_was
  acts_as Flush ws key s out out' s' is as_was = flush_as key s out out' s' is as_was
  acts_as (Issue number) ws key s out out' s' is as_was = issues_if_as (wanted_of ws key) number s out out' s' is as_was

  pub in_turn_as : (ws : List WantedValue) (due : List DueAction) (s : AreaValue) (out out' : OutputsValue) (s' : AreaValue) → ActsInTurn ws due s out out' s' → IsAs a s → IsAs a s'
  in_turn_as ws [] s out out' s' unchanged as_was = along a s s' unchanged.state as_was
  in_turn_as ws (d ∷ ds) s out out' s' (mid, mid_out, first, others) as_was = in_turn_as ws ds mid mid_out out' s' others (acts_as d.action ws d.key s out mid_out mid first as_was)

  pub own_as : (s : AreaValue) (out out' : OutputsValue) (s' : AreaValue) → OwnLsas s out out' s' → IsAs a s → IsAs a s'
  own_as s out out' s' is as_was =
      let mid = in_turn_as (wants s) is.due s out out' is.mid is.each as_was in
      along a (record is.mid { heard = [] }) s' is.answered (record { own = mid.own; area = mid.area; links = mid.links })

  -- ---- what leaves

  removes_all_as : (keys : List LsaKey) (s : AreaValue) (out out' : OutputsValue) (s' : AreaValue) → RemovesAll keys s out out' s' → IsAs a s → IsAs a s'
  removes_all_as [] s out out' s' unchanged as_was = along a s s' unchanged.state as_was
  removes_all_as (key ∷ keys) s out out' s' (mid, so_far, first, others) as_was =
      removes_all_as keys mid so_far out' s' others (aside_as s mid (ap (λ (x : AreaValue). x.router) first.rest) (ap (λ (x : AreaValue). x.area) first.rest) (ap (λ (x : AreaValue). x.links) first.rest) as_was)

  pub removes_as : (s : AreaValue) (out out' : OutputsValue) (s' : AreaValue) → Removes s out out' s' → IsAs a s → IsAs a s'
  removes_as s out out' s' is as_was = removes_all_as (leaving s) s out out' s' is as_was
