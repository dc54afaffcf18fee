-- What flooding makes of one neighbour (RFC 2328, section 13.3).
use Rattle.std.proofs.Common.{◌≡◌, ◌⊎◌, inl, inr, ◌&&◌, ◌==◌, ◌++◌, ℕ, zero, suc, Bool, true, false, cond, not, List, [], ◌∷◌, filter, Option, None, Some, refl, sym, ap, subst, ◌∙◌, arith}
use Rattle.std.specs.List.{Contains}
use Rattle.std.proofs.lemmas.Bool.{false≢true, eqb-true, and_parts, cond-true}
use Rattle.std.proofs.lemmas.List.Elements.{Contains-append_cases}
use Rattle.ospf_base.specs.Instances.{Covers}
use Rattle.ospf_base.specs.Keys.{ls_type, same_key, key_from}
use Rattle.ospf_base.specs.declared.ids.Instance.{Instance}
use Rattle.ospf_base.specs.declared.ids.Kind.{Kind}
use Rattle.ospf_base.specs.declared.ids.Kind.TheVariants as kind
use Rattle.ospf_base.specs.declared.ids.LsaKey.{LsaKey}
use Rattle.ospf_base.specs.declared.ids.RouterId.{RouterId}
use Rattle.ospf_lsa.specs.Recency.{recency}
use Rattle.ospf_lsa.specs.declared.header.LsaHeader.{LsaHeader}
use Rattle.ospf_lsa.specs.declared.recency.Recency.{Recency}
use Rattle.ospf_lsa.specs.declared.recency.Recency.TheVariants.{Newer, Older, Same}
use Rattle.ospf_neighbour.specs.Laws.{Waits, instances}
use Rattle.ospf_neighbour.specs.Lists.{is_header_of, request_of, without_key, unrequested, key_unlisted}
use Rattle.ospf_neighbour.proofs.Words.{is_of_other, is_of_key}
use Rattle.ospf_neighbour.specs.Machine.{is_exchanging}
use Rattle.ospf_neighbour.specs.Neighbour.{NeighbourValue}
use Rattle.ospf_neighbour.specs.declared.machine.NeighbourState.{NeighbourState}
use Rattle.ospf_neighbour.specs.declared.machine.NeighbourState.TheVariants as state
use Rattle.ospf_neighbour.specs.declared.neighbour.Listed.{Listed}
use Rattle.ospf_base.proofs.SameKeys.{same_key-refl}
use Rattle.ospf_neighbour.proofs.LawLemmas.{takes_key, relist_waits}
use Rattle.ospf_flood.specs.Offers.{instance_with, looked_at, offer_to, flooded}
use Rattle.ospf_flood.proofs.Words.{offer_by, offer_over, after_offer}
use Rattle.ospf_flood.specs.declared.offer.Offer.{Offer}
use Rattle.ospf_flood.specs.declared.offer.Offer.TheVariants.{PassesOver, Satisfies, Lists}
use Rattle.ospf_flood.proofs.LawLemmas.{flood_takes, flooded_is_put}
use Rattle.ospf_router.specs.AreaStep.Headers.{IsOfInstance}
use Rattle.ospf_router.proofs.AreaStep.StateFacts.{Contains-map_cases, Contains-map, Contains-filter_cases, find-some, recency-older, recency-same, same_router}
use Rattle.ospf_router.proofs.AreaStep.FloodingAccounts.{FloodsTo, Reached}

key_made : Kind → ℕ → RouterId → LsaKey
key_made k i r = record { kind = k; id = i; router = r }

-- a header of a key names an instance of it
named_by_type : (k : Kind) (type id : ℕ) (router : RouterId) → ls_type k ≡ type → key_from type id router ≡ Some (key_made k id router)
unfolding key_made
named_by_type kind.Router type id router e = ap (λ t. key_from t id router) (sym e)
named_by_type kind.Network type id router e = ap (λ t. key_from t id router) (sym e)

pub header_of_key : (key : LsaKey) (h : LsaHeader) → is_header_of key h ≡ true → IsOfInstance h (instance_with key h)
unfolding is_header_of key_made
header_of_key key h is =
    let (front, router) = and_parts ((ls_type key.kind == h.kind) && (key.id == h.id)) (key.router.0 == h.router.0) is in
    let (type, id) = and_parts (ls_type key.kind == h.kind) (key.id == h.id) front in
    record {
      key =
          named_by_type key.kind h.kind h.id h.router (eqb-true (ls_type key.kind) h.kind type)
          ∙ ap Some (ap (λ i. key_made key.kind i h.router) (sym (eqb-true key.id h.id id)) ∙ ap (λ r. key_made key.kind key.id r) (sym (same_router key.router h.router (eqb-true key.router.0 h.router.0 router))));
      number = refl;
      sum = refl;
    }

-- what stays in a list of which some leave
waits_filtered : (p : Listed → Bool) (ls : List Listed) (j : Instance) → Contains (instances (filter p ls)) j → (l : Listed) × Contains ls l × (p l ≡ true) × (l.instance ≡ j)
waits_filtered p ls j c =
    let (l, inside, is) = Contains-map_cases (λ l. l.instance) (filter p ls) j c in
    let (there, passes) = Contains-filter_cases p ls l inside in
    (l, there, passes, is)

-- what waits after some have left waited before
pub shorter_list : (p : Listed → Bool) (ls : List Listed) (j : Instance) → Contains (instances (filter p ls)) j → Contains (instances ls) j
shorter_list p ls j c =
    let (l, there, passes, is) = waits_filtered p ls j c in
    subst (λ j. Contains (instances ls) j) is (Contains-map (λ l. l.instance) ls l there)

not_true : (b : Bool) → not b ≡ true → b ≡ true → ⊥
not_true true e f = false≢true e
not_true false e f = false≢true f

without_key_cases : (key : LsaKey) (ls : List Listed) (j : Instance) → Contains (instances (without_key key ls)) j → Contains (instances ls) j × (j.key ≡ key → ⊥)
without_key_cases key ls j c =
    let (l, there, passes, is) = waits_filtered (λ l. not (is_of_key key l)) ls j c in (
      subst (λ j. Contains (instances ls) j) is (Contains-map (λ l. l.instance) ls l there),
      λ same. not_true (is_of_key key l) passes (subst (λ k. same_key l.instance.key k ≡ true) (ap (λ i. i.key) is ∙ same) (same_key-refl l.instance.key)),
    )

-- the neighbour once no instance of the key waits
pub released_waits : (key : LsaKey) (n : NeighbourValue) (j : Instance) → Waits (key_unlisted key n) j → Waits n j × (j.key ≡ key → ⊥)
released_waits key n j w = without_key_cases key n.retransmission j w

-- ---- an offer

pub after-router : (o : Offer) (key : LsaKey) (h : LsaHeader) (tick : ℕ) (n : NeighbourValue) → (after_offer o key h tick n).router ≡ n.router
after-router PassesOver key h tick n = refl
after-router Satisfies key h tick n = refl
after-router Lists key h tick n = refl

pub after-state : (o : Offer) (key : LsaKey) (h : LsaHeader) (tick : ℕ) (n : NeighbourValue) → (after_offer o key h tick n).state ≡ n.state
after-state PassesOver key h tick n = refl
after-state Satisfies key h tick n = refl
after-state Lists key h tick n = refl

after-summary : (o : Offer) (key : LsaKey) (h : LsaHeader) (tick : ℕ) (n : NeighbourValue) → (after_offer o key h tick n).summary ≡ n.summary
after-summary PassesOver key h tick n = refl
after-summary Satisfies key h tick n = refl
after-summary Lists key h tick n = refl

after-last_dd : (o : Offer) (key : LsaKey) (h : LsaHeader) (tick : ℕ) (n : NeighbourValue) → (after_offer o key h tick n).last_dd ≡ n.last_dd
after-last_dd PassesOver key h tick n = refl
after-last_dd Satisfies key h tick n = refl
after-last_dd Lists key h tick n = refl

after-requests : (o : Offer) (key : LsaKey) (h : LsaHeader) (tick : ℕ) (n : NeighbourValue) (x : LsaHeader) → Contains (after_offer o key h tick n).requests x → Contains n.requests x
after-requests PassesOver key h tick n x c = c
after-requests Satisfies key h tick n x c = (Contains-filter_cases (is_of_other key) n.requests x c).0
after-requests Lists key h tick n x c = (Contains-filter_cases (is_of_other key) n.requests x c).0

one_of : {X : Type 0} (x y : X) → Contains (x ∷ []) y → y ≡ x
one_of x y (zero, within, is) = sym is
one_of x y (suc k, within, is) = absurd (omega arith)

map_append : (ls ms : List Listed) → instances (ls ++ ms) ≡ instances ls ++ instances ms
map_append [] ms = refl
map_append (l ∷ ls) ms = ap (λ is. l.instance ∷ is) (map_append ls ms)

after-old : (o : Offer) (key : LsaKey) (h : LsaHeader) (tick : ℕ) (n : NeighbourValue) (Kept : Type 0) → ((j : Instance) → Waits n j → j.key ≡ key → Kept) → (j : Instance) → Waits (after_offer o key h tick n) j → (j ≡ instance_with key h) ⊎ (Waits n j × (j.key ≡ key → Kept))
after-old PassesOver key h tick n Kept kept j w = inr (w, kept j w)
after-old Satisfies key h tick n Kept kept j w = inr (w, kept j w)
after-old Lists key h tick n Kept kept j w =
    elim (Contains-append_cases (instances (without_key key n.retransmission)) (instances (record { instance = instance_with key h; sent_at = tick } ∷ [])) j (subst (λ is. Contains is j) (map_append (without_key key n.retransmission) (record { instance = instance_with key h; sent_at = tick } ∷ [])) w)) [
      | inl there ↦ inr (let (was, other) = without_key_cases key n.retransmission j there in (was, λ same. absurd (other same)))
      | inr new ↦ inl (one_of (instance_with key h) j new)
    ]

-- what is looked at of the request list is on it
looked : (s : NeighbourState) (o : Option LsaHeader) (e : LsaHeader) → looked_at s o ≡ Some e → o ≡ Some e
looked state.Exchange o e is = is
looked state.Loading o e is = is
looked state.Down o e is = absurd (cc)
looked state.Init o e is = absurd (cc)
looked state.TwoWay o e is = absurd (cc)
looked state.ExStart o e is = absurd (cc)
looked state.Full o e is = absurd (cc)

module _ (key : LsaKey) (h : LsaHeader) (from_it : Bool) (tick : ℕ) (n : NeighbourValue) (is_of : IsOfInstance h (instance_with key h)) where
  abbrev pub this : Instance
  this = instance_with key h

  came_or : (came : Bool) (c : Offer) → (cond came c Lists ≡ Lists) ⊎ (came ≡ true)
  came_or true c = inr refl
  came_or false c = inl refl

  listed_by : (o : Offer) → offer_to key h from_it n ≡ o → (o ≡ Lists) ⊎ (from_it ≡ true) → Reached this from_it n (flooded key h from_it tick n)
  listed_by o is (inl lists) = Reached.IsListed (flooded_is_put key h from_it tick n (is ∙ lists))
  listed_by o is (inr came) = Reached.SentIt came

  over : (e : LsaHeader) → Contains n.requests e → IsOfInstance e (instance_with key e) → (r : Recency) → recency h e ≡ r → offer_to key h from_it n ≡ offer_over r from_it → Reached this from_it n (flooded key h from_it tick n)
  over e c names Older is offer = Reached.AskedFor e (instance_with key e) c names (recency-older h e (instance_with key h) (instance_with key e) is_of names refl is)
  over e c names Same is offer =
      let equal : instance_with key h ≡ instance_with key e = recency-same h e (instance_with key h) (instance_with key e) is_of names refl is in
      Reached.AskedFor e (instance_with key e) c names (subst (λ i. Covers (instance_with key e) i) (sym equal) (refl, inr (refl, omega arith)))
  over e c names Newer is offer = listed_by (cond from_it Satisfies Lists) offer (came_or from_it Satisfies)

  by : (o : Option LsaHeader) → looked_at n.state (request_of key n.requests) ≡ o → offer_to key h from_it n ≡ offer_by h o from_it → Reached this from_it n (flooded key h from_it tick n)
  by None is offer = listed_by (cond from_it PassesOver Lists) offer (came_or from_it PassesOver)
  by (Some e) is offer =
      let (c, same) = find-some (is_header_of key) n.requests e (looked n.state (request_of key n.requests) e is) in
      over e c (header_of_key key e same) (recency h e) refl offer

  pub offer-reached : is_exchanging n.state ≡ true → Reached this from_it n (flooded key h from_it tick n)
  offer-reached up = by (looked_at n.state (request_of key n.requests)) refl (cond-true (is_exchanging n.state) _ _ up)

  -- the neighbour once the LSA was flooded to it, or past it
  pub floods_to : (Kept : Type 0) → ((j : Instance) → Waits n j → j.key ≡ key → Kept) → FloodsTo this Kept from_it n (flooded key h from_it tick n)
  floods_to Kept kept = record {
    router = after-router (offer_to key h from_it n) key h tick n;
    state = after-state (offer_to key h from_it n) key h tick n;
    summary = after-summary (offer_to key h from_it n) key h tick n;
    last_dd = after-last_dd (offer_to key h from_it n) key h tick n;
    requests = after-requests (offer_to key h from_it n) key h tick n;
    old = after-old (offer_to key h from_it n) key h tick n Kept kept;
    leaves = flood_takes key h from_it tick n;
    reached = offer-reached;
  }

  -- an instance that waits is not lost by being flooded again
  pub stays_itself : Waits n this → Waits (flooded key h from_it tick n) this
  stays_itself w = go (offer_to key h from_it n)
    where
      go : (o : Offer) → Waits (after_offer o key h tick n) (instance_with key h)
      go PassesOver = w
      go Satisfies = w
      go Lists = relist_waits (instance_with key h) tick (unrequested key n)

-- first the old copy leaves its list
module _ (key : LsaKey) (h : LsaHeader) (from_it : Bool) (tick : ℕ) (n : NeighbourValue) (is_of : IsOfInstance h (instance_with key h)) where
  then_reached : Reached (instance_with key h) from_it (key_unlisted key n) (flooded key h from_it tick (key_unlisted key n)) → Reached (instance_with key h) from_it n (flooded key h from_it tick (key_unlisted key n))
  then_reached (Reached.IsListed w) = Reached.IsListed w
  then_reached (Reached.SentIt came) = Reached.SentIt came
  then_reached (Reached.AskedFor x j c is covers) = Reached.AskedFor x j c is covers

  pub released_floods_to : (Kept : Type 0) → FloodsTo (instance_with key h) Kept from_it n (flooded key h from_it tick (key_unlisted key n))
  released_floods_to Kept =
      let f = floods_to key h from_it tick (key_unlisted key n) is_of Kept (λ j w same. absurd ((released_waits key n j w).1 same)) in
      record {
        router = f.router;
        state = f.state;
        summary = f.summary;
        last_dd = f.last_dd;
        requests = f.requests;
        old = λ j w. elim (f.old j w) [ inl new ↦ inl new | inr there ↦ inr ((released_waits key n j there.0).0, there.1) ];
        leaves = λ j w. elim (takes_key key j n w) [ inl there ↦ f.leaves j there | inr same ↦ inr same ];
        reached = λ up. then_reached (f.reached up);
      }
