-- The offers of a datagram to the interfaces on its network.
use Rattle.std.proofs.Common.{◌≡◌, ◌==◌, ◌<◌, ◌≤◌, ◌&&◌, ◌+◌, ◌++◌, if◌then◌else◌, ℕ, zero, suc, Bool, true, false, not, List, [], ◌∷◌, Option, None, Some, ◌∙◌, ap, sym, refl, drop, add-one, append-nil, get_or, length, map, filter, is_some, slice_get, option_map, option_and_then}
use Rattle.std.specs.BTreeMap as tree
use Rattle.std.specs.Global.{Vec}
use Rattle.std.specs.List.{enumerate_from, flat_map}
use Rattle.std.proofs.lemmas.Option.{slice_get-get_or, slice_get_past}
use Rattle.std.proofs.lemmas.Grind.{flat_map-append}
use Rattle.ospf_config.specs.Conflicts.{network_part}
use Rattle.ospf_config.specs.declared.config.Config.{Config}
use Rattle.ospf_config.specs.declared.address.InterfaceAddress.{InterfaceAddress}
use Rattle.ospf_config.specs.declared.interface.Interface.{Interface}
use Rattle.ospf_base.specs.declared.event.event.WorldEvent.{WorldEvent}
use Rattle.ospf_base.specs.declared.event.event.WorldEvent.TheVariants.{Deliver}
use Rattle.ospf_world.specs.declared.logs.Datagram.{Datagram}
use Rattle.ospf_world.specs.Slots.{SlotValue}
use Rattle.ospf_world.specs.Networks.{AreNetworks, places_on_network, links_from, links_on, router_links}
use Rattle.ospf_world.specs.Offers.{address_at, is_for, is_offered, offers_to}
use Rattle.ospf_world.specs.Rounds.{is_offered_to, is_sender, offer_at, offer_on, offered_to, offers_at, offers_by, offers_of, sending_address}
use Rattle.ospf_world.specs.Worlds.{config_of, place_of}
use Rattle.ospf_world.specs.declared.networks.LinkPlace.{LinkPlace}
use Rattle.ospf_world.proofs.PlaceFacts.{not_placed, placed, slot_at}

-- what stands at a place, and behind it
cut : {A : Type 0} (items : List A) (i : ℕ) (x : A) (xs : List A) → drop i items ≡ x ∷ xs → (slice_get items i ≡ Some x) × (drop (suc i) items ≡ xs)
cut [] zero x xs is = cc
cut [] (suc i) x xs is = cc
cut {A} (y ∷ items) zero x xs is = (let h : y ≡ x = cc in ap (λ (z : A). Some z) h, let h : items ≡ xs = cc in h)
cut (y ∷ items) (suc i) x xs is = cut items i x xs is

abbrev no_events : List WorldEvent
no_events = []

module _ (d : ℕ) (from : InterfaceAddress) (g : Datagram) (all : List SlotValue) where
  abbrev takes : SlotValue → Bool
  takes s = is_some s.running && not (is_sender g s)

  abbrev on_links : SlotValue → ℕ → List Interface → List WorldEvent
  on_links s i xs = map (λ e. Deliver d s.config.router_id e.0) (filter (λ e. is_offered from g.sent.destination e.1.address) (enumerate_from i xs))

  -- an interface of another network is not offered it
  other_network : (to : InterfaceAddress) → (network_part from == network_part to) ≡ false → is_offered from g.sent.destination to ≡ false
  unfolding is_offered
  other_network to differs = go (from.length == to.length) (network_part from == network_part to) differs
    where
      go : (b o : Bool) → o ≡ false → (b && o) && is_for g.sent.destination to ≡ false
      go true true e = absurd (cc e)
      go true false e = refl
      go false o e = refl

  -- at the place of an interface
  here : (s : SlotValue) (k i : ℕ) (x : Interface) → slice_get all k ≡ Some s → slice_get s.config.interfaces.items i ≡ Some x
      → offer_at d from g all (record { place = k; link = i }) ≡ (if takes s && is_offered from g.sent.destination x.address then Deliver d s.config.router_id i ∷ [] else [])
  here s k i x stands has =
      ap (offer_on d from g i) stands ∙ ap (λ (o : Option Interface). offered_to d from g s i (option_map (λ (j : Interface). j.address) o)) has

  -- the test of an interface before those that are left
  part_of : (s : SlotValue) (i : ℕ) (x : Interface) (xs : List Interface) (u o : Bool) → o ≡ is_offered from g.sent.destination x.address
      → (if u && o then Deliver d s.config.router_id i ∷ [] else []) ++ (if u then on_links s (i + 1) xs else []) ≡ (if u then on_links s i (x ∷ xs) else [])
  part_of s i x xs true true is = rw (← is) refl
  part_of s i x xs true false is = rw (← is) refl
  part_of s i x xs false o is = refl

  -- the interfaces of a router from one on
  by_links : (s : SlotValue) (k i : ℕ) (xs : List Interface) → slice_get all k ≡ Some s → drop i s.config.interfaces.items ≡ xs
      → flat_map (offer_at d from g all) (links_from (network_part from) k i xs) ≡ (if takes s then on_links s i xs else [])
  by_links s k i [] stands is = none_of (takes s)
    where
      none_of : (u : Bool) → no_events ≡ (if u then no_events else no_events)
      none_of true = refl
      none_of false = refl
  by_links s k i (x ∷ xs) stands is =
      let at = cut s.config.interfaces.items i x xs is in
      let rest : flat_map (offer_at d from g all) (links_from (network_part from) k (i + 1) xs) ≡ (if takes s then on_links s (i + 1) xs else []) =
      by_links s k (i + 1) xs stands (rw add-one at.1) in
      by_test (network_part from == network_part x.address) refl at.0 rest
    where
      by_test : (b : Bool) → (network_part from == network_part x.address) ≡ b → slice_get s.config.interfaces.items i ≡ Some x
          → flat_map (offer_at d from g all) (links_from (network_part from) k (i + 1) xs) ≡ (if takes s then on_links s (i + 1) xs else [])
          → flat_map (offer_at d from g all) ((if b then record { place = k; link = i } ∷ [] else []) ++ links_from (network_part from) k (i + 1) xs) ≡ (if takes s then on_links s i (x ∷ xs) else [])
      by_test true near has rest =
          ap (λ (es : List WorldEvent). es ++ flat_map (offer_at d from g all) (links_from (network_part from) k (i + 1) xs)) (here s k i x stands has)
          ∙ ap (λ (es : List WorldEvent). (if takes s && is_offered from g.sent.destination x.address then Deliver d s.config.router_id i ∷ [] else []) ++ es) rest
          ∙ part_of s i x xs (takes s) (is_offered from g.sent.destination x.address) refl
      by_test false near has rest =
          rest ∙ ap (λ (es : List WorldEvent). es ++ (if takes s then on_links s (i + 1) xs else [])) (unoffered (takes s) (is_offered from g.sent.destination x.address) (other_network x.address near))
          ∙ part_of s i x xs (takes s) (is_offered from g.sent.destination x.address) refl
        where
          unoffered : (u o : Bool) → o ≡ false → no_events ≡ (if u && o then Deliver d s.config.router_id i ∷ [] else [])
          unoffered u true e = absurd (cc e)
          unoffered true false e = refl
          unoffered false false e = refl

  by_router : (s : SlotValue) (k : ℕ) → slice_get all k ≡ Some s → flat_map (offer_at d from g all) (router_links (network_part from) k s.config) ≡ offers_at d from g s
  unfolding offers_at offers_to
  by_router s k stands = by_links s k 0 s.config.interfaces.items stands refl

  by_routers : (k : ℕ) (slots : List SlotValue) → drop k all ≡ slots → flat_map (offer_at d from g all) (links_on (network_part from) k (map config_of slots)) ≡ flat_map (offers_at d from g) slots
  by_routers k [] is = refl
  by_routers k (s ∷ slots) is =
      let at = cut all k s slots is in
      flat_map-append (offer_at d from g all) (router_links (network_part from) k s.config) (links_on (network_part from) (k + 1) (map config_of slots))
      ∙ ap (λ (es : List WorldEvent). es ++ flat_map (offer_at d from g all) (links_on (network_part from) (k + 1) (map config_of slots))) (by_router s k at.0)
      ∙ ap (λ (es : List WorldEvent). offers_at d from g s ++ es) (by_routers (k + 1) slots (rw add-one at.1))

-- ---- to one interface

pub nothing_more : (xs es : List WorldEvent) → es ≡ [] → xs ≡ xs ++ es
nothing_more xs es none = sym (append-nil xs) ∙ ap (λ (ys : List WorldEvent). xs ++ ys) (sym none)

-- at no link of a router
pub no_link : (d : ℕ) (from : InterfaceAddress) (g : Datagram) (s : SlotValue) (config : Config) (link : ℕ) (xs : List WorldEvent) → config ≡ s.config → None ≡ address_at config link
    → xs ≡ xs ++ offer_on d from g link (Some s)
no_link d from g s config link xs same none =
    nothing_more xs (offer_on d from g link (Some s)) (ap (offered_to d from g s link) (ap (λ (c : Config). address_at c link) (sym same) ∙ sym none))

-- at one
pub at_link : (d : ℕ) (from to : InterfaceAddress) (g : Datagram) (s : SlotValue) (config : Config) (link : ℕ) (b : Bool) → config ≡ s.config → Some to ≡ address_at config link → b ≡ is_offered_to from g s to
    → offer_on d from g link (Some s) ≡ (if b then Deliver d config.router_id link ∷ [] else [])
at_link d from to g s config link b same is offered =
    ap (offered_to d from g s link) (ap (λ (c : Config). address_at c link) (sym same) ∙ sym is)
    ∙ ap (λ (t : Bool). if t then Deliver d s.config.router_id link ∷ [] else []) (sym offered)
    ∙ ap (λ (c : Config). if b then Deliver d c.router_id link ∷ [] else []) (sym same)

-- at the place of a slot, and at none
pub at_slot : (d : ℕ) (from : InterfaceAddress) (g : Datagram) (slots : List SlotValue) (at : LinkPlace) (s : SlotValue) → at.place < length slots → s ≡ get_or slots at.place s
    → offer_on d from g at.link (Some s) ≡ offer_at d from g slots at
at_slot d from g slots at s within is =
    ap (offer_on d from g at.link) (sym (slice_get-get_or slots at.place s within ∙ ap (λ (t : SlotValue). Some t) (sym is)))

pub at_no_slot : (d : ℕ) (from : InterfaceAddress) (g : Datagram) (slots : List SlotValue) (at : LinkPlace) (xs : List WorldEvent) → length slots ≤ at.place → xs ≡ xs ++ offer_at d from g slots at
at_no_slot d from g slots at xs past = nothing_more xs (offer_at d from g slots at) (ap (offer_on d from g at.link) (slice_get_past slots at.place past))

-- ---- by an index

-- of a datagram that went out of this interface, by the interfaces that the index has on its network
pub offers_near : (w_places : tree.BTreeMap ℕ (Vec LinkPlace)) (slots : List SlotValue) (d network : ℕ) (from : InterfaceAddress) (g : Datagram) (links : List LinkPlace) (events : List WorldEvent) (source : Option InterfaceAddress)
    → AreNetworks w_places (map config_of slots) → source ≡ sending_address slots g → source ≡ Some from → network ≡ network_part from → links ≡ places_on_network w_places network
    → events ≡ flat_map (offer_at d from g slots) links → events ≡ offers_of slots d g
offers_near networks slots d network from g links events source are is found number near offers =
    offers ∙ ap (λ (ls : List LinkPlace). flat_map (offer_at d from g slots) ls) (near ∙ ap (places_on_network networks) number ∙ are (network_part from))
    ∙ by_routers d from g slots 0 slots refl
    ∙ ap (offers_by d g slots) (sym found ∙ is)

-- the router at a place sent it
pub source_at : (slots : List SlotValue) (g : Datagram) (k : ℕ) (s : SlotValue) → place_of slots g.router.0 ≡ Some k → slice_get slots k ≡ Some s → address_at s.config g.sent.link ≡ sending_address slots g
unfolding sending_address
source_at slots g k s at stands = sym (ap (λ (o : Option SlotValue). option_and_then (λ (t : SlotValue). address_at t.config g.sent.link) o) (slot_at slots g.router.0 k s (placed slots g.router.0 k at) stands).0)

-- no router of the world did
pub source_nowhere : (slots : List SlotValue) (g : Datagram) → place_of slots g.router.0 ≡ None → None ≡ sending_address slots g
unfolding sending_address
source_nowhere slots g none = sym (ap (λ (o : Option SlotValue). option_and_then (λ (t : SlotValue). address_at t.config g.sent.link) o) (not_placed slots g.router.0 0 none))
