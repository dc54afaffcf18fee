-- Routers that were started by configurations.
use Rattle.std.proofs.Common.{◌≡◌, ◌≢◌, ◌⊎◌, ◌==◌, ◌+◌, ℕ, zero, suc, List, [], ◌∷◌, Option, None, Some, slice_get, inl, inr, refl, sym, ap, subst, ◌∙◌, arith}
use Rattle.std.proofs.lemmas.Option.{none-some, same_Some}
use Rattle.std.specs.List.{AllZip, Contains, enumerate_from}
use Rattle.ospf_base.specs.Masks.{mask_of}
use Rattle.ospf_base.specs.declared.ids.Addr.{Addr}
use Rattle.ospf_base.specs.declared.ids.RouterId.{RouterId}
use Rattle.ospf_config.specs.declared.address.InterfaceAddress.{InterfaceAddress}
use Rattle.ospf_config.specs.declared.config.Config.{Config}
use Rattle.ospf_config.specs.declared.interface.Interface.{Interface}
use Rattle.ospf_neighbour.specs.declared.iface.machine.Iface.{Iface}
use Rattle.ospf_neighbour.specs.declared.iface.settings.IfaceSettings.{IfaceSettings}
use Rattle.ospf_packet.specs.Meaning.{BodyMeaning, Meaning}
use Rattle.ospf_packet.specs.PacketOf.{packet_of}
use Rattle.ospf_area.specs.Outputs.{SentValue}
use Rattle.ospf_area.specs.Packets.{dd_packet}
use Rattle.ospf_area.specs.Outboxes.{local_by}
use Rattle.ospf_area.specs.Sending.{context_of}
use Rattle.ospf_area.specs.State.{AreaValue, LinkValue}
use Rattle.ospf_area.specs.declared.state.LinkSettings.{LinkSettings}
use Rattle.ospf_router.specs.AreaStep.Drops.{dropped_by}
use Rattle.ospf_router.specs.AreaStep.Receipt.{drop_of_packet}
use Rattle.ospf_router.specs.AreaStep.Step.{Event}
use Rattle.ospf_router.specs.AreaStep.Step.Event.{Datagram}
use Rattle.ospf_router.specs.declared.step.dropped.Dropped.{Dropped}
use Rattle.ospf_router.specs.declared.step.dropped.Dropped.TheVariants as dropped
use Rattle.ospf_router.specs.Routers.{RouterValue}
use Rattle.ospf_router.specs.Starts.{AreLinksOf, IsLinkOf, iface_of}
use Rattle.ospf_router.specs.Steps.{Steps}
use Rattle.ospf_router.specs.declared.router.Step.{Step}
use Rattle.ospf_plan.specs.declared.ends.LinkEnd.{LinkEnd}
use Rattle.ospf_plan.specs.declared.fault.AreaFault.{AreaFault}
use Rattle.ospf_plan.specs.declared.fault.AreaFault.TheVariants as fault
use Rattle.ospf_plan.specs.declared.finding.Finding.{Finding}
use Rattle.ospf_plan.specs.Drops.{DropsAll, DropsDescriptions, IsBodyFrom, IsRouterAt, IsSentFrom, NeverDrops, NoneFound, PassesHead, TakesLengths, a_description, a_hello, a_request, an_acknowledgment, an_update}
use Rattle.ospf_plan.specs.Ends.{ends_at, ends_of, first_of, first_on, link_end_of, network_key, same_network}
use Rattle.ospf_plan.specs.Findings.{around_of, found_in, other_of}
use Rattle.ospf_plan.specs.Laws.{IsOfHellos, RefusesHellos}
use Rattle.ospf_plan.specs.Started.{HasSettings, IsConfigured, IsArrivalAt, IsDropped, WasStartedBy, StepsDrop, StepsDropDescriptions, StepsDropHellos, StepsNeverDrop, StepsTakeLengths, starts, steps}
use Rattle.ospf_plan.proofs.DropLemmas.{area_drops, description_brings, description_of, dropped_still, hello_brings, here_dropped, mtu_drops, others_agree, others_differ, others_share_area, others_share_mtu, others_share_network, router_drops}
use Rattle.ospf_plan.proofs.FindingLemmas.{told_holds, told_refuse}
use Rattle.ospf_plan.proofs.Members.{flat_from, found_from, in_cases, none_in_nil}
use Rattle.ospf_plan.proofs.Order.{map_from}
use Rattle.ospf_plan.proofs.SendLemmas.{IsBodyOf, fixed_at, said_acknowledgment, said_description, said_hello, said_request, said_update}
use Rattle.ospf_plan.proofs.SentLemmas.{step_out, step_read}
use Rattle.ospf_plan.proofs.SettingsLemmas.{all_fixed, fixed}
use Rattle.ospf_plan.proofs.StepSettings.{step_as}

-- ---- the settings of links

module _ (r : RouterId) where
  link_set : (i : Interface) (x : LinkValue) → IsLinkOf r i x → HasSettings r i x
  link_set i x is = record {
    iface = ap (λ (j : Iface). j.settings) is.iface;
    cost = is.cost;
    retransmit = is.retransmit;
    transmit_delay = is.transmit_delay;
    mtu = is.mtu;
  }

  links_set : (is : List Interface) (xs : List LinkValue) → AreLinksOf r is xs → AllZip (HasSettings r) is xs
  links_set [] [] are = tt
  links_set [] (x ∷ xs) are = absurd are
  links_set (i ∷ is) [] are = absurd are
  links_set (i ∷ is) (x ∷ xs) are = (link_set i x are.0, links_set is xs are.1)

  same_set : (i : Interface) (x y : LinkValue) → fixed y ≡ fixed x → HasSettings r i x → HasSettings r i y
  same_set i x y same has =
      let iface : y.iface.settings ≡ x.iface.settings = ap (λ (f : IfaceSettings × LinkSettings). f.0) same in
      let link : y.settings ≡ x.settings = ap (λ (f : IfaceSettings × LinkSettings). f.1) same in
      record {
        iface = iface ∙ has.iface;
        cost = ap (λ (k : LinkSettings). k.cost) link ∙ has.cost;
        retransmit = ap (λ (k : LinkSettings). k.retransmit) link ∙ has.retransmit;
        transmit_delay = ap (λ (k : LinkSettings). k.transmit_delay) link ∙ has.transmit_delay;
        mtu = ap (λ (k : LinkSettings). k.mtu) link ∙ has.mtu;
      }

  all_set : (is : List Interface) (xs ys : List LinkValue) → all_fixed ys ≡ all_fixed xs → AllZip (HasSettings r) is xs → AllZip (HasSettings r) is ys
  all_set [] [] [] same all = tt
  all_set [] [] (y ∷ ys) same all = absurd (cc)
  all_set [] (x ∷ xs) ys same all = absurd all
  all_set (i ∷ is) [] ys same all = absurd all
  all_set (i ∷ is) (x ∷ xs) [] same all = absurd (cc)
  all_set (i ∷ is) (x ∷ xs) (y ∷ ys) same all =
      let head : fixed y ≡ fixed x = cc in
      let tail : all_fixed ys ≡ all_fixed xs = cc in
      (same_set i x y head all.0, all_set is xs ys tail all.1)

pub stays_configured : (config : Config) (r : RouterValue) (s : AreaValue) → WasStartedBy config r → r.area ≡ Some s → IsConfigured config s
stays_configured config _ s (starts dd_start floor r is) runs =
    let one : s ≡ is.area = same_Some s is.area (sym runs ∙ is.runs) in
    let begun : IsConfigured config is.area = record {
      router = ap (λ (x : AreaValue). x.router) is.is.rest;
      area = ap (λ (x : AreaValue). x.area) is.is.rest;
      links = links_set config.router_id config.interfaces.items is.area.links is.is.links;
    } in
    subst (λ (x : AreaValue). IsConfigured config x) (sym one) begun
stays_configured config _ s (steps e before t after reached is) runs =
    let was : IsConfigured config is.area = stays_configured config before is.area reached is.runs in
    let one : s ≡ is.next = same_Some s is.next (sym runs ∙ is.is) in
    let same = step_as e is.area t.dropped t.out is.next is.steps in
    let now : IsConfigured config is.next = record {
      router = same.own ∙ was.router;
      area = same.area ∙ was.area;
      links = all_set config.router_id config.interfaces.items is.area.links is.next.links same.links was.links;
    } in
    subst (λ (x : AreaValue). IsConfigured config x) (sym one) now

-- ---- the interfaces of a configuration

-- what a numbered list has at its number
numbered : {X : Type 0} (n : ℕ) (xs : List X) (e : ℕ × X) → Contains (enumerate_from n xs) e → (k : ℕ) × (e.0 ≡ n + k) × (slice_get xs k ≡ Some e.1)
numbered n [] e at = absurd (none_in_nil e at)
numbered {X} n (x ∷ xs) e at = elim (in_cases (n, x) (enumerate_from (n + 1) xs) e at) [
  | inl same ↦ (zero, (let is : n ≡ e.0 = ap (λ (p : ℕ × X). p.0) same in omega (arith, is)), ap (λ (p : ℕ × X). Some p.1) same)
  | inr later ↦ (let (k, is, got) = numbered (n + 1) xs e later in (suc k, omega (arith, is), got))
]

at_number : {X : Type 0} (xs : List X) (e : ℕ × X) → Contains (enumerate_from 0 xs) e → slice_get xs e.0 ≡ Some e.1
at_number xs e at =
    let (k, is, got) = numbered 0 xs e at in
    let one : e.0 ≡ k = omega (arith, is) in
    ap (λ (n : ℕ). slice_get xs n) one ∙ got

-- e is the interface i of the configuration
record IsEndOf (config : Config) (i : Interface) (e : LinkEnd) : Type 0 where
  router : e.router ≡ config.router_id
  area : e.area ≡ config.area
  kind : e.kind ≡ i.kind
  address : e.address ≡ i.address
  hello : e.hello ≡ i.hello
  dead : e.dead ≡ i.dead
  mtu : e.mtu ≡ i.mtu
  at : slice_get config.interfaces.items e.link ≡ Some i

is_end : (configs : List Config) (e : LinkEnd) (config : Config) → Contains (ends_of configs) e → slice_get configs e.file ≡ Some config → (i : Interface) × IsEndOf config i e
is_end configs e config at given =
    let (f, among, there) = flat_from ends_at (enumerate_from 0 configs) e at in
    let (j, inside, made) = map_from (link_end_of f) (enumerate_from 0 f.1.interfaces.items) e there in
    let file : f.0 ≡ e.file = ap (λ (x : LinkEnd). x.file) made in
    let one : f.1 ≡ config = same_Some f.1 config (sym (at_number configs f among) ∙ (ap (λ (n : ℕ). slice_get configs n) file ∙ given)) in
    let it : IsEndOf f.1 j.1 (link_end_of f j) = record {
      router = refl;
      area = refl;
      kind = refl;
      address = refl;
      hello = refl;
      dead = refl;
      mtu = refl;
      at = at_number f.1.interfaces.items j inside;
    } in
    (j.1, subst (λ (c : Config). IsEndOf c j.1 e) one (subst (λ (x : LinkEnd). IsEndOf f.1 j.1 x) made it))

zip_at : {A B : Type 0} (R : A → B → Type 0) (xs : List A) (ys : List B) (k : ℕ) (x : A) → AllZip R xs ys → slice_get xs k ≡ Some x → (y : B) × (slice_get ys k ≡ Some y) × R x y
zip_at R [] ys k x all at = absurd (cc)
zip_at R (a ∷ xs) [] k x all at = absurd all
zip_at {A} R (a ∷ xs) (b ∷ ys) zero x all at = (b, refl, subst (λ (z : A). R z b) (same_Some a x at) all.0)
zip_at R (a ∷ xs) (b ∷ ys) (suc k) x all at = zip_at R xs ys k x all.1 at

pub stays_at : (configs : List Config) (e : LinkEnd) (config : Config) (r : RouterValue) (s : AreaValue) → Contains (ends_of configs) e → slice_get configs e.file ≡ Some config → WasStartedBy config r → r.area ≡ Some s
    → (there : LinkValue) × (slice_get s.links e.link ≡ Some there) × IsRouterAt e (local_by (context_of s) there.settings) s.area there.iface
stays_at configs e config r s at given reached runs =
    let (i, is) = is_end configs e config at given in
    let set = stays_configured config r s reached runs in
    let (there, got, has) = zip_at (HasSettings config.router_id) config.interfaces.items s.links e.link i set.links is.at in
    let same = has.iface in
    let address : i.address ≡ e.address = sym is.address in (
      there,
      got,
      record {
        iface = record {
          kind = ap (λ (k : IfaceSettings). k.kind) same ∙ sym is.kind;
          mask = ap (λ (k : IfaceSettings). k.mask) same ∙ ap (λ (a : InterfaceAddress). mask_of a.length) address;
          hello = ap (λ (k : IfaceSettings). k.hello) same ∙ sym is.hello;
          dead = ap (λ (k : IfaceSettings). k.dead) same ∙ sym is.dead;
        };
        router = ap (λ (k : IfaceSettings). k.router) same ∙ sym is.router;
        address = ap (λ (k : IfaceSettings). k.address) same ∙ ap (λ (a : InterfaceAddress). a.address) address;
        area = set.area ∙ sym is.area;
        mtu = has.mtu ∙ sym is.mtu;
      },
    )

-- ---- what such a router sends

-- a packet that says of its interface what the configuration says
body_from : (d : LinkEnd) (i : IfaceSettings) (k : LinkSettings) (b : BodyMeaning) → i.kind ≡ d.kind → i.mask ≡ mask_of d.address.length → i.hello ≡ d.hello → i.dead ≡ d.dead → k.mtu ≡ d.mtu → IsBodyOf i k b → IsBodyFrom d b
body_from d i k _ kind mask hello dead mtu (said_hello j heard set) =
    a_hello j heard
    (record {
      kind = ap (λ (x : IfaceSettings). x.kind) set ∙ kind;
      mask = ap (λ (x : IfaceSettings). x.mask) set ∙ mask;
      hello = ap (λ (x : IfaceSettings). x.hello) set ∙ hello;
      dead = ap (λ (x : IfaceSettings). x.dead) set ∙ dead;
    })
body_from d i k _ kind mask hello dead mtu (said_description j n) = subst (λ (m : ℕ). IsBodyFrom d (dd_packet j m n).body) (sym mtu) (a_description j n)
body_from d i k _ kind mask hello dead mtu (said_request entries) = a_request entries
body_from d i k _ kind mask hello dead mtu (said_update lsas) = an_update lsas
body_from d i k _ kind mask hello dead mtu (said_acknowledgment headers) = an_acknowledgment headers

pub sends_from : (configs : List Config) (d : LinkEnd) (config : Config) (e : Event) (before : RouterValue) (t : Step) (after : RouterValue) (x : SentValue) → Contains (ends_of configs) d
    → slice_get configs d.file ≡ Some config → WasStartedBy config before → Steps e before t after → Contains t.out.sent x → x.link ≡ d.link → (packet_of x.bytes ≡ Some x.packet) × IsSentFrom d x.source x.packet
sends_from configs d config e before t after x at given reached is among link =
    let s = is.area in
    let out = step_out e s t.dropped t.out is.next is.steps x among in
    let (i, end) = is_end configs d config at given in
    let set = stays_configured config before s reached is.runs in
    let (there, got, has) = zip_at (HasSettings config.router_id) config.interfaces.items s.links d.link i set.links end.at in
    let found : slice_get (all_fixed s.links) x.link ≡ Some (fixed there) = ap (λ (n : ℕ). slice_get (all_fixed s.links) n) link ∙ fixed_at s.links d.link there got in
    let one : (out.iface, out.link) ≡ fixed there = same_Some (out.iface, out.link) (fixed there) (sym out.at ∙ found) in
    let iface : out.iface ≡ there.iface.settings = ap (λ (f : IfaceSettings × LinkSettings). f.0) one in
    let same : out.iface ≡ (iface_of config.router_id i).settings = iface ∙ has.iface in
    let mtu : out.link.mtu ≡ d.mtu = ap (λ (f : IfaceSettings × LinkSettings). f.1.mtu) one ∙ (has.mtu ∙ sym end.mtu) in
    let address : i.address ≡ d.address = sym end.address in (
      step_read e s t.dropped t.out is.next is.steps x among,
      record {
        router = out.router ∙ (set.router ∙ sym end.router);
        area = out.area ∙ (set.area ∙ sym end.area);
        source = out.source ∙ (ap (λ (k : IfaceSettings). k.address) same ∙ ap (λ (a : InterfaceAddress). a.address) address);
        body = body_from d out.iface out.link x.packet.body
            (ap (λ (k : IfaceSettings). k.kind) same ∙ sym end.kind)
            (ap (λ (k : IfaceSettings). k.mask) same ∙ ap (λ (a : InterfaceAddress). mask_of a.length) address)
            (ap (λ (k : IfaceSettings). k.hello) same ∙ sym end.hello)
            (ap (λ (k : IfaceSettings). k.dead) same ∙ sym end.dead)
            mtu out.body;
      },
    )

-- ---- a step of such a router

-- why a datagram is dropped, on a link that may not be there, of bytes that may be no packet
abbrev dropped_at : AreaValue → Addr → Addr → Option LinkValue → Option Meaning → Option Dropped
dropped_at s source destination o p = elim o [
  | None ↦ Some dropped.Packet
  | Some there ↦ elim p [
    | None ↦ Some dropped.Packet
    | Some m ↦ drop_of_packet (local_by (context_of s) there.settings) there.iface there.neighbours s.area source destination m
  ]
]

datagram_dropped : (s : AreaValue) (l : ℕ) (there : LinkValue) (source destination : Addr) (bytes : List ℕ) (m : Meaning) → slice_get s.links l ≡ Some there → packet_of bytes ≡ Some m
    → dropped_by (Datagram l source destination bytes) s ≡ drop_of_packet (local_by (context_of s) there.settings) there.iface there.neighbours s.area source destination m
datagram_dropped s l there source destination bytes m at read =
    ap (λ (o : Option LinkValue). dropped_at s source destination o (packet_of bytes)) at ∙ ap (λ (p : Option Meaning). dropped_at s source destination (Some there) p) read

-- the router at a link that is there
at_link : (configs : List Config) (e : LinkEnd) (config : Config) (r : RouterValue) (s : AreaValue) (there : LinkValue) → Contains (ends_of configs) e → slice_get configs e.file ≡ Some config → WasStartedBy config r → r.area ≡ Some s
    → slice_get s.links e.link ≡ Some there → IsRouterAt e (local_by (context_of s) there.settings) s.area there.iface
at_link configs e config r s there at given reached runs is =
    let (x, got, here) = stays_at configs e config r s at given reached runs in
    subst (λ (y : LinkValue). IsRouterAt e (local_by (context_of s) y.settings) s.area y.iface) (same_Some x there (sym got ∙ is)) here

module _ (configs : List Config) (e : LinkEnd) (at : Contains (ends_of configs) e) (there : LinkValue) (source destination : Addr) (m : Meaning) (before : RouterValue) (t : Step) (after : RouterValue)
    (is : IsArrivalAt configs e there source destination m before t after) where
  router_at : IsRouterAt e (local_by (context_of is.area) there.settings) is.area.area there.iface
  router_at = at_link configs e is.config before is.area there at is.given is.reached is.runs is.at

  cause_of : t.dropped ≡ drop_of_packet (local_by (context_of is.area) there.settings) there.iface there.neighbours is.area.area source destination m
  cause_of =
      let one : is.step.area ≡ is.area = same_Some is.step.area is.area (sym is.step.runs ∙ is.runs) in
      is.step.steps.cause
      ∙ ap (λ (s : AreaValue). dropped_by (Datagram e.link source destination is.bytes) s) one
      ∙ datagram_dropped is.area e.link there source destination is.bytes m is.at is.read

  dropped_as : (cause : Dropped) → drop_of_packet (local_by (context_of is.area) there.settings) there.iface there.neighbours is.area.area source destination m ≡ Some cause → IsDropped cause before t after
  dropped_as cause drops =
      let cause_is : t.dropped ≡ Some cause = cause_of ∙ drops in
      let some : t.dropped ≢ None = λ none. none-some cause (sym none ∙ cause_is) in
      record {
        cause_is = cause_is;
        unchanged = is.step.is ∙ (ap (λ (s : AreaValue). Some s) (is.step.steps.unchanged some) ∙ sym is.step.runs);
        silent = is.step.steps.silent some;
      }

module _ (configs : List Config) (e d : LinkEnd) (at : Contains (ends_of configs) e) where
  drops : (cause : Dropped) → DropsAll e d cause → StepsDrop cause configs e d
  drops cause all there source destination m before t after is sent up =
      dropped_as configs e at there source destination m before t after is cause
      (all (local_by (context_of is.area) there.settings) is.area.area there.iface there.neighbours source destination m (router_at configs e at there source destination m before t after is) sent up)

  never : (cause : Dropped) → NeverDrops e d cause → StepsNeverDrop cause configs e d
  never cause none there source destination m before t after is sent drops =
      none (local_by (context_of is.area) there.settings) is.area.area there.iface there.neighbours source destination m (router_at configs e at there source destination m before t after is) sent
      (sym (cause_of configs e at there source destination m before t after is) ∙ drops)

  pub steps_drop_hellos : RefusesHellos e d → StepsDropHellos configs e d
  steps_drop_hellos refuses there source destination m before t after is sent j heard of_j body =
      let local = local_by (context_of is.area) there.settings in
      let here = router_at configs e at there source destination m before t after is in
      let brings = hello_brings local is.area.area there.iface there.neighbours source destination m e d j heard refuses here of_j body in
      let (cause, drops) = dropped_still local is.area.area there.iface there.neighbours source destination m dropped.HelloMismatch brings in
      record {
        cause = cause;
        is = dropped_as configs e at there source destination m before t after is cause drops;
        here = λ passes. here_dropped local is.area.area there.iface there.neighbours source destination m dropped.HelloMismatch cause brings drops (subst (λ a. PassesHead there.iface a source destination m) (sym here.area) passes);
      }

  drops_descriptions : DropsDescriptions e d → StepsDropDescriptions configs e d
  drops_descriptions long there source destination m before t after is sent fields headers body =
      let local = local_by (context_of is.area) there.settings in
      let here = router_at configs e at there source destination m before t after is in
      let (c, brings) = description_brings local is.area.area there.iface there.neighbours source destination m e d fields headers long here sent.body body in
      let (cause, drops) = dropped_still local is.area.area there.iface there.neighbours source destination m c brings in
      record {
        cause = cause;
        is = dropped_as configs e at there source destination m before t after is cause drops;
        here = λ passes n sender same.
            here_dropped local is.area.area there.iface there.neighbours source destination m dropped.State cause
            (description_of local is.area.area there.iface there.neighbours source destination m e d fields headers n long here sent.body body sender same)
            drops (subst (λ a. PassesHead there.iface a source destination m) (sym here.area) passes);
      }

  takes_lengths : TakesLengths e d → StepsTakeLengths configs e d
  takes_lengths takes config r s there q fields headers n given reached runs is from =
      takes (local_by (context_of s) there.settings) s.area there.iface q fields headers n (at_link configs e config r s there at given reached runs is) from

-- ---- where something is found

-- the other interface of a finding is one of these, where it is the first on the network
first_in : (ends : List LinkEnd) (e d : LinkEnd) → first_on ends (network_key e.address) ≡ Some d → Contains ends d
first_in ends e d is = (found_from (λ x. same_network (network_key x.address) (network_key e.address)) ends d is).0

-- of which fault it is the first
data ComparesFirst : AreaFault → Type 0 where
  of_area : ComparesFirst fault.Area
  of_hello : ComparesFirst fault.Hello
  of_dead : ComparesFirst fault.Dead
  of_mtu : ComparesFirst fault.Mtu

other_first : (ends : List LinkEnd) (e d : LinkEnd) (w : AreaFault) → ComparesFirst w → other_of w (around_of ends e) ≡ Some d → Contains ends d
other_first ends e d _ of_area is = first_in ends e d is
other_first ends e d _ of_hello is = first_in ends e d is
other_first ends e d _ of_dead is = first_in ends e d is
other_first ends e d _ of_mtu is = first_in ends e d is

other_in : (ends : List LinkEnd) (f : Finding) (w : AreaFault) → Contains (found_in ends) f → f.fault ≡ w → ComparesFirst w → Contains ends f.other
other_in ends f w found is first = other_first ends f.here f.other w first (subst (λ x. other_of x (around_of ends f.here) ≡ Some f.other) is (told_holds ends f found).other)

pub found_area : (configs : List Config) (f : Finding) → Contains (found_in (ends_of configs)) f → f.fault ≡ fault.Area → StepsDrop dropped.Area configs f.here f.other × StepsDrop dropped.Area configs f.other f.here
found_area configs f found is =
    let ends = ends_of configs in
    let both = area_drops ends f found is in (
      drops configs f.here f.other (told_holds ends f found).here dropped.Area both.0,
      drops configs f.other f.here (other_in ends f fault.Area found is of_area) dropped.Area both.1,
    )

pub found_router : (configs : List Config) (f : Finding) → Contains (found_in (ends_of configs)) f → f.fault ≡ fault.SameRouter → f.here.area ≡ f.other.area
    → StepsDrop dropped.OwnPacket configs f.here f.other × StepsDrop dropped.OwnPacket configs f.other f.here
found_router configs f found is one =
    let ends = ends_of configs in
    let both = router_drops ends f found is one in
    let first : first_of ends f.here.router.0 ≡ Some f.other = subst (λ w. other_of w (around_of ends f.here) ≡ Some f.other) is (told_holds ends f found).other in
    let among = (found_from (λ x. x.router.0 == f.here.router.0) ends f.other first).0 in (
      drops configs f.here f.other (told_holds ends f found).here dropped.OwnPacket both.0,
      drops configs f.other f.here among dropped.OwnPacket both.1,
    )

pub found_hello : (configs : List Config) (f : Finding) → Contains (found_in (ends_of configs)) f → IsOfHellos f.fault → StepsDropHellos configs f.here f.other × StepsDropHellos configs f.other f.here
found_hello configs f found is =
    let ends = ends_of configs in
    let (one, other) = told_refuse ends f found is in
    let among : Contains ends f.other = elim is [ inl hello ↦ other_in ends f fault.Hello found hello of_hello | inr dead ↦ other_in ends f fault.Dead found dead of_dead ] in
    (steps_drop_hellos configs f.here f.other (told_holds ends f found).here one, steps_drop_hellos configs f.other f.here among other)

pub found_mtu : (configs : List Config) (f : Finding) → Contains (found_in (ends_of configs)) f → f.fault ≡ fault.Mtu
    → StepsDropDescriptions configs f.here f.other ⊎ StepsDropDescriptions configs f.other f.here
found_mtu configs f found is =
    let ends = ends_of configs in
    elim (mtu_drops ends f found is) [
      | inl here ↦ inl (drops_descriptions configs f.here f.other (told_holds ends f found).here here)
      | inr other ↦ inr (drops_descriptions configs f.other f.here (other_in ends f fault.Mtu found is of_mtu) other)
    ]

-- ---- where nothing is found

module _ (configs : List Config) (d e : LinkEnd) (at_d : Contains (ends_of configs) d) (at_e : Contains (ends_of configs) e) (on : network_key d.address ≡ network_key e.address) where
  pub other_area : NoneFound (λ f. f ≡ fault.Area) (ends_of configs) (network_key e.address) → StepsNeverDrop dropped.Area configs e d
  other_area unfound = never configs e d at_e dropped.Area (others_share_area (ends_of configs) d e at_d at_e on unfound)

  pub other_hello : NoneFound IsOfHellos (ends_of configs) (network_key e.address) → StepsNeverDrop dropped.HelloMismatch configs e d
  other_hello unfound = never configs e d at_e dropped.HelloMismatch (others_agree (ends_of configs) d e at_d at_e on unfound)

  pub other_mtu : NoneFound (λ f. f ≡ fault.Mtu) (ends_of configs) (network_key e.address) → StepsTakeLengths configs e d
  other_mtu unfound = takes_lengths configs e d at_e (others_share_mtu (ends_of configs) d e at_d at_e on unfound)

pub other_network : (configs : List Config) (d e : LinkEnd) → Contains (ends_of configs) e → network_key d.address ≡ network_key e.address → StepsNeverDrop dropped.Subnet configs e d
other_network configs d e at on = never configs e d at dropped.Subnet (others_share_network d e on)

pub other_router : (configs : List Config) (d e : LinkEnd) → Contains (ends_of configs) d → Contains (ends_of configs) e → (d.file ≡ e.file → ⊥)
    → ((f : Finding) → Contains (found_in (ends_of configs)) f → f.fault ≡ fault.SameRouter → ⊥) → StepsNeverDrop dropped.OwnPacket configs e d
other_router configs d e at_d at_e ne unfound = never configs e d at_e dropped.OwnPacket (others_differ configs d e at_d at_e ne unfound)
