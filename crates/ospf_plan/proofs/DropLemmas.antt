-- What a finding says of packets that are dropped.
use Rattle.std.proofs.Common.{rules, ◌≡◌, ◌==◌, ◌&&◌, ◌⊎◌, ◌≤◌, ℕ, Bool, true, false, not, nat_lt, bit_and, List, ◌∙◌, ap, sym, subst, refl, inl, inr, arith, ◌+◌, length, map, is_some, [], ◌∷◌, ◌<◌, Option, Some, None, Result, Ok, Err, if◌then◌else◌}
use Rattle.std.proofs.lemmas.Option.{same_Some}
use Rattle.std.specs.List.{Contains, enumerate_from}
use Rattle.ospf_base.specs.Constants.{router_options}
use Rattle.ospf_base.specs.Masks.{mask_of}
use Rattle.ospf_base.specs.declared.ids.Addr.{Addr}
use Rattle.ospf_base.specs.declared.ids.AreaId.{AreaId}
use Rattle.ospf_base.specs.declared.ids.RouterId.{RouterId}
use Rattle.ospf_config.specs.declared.config.Config.{Config}
use Rattle.ospf_config.specs.declared.interface.Interface.{Interface}
use Rattle.ospf_lsa.specs.declared.header.LsaHeader.{LsaHeader}
use Rattle.ospf_packet.specs.Meaning.{BodyMeaning, Meaning, hello, description, request, update, acknowledgment}
use Rattle.ospf_packet.specs.declared.body.Description.{Description}
use Rattle.ospf_neighbour.specs.Interface.Hello.{agrees, own_hello}
use Rattle.ospf_neighbour.specs.Interface.Machine.{is_down}
use Rattle.ospf_neighbour.specs.declared.iface.machine.Iface.{Iface}
use Rattle.ospf_neighbour.specs.Machine.{is_exchanging}
use Rattle.ospf_neighbour.specs.Neighbour.{NeighbourValue, is_empty}
use Rattle.ospf_neighbour.specs.Neighbours.{max_neighbours, neighbour_of}
use Rattle.ospf_neighbour.specs.declared.machine.NeighbourState.{NeighbourState}
use Rattle.ospf_neighbour.specs.declared.machine.NeighbourState.TheVariants as state
use Rattle.ospf_exchange.specs.Flags.{has_init, has_master, has_more}
use Rattle.ospf_exchange.specs.Exchange.{dd_answer}
use Rattle.ospf_exchange.specs.Rules.{all_known, considered, dd_rule, is_next, is_repeat}
use Rattle.ospf_exchange.specs.declared.description.DdAnswer.{DdAnswer}
use Rattle.ospf_exchange.specs.declared.fault.ExchangeFault.{ExchangeFault}
use Rattle.ospf_exchange.specs.declared.fault.ExchangeFault.TheVariants as exchange
use Rattle.ospf_exchange.specs.declared.rule.Local.{Local}
use Rattle.ospf_adjacency.specs.Adjacency.{is_broadcast}
use Rattle.ospf_adjacency.specs.Descriptions.{dd_dropped}
use Rattle.ospf_router.specs.AreaStep.Receipt.{drop_below_exchange, drop_by_body, drop_of_description, drop_of_hello, drop_of_packet, is_destination, sender_in}
use Rattle.ospf_router.specs.declared.step.dropped.Dropped.{Dropped}
use Rattle.ospf_router.specs.declared.step.dropped.Dropped.TheVariants as dropped
use Rattle.ospf_plan.specs.declared.ends.LinkEnd.{LinkEnd}
use Rattle.ospf_plan.specs.declared.fault.AreaFault.{AreaFault}
use Rattle.ospf_plan.specs.declared.fault.AreaFault.TheVariants as fault
use Rattle.ospf_plan.specs.declared.finding.Finding.{Finding}
use Rattle.ospf_plan.specs.declared.finding.Surroundings.{Surroundings}
use Rattle.ospf_plan.specs.Ends.{ends_at, ends_of, first_of, first_on, link_end_of, network_key, same_network}
use Rattle.ospf_plan.specs.Findings.{around_of, found_in, is_wrong, other_of}
use Rattle.ospf_plan.specs.Laws.{IsAhead, IsIfaceOf, IsOfHellos, RefusesHellos, TakesHellos}
use Rattle.ospf_plan.specs.Drops.{DropsAll, DropsDescriptions, DropsHellos, IsBodyFrom, IsRouterAt, IsSentFrom, NeverDrops, NoneFound, PassesHead, TakesLengths, a_description, a_hello, a_request, an_acknowledgment, an_update}
use Rattle.ospf_plan.proofs.Members.{finds, flat_from, flat_to, found_from, head_in, none_in_nil}
use Rattle.ospf_plan.proofs.Order.{ends_rise, finds_first, map_from}
use Rattle.ospf_plan.proofs.FindingLemmas.{held_told, others_take, told_holds, told_refuse}

-- ---- numbers

unequal : (x y : ℕ) → (x ≡ y → ⊥) → (x == y) ≡ false
unequal x y ne = grind (arith, ne)

equal : (x y : ℕ) → x ≡ y → (x == y) ≡ true
equal x y is = grind (arith, is)

differ : (x y : ℕ) → not (x == y) ≡ true → x ≡ y → ⊥
differ x y ne is = grind (arith, ne, is)

one_by : (x y : ℕ) → (not (x == y) ≡ true → ⊥) → x ≡ y
one_by x y h = grind (arith, h)

one_number : (x y : ℕ) → (x == y) ≡ true → x ≡ y
one_number x y h = grind (arith, h)

equal_if : (x y : ℕ) → nat_lt x y ≡ false → nat_lt y x ≡ false → x ≡ y
equal_if x y a b = grind (arith, a, b)

smaller_by : (x y : ℕ) (a b : Bool) → nat_lt x y ≡ a → nat_lt y x ≡ b → not (x == y) ≡ true → (nat_lt x y ≡ true) ⊎ (nat_lt y x ≡ true)
smaller_by x y true b is more ne = inl is
smaller_by x y false true is more ne = inr more
smaller_by x y false false is more ne = absurd (differ x y ne (equal_if x y is more))

smaller : (x y : ℕ) → not (x == y) ≡ true → (nat_lt x y ≡ true) ⊎ (nat_lt y x ≡ true)
smaller x y ne = smaller_by x y (nat_lt x y) (nat_lt y x) refl refl ne

not_both : false ≡ true → ⊥
not_both e = search rules

-- ---- by the head of a packet and what its body brings

abbrev by_head : (down area own there off : Bool) → Option Dropped → Option Dropped
by_head down area own there off o =
    if down then Some dropped.Packet
    else if not area then Some dropped.Area
    else if own then Some dropped.OwnPacket
    else if not there then Some dropped.Destination
    else if off then Some dropped.Subnet
    else o

abbrev number : Option Dropped → ℕ
number None = 0
number (Some dropped.Packet) = 1
number (Some dropped.Area) = 2
number (Some dropped.OwnPacket) = 3
number (Some dropped.Destination) = 4
number (Some dropped.Subnet) = 5
number (Some dropped.HelloMismatch) = 6
number (Some dropped.NoNeighbour) = 7
number (Some dropped.WrongRouter) = 8
number (Some dropped.State) = 9

-- none, or one from this number on
data IsFrom (k : ℕ) (o : Option Dropped) : Type 0 where
  nothing : number o ≡ 0 → IsFrom k o
  higher : k ≤ number o → IsFrom k o

either : (k : ℕ) (b : Bool) (x y : Option Dropped) → IsFrom k x → IsFrom k y → IsFrom k (if b then x else y)
either k true x y hx hy = hx
either k false x y hx hy = hy

lower : (o : Option Dropped) → IsFrom 7 o → IsFrom 6 o
lower o (nothing is) = nothing is
lower o (higher le) = higher (omega (arith, le))

no_neighbour : IsFrom 7 (Some dropped.NoNeighbour)
no_neighbour = higher (let le : 7 ≤ 7 = omega arith in le)

wrong_router : IsFrom 7 (Some dropped.WrongRouter)
wrong_router = higher (let le : 7 ≤ 8 = omega arith in le)

not_in_state : IsFrom 7 (Some dropped.State)
not_in_state = higher (let le : 7 ≤ 9 = omega arith in le)

mismatch : IsFrom 6 (Some dropped.HelloMismatch)
mismatch = higher (let le : 6 ≤ 6 = omega arith in le)

of_hello : (i : Iface) (ns : List NeighbourValue) (q : RouterId) (sender : Option NeighbourValue) → IsFrom 7 (drop_of_hello i ns q sender)
of_hello i ns q None =
    either 7 (if is_broadcast i then is_some (neighbour_of ns q) else not (is_empty ns)) (Some dropped.WrongRouter)
    (if nat_lt (length ns) max_neighbours then None else Some dropped.State)
    wrong_router (either 7 (nat_lt (length ns) max_neighbours) None (Some dropped.State) (nothing refl) not_in_state)
of_hello i ns q (Some n) = either 7 (n.router.0 == q.0) None (Some dropped.WrongRouter) (nothing refl) wrong_router

of_description : (local : Local) (q : RouterId) (d : Description) (headers : List LsaHeader) (sender : Option NeighbourValue) → IsFrom 7 (drop_of_description local q d headers sender)
of_description local q d headers None = no_neighbour
of_description local q d headers (Some n) =
    either 7 (not (n.router.0 == q.0)) (Some dropped.WrongRouter) (if dd_dropped local q d headers n then Some dropped.State else None)
    wrong_router (either 7 (dd_dropped local q d headers n) (Some dropped.State) None not_in_state (nothing refl))

of_others : (q : RouterId) (sender : Option NeighbourValue) → IsFrom 7 (drop_below_exchange q sender)
of_others q None = no_neighbour
of_others q (Some n) =
    either 7 (not (n.router.0 == q.0)) (Some dropped.WrongRouter) (if is_exchanging n.state then None else Some dropped.State)
    wrong_router (either 7 (is_exchanging n.state) None (Some dropped.State) (nothing refl) not_in_state)

module _ (local : Local) (i : Iface) (ns : List NeighbourValue) (q : RouterId) (sender : Option NeighbourValue) where
  by_body : (b : BodyMeaning) → IsFrom 6 (drop_by_body local b i ns q sender)
  by_body (hello fields heard) =
      either 6 (agrees i fields) (drop_of_hello i ns q sender) (Some dropped.HelloMismatch) (lower (drop_of_hello i ns q sender) (of_hello i ns q sender)) mismatch
  by_body (description fields headers) = lower (drop_of_description local q fields headers sender) (of_description local q fields headers sender)
  by_body (request entries) = lower (drop_below_exchange q sender) (of_others q sender)
  by_body (update lsas) = lower (drop_below_exchange q sender) (of_others q sender)
  by_body (acknowledgment headers) = lower (drop_below_exchange q sender) (of_others q sender)

  -- where each Hello agrees
  by_agreed : (d : LinkEnd) (b : BodyMeaning) → IsBodyFrom d b → ((j : Iface) → IsIfaceOf d j → agrees i (own_hello j) ≡ true) → IsFrom 7 (drop_by_body local b i ns q sender)
  by_agreed d _ (a_hello j heard of_j) agree =
      subst (λ b. IsFrom 7 (if b then drop_of_hello i ns q sender else Some dropped.HelloMismatch)) (sym (agree j of_j)) (of_hello i ns q sender)
  by_agreed d _ (a_description j n) agree = of_description local q (record { mtu = d.mtu; options = router_options; flags = n.exchanging.flags; number = n.exchanging.number }) n.last_dd sender
  by_agreed d _ (a_request entries) agree = of_others q sender
  by_agreed d _ (an_update lsas) agree = of_others q sender
  by_agreed d _ (an_acknowledgment headers) agree = of_others q sender

  by_mismatch : (d : LinkEnd) (b : BodyMeaning) (j : Iface) (heard : List RouterId) → b ≡ hello (own_hello j) heard → agrees i (own_hello j) ≡ false
      → drop_by_body local b i ns q sender ≡ Some dropped.HelloMismatch
  by_mismatch d b j heard is differs =
      ap (λ x. drop_by_body local x i ns q sender) is ∙ ap (λ a. if a then drop_of_hello i ns q sender else Some dropped.HelloMismatch) differs

between : (o : Option Dropped) (k n : ℕ) → IsFrom k o → number o ≡ n → 0 < n → n < k → ⊥
between o k n (nothing is) at more less = omega (arith, is, at, more)
between o k n (higher le) at more less = omega (arith, le, at, less)

-- ---- each cause

area_dropped : (down area own there off : Bool) (o : Option Dropped) → down ≡ false → area ≡ false → by_head down area own there off o ≡ Some dropped.Area
area_dropped true area own there off o up is = absurd (not_both (sym up))
area_dropped false true own there off o up is = absurd (not_both (sym is))
area_dropped false false own there off o up is = refl

own_dropped : (down area own there off : Bool) (o : Option Dropped) → down ≡ false → area ≡ true → own ≡ true → by_head down area own there off o ≡ Some dropped.OwnPacket
own_dropped true area own there off o up same is = absurd (not_both (sym up))
own_dropped false false own there off o up same is = absurd (not_both same)
own_dropped false true false there off o up same is = absurd (not_both is)
own_dropped false true true there off o up same is = refl

pub arrived : (down area own there off : Bool) (o : Option Dropped) → down ≡ false → area ≡ true → own ≡ false → there ≡ true → off ≡ false → by_head down area own there off o ≡ o
arrived down area own there off o up same other at on = rw (up, same, other, at, on) refl

module _ (o : Option Dropped) (rest : IsFrom 6 o) where
  not_area_by : (d w t f : Bool) → number (by_head d true w t f o) ≡ 2 → ⊥
  not_area_by true w t f is = let no : 1 ≡ 2 = is in omega (arith, no)
  not_area_by false true t f is = let no : 3 ≡ 2 = is in omega (arith, no)
  not_area_by false false false f is = let no : 4 ≡ 2 = is in omega (arith, no)
  not_area_by false false true true is = let no : 5 ≡ 2 = is in omega (arith, no)
  not_area_by false false true false is = between o 6 2 rest is (omega arith) (omega arith)

  not_subnet_by : (d a w t : Bool) → number (by_head d a w t false o) ≡ 5 → ⊥
  not_subnet_by true a w t is = let no : 1 ≡ 5 = is in omega (arith, no)
  not_subnet_by false false w t is = let no : 2 ≡ 5 = is in omega (arith, no)
  not_subnet_by false true true t is = let no : 3 ≡ 5 = is in omega (arith, no)
  not_subnet_by false true false false is = let no : 4 ≡ 5 = is in omega (arith, no)
  not_subnet_by false true false true is = between o 6 5 rest is (omega arith) (omega arith)

  not_own_by : (d a t f : Bool) → number (by_head d a false t f o) ≡ 3 → ⊥
  not_own_by true a t f is = let no : 1 ≡ 3 = is in omega (arith, no)
  not_own_by false false t f is = let no : 2 ≡ 3 = is in omega (arith, no)
  not_own_by false true false f is = let no : 4 ≡ 3 = is in omega (arith, no)
  not_own_by false true true true is = let no : 5 ≡ 3 = is in omega (arith, no)
  not_own_by false true true false is = between o 6 3 rest is (omega arith) (omega arith)

not_hello_by : (d a w t f : Bool) (o : Option Dropped) → IsFrom 7 o → number (by_head d a w t f o) ≡ 6 → ⊥
not_hello_by true a w t f o rest is = let no : 1 ≡ 6 = is in omega (arith, no)
not_hello_by false false w t f o rest is = let no : 2 ≡ 6 = is in omega (arith, no)
not_hello_by false true true t f o rest is = let no : 3 ≡ 6 = is in omega (arith, no)
not_hello_by false true false false f o rest is = let no : 4 ≡ 6 = is in omega (arith, no)
not_hello_by false true false true true o rest is = let no : 5 ≡ 6 = is in omega (arith, no)
not_hello_by false true false true false o rest is = between o 7 6 rest is (omega arith) (omega arith)

-- ---- packets

abbrev pub off : Iface → Addr → Bool
off i source = is_broadcast i && not (bit_and source.0 i.settings.mask == bit_and i.settings.address.0 i.settings.mask)

abbrev pub brought : Local → Iface → List NeighbourValue → Addr → Meaning → Option Dropped
brought local i ns source m = drop_by_body local m.body i ns m.router (sender_in i ns m.router source)

low : (local : Local) (i : Iface) (ns : List NeighbourValue) (source : Addr) (m : Meaning) → IsFrom 6 (brought local i ns source m)
low local i ns source m = by_body local i ns m.router (sender_in i ns m.router source) m.body

areas : (e d : LinkEnd) (local : Local) (area : AreaId) (i : Iface) (source : Addr) (m : Meaning) → IsRouterAt e local area i → IsSentFrom d source m
    → (m.area.0 ≡ d.area.0) × (area.0 ≡ e.area.0)
areas e d local area i source m at from = (ap (λ (a : AreaId). a.0) from.area, ap (λ (a : AreaId). a.0) at.area)

drops_area : (e d : LinkEnd) → (d.area.0 ≡ e.area.0 → ⊥) → DropsAll e d dropped.Area
drops_area e d ne local area i ns source destination m at from up =
    let (sent, here) = areas e d local area i source m at from in
    area_dropped (is_down i.state) (m.area.0 == area.0) (m.router.0 == i.settings.router.0) (is_destination i destination) (off i source) (brought local i ns source m) up
    (unequal m.area.0 area.0 (λ same. ne (sym sent ∙ same ∙ here)))

shares_area : (e d : LinkEnd) → d.area.0 ≡ e.area.0 → NeverDrops e d dropped.Area
shares_area e d one local area i ns source destination m at from is =
    let (sent, here) = areas e d local area i source m at from in
    let own = m.router.0 == i.settings.router.0 in
    let o = brought local i ns source m in
    let same : (m.area.0 == area.0) ≡ true = equal m.area.0 area.0 (sent ∙ one ∙ sym here) in
    not_area_by o (low local i ns source m) (is_down i.state) own (is_destination i destination) (off i source)
    (ap (λ a. number (by_head (is_down i.state) a own (is_destination i destination) (off i source) o)) (sym same) ∙ ap number is)

routers : (e d : LinkEnd) (local : Local) (area : AreaId) (i : Iface) (source : Addr) (m : Meaning) → IsRouterAt e local area i → IsSentFrom d source m
    → (m.router.0 ≡ d.router.0) × (i.settings.router.0 ≡ e.router.0)
routers e d local area i source m at from = (ap (λ (r : RouterId). r.0) from.router, ap (λ (r : RouterId). r.0) at.router)

drops_own : (e d : LinkEnd) → d.area.0 ≡ e.area.0 → d.router.0 ≡ e.router.0 → DropsAll e d dropped.OwnPacket
drops_own e d one alike local area i ns source destination m at from up =
    let (sent, here) = areas e d local area i source m at from in
    let (sender, own) = routers e d local area i source m at from in
    own_dropped (is_down i.state) (m.area.0 == area.0) (m.router.0 == i.settings.router.0) (is_destination i destination) (off i source) (brought local i ns source m) up
    (equal m.area.0 area.0 (sent ∙ one ∙ sym here)) (equal m.router.0 i.settings.router.0 (sender ∙ alike ∙ sym own))

others_own : (e d : LinkEnd) → (d.router.0 ≡ e.router.0 → ⊥) → NeverDrops e d dropped.OwnPacket
others_own e d ne local area i ns source destination m at from is =
    let (sender, own) = routers e d local area i source m at from in
    let o = brought local i ns source m in
    let other : (m.router.0 == i.settings.router.0) ≡ false = unequal m.router.0 i.settings.router.0 (λ same. ne (sym sender ∙ same ∙ own)) in
    not_own_by o (low local i ns source m) (is_down i.state) (m.area.0 == area.0) (is_destination i destination) (off i source)
    (ap (λ w. number (by_head (is_down i.state) (m.area.0 == area.0) w (is_destination i destination) (off i source) o)) (sym other) ∙ ap number is)

and_not : (a b : Bool) → b ≡ true → (a && not b) ≡ false
and_not true true is = refl
and_not false true is = refl
and_not a false is = absurd (not_both is)

on_network : (e d : LinkEnd) → network_key d.address ≡ network_key e.address → (local : Local) (area : AreaId) (i : Iface) (source : Addr) (m : Meaning)
    → IsRouterAt e local area i → IsSentFrom d source m → off i source ≡ false
on_network e d one local area i source m at from =
    let bits : d.address.length ≡ e.address.length = ap (λ (k : ℕ × ℕ). k.0) one in
    let part : bit_and d.address.address.0 (mask_of d.address.length) ≡ bit_and e.address.address.0 (mask_of e.address.length) = ap (λ (k : ℕ × ℕ). k.1) one in
    let mask = at.iface.mask in
    let same : bit_and source.0 i.settings.mask ≡ bit_and i.settings.address.0 i.settings.mask =
    ap (λ (a : Addr). bit_and a.0 i.settings.mask) from.source
    ∙ ap (λ x. bit_and d.address.address.0 x) (mask ∙ ap mask_of (sym bits))
    ∙ part
    ∙ ap (λ x. bit_and e.address.address.0 x) (sym mask)
    ∙ ap (λ (a : Addr). bit_and a.0 i.settings.mask) (sym at.address) in
    and_not (is_broadcast i) (bit_and source.0 i.settings.mask == bit_and i.settings.address.0 i.settings.mask)
    (equal (bit_and source.0 i.settings.mask) (bit_and i.settings.address.0 i.settings.mask) same)

shares_network : (e d : LinkEnd) → network_key d.address ≡ network_key e.address → NeverDrops e d dropped.Subnet
shares_network e d one local area i ns source destination m at from is =
    let o = brought local i ns source m in
    let on = on_network e d one local area i source m at from in
    not_subnet_by o (low local i ns source m) (is_down i.state) (m.area.0 == area.0) (m.router.0 == i.settings.router.0) (is_destination i destination)
    (ap (λ f. number (by_head (is_down i.state) (m.area.0 == area.0) (m.router.0 == i.settings.router.0) (is_destination i destination) f o)) (sym on) ∙ ap number is)

pub drops_hellos : (e d : LinkEnd) → RefusesHellos e d → DropsHellos e d
drops_hellos e d refuses local area i j ns source destination m heard at of_j is here =
    arrived (is_down i.state) (m.area.0 == area.0) (m.router.0 == i.settings.router.0) (is_destination i destination) (off i source) (brought local i ns source m)
    here.up here.area here.other here.destination here.network
    ∙ by_mismatch local i ns m.router (sender_in i ns m.router source) d m.body j heard is (refuses i j at.iface of_j)

agree_on : (e d : LinkEnd) → TakesHellos e d → NeverDrops e d dropped.HelloMismatch
agree_on e d takes local area i ns source destination m at from is =
    not_hello_by (is_down i.state) (m.area.0 == area.0) (m.router.0 == i.settings.router.0) (is_destination i destination) (off i source) (brought local i ns source m)
    (by_agreed local i ns m.router (sender_in i ns m.router source) d m.body from.body (λ j of_j. takes i j at.iface of_j)) (ap number is)

-- ---- Database Descriptions

abbrev MtuIs : LinkEnd → BodyMeaning → Type 0
MtuIs d (hello fields heard) = Unit {0}
MtuIs d (description fields headers) = fields.mtu ≡ d.mtu
MtuIs d (request entries) = Unit {0}
MtuIs d (update lsas) = Unit {0}
MtuIs d (acknowledgment headers) = Unit {0}

mtu_is : (d : LinkEnd) (b : BodyMeaning) → IsBodyFrom d b → MtuIs d b
mtu_is d _ (a_hello j heard of_j) = tt
mtu_is d _ (a_description j n) = refl
mtu_is d _ (a_request entries) = tt
mtu_is d _ (an_update lsas) = tt
mtu_is d _ (an_acknowledgment headers) = tt

mtus : (e d : LinkEnd) (b : Bool) (local : Local) (area : AreaId) (i : Iface) (fields : Description) (headers : List LsaHeader) → nat_lt e.mtu d.mtu ≡ b
    → IsRouterAt e local area i → IsBodyFrom d (description fields headers) → nat_lt local.mtu fields.mtu ≡ b
mtus e d b local area i fields headers is at from =
    ap (λ x. nat_lt x fields.mtu) at.mtu ∙ ap (λ x. nat_lt e.mtu x) (mtu_is d (description fields headers) from) ∙ is

long_dropped : (local : Local) (q : RouterId) (fields : Description) (headers : List LsaHeader) (n : NeighbourValue) → (n.router.0 == q.0) ≡ true
    → nat_lt local.mtu fields.mtu ≡ true → drop_of_description local q fields headers (Some n) ≡ Some dropped.State
long_dropped local q fields headers n known over = rw (known, over) refl

too_long : (local : Local) (q : RouterId) (fields : Description) (headers : List LsaHeader) (n : NeighbourValue)
    → nat_lt local.mtu fields.mtu ≡ true → dd_answer local q fields headers n ≡ Err exchange.Mtu
unfolding dd_answer dd_rule
too_long local q fields headers n over = rw (over, dd_answer, dd_rule) refl

drops_descriptions : (e d : LinkEnd) → nat_lt e.mtu d.mtu ≡ true → DropsDescriptions e d
drops_descriptions e d over local area i q fields headers n at from known =
    let more = mtus e d true local area i fields headers over at from in
    (long_dropped local q fields headers n known more, too_long local q fields headers n more)

abbrev is_mtu : Result DdAnswer ExchangeFault → Bool
is_mtu (Ok a) = false
is_mtu (Err exchange.Mtu) = true
is_mtu (Err exchange.Mismatch) = false
is_mtu (Err exchange.BadRequest) = false
is_mtu (Err exchange.Memory) = false

bool_is : (b : Bool) → (b ≡ true) ⊎ (b ≡ false)
bool_is true = inl refl
bool_is false = inr refl

-- what a Database Description that fits is answered, in each state
short_answer : (local : Local) (q : RouterId) (d : Description) (headers : List LsaHeader) (n : NeighbourValue) (s : NeighbourState) → n.state ≡ s
    → nat_lt local.mtu d.mtu ≡ false → is_mtu (dd_answer local q d headers n) ≡ false
unfolding dd_answer dd_rule
short_answer local q d headers n state.Down is fits = rw (dd_answer, dd_rule, fits, is) refl
short_answer local q d headers n state.Init is fits = rw (dd_answer, dd_rule, fits, is) refl
short_answer local q d headers n state.TwoWay is fits = rw (dd_answer, dd_rule, fits, is) refl
short_answer local q d [] n state.ExStart is fits =
    elim (bool_is (has_init d.flags && has_more d.flags && has_master d.flags && nat_lt local.router.0 q.0)) [
      | inl slave ↦ rw (dd_answer, dd_rule, fits, is, slave) refl
      | inr master_or ↦ elim (bool_is (not (has_init d.flags) && not (has_master d.flags) && (d.number == n.exchanging.number) && nat_lt q.0 local.router.0)) [
        | inl master ↦ elim (bool_is (all_known (considered local.passes_over []))) [ inl known ↦ rw (dd_answer, dd_rule, fits, is, master_or, master, known) refl | inr some ↦ rw (dd_answer, dd_rule, fits, is, master_or, master, some) refl ]
        | inr neither ↦ rw (dd_answer, dd_rule, fits, is, master_or, neither) refl
      ]
    ]
short_answer local q d (h ∷ hs) n state.ExStart is fits =
    elim (bool_is (has_init d.flags && has_more d.flags && has_master d.flags && nat_lt local.router.0 q.0)) [
      | inl slave ↦ rw (dd_answer, dd_rule, fits, is, slave) refl
      | inr master_or ↦ elim (bool_is (not (has_init d.flags) && not (has_master d.flags) && (d.number == n.exchanging.number) && nat_lt q.0 local.router.0)) [
        | inl master ↦ elim (bool_is (all_known (considered local.passes_over (h ∷ hs)))) [ inl known ↦ rw (dd_answer, dd_rule, fits, is, master_or, master, known) refl | inr some ↦ rw (dd_answer, dd_rule, fits, is, master_or, master, some) refl ]
        | inr neither ↦ rw (dd_answer, dd_rule, fits, is, master_or, neither) refl
      ]
    ]
short_answer local q d headers n state.Exchange is fits =
    elim (bool_is (is_repeat n.exchanging.accepted d)) [
      | inl again ↦ elim (bool_is n.exchanging.is_master) [ inl master ↦ rw (dd_answer, dd_rule, fits, is, again, master) refl | inr slave ↦ rw (dd_answer, dd_rule, fits, is, again, slave) refl ]
      | inr new ↦ elim (bool_is (is_next n.exchanging d)) [
        | inl next ↦ elim (bool_is (all_known (considered local.passes_over headers))) [ inl known ↦ rw (dd_answer, dd_rule, fits, is, new, next, known) refl | inr some ↦ rw (dd_answer, dd_rule, fits, is, new, next, some) refl ]
        | inr odd ↦ rw (dd_answer, dd_rule, fits, is, new, odd) refl
      ]
    ]
short_answer local q d headers n state.Loading is fits =
    elim (bool_is (is_repeat n.exchanging.accepted d)) [
      | inl again ↦ elim (bool_is n.exchanging.is_master) [ inl master ↦ rw (dd_answer, dd_rule, fits, is, again, master) refl | inr slave ↦ rw (dd_answer, dd_rule, fits, is, again, slave) refl ]
      | inr new ↦ rw (dd_answer, dd_rule, fits, is, new) refl
    ]
short_answer local q d headers n state.Full is fits =
    elim (bool_is (is_repeat n.exchanging.accepted d)) [
      | inl again ↦ elim (bool_is n.exchanging.is_master) [ inl master ↦ rw (dd_answer, dd_rule, fits, is, again, master) refl | inr slave ↦ rw (dd_answer, dd_rule, fits, is, again, slave) refl ]
      | inr new ↦ rw (dd_answer, dd_rule, fits, is, new) refl
    ]

takes_lengths : (e d : LinkEnd) → nat_lt e.mtu d.mtu ≡ false → TakesLengths e d
takes_lengths e d fits local area i q fields headers n at from is =
    not_both (sym (short_answer local q fields headers n n.state refl (mtus e d false local area i fields headers fits at from)) ∙ ap is_mtu is)

-- ---- what is dropped for some cause

-- what drops a packet without its head drops it for some cause
still : (down area own there off : Bool) (o : Option Dropped) (c : Dropped) → o ≡ Some c → (cause : Dropped) × (by_head down area own there off o ≡ Some cause)
still true area own there off o c is = (dropped.Packet, refl)
still false false own there off o c is = (dropped.Area, refl)
still false true true there off o c is = (dropped.OwnPacket, refl)
still false true false false off o c is = (dropped.Destination, refl)
still false true false true true o c is = (dropped.Subnet, refl)
still false true false true false o c is = (c, is)

module _ (local : Local) (area : AreaId) (i : Iface) (ns : List NeighbourValue) (source destination : Addr) (m : Meaning) where
  pub dropped_still : (c : Dropped) → brought local i ns source m ≡ Some c → (cause : Dropped) × (drop_of_packet local i ns area source destination m ≡ Some cause)
  dropped_still c is = still (is_down i.state) (m.area.0 == area.0) (m.router.0 == i.settings.router.0) (is_destination i destination) (off i source) (brought local i ns source m) c is

  -- where the head of the packet does not, for the cause that its body brings
  pub here_dropped : (c cause : Dropped) → brought local i ns source m ≡ Some c → drop_of_packet local i ns area source destination m ≡ Some cause → PassesHead i area source destination m → cause ≡ c
  here_dropped c cause body is here =
      same_Some cause c (sym is
      ∙ arrived (is_down i.state) (m.area.0 == area.0) (m.router.0 == i.settings.router.0) (is_destination i destination) (off i source) (brought local i ns source m)
      here.up here.area here.other here.destination here.network
      ∙ body)

  pub hello_brings : (e d : LinkEnd) (j : Iface) (heard : List RouterId) → RefusesHellos e d → IsRouterAt e local area i → IsIfaceOf d j → m.body ≡ hello (own_hello j) heard → brought local i ns source m ≡ Some dropped.HelloMismatch
  hello_brings e d j heard refuses at of_j is = by_mismatch local i ns m.router (sender_in i ns m.router source) d m.body j heard is (refuses i j at.iface of_j)

  by_sender : (e d : LinkEnd) (fields : Description) (headers : List LsaHeader) → DropsDescriptions e d → IsRouterAt e local area i → IsBodyFrom d (description fields headers) → (sender : Option NeighbourValue)
      → (c : Dropped) × (drop_of_description local m.router fields headers sender ≡ Some c)
  by_sender e d fields headers drops at from None = (dropped.NoNeighbour, refl)
  by_sender e d fields headers drops at from (Some n) = by_test (n.router.0 == m.router.0) refl
    where
      by_test : (b : Bool) → (n.router.0 == m.router.0) ≡ b → (c : Dropped) × (drop_of_description local m.router fields headers (Some n) ≡ Some c)
      by_test true same = (dropped.State, (drops local area i m.router fields headers n at from same).0)
      by_test false other = (dropped.WrongRouter, rw other refl)

  pub description_brings : (e d : LinkEnd) (fields : Description) (headers : List LsaHeader) → DropsDescriptions e d → IsRouterAt e local area i → IsBodyFrom d m.body → m.body ≡ description fields headers
      → (c : Dropped) × (brought local i ns source m ≡ Some c)
  description_brings e d fields headers drops at from is =
      let (c, brings) = by_sender e d fields headers drops at (subst (λ (b : BodyMeaning). IsBodyFrom d b) is from) (sender_in i ns m.router source) in
      (c, ap (λ (b : BodyMeaning). drop_by_body local b i ns m.router (sender_in i ns m.router source)) is ∙ brings)

  pub description_of : (e d : LinkEnd) (fields : Description) (headers : List LsaHeader) (n : NeighbourValue) → DropsDescriptions e d → IsRouterAt e local area i → IsBodyFrom d m.body → m.body ≡ description fields headers
      → sender_in i ns m.router source ≡ Some n → n.router ≡ m.router → brought local i ns source m ≡ Some dropped.State
  description_of e d fields headers n drops at from is sender same =
      ap (λ (b : BodyMeaning). drop_by_body local b i ns m.router (sender_in i ns m.router source)) is
      ∙ ap (λ (o : Option NeighbourValue). drop_of_description local m.router fields headers o) sender
      ∙ (drops local area i m.router fields headers n at (subst (λ (b : BodyMeaning). IsBodyFrom d b) is from) (equal n.router.0 m.router.0 (ap (λ (r : RouterId). r.0) same))).0

-- ---- where something is found

pub area_drops : (ends : List LinkEnd) (f : Finding) → Contains (found_in ends) f → f.fault ≡ fault.Area
    → DropsAll f.here f.other dropped.Area × DropsAll f.other f.here dropped.Area
area_drops ends f found is =
    let wrong = (told_holds ends f found).wrong in
    let ne = differ f.other.area.0 f.here.area.0 (subst (λ w. is_wrong w (around_of ends f.here) f.other f.here ≡ true) is wrong) in
    (drops_area f.here f.other ne, drops_area f.other f.here (λ same. ne (sym same)))

pub router_drops : (ends : List LinkEnd) (f : Finding) → Contains (found_in ends) f → f.fault ≡ fault.SameRouter → f.here.area ≡ f.other.area
    → DropsAll f.here f.other dropped.OwnPacket × DropsAll f.other f.here dropped.OwnPacket
router_drops ends f found is one =
    let area : f.here.area.0 ≡ f.other.area.0 = ap (λ (a : AreaId). a.0) one in
    let first : first_of ends f.here.router.0 ≡ Some f.other = subst (λ w. other_of w (around_of ends f.here) ≡ Some f.other) is (told_holds ends f found).other in
    let (among, alike) = found_from (λ e. e.router.0 == f.here.router.0) ends f.other first in
    let same = one_number f.other.router.0 f.here.router.0 alike in
    (drops_own f.here f.other (sym area) same, drops_own f.other f.here area (sym same))

pub hello_drops : (ends : List LinkEnd) (f : Finding) → Contains (found_in ends) f → IsOfHellos f.fault → DropsHellos f.here f.other × DropsHellos f.other f.here
hello_drops ends f found is = let (one, other) = told_refuse ends f found is in (drops_hellos f.here f.other one, drops_hellos f.other f.here other)

pub mtu_drops : (ends : List LinkEnd) (f : Finding) → Contains (found_in ends) f → f.fault ≡ fault.Mtu
    → DropsDescriptions f.here f.other ⊎ DropsDescriptions f.other f.here
mtu_drops ends f found is =
    let wrong = (told_holds ends f found).wrong in
    elim (smaller f.other.mtu f.here.mtu (subst (λ w. is_wrong w (around_of ends f.here) f.other f.here ≡ true) is wrong)) [
      | inl less ↦ inr (drops_descriptions f.other f.here less)
      | inr more ↦ inl (drops_descriptions f.here f.other more)
    ]

-- ---- where nothing is found

itself : (k : ℕ × ℕ) → same_network k k ≡ true
itself k = grind arith

-- what a fault compares with the first interface of a network is one on it, where none is found
shared : (w : AreaFault) (get : LinkEnd → ℕ) → ((a : Surroundings) → other_of w a ≡ a.first)
    → ((a : Surroundings) (d e : LinkEnd) → is_wrong w a d e ≡ not (get d == get e)) → (ends : List LinkEnd) (d e : LinkEnd) → Contains ends d → Contains ends e
    → network_key d.address ≡ network_key e.address → NoneFound (λ f. f ≡ w) ends (network_key e.address) → get d ≡ get e
shared w get other_is wrong_is ends d e at_d at_e on unfound =
    let q = network_key e.address in
    let (first, is) = finds (λ x. same_network (network_key x.address) q) ends e at_e (itself q) in
    let as_first : (x : LinkEnd) → Contains ends x → network_key x.address ≡ q → get first ≡ get x =
    λ x at there.
    let found : first_on ends (network_key x.address) ≡ Some first = ap (first_on ends) there ∙ is in
    one_by (get first) (get x) (λ ne. unfound (record { fault = w; other = first; here = x })
    (held_told ends _ (record { here = at; other = other_is (around_of ends x) ∙ found; wrong = wrong_is (around_of ends x) first x ∙ ne })) refl there) in
    sym (as_first d at_d on) ∙ as_first e at_e refl

pub others_share_area : (ends : List LinkEnd) (d e : LinkEnd) → Contains ends d → Contains ends e → network_key d.address ≡ network_key e.address
    → NoneFound (λ f. f ≡ fault.Area) ends (network_key e.address) → NeverDrops e d dropped.Area
others_share_area ends d e at_d at_e on unfound = shares_area e d (shared fault.Area (λ x. x.area.0) (λ a. refl) (λ a x y. refl) ends d e at_d at_e on unfound)

pub others_share_network : (d e : LinkEnd) → network_key d.address ≡ network_key e.address → NeverDrops e d dropped.Subnet
others_share_network d e on = shares_network e d on

pub others_agree : (ends : List LinkEnd) (d e : LinkEnd) → Contains ends d → Contains ends e → network_key d.address ≡ network_key e.address
    → NoneFound IsOfHellos ends (network_key e.address) → NeverDrops e d dropped.HelloMismatch
others_agree ends d e at_d at_e on unfound =
    agree_on e d (others_take ends e d at_e at_d (sym on) (subst (λ q. NoneFound IsOfHellos ends q) (sym on) unfound))

not_less : (x y : ℕ) → x ≡ y → nat_lt y x ≡ false
not_less x y is = grind (arith, is)

pub others_share_mtu : (ends : List LinkEnd) (d e : LinkEnd) → Contains ends d → Contains ends e → network_key d.address ≡ network_key e.address
    → NoneFound (λ f. f ≡ fault.Mtu) ends (network_key e.address) → TakesLengths e d
others_share_mtu ends d e at_d at_e on unfound =
    takes_lengths e d (not_less d.mtu e.mtu (shared fault.Mtu (λ x. x.mtu) (λ a. refl) (λ a x y. refl) ends d e at_d at_e on unfound))

-- ---- routers

abbrev file_ends : ℕ × Config → List Interface → List LinkEnd
file_ends f is = map (link_end_of f) (enumerate_from 0 is)

-- the first interface of the file of another one
record IsHead (ends : List LinkEnd) (e g : LinkEnd) : Type 0 where
  among : Contains ends g
  link : g.link ≡ 0
  file : g.file ≡ e.file
  router : g.router ≡ e.router

head_of_file : (f : ℕ × Config) (is : List Interface) (e : LinkEnd) → Contains (file_ends f is) e → (g : LinkEnd) × IsHead (file_ends f is) e g
head_of_file f [] e at = absurd (none_in_nil e at)
head_of_file f (i ∷ is) e at =
    let (j, among, made) = map_from (link_end_of f) (enumerate_from 0 (i ∷ is)) e at in (
      link_end_of f (0, i),
      record {
        among = head_in (link_end_of f (0, i)) (map (link_end_of f) (enumerate_from (0 + 1) is));
        link = refl;
        file = ap (λ (x : LinkEnd). x.file) made;
        router = ap (λ (x : LinkEnd). x.router) made;
      },
    )

head_of : (configs : List Config) (e : LinkEnd) → Contains (ends_of configs) e → (g : LinkEnd) × IsHead (ends_of configs) e g
head_of configs e at =
    let (f, among, there) = flat_from ends_at (enumerate_from 0 configs) e at in
    let (g, h) = head_of_file f f.1.interfaces.items e there in
    (g, record { among = flat_to ends_at (enumerate_from 0 configs) g f among h.among; link = h.link; file = h.file; router = h.router })

abbrev NoRouterFound : List LinkEnd → Type 0
NoRouterFound ends = (f : Finding) → Contains (found_in ends) f → f.fault ≡ fault.SameRouter → ⊥

both : (a b : Bool) → a ≡ true → b ≡ false → (a && not b) ≡ true
both true false is off_is = refl
both true true is off_is = absurd (not_both (sym off_is))
both false b is off_is = absurd (not_both is)

not_after : (y d e : LinkEnd) → (y ≡ d) ⊎ IsAhead y d → d.file < e.file → y.file ≡ e.file → ⊥
not_after y d e (inl same) less is = let one = ap (λ (x : LinkEnd). x.file) same in omega (arith, one, less, is)
not_after y d e (inr (inl before)) less is = omega (arith, before, less, is)
not_after y d e (inr (inr (same, before))) less is = omega (arith, same, less, is)

later_differs : (configs : List Config) (d e : LinkEnd) → Contains (ends_of configs) d → Contains (ends_of configs) e → NoRouterFound (ends_of configs)
    → d.file < e.file → d.router.0 ≡ e.router.0 → ⊥
later_differs configs d e at_d at_e unfound less alike =
    let ends = ends_of configs in
    let (g, head) = head_of configs e at_e in
    let own : e.router.0 ≡ g.router.0 = ap (λ (r : RouterId). r.0) (sym head.router) in
    let (y, first, order) = finds_first IsAhead (λ x. x.router.0 == g.router.0) ends d (ends_rise configs) at_d (equal d.router.0 g.router.0 (alike ∙ own)) in
    let apart : (y.file == g.file) ≡ false = unequal y.file g.file (λ same. not_after y d e order less (same ∙ head.file)) in
    unfound (record { fault = fault.SameRouter; other = y; here = g })
    (held_told ends _ (record { here = head.among; other = first; wrong = both (g.link == 0) (y.file == g.file) (equal g.link 0 head.link) apart })) refl

by_file : (n m : ℕ) → (n ≡ m → ⊥) → (n < m) ⊎ (m < n)
by_file n m ne = elim (smaller n m (ap not (unequal n m ne))) [ inl less ↦ inl (grind (arith, less)) | inr more ↦ inr (grind (arith, more)) ]

pub others_differ : (configs : List Config) (d e : LinkEnd) → Contains (ends_of configs) d → Contains (ends_of configs) e → (d.file ≡ e.file → ⊥)
    → NoRouterFound (ends_of configs) → NeverDrops e d dropped.OwnPacket
others_differ configs d e at_d at_e ne unfound = others_own e d (λ alike. elim (by_file d.file e.file ne) [
  | inl less ↦ later_differs configs d e at_d at_e unfound less alike
  | inr more ↦ later_differs configs e d at_e at_d unfound more (sym alike)
])
