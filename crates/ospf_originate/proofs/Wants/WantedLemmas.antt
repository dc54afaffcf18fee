-- Wanted LSAs are the router's own, each alone of its key.
use Rattle.std.proofs.Common.{◌≡◌, ◌≢◌, ◌++◌, Bool, true, false, List, [], ◌∷◌, Some, cond, filter, map, inl, inr, refl, sym, ap, subst, if◌then◌else◌}
use Rattle.std.specs.List.{AllByRecursion}
use Rattle.ospf_base.specs.declared.ids.Kind.TheVariants.{Router, Network}
use Rattle.ospf_base.specs.declared.ids.LsaKey.{LsaKey}
use Rattle.ospf_base.specs.declared.ids.RouterId.{RouterId}
use Rattle.ospf_base.specs.declared.stub_network.StubNetwork.{StubNetwork}
use Rattle.ospf_lsdb.proofs.MapLemmas.{bool_cases}
use Rattle.ospf_base.specs.Keys.{same_key}
use Rattle.ospf_base.proofs.SameKeys.{same_key-eq, same_key-refl}
use Rattle.ospf_lsa.specs.declared.link.Link.{Link}
use Rattle.ospf_area.specs.State.{LinkValue}
use Rattle.ospf_originate.specs.Wants.SetUp.{AreApart}
use Rattle.ospf_originate.specs.Wants.Wanted.{WantedValue, is_dr_of, network_of, own_links, wanted_lsas, wanted_key, wanted_of}
use Rattle.ospf_originate.specs.Wants.Wanted.WantedValue.{RouterLsa}

-- what a link gives, if anything
unfoldable pub one_if : Bool → WantedValue → List WantedValue
one_if b w = if b then w ∷ [] else []

-- the network-LSAs of links
abbrev pub networks : RouterId → List LinkValue → List WantedValue
networks router links = map (network_of router) (filter is_dr_of links)

one_more : (b : Bool) (router : RouterId) (l : LinkValue) (ls : List LinkValue) → map (network_of router) (cond b (l ∷ ls) ls) ≡ one_if b (network_of router l) ++ map (network_of router) ls
unfolding one_if
one_more true router l ls = refl
one_more false router l ls = refl

pub networks-step : (router : RouterId) (l : LinkValue) (ls : List LinkValue) → networks router (l ∷ ls) ≡ one_if (is_dr_of l) (network_of router l) ++ networks router ls
networks-step router l ls = one_more (is_dr_of l) router l (filter is_dr_of ls)

all_with : {X : Type 0} → (P Q R : X → Type 0) (xs : List X) → ((x : X) → P x → Q x → R x) → AllByRecursion P xs → AllByRecursion Q xs → AllByRecursion R xs
all_with P Q R [] both p q = tt
all_with P Q R (x ∷ xs) both p q = (both x p.0 q.0, all_with P Q R xs both p.1 q.1)

all_if : (P : WantedValue → Type 0) (b : Bool) (w : WantedValue) (ws : List WantedValue) → P w → AllByRecursion P ws → AllByRecursion P (one_if b w ++ ws)
unfolding one_if
all_if P true w ws here rest = (here, rest)
all_if P false w ws here rest = rest

-- what holds of the network-LSA of each link
pub all_networks : (P : WantedValue → Type 0) (router : RouterId) (links : List LinkValue) → AllByRecursion (λ l. P (network_of router l)) links → AllByRecursion P (networks router links)
all_networks P router [] all = tt
all_networks P router (l ∷ ls) all =
    subst (AllByRecursion P) (sym (networks-step router l ls))
    (all_if P (is_dr_of l) (network_of router l) (networks router ls) all.0 (all_networks P router ls all.1))

pub every : {X : Type 0} → (P : X → Type 0) → ((x : X) → P x) → (xs : List X) → AllByRecursion P xs
every P is [] = tt
every P is (x ∷ xs) = (is x, every P is xs)

-- ---- they are the router's own

network_router : (router : RouterId) (l : LinkValue) → (wanted_key (network_of router l)).router ≡ router
unfolding network_of
network_router router l = refl

pub wanted_own : (stub_router : Bool) (router : RouterId) (links : List LinkValue) (stubs : List StubNetwork) → AllByRecursion (λ w. (wanted_key w).router ≡ router) (wanted_lsas stub_router router links stubs)
unfolding wanted_lsas
wanted_own stub_router router links stubs =
    (refl, all_networks (λ w. (wanted_key w).router ≡ router) router links (every (λ l. (wanted_key (network_of router l)).router ≡ router) (network_router router) links))

-- ---- each is alone of its key

other_key : (a b : LsaKey) → (a ≡ b → ⊥) → same_key a b ≡ false
other_key a b differ = elim (bool_cases (same_key a b)) [ inl one ↦ absurd (differ (same_key-eq a b one)) | inr two ↦ two ]

other_address : (router : RouterId) (l o : LinkValue) → o.iface.settings.address.0 ≢ l.iface.settings.address.0 → same_key (wanted_key (network_of router l)) (wanted_key (network_of router o)) ≡ false
unfolding network_of
other_address router l o differ = other_key _ _ (λ same. differ (sym (ap (λ (k : LsaKey). k.id) same)))

other_kind : (router : RouterId) (own : List Link) (l : LinkValue) → same_key (wanted_key (RouterLsa router own)) (wanted_key (network_of router l)) ≡ false
unfolding network_of
other_kind router own l = other_key _ _ (λ same. let kinds : Router ≡ Network = ap (λ (k : LsaKey). k.kind) same in cc)

pub map_all : {X : Type 0} → (P Q : X → Type 0) → ((x : X) → P x → Q x) → (xs : List X) → AllByRecursion P xs → AllByRecursion Q xs
map_all P Q to [] all = tt
map_all P Q to (x ∷ xs) all = (to x all.0, map_all P Q to xs all.1)

found_first : (w : WantedValue) (ws : List WantedValue) → wanted_of (w ∷ ws) (wanted_key w) ≡ Some w
found_first w ws = let one = same_key-refl (wanted_key w) in rw one refl

found_later : (w v : WantedValue) (ws : List WantedValue) → wanted_of ws (wanted_key v) ≡ Some v → same_key (wanted_key w) (wanted_key v) ≡ false → wanted_of (w ∷ ws) (wanted_key v) ≡ Some v
found_later w v ws found apart = rw apart found

-- one in front of others, each alone of its key
alone_in_front : (w : WantedValue) (ws : List WantedValue) → AllByRecursion (λ v. wanted_of ws (wanted_key v) ≡ Some v) ws → AllByRecursion (λ v. same_key (wanted_key w) (wanted_key v) ≡ false) ws
    → AllByRecursion (λ v. wanted_of (w ∷ ws) (wanted_key v) ≡ Some v) (w ∷ ws)
alone_in_front w ws found apart =
    (found_first w ws, all_with (λ v. wanted_of ws (wanted_key v) ≡ Some v) (λ v. same_key (wanted_key w) (wanted_key v) ≡ false) (λ v. wanted_of (w ∷ ws) (wanted_key v) ≡ Some v) ws (λ v. found_later w v ws) found apart)

alone_if : (b : Bool) (w : WantedValue) (ws : List WantedValue) → AllByRecursion (λ v. wanted_of ws (wanted_key v) ≡ Some v) ws → AllByRecursion (λ v. same_key (wanted_key w) (wanted_key v) ≡ false) ws
    → AllByRecursion (λ v. wanted_of (one_if b w ++ ws) (wanted_key v) ≡ Some v) (one_if b w ++ ws)
unfolding one_if
alone_if true w ws found apart = alone_in_front w ws found apart
alone_if false w ws found apart = found

networks_alone : (router : RouterId) (links : List LinkValue) → AreApart links
    → AllByRecursion (λ v. wanted_of (networks router links) (wanted_key v) ≡ Some v) (networks router links)
networks_alone router [] apart = tt
networks_alone router (l ∷ ls) apart =
    let rest = networks router ls in
    subst (λ (n : List WantedValue). AllByRecursion (λ v. wanted_of n (wanted_key v) ≡ Some v) n) (sym (networks-step router l ls))
    (alone_if (is_dr_of l) (network_of router l) rest (networks_alone router ls apart.1)
    (all_networks (λ v. same_key (wanted_key (network_of router l)) (wanted_key v) ≡ false) router ls
    (map_all (λ o. o.iface.settings.address.0 ≢ l.iface.settings.address.0) (λ o. same_key (wanted_key (network_of router l)) (wanted_key (network_of router o)) ≡ false) (other_address router l) ls apart.0)))

pub wanted_alone : (stub_router : Bool) (router : RouterId) (links : List LinkValue) (stubs : List StubNetwork) → AreApart links
    → AllByRecursion (λ v. wanted_of (wanted_lsas stub_router router links stubs) (wanted_key v) ≡ Some v) (wanted_lsas stub_router router links stubs)
unfolding wanted_lsas
wanted_alone stub_router router links stubs apart =
    let own = own_links stub_router links stubs in
    alone_in_front (RouterLsa router own) (networks router links) (networks_alone router links apart)
    (all_networks (λ v. same_key (wanted_key (RouterLsa router own)) (wanted_key v) ≡ false) router links
    (every (λ l. same_key (wanted_key (RouterLsa router own)) (wanted_key (network_of router l)) ≡ false) (other_kind router own) links))
