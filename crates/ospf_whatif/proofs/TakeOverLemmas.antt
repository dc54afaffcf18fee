-- Another router becomes the Designated Router of a network, and what a router on the network wants then.
use Rattle.std.proofs.Common.{◌≡◌, ◌++◌, ◌∷◌, [], ℕ, Bool, List, map, refl, sym, ap, ◌∙◌}
use Rattle.std.specs.List.{AllByRecursion}
use Rattle.std.proofs.lemmas.List.Concat.{flat_map-append}
use Rattle.ospf_base.specs.declared.stub_network.StubNetwork.{StubNetwork}
use Rattle.ospf_lsa.specs.declared.link.Link.{Link}
use Rattle.ospf_area.specs.State.{LinkValue}
use Rattle.ospf_originate.specs.Wants.Wanted.{stub_link, interface_links, links_of_link, network_link, own_links}
use Rattle.ospf_originate.proofs.Wants.Words.{links_of_kind, through_metric}
use Rattle.ospf_originate.proofs.Wants.SaidLemmas.{up_is}
use Rattle.ospf_whatif.specs.Renamed.{renamed_link}
use Rattle.ospf_whatif.specs.Wanted.{IsOnTransit, KeepTheirNames}

names_kept : (name : ℕ → ℕ) (xs : List Link) → AllByRecursion (λ l. renamed_link name l ≡ l) xs → map (renamed_link name) xs ≡ xs
names_kept name [] all = refl
names_kept name (l ∷ rest) all = λ i. all.0 i ∷ names_kept name rest all.1 i

map_join : (name : ℕ → ℕ) (xs ys : List Link) → map (renamed_link name) (xs ++ ys) ≡ map (renamed_link name) xs ++ map (renamed_link name) ys
map_join name [] ys = refl
map_join name (l ∷ rest) ys = ap (λ more. renamed_link name l ∷ more) (map_join name rest ys)

-- what an interface on a transit network makes
one_link : (stub_router : Bool) (l : LinkValue) → IsOnTransit l → links_of_link stub_router l ≡ network_link stub_router l ∷ []
one_link stub_router l on =
    let transit = on.transit in
    up_is stub_router l on.up ∙ ap (λ k. links_of_kind k stub_router l) on.kind_is ∙ rw transit refl

split : (stub_router : Bool) (front back : List LinkValue) (l : LinkValue)
    → interface_links stub_router (front ++ l ∷ back) ≡ interface_links stub_router front ++ (links_of_link stub_router l ++ interface_links stub_router back)
split stub_router front back l = flat_map-append (links_of_link stub_router) front (l ∷ back)

-- a stub network is no transit network
stubs_renamed : (name : ℕ → ℕ) (stubs : List StubNetwork) → map (renamed_link name) (map stub_link stubs) ≡ map stub_link stubs
stubs_renamed name [] = refl
stubs_renamed name (h ∷ hs) = ap (λ more. stub_link h ∷ more) (stubs_renamed name hs)

interfaces_renamed : (name : ℕ → ℕ) (stub_router : Bool) (front back : List LinkValue) (before after : LinkValue)
    → IsOnTransit before → IsOnTransit after → after.iface.settings ≡ before.iface.settings → after.settings ≡ before.settings
    → after.iface.dr.0 ≡ name before.iface.dr.0 → KeepTheirNames name stub_router front → KeepTheirNames name stub_router back
    → interface_links stub_router (front ++ after ∷ back) ≡ map (renamed_link name) (interface_links stub_router (front ++ before ∷ back))
interfaces_renamed name stub_router front back before after was on iface settings dr kept_front kept_back =
    let link : network_link stub_router after ≡ renamed_link name (network_link stub_router before) =
    λ i. record {
      id = dr i;
      link_data = (iface i).address.0;
      kind = (network_link stub_router before).kind;
      metric = through_metric stub_router (settings i).cost;
    } in
    let one : links_of_link stub_router after ≡ map (renamed_link name) (links_of_link stub_router before) =
    one_link stub_router after on ∙ ap (λ l. l ∷ []) link ∙ sym (ap (λ ls. map (renamed_link name) ls) (one_link stub_router before was)) in
    split stub_router front back after
    ∙ (λ i. sym (names_kept name (interface_links stub_router front) kept_front) i ++ (one i ++ sym (names_kept name (interface_links stub_router back) kept_back) i))
    ∙ sym (
    ap (λ ls. map (renamed_link name) ls) (split stub_router front back before)
    ∙ map_join name (interface_links stub_router front) (links_of_link stub_router before ++ interface_links stub_router back)
    ∙ ap (λ ls. map (renamed_link name) (interface_links stub_router front) ++ ls) (map_join name (links_of_link stub_router before) (interface_links stub_router back)))

pub designated_routers_change : (name : ℕ → ℕ) (stub_router : Bool) (front back : List LinkValue) (before after : LinkValue) (stubs : List StubNetwork)
    → IsOnTransit before → IsOnTransit after → after.iface.settings ≡ before.iface.settings → after.settings ≡ before.settings
    → after.iface.dr.0 ≡ name before.iface.dr.0 → KeepTheirNames name stub_router front → KeepTheirNames name stub_router back
    → own_links stub_router (front ++ after ∷ back) stubs ≡ map (renamed_link name) (own_links stub_router (front ++ before ∷ back) stubs)
designated_routers_change name stub_router front back before after stubs was on iface settings dr kept_front kept_back =
    (λ i. interfaces_renamed name stub_router front back before after was on iface settings dr kept_front kept_back i ++ sym (stubs_renamed name stubs) i)
    ∙ sym (map_join name (interface_links stub_router (front ++ before ∷ back)) (map stub_link stubs))
