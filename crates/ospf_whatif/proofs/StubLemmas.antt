-- The interfaces to stub networks of an area.
use Rattle.std.proofs.Common.{◌≡◌, ◌∙◌, ◌↔◌, ◌⊎◌, ◌++◌, ◌∷◌, ℕ, Bool, true, false, List, [], map, refl, sym, ap, subst, inl, inr}
use Rattle.std.specs.List.{Contains, list_any}
use Rattle.ospf_base.specs.Prefixes.{IsPrefixOf}
use Rattle.ospf_base.specs.declared.ids.RouterId.{RouterId}
use Rattle.ospf_base.specs.declared.prefix.Prefix.{Prefix}
use Rattle.ospf_base.proofs.PrefixLaws.{mask_injective, prefix_same}
use Rattle.ospf_lsa.specs.declared.link.Link.{Link}
use Rattle.ospf_graph.specs.Adds.{Adds}
use Rattle.ospf_graph.specs.Advertisements.{Advertisement, router_lsa, network_lsa}
use Rattle.ospf_graph.specs.EdgeLists.Listed.{advertisement_of, advertisements_of}
use Rattle.ospf_graph.specs.declared.graph.Vertex.TheVariants as vertex
use Rattle.ospf_graph.proofs.EdgeLists.AddsLemmas.{adds_push}
use Rattle.ospf_graph.proofs.ListLemmas.{member_of_map, member_to_map}
use Rattle.ospf_whatif.specs.Failure.{inner_of, without}
use Rattle.ospf_whatif.specs.Laws.{NoStubIsForgotten, StubsFailAlone}
use Rattle.ospf_whatif.specs.Single.{AreFailures, GivenBy}
use Rattle.ospf_whatif.specs.Stubs.{AreAllFailures, IsAnyFailure, IsLoneStubLink, IsStubFailure, StubGiven, StubGivenBy, is_subnet_of}
use Rattle.ospf_whatif.specs.declared.failure.AreaFailure.{AreaFailure}
use Rattle.ospf_whatif.specs.declared.failure.AreaFailure.TheVariants as fails
use Rattle.ospf_whatif.proofs.LostLemmas.{cut_or, end_goes, end_or}
use Rattle.ospf_whatif.proofs.SubnetLemmas.{member_any}

-- ---- what LSAs give

module _ (lsas : List (List ℕ)) (f : AreaFailure) where
  stub_sound : GivenBy (λ lsa. StubGivenBy (advertisement_of lsa)) lsas f → IsStubFailure (map advertisement_of lsas) f
  stub_sound g = by_lsa (advertisement_of g.0) (member_to_map advertisement_of lsas g.0 g.1) g.2
    where
      by_lsa : (x : Advertisement) → Contains (map advertisement_of lsas) x → StubGivenBy x f → IsStubFailure (map advertisement_of lsas) f
      by_lsa (router_lsa r links) at given =
          let stub = given.2 in
          (r, stub.0, record { links = links; listed = at; link = given.0; link_in = given.1; is = stub.1 }, stub.2)
      by_lsa (network_lsa n r mask attached) at given = absurd given

  stub_complete : IsStubFailure (map advertisement_of lsas) f → GivenBy (λ lsa. StubGivenBy (advertisement_of lsa)) lsas f
  stub_complete h =
      let s = h.2 in
      let m = member_of_map advertisement_of lsas (router_lsa h.0 s.links) s.listed in
      (m.0, m.1, subst (λ x. StubGivenBy x f) (sym m.2) (s.link, s.link_in, (h.1, s.is, h.3)))

pub all_are : (lsas : List (List ℕ)) (single added all : List AreaFailure) → AreFailures (advertisements_of lsas) single
    → Adds (GivenBy (λ lsa. StubGivenBy (advertisement_of lsa)) lsas) single added → ((f : AreaFailure) → Contains all f ↔ Contains added f)
    → AreAllFailures (advertisements_of lsas) all
unfolding advertisements_of
all_are lsas single added all are adds same f = (
  λ m. elim ((adds f).0 ((same f).0 m)) [ inl old ↦ inl ((are f).0 old) | inr g ↦ inr (stub_sound lsas f g) ],
  λ is. (same f).1 ((adds f).1 (elim is [ inl old ↦ inl ((are f).1 old) | inr s ↦ inr (stub_complete lsas f s) ])),
)

-- ---- what a link gives

prefix_one : (id mask : ℕ) (p q : Prefix) → IsPrefixOf id mask p → IsPrefixOf id mask q → p ≡ q
prefix_one id mask p q one two =
    prefix_same p q (one.masked ∙ sym two.masked) (mask_injective p.length q.length p.short q.short (sym one.mask_is ∙ two.mask_is))

pub stub_given : (router : RouterId) (links : List Link) (link : Link) (prefix : Prefix) → IsLoneStubLink links link prefix
    → (f : AreaFailure) → StubGiven router links link f ↔ (fails.Stub router prefix ≡ f)
stub_given router links link prefix is f = (
  λ g. let same : g.0 ≡ prefix = prefix_one link.id link.link_data g.0 prefix g.1.prefix_is is.prefix_is in sym (g.2 ∙ ap (λ (p : Prefix). fails.Stub router p) same),
  λ e. (prefix, is, sym e),
)

pub adds_stub : (router : RouterId) (links : List Link) (link : Link) (prefix : Prefix) (old : List AreaFailure) → IsLoneStubLink links link prefix
    → Adds (StubGiven router links link) old (old ++ fails.Stub router prefix ∷ [])
adds_stub router links link prefix old is = adds_push (StubGiven router links link) old (fails.Stub router prefix) (stub_given router links link prefix is)

pub given_alone : (router : RouterId) (links : List Link) (link : Link) (prefix : Prefix) → IsPrefixOf link.id link.link_data prefix
    → (IsLoneStubLink links link prefix → ⊥) → (f : AreaFailure) → StubGiven router links link f → ⊥
given_alone router links link prefix of not f g =
    let same : g.0 ≡ prefix = prefix_one link.id link.link_data g.0 prefix g.1.prefix_is of in
    not (subst (λ (p : Prefix). IsLoneStubLink links link p) same g.1)

-- ---- laws

pub no_stub_is_forgotten : NoStubIsForgotten
no_stub_is_forgotten A r links link p listed link_in is of wide = by_links (list_any (is_subnet_of links p) links) refl
  where
    by_links : (b : Bool) → list_any (is_subnet_of links p) links ≡ b
        → IsAnyFailure A (fails.Stub r p) ⊎ ((other : Link) × Contains links other × (is_subnet_of links p other ≡ true))
    by_links true some = inr (member_any (is_subnet_of links p) links some)
    by_links false none =
        inl (inr (
          r,
          p,
          record { links = links; listed = listed; link = link; link_in = link_in; is = record { stub = is; prefix_is = of; wide = wide; alone = none } },
          refl,
        ))

pub stubs_fail_alone : StubsFailAlone
unfolding without
stubs_fail_alone A r p =
    let f : AreaFailure = fails.Stub r p in
    record {
      edges_stay = λ e is. elim (cut_or (inner_of f A) f A e.from e.to e.cost e.link_data is) [ inl never ↦ absurd never | inr left ↦ left ];
      goes = λ cost left. end_goes (inner_of f A) f A p (vertex.Router r) cost (refl, refl) left;
      others_stay = λ q v cost is other. elim (end_or (inner_of f A) f A q v cost is) [ inl same ↦ absurd (other same) | inr left ↦ left ];
    }
