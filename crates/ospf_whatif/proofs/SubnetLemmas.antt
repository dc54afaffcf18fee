-- The subnets of the links between two routers, read from lists with the same elements.
use Rattle.std.proofs.Common.{◌≡◌, ◌∙◌, ◌↔◌, ◌<◌, ◌&&◌, ◌||◌, ◌∷◌, [], ℕ, Bool, true, false, not, eqb, eq-eqb, eqb-true, IfOk, List, Result, length, map, refl, sym, ap, subst, inl, inr, arith, bit_and}
use Rattle.std.proofs.lemmas.Bool.{or_cases, or_left, or_right}
use Rattle.std.proofs.lemmas.List.Elements.{Contains-append_cases, Contains-append_left, Contains-append_right}
use Rattle.std.specs.List.{AllZip, Contains, filter, list_any}
use Rattle.std.specs.Prelude.{Vec}
use Rattle.std.specs.declared.alloc.AllocError.{AllocError}
use Rattle.std.specs.declared.alloc.Global.{Global}
use Rattle.ospf_base.specs.Masks.{mask_of}
use Rattle.ospf_base.specs.declared.ids.RouterId.{RouterId}
use Rattle.ospf_base.specs.declared.prefix.Prefix.{Prefix}
use Rattle.ospf_lsa.specs.declared.link.Link.{Link}
use Rattle.ospf_graph.specs.EdgeLists.Addresses.{links_by}
use Rattle.ospf_graph.specs.EdgeLists.Near.{AreLinksBy}
use Rattle.ospf_graph.specs.Advertisements.{Advertisement, router_lsa, network_lsa, IsListed}
use Rattle.ospf_graph.proofs.ListLemmas.{bool_cases, member_cases, member_head, member_later}
use Rattle.ospf_whatif.specs.Failure.{HasLeftLarge, HasLeftLargeBy, IsLeftBy, IsLeftLarge, IsLeftLsa, inner_of, is_of_subnet, is_stub_of, kept_links, left_of_lsa, takes, without}
use Rattle.ospf_whatif.specs.Subnets.{HaveSame, indices, inner_between, is_end_in, is_held, is_inside, is_link_in, is_link_to, is_same_stub, is_shared_stub, is_stub_link}
use Rattle.ospf_whatif.specs.declared.failure.AreaFailure.{AreaFailure}
use Rattle.ospf_whatif.specs.declared.failure.AreaFailure.TheVariants as fails
use Rattle.ospf_whatif.proofs.LessLemmas.{kept_of, of_kept}
use Rattle.ospf_whatif.proofs.WithoutLemmas.{IfOk-map}

-- ---- a test of some element

pub any_member : {X : Type 0} (p : X → Bool) (xs : List X) (x : X) → Contains xs x → p x ≡ true → list_any p xs ≡ true
any_member p [] x m t = absurd (omega (arith, m.1))
any_member p (y ∷ ys) x m t = elim (member_cases y ys x m) [
  | inl is ↦ or_left (p y) (list_any p ys) (ap p is ∙ t)
  | inr rest ↦ or_right (p y) (list_any p ys) (any_member p ys x rest t)
]

pub member_any : {X : Type 0} (p : X → Bool) (xs : List X) → list_any p xs ≡ true → (x : X) × Contains xs x × (p x ≡ true)
member_any p [] t = absurd (let no : false ≡ true = t in cc)
member_any p (y ∷ ys) t = elim (or_cases (p y) (list_any p ys) t) [
  | inl here ↦ (y, member_head y ys, here)
  | inr rest ↦ (let r = member_any p ys rest in (r.0, member_later y ys r.0 r.1, r.2))
]

bool_same : (b c : Bool) → (b ≡ true → c ≡ true) → (c ≡ true → b ≡ true) → b ≡ c
bool_same true c there back = sym (there refl)
bool_same false true there back = back refl
bool_same false false there back = refl

any_same : {X : Type 0} (p : X → Bool) (xs ys : List X) → ((x : X) → Contains xs x ↔ Contains ys x) → list_any p xs ≡ list_any p ys
any_same p xs ys same =
    bool_same (list_any p xs) (list_any p ys)
    (λ t. let m = member_any p xs t in any_member p ys m.0 ((same m.0).0 m.1) m.2)
    (λ t. let m = member_any p ys t in any_member p xs m.0 ((same m.0).1 m.1) m.2)

-- ---- what a failure takes

of_same : (xs ys : List Link) → HaveSame xs ys → (subnet : Prefix) (link_data : ℕ) → is_of_subnet xs subnet link_data ≡ is_of_subnet ys subnet link_data
of_same xs ys same subnet link_data =
    ap (λ (b : Bool). eqb (bit_and link_data (mask_of subnet.length)) subnet.address.0 && not b) (any_same (λ (stub : Link). is_held stub link_data) xs ys same)

module _ (xs ys : List Link) where
  takes_same : (f : AreaFailure) → HaveSame xs ys → (r : RouterId) (l : Link) → takes xs f r l ≡ takes ys f r l
  takes_same (fails.Link a b subnet) same r l =
      ap (λ (o : Bool). (eqb r.0 a.0 && ((is_link_to l b && o) || is_stub_of l subnet)) || (eqb r.0 b.0 && ((is_link_to l a && o) || is_stub_of l subnet)))
      (of_same xs ys same subnet l.link_data)
  takes_same (fails.End a b subnet) same r l =
      ap (λ (o : Bool). (eqb r.0 a.0 && ((is_link_to l b && o) || is_stub_of l subnet)) || (eqb r.0 b.0 && (is_link_to l a && o)))
      (of_same xs ys same subnet l.link_data)
  takes_same (fails.Links a b) same r l = refl
  takes_same (fails.Attachment q n) same r l = refl
  takes_same (fails.Network n) same r l = refl
  takes_same (fails.Router gone) same r l = refl
  takes_same (fails.Stub q p) same r l = refl

  module _ (f : AreaFailure) (same : HaveSame xs ys) where
    kept_same : kept_links xs f ≡ kept_links ys f
    kept_same = λ i r links. filter (λ (l : Link). not (takes_same f same r l i)) links

    lsa_same : (advert : Advertisement) → left_of_lsa xs f advert ≡ left_of_lsa ys f advert
    lsa_same (router_lsa r links) = λ i. router_lsa r (kept_same i r links)
    lsa_same (network_lsa n r mask attached) = refl

    pub left_same : (A : List Advertisement) → map (left_of_lsa xs f) A ≡ map (left_of_lsa ys f) A
    left_same A = λ i. map (λ advert. lsa_same advert i) A

    large_as : (advert : Advertisement) → IsLeftLarge xs f advert → IsLeftLarge ys f advert
    large_as (router_lsa r links) large =
        subst (λ (keep : RouterId → List Link → List Link). (keep r links ≡ links → ⊥) × (1361 < length (keep r links))) kept_same large
    large_as (network_lsa n r mask attached) large = large

    has_large_as : (A : List Advertisement) → HasLeftLargeBy xs f A → HasLeftLargeBy ys f A
    has_large_as A large = (large.0, large.1, large_as large.0 large.2)

back : (xs ys : List Link) → HaveSame xs ys → HaveSame ys xs
back xs ys same l = ((same l).1, (same l).0)

-- ---- the listing that is left, by lists with the same elements

module _ (inner : List Link) (f : AreaFailure) (A : List Advertisement) (same : HaveSame inner (inner_of f A)) where
  pub listing_same : map (left_of_lsa inner f) A ≡ without f A
  unfolding without
  listing_same = left_same inner (inner_of f A) f same A

  pub bytes_same : (before after : List (List ℕ)) → AllZip (IsLeftBy (kept_links inner f)) before after → AllZip (IsLeftLsa A (f ∷ [])) before after
  bytes_same before after are =
      subst (λ (keep : RouterId → List Link → List Link). AllZip (IsLeftBy keep) before after) (kept_same inner (inner_of f A) f same) are

  pub large_same : HasLeftLargeBy inner f A → HasLeftLarge f A
  large_same large = has_large_as inner (inner_of f A) f same A large

  pub small_same : (HasLeftLargeBy inner f A → ⊥) → HasLeftLarge f A → ⊥
  small_same small large = small (has_large_as (inner_of f A) inner f (back inner (inner_of f A) same) A large)

-- ---- the subnets of two routers

end_same : (stub : Link) (other : RouterId) (xs ys : List Link) → HaveSame xs ys → is_end_in stub other xs ≡ is_end_in stub other ys
end_same stub other xs ys same = λ i. any_same (is_same_stub stub) xs ys same i && any_same (is_link_in stub other) xs ys same i

module _ (subnet : Prefix) (a b : RouterId) where
  abbrev pub is_inner : List Link → List Link → Link → Bool
  is_inner mine theirs l = is_inside subnet l && is_shared_stub a b mine theirs l

  test_same : (mine mine' theirs theirs' : List Link) → HaveSame mine mine' → HaveSame theirs theirs' → (l : Link) → is_inner mine theirs l ≡ is_inner mine' theirs' l
  test_same mine mine' theirs theirs' sm st l = λ i. is_inside subnet l && (is_stub_link l && (end_same l a theirs theirs' st i && end_same l b mine mine' sm i))

  between : (mine mine' theirs theirs' : List Link) → HaveSame mine mine' → HaveSame theirs theirs' → (l : Link)
      → Contains (inner_between subnet a b mine theirs) l → Contains (inner_between subnet a b mine' theirs') l
  between mine mine' theirs theirs' sm st l m =
      elim (Contains-append_cases (filter (is_inner mine theirs) mine) (filter (is_inside subnet) (indices ∷ [])) l m) [
        | inl one ↦
            (let k = kept_of (is_inner mine theirs) mine l one in
            Contains-append_left (filter (is_inner mine' theirs') mine') (filter (is_inside subnet) (indices ∷ [])) l
            (of_kept (is_inner mine' theirs') mine' l ((sm l).0 k.0) (sym (test_same mine mine' theirs theirs' sm st l) ∙ k.1)))
        | inr two ↦ Contains-append_right (filter (is_inner mine' theirs') mine') (filter (is_inside subnet) (indices ∷ [])) l two
      ]

  pub between_same : (mine mine' theirs theirs' : List Link) → HaveSame mine mine' → HaveSame theirs theirs'
      → HaveSame (inner_between subnet a b mine theirs) (inner_between subnet a b mine' theirs')
  between_same mine mine' theirs theirs' sm st l =
      (between mine mine' theirs theirs' sm st l, between mine' mine theirs' theirs (back mine mine' sm) (back theirs theirs' st) l)

-- ---- the links of a router

same_router : (q r : RouterId) → eqb q.0 r.0 ≡ true → q ≡ r
same_router q r t = let same : q.0 ≡ r.0 = eqb-true q.0 r.0 t in λ i. record { 0 = same i }

pub by_member : (r : RouterId) (A : List Advertisement) (l : Link) → Contains (links_by r A) l → (links : List Link) × Contains A (router_lsa r links) × Contains links l
by_member r [] l m = absurd (omega (arith, m.1))
by_member r (router_lsa q links ∷ rest) l m =
    elim (bool_cases (eqb q.0 r.0)) [
      | inl t ↦ elim (Contains-append_cases links (links_by r rest) l (rw t at m)) [
        | inl here ↦ (links, subst (λ (x : RouterId). Contains (router_lsa q links ∷ rest) (router_lsa x links)) (same_router q r t) (member_head (router_lsa q links) rest), here)
        | inr later ↦ (let w = by_member r rest l later in (w.0, member_later (router_lsa q links) rest (router_lsa r w.0) w.1, w.2))
      ]
      | inr f ↦ (let w = by_member r rest l (rw f at m) in (w.0, member_later (router_lsa q links) rest (router_lsa r w.0) w.1, w.2))
    ]
by_member r (network_lsa n q mask attached ∷ rest) l m =
    let w = by_member r rest l m in (w.0, member_later (network_lsa n q mask attached) rest (router_lsa r w.0) w.1, w.2)

pub member_by : (r : RouterId) (A : List Advertisement) (links : List Link) (l : Link) → Contains A (router_lsa r links) → Contains links l → Contains (links_by r A) l
member_by r [] links l m has = absurd (omega (arith, m.1))
member_by r (router_lsa q all ∷ rest) links l m has =
    elim (member_cases (router_lsa q all) rest (router_lsa r links) m) [
      | inl is ↦
          (let named : q ≡ r = cc in
          let are : all ≡ links = cc in
          let t : eqb q.0 r.0 ≡ true = eq-eqb _ _ (ap (λ (x : RouterId). x.0) named) in
          rw t (Contains-append_left all (links_by r rest) l (subst (λ (ls : List Link). Contains ls l) (sym are) has)))
      | inr later ↦ elim (bool_cases (eqb q.0 r.0)) [
        | inl t ↦ rw t (Contains-append_right all (links_by r rest) l (member_by r rest links l later has))
        | inr f ↦ rw f (member_by r rest links l later has)
      ]
    ]
member_by r (network_lsa n q mask attached ∷ rest) links l m has =
    elim (member_cases (network_lsa n q mask attached) rest (router_lsa r links) m) [ inl is ↦ absurd (cc) | inr later ↦ member_by r rest links l later has ]

pub links_are_by : (A : List Advertisement) (r : RouterId) (links : List Link) → AreLinksBy A r links → HaveSame links (links_by r A)
links_are_by A r links are l = (
  λ m. member_by r A links l are.listed m,
  λ m. let w = by_member r A l m in subst (λ (ls : List Link). Contains ls l) (are.only w.0 w.1) w.2,
)

pub none_are_by : (A : List Advertisement) (r : RouterId) → (IsListed A r → ⊥) → (links : List Link) → links ≡ [] → HaveSame links (links_by r A)
none_are_by A r none links empty l = (
  λ m. absurd (let low = subst (λ (ls : List Link). Contains ls l) empty m in let under = low.1 in omega arith),
  λ m. absurd (let w = by_member r A l m in none (w.0, w.1)),
)

-- ---- those of a failure

module _ (f : AreaFailure) (A : List Advertisement) where
  pub inner_of_link : (a b : RouterId) (subnet : Prefix) (found : Result (Vec Link Global) AllocError) → f ≡ fails.Link a b subnet
      → IfOk found (λ inner. HaveSame inner.items (inner_between subnet a b (links_by a A) (links_by b A))) → IfOk found (λ inner. HaveSame inner.items (inner_of f A))
  inner_of_link a b subnet found is are =
      subst (λ (g : AreaFailure). IfOk found (λ (inner : Vec Link Global). HaveSame inner.items (inner_of g A))) (sym is) are

  pub inner_of_end : (a b : RouterId) (subnet : Prefix) (found : Result (Vec Link Global) AllocError) → f ≡ fails.End a b subnet
      → IfOk found (λ inner. HaveSame inner.items (inner_between subnet a b (links_by a A) (links_by b A))) → IfOk found (λ inner. HaveSame inner.items (inner_of f A))
  inner_of_end a b subnet found is are =
      subst (λ (g : AreaFailure). IfOk found (λ (inner : Vec Link Global). HaveSame inner.items (inner_of g A))) (sym is) are

  pub inner_of_other : (g : AreaFailure) → f ≡ g → inner_of g A ≡ [] → (inner : List Link) → inner ≡ [] → HaveSame inner (inner_of f A)
  inner_of_other g is none inner empty l =
      let same : inner ≡ inner_of f A = empty ∙ sym none ∙ ap (λ (h : AreaFailure). inner_of h A) (sym is) in
      (λ m. subst (λ (ls : List Link). Contains ls l) same m, λ m. subst (λ (ls : List Link). Contains ls l) (sym same) m)

-- those of lists with the same elements as the links of the two routers
pub between_as : (subnet : Prefix) (a b : RouterId) (mine mine' theirs theirs' seen seen' : List Link) (found : Result (Vec Link Global) AllocError)
    → seen ≡ mine → seen' ≡ theirs → HaveSame mine mine' → HaveSame theirs theirs'
    → IfOk found (λ inner. inner.items ≡ inner_between subnet a b seen seen') → IfOk found (λ inner. HaveSame inner.items (inner_between subnet a b mine' theirs'))
between_as subnet a b mine mine' theirs theirs' seen seen' found one two sm st are =
    IfOk-map found _ _ are
    (λ inner is.
    let same : inner.items ≡ inner_between subnet a b mine theirs = is ∙ (λ i. inner_between subnet a b (one i) (two i)) in
    subst (λ (l : List Link). HaveSame l (inner_between subnet a b mine' theirs')) (sym same) (between_same subnet a b mine mine' theirs theirs' sm st))
