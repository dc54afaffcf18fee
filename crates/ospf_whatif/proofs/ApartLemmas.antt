-- A link fails with one subnet alone.
use Rattle.std.proofs.Common.{◌≡◌, ◌⊎◌, ◌∙◌, ◌<◌, ◌≤◌, ◌-◌, ◌^◌, ◌&&◌, ◌∷◌, [], ℕ, true, false, not, eqb, eq-eqb, eqb-true, List, refl, sym, ap, subst, inl, inr, arith, bit_and, ltb}
use Rattle.std.proofs.Math.Pow.{pow-lt}
use Rattle.std.proofs.lemmas.Bool.{and_from, and_parts, cases_order, lt-ltb, ltb-true, not-true, or_cases}
use Rattle.std.proofs.lemmas.List.Elements.{Contains-append_left, Contains-append_right}
use Rattle.std.proofs.lemmas.Nat.Bits.{and_high_mask_twice}
use Rattle.std.specs.List.{Contains, filter, list_any}
use Rattle.ospf_base.specs.Masks.{mask_of}
use Rattle.ospf_base.specs.Prefixes.{Holds, IsPrefixOf}
use Rattle.ospf_base.specs.declared.ids.RouterId.{RouterId}
use Rattle.ospf_base.specs.declared.prefix.Prefix.{Prefix}
use Rattle.ospf_base.proofs.PrefixLaws.{mask_injective, prefix_same}
use Rattle.ospf_lsa.specs.declared.link.Link.{Link}
use Rattle.ospf_lsa.specs.declared.link.LinkKind.{LinkKind}
use Rattle.ospf_lsa.specs.declared.link.LinkKind.TheVariants as kind
use Rattle.ospf_graph.specs.EdgeLists.Addresses.{links_by}
use Rattle.ospf_graph.specs.Advertisements.{Advertisement, HasLink}
use Rattle.ospf_graph.proofs.ListLemmas.{bool_cases, member_head}
use Rattle.ospf_whatif.specs.Failure.{inner_of, is_of_subnet, is_stub_of, is_wire_end, takes, takes_in}
use Rattle.ospf_whatif.specs.Single.{IsFailure, IsInterfaceIndex, IsUnnumbered, IsWire}
use Rattle.ospf_whatif.specs.Subnets.{indices, is_address, is_end_in, is_held, is_inside, is_link_in, is_link_to, is_same_stub, is_shared_stub}
use Rattle.ospf_whatif.specs.declared.failure.AreaFailure.TheVariants as fails
use Rattle.ospf_whatif.proofs.LessLemmas.{of_kept}
use Rattle.ospf_whatif.proofs.SubnetLemmas.{any_member, is_inner, member_by}

-- ---- masks

small_power : (k : ℕ) → k ≤ 32 → 2 ^ k ≤ 2 ^ 32
small_power k le = elim (cases_order k 32) [
  | inl same ↦ rw same (omega arith)
  | inr far ↦ elim far [ inl less ↦ (let lt : 2 ^ k < 2 ^ 32 = pow-lt less in omega arith) | inr more ↦ absurd (omega arith) ]
]

mask_below : (n m : ℕ) → n < m → m ≤ 32 → mask_of n < mask_of m
mask_below n m lt le =
    let less : 2 ^ (32 - m) < 2 ^ (32 - n) = pow-lt (omega arith) in
    let low : 2 ^ (32 - n) ≤ 2 ^ 32 = small_power (32 - n) (omega arith) in
    omega arith

twice : (address n m : ℕ) → n < m → m ≤ 32 → bit_and (bit_and address (mask_of m)) (mask_of n) ≡ bit_and address (mask_of n)
twice address n m lt le = and_high_mask_twice 32 (32 - n) (omega arith) address (32 - m) (omega arith)

-- ---- an address in two subnets of links between two routers

module _ (A : List Advertisement) (a b : RouterId) (s t : Prefix) (x : ℕ) (less : s.length < t.length) (in_s : Holds s x) (in_t : Holds t x) where
  abbrev mine : List Link
  mine = links_by a A

  abbrev theirs : List Link
  theirs = links_by b A

  -- the longer subnet lies inside the other
  inside : (stub : Link) → IsPrefixOf stub.id stub.link_data t → is_inside s stub ≡ true
  inside stub of =
      let longer : mask_of s.length < stub.link_data = subst (λ n. mask_of s.length < n) (sym of.mask_is) (mask_below s.length t.length less t.short) in
      let under : bit_and stub.id (mask_of t.length) ≡ bit_and x (mask_of t.length) = ap (λ m. bit_and stub.id m) (sym of.mask_is) ∙ sym of.masked ∙ sym in_t in
      let address : bit_and stub.id (mask_of s.length) ≡ s.address.0 =
      sym (twice stub.id s.length t.length less t.short) ∙ ap (λ n. bit_and n (mask_of s.length)) under ∙ twice x s.length t.length less t.short ∙ in_s in
      and_from (ltb (mask_of s.length) stub.link_data) (eqb (bit_and stub.id (mask_of s.length)) s.address.0) (lt-ltb _ _ longer) (eq-eqb _ _ address)

  -- an address of it lies in the stub
  in_stub : (stub : Link) → IsPrefixOf stub.id stub.link_data t → (address : ℕ) → Holds t address → is_held stub address ≡ true
  in_stub stub of address holds = eq-eqb _ _ (ap (λ m. bit_and address m) of.mask_is ∙ holds ∙ of.masked)

  caught : (stub : Link) → IsPrefixOf stub.id stub.link_data t → Contains (inner_of (fails.Link a b s) A) stub → is_of_subnet (inner_of (fails.Link a b s) A) s x ≡ true → ⊥
  caught stub of m is =
      let inner = inner_of (fails.Link a b s) A in
      let w = and_parts (eqb (bit_and x (mask_of s.length)) s.address.0) (not (list_any (λ stub. is_held stub x) inner)) is in
      let some : list_any (λ stub. is_held stub x) inner ≡ true = any_member (λ (stub : Link). is_held stub x) inner stub m (in_stub stub of x in_t) in
      let none : list_any (λ stub. is_held stub x) inner ≡ false = not-true _ w.1 in
      cc

  of_address : (address : ℕ) → (IsInterfaceIndex address → ⊥) → is_address address ≡ true
  of_address address numbered = elim (bool_cases (ltb address 0x1000000)) [ inl low ↦ absurd (numbered (ltb-true _ _ low)) | inr high ↦ rw high refl ]

  -- a router with a stub of the subnet and a link in it to the other
  end_at : (stub : Link) → IsPrefixOf stub.id stub.link_data t → (r other : RouterId) (id mask metric : ℕ) → HasLink A r kind.Stub id mask metric → IsPrefixOf id mask t
      → (address cost : ℕ) → HasLink A r kind.PointToPoint other.0 address cost → (IsInterfaceIndex address → ⊥) → Holds t address → is_end_in stub other (links_by r A) ≡ true
  end_at stub of r other id mask metric h told address cost link numbered holds =
      let one : Link = record { id = id; link_data = mask; kind = kind.Stub; metric = metric } in
      let two : Link = record { id = other.0; link_data = address; kind = kind.PointToPoint; metric = cost } in
      let masks : mask ≡ stub.link_data = told.mask_is ∙ sym of.mask_is in
      let ids : bit_and id stub.link_data ≡ bit_and stub.id stub.link_data = ap (λ m. bit_and id m) (sym masks) ∙ sym told.masked ∙ of.masked in
      let same : is_same_stub stub one ≡ true = and_from (eqb mask stub.link_data) (is_held stub id) (eq-eqb _ _ masks) (eq-eqb _ _ ids) in
      let leads : is_link_in stub other two ≡ true =
      and_from (eqb other.0 other.0) (is_address address && is_held stub address) (eq-eqb _ _ refl)
      (and_from (is_address address) (is_held stub address) (of_address address numbered) (in_stub stub of address holds)) in
      and_from (list_any (is_same_stub stub) (links_by r A)) (list_any (is_link_in stub other) (links_by r A))
      (any_member (is_same_stub stub) (links_by r A) one (member_by r A h.links one h.listed h.link_in) same)
      (any_member (is_link_in stub other) (links_by r A) two (member_by r A link.links two link.listed link.link_in) leads)

  wire_caught : IsWire A a b t → is_of_subnet (inner_of (fails.Link a b s) A) s x ≡ true → ⊥
  wire_caught w is =
      let here = w.shared.told_here in
      let there = w.shared.told_there in
      let stub : Link = record { id = here.0; link_data = here.1; kind = kind.Stub; metric = w.shared.metric } in
      let of : IsPrefixOf stub.id stub.link_data t = here.3 in
      let near : is_end_in stub b mine ≡ true = end_at stub of a b here.0 here.1 w.shared.metric here.2 of w.address w.cost w.edge.0 w.shared.numbered w.shared.here in
      let far : is_end_in stub a theirs ≡ true =
      end_at stub of b a there.0 there.1 w.shared.other_metric there.2 there.3 w.shared.other_address w.shared.cost w.shared.back.0 w.shared.numbered_back w.shared.there in
      let shared : is_shared_stub a b mine theirs stub ≡ true = and_from (is_end_in stub a theirs) (is_end_in stub b mine) far near in
      let m : Contains mine stub = member_by a A here.2.links stub here.2.listed here.2.link_in in
      let kept = of_kept (is_inner s a b mine theirs) mine stub m (and_from (is_inside s stub) (is_shared_stub a b mine theirs stub) (inside stub of) shared) in
      caught stub of (Contains-append_left (filter (is_inner s a b mine theirs) mine) (filter (is_inside s) (indices ∷ [])) stub kept) is

  index_caught : IsUnnumbered A a b t → is_of_subnet (inner_of (fails.Link a b s) A) s x ≡ true → ⊥
  index_caught w is =
      let mask : 0xFF000000 ≡ mask_of t.length = subst (λ n. 0xFF000000 ≡ mask_of n) (sym w.indices.of_eight) refl in
      let of : IsPrefixOf 0 0xFF000000 t = record { mask_is = mask; masked = w.indices.from_zero } in
      let kept = of_kept (is_inside s) (indices ∷ []) indices (member_head indices []) (inside indices of) in
      caught indices of (Contains-append_right (filter (is_inner s a b mine theirs) mine) (filter (is_inside s) (indices ∷ [])) indices kept) is

  not_longer : IsFailure A (fails.Link a b t) → is_of_subnet (inner_of (fails.Link a b s) A) s x ≡ true → ⊥
  not_longer (inl wire) is = wire_caught wire is
  not_longer (inr index) is = index_caught index is

-- ---- a link

stub_parts : (k : LinkKind) (id link_data metric : ℕ) (p : Prefix) → is_stub_of (record { id = id; link_data = link_data; kind = k; metric = metric }) p ≡ true
    → (link_data ≡ mask_of p.length) × (bit_and id (mask_of p.length) ≡ p.address.0)
stub_parts kind.PointToPoint id link_data metric p is = absurd (cc)
stub_parts kind.Transit id link_data metric p is = absurd (cc)
stub_parts kind.Virtual id link_data metric p is = absurd (cc)
stub_parts kind.Stub id link_data metric p is =
    let w = and_parts (eqb link_data (mask_of p.length)) (eqb (bit_and id (mask_of p.length)) p.address.0) is in (eqb-true _ _ w.0, eqb-true _ _ w.1)

two_kinds : (k : LinkKind) (id link_data metric : ℕ) (r : RouterId) (p : Prefix) → is_link_to (record { id = id; link_data = link_data; kind = k; metric = metric }) r ≡ true
    → is_stub_of (record { id = id; link_data = link_data; kind = k; metric = metric }) p ≡ true → ⊥
two_kinds kind.PointToPoint id link_data metric r p to is = cc
two_kinds kind.Transit id link_data metric r p to is = cc
two_kinds kind.Virtual id link_data metric r p to is = cc
two_kinds kind.Stub id link_data metric r p to is = cc

-- a link that a failure takes leads out of its subnet, or to it
abbrev Leaves : List Link → Prefix → Link → Type 0
Leaves inner p l = ((r : RouterId) × (is_link_to l r ≡ true) × (is_of_subnet inner p l.link_data ≡ true)) ⊎ (is_stub_of l p ≡ true)

end_leaves : (inner : List Link) (l : Link) (r : RouterId) (p : Prefix) → is_wire_end inner l r p ≡ true → Leaves inner p l
end_leaves inner l r p is =
    elim (or_cases (is_link_to l r && is_of_subnet inner p l.link_data) (is_stub_of l p) is) [
      | inl out ↦ (let w = and_parts (is_link_to l r) (is_of_subnet inner p l.link_data) out in inl (r, w.0, w.1))
      | inr stub ↦ inr stub
    ]

leaves : (inner : List Link) (a b router : RouterId) (p : Prefix) (l : Link) → takes inner (fails.Link a b p) router l ≡ true → Leaves inner p l
leaves inner a b router p l is =
    elim (or_cases (eqb router.0 a.0 && is_wire_end inner l b p) (eqb router.0 b.0 && is_wire_end inner l a p) is) [
      | inl one ↦ end_leaves inner l b p (and_parts (eqb router.0 a.0) (is_wire_end inner l b p) one).1
      | inr two ↦ end_leaves inner l a p (and_parts (eqb router.0 b.0) (is_wire_end inner l a p) two).1
    ]

holds_of : (inner : List Link) (p : Prefix) (x : ℕ) → is_of_subnet inner p x ≡ true → Holds p x
holds_of inner p x is = eqb-true _ _ (and_parts (eqb (bit_and x (mask_of p.length)) p.address.0) (not (list_any (λ stub. is_held stub x) inner)) is).0

pub links_fail_apart : (A : List Advertisement) (a b router : RouterId) (s t : Prefix) (l : Link) → IsFailure A (fails.Link a b s) → IsFailure A (fails.Link a b t)
    → takes_in A (fails.Link a b s) router l ≡ true → takes_in A (fails.Link a b t) router l ≡ true → s ≡ t
links_fail_apart A a b router s t l fs ft one two = go (leaves (inner_of (fails.Link a b s) A) a b router s l one) (leaves (inner_of (fails.Link a b t) A) a b router t l two)
  where
    go : Leaves (inner_of (fails.Link a b s) A) s l → Leaves (inner_of (fails.Link a b t) A) t l → s ≡ t
    go (inl p) (inl q) =
        let in_s : Holds s l.link_data = holds_of (inner_of (fails.Link a b s) A) s l.link_data p.2 in
        let in_t : Holds t l.link_data = holds_of (inner_of (fails.Link a b t) A) t l.link_data q.2 in
        elim (cases_order s.length t.length) [
          | inl same ↦ prefix_same s t (sym in_s ∙ ap (λ n. bit_and l.link_data (mask_of n)) same ∙ in_t) same
          | inr far ↦ elim far [
            | inl less ↦ absurd (not_longer A a b s t l.link_data less in_s in_t ft p.2)
            | inr more ↦ absurd (not_longer A a b t s l.link_data more in_t in_s fs q.2)
          ]
        ]
    go (inl p) (inr stub) = absurd (two_kinds l.kind l.id l.link_data l.metric p.0 t p.1 stub)
    go (inr stub) (inl q) = absurd (two_kinds l.kind l.id l.link_data l.metric q.0 s q.1 stub)
    go (inr u) (inr v) =
        let m = stub_parts l.kind l.id l.link_data l.metric s u in
        let n = stub_parts l.kind l.id l.link_data l.metric t v in
        let lengths : s.length ≡ t.length = mask_injective s.length t.length s.short t.short (sym m.0 ∙ n.0) in
        prefix_same s t (sym m.1 ∙ ap (λ k. bit_and l.id (mask_of k)) lengths ∙ n.1) lengths
