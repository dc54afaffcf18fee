-- What the LSA at the other end of a link tells.
use Rattle.std.proofs.Common.{Option, ◌≡◌, ◌≤◌, ◌∙◌, ◌++◌, append_assoc, reverse, ℕ, Bool, true, false, List, [], ◌∷◌, None, Some, refl, sym, ap, subst, inl, inr, arith}
use Rattle.std.proofs.lemmas.Bool.{eq-eqb, eqb-true}
use Rattle.std.proofs.lemmas.List.{reverse-append}
use Rattle.std.proofs.lemmas.List.Elements.{All-from_recursion}
use Rattle.std.proofs.lemmas.List.Folds.{find-append}
use Rattle.std.specs.List.{Contains, find}
use Rattle.std.specs.Option.{option_or}
use Rattle.std.specs.Prelude.{◌==◌, ◌&&◌}
use Rattle.std.specs.List.{AllByRecursion}
use Rattle.ospf_base.specs.Bytes.{number_at}
use Rattle.ospf_base.specs.Keys.{Precedes, ls_type}
use Rattle.ospf_base.specs.declared.ids.Kind.TheVariants as kind
use Rattle.ospf_base.specs.declared.ids.LsaKey.{LsaKey}
use Rattle.ospf_base.specs.declared.ids.RouterId.{RouterId}
use Rattle.ospf_lsa.specs.Listing.{HasKey, IsListing, IsNetworkOf, IsOfNetwork}
use Rattle.ospf_lsa.proofs.Words.{IsRising}
use Rattle.ospf_lsa.specs.Lsa.{IsNetworkLsa, IsRouterLsa, attached_of, key_of, kind_of, links_of, type_of}
use Rattle.ospf_lsa.specs.declared.fault.LsaFault.TheVariants as fault
use Rattle.ospf_lsa.proofs.ListingLemmas.{listed_in, one_key}
use Rattle.ospf_graph.proofs.EdgeLists.ListedLemmas.{keyed_router, router_key}
use Rattle.ospf_graph.proofs.ListLemmas.{bool_cases, member_cases, member_head, member_later}
use Rattle.ospf_inspect.specs.AreaDrawing.Graph.{attached_to, is_lsa_of_network, is_lsa_of_router, links_listed_by, links_in_some, routers_in_some}

module _ {X : Type 0} (test : X → Bool) where
  -- the only one that passes is found
  find_only : (xs : List X) (y : X) → Contains xs y → test y ≡ true → ((x : X) → Contains xs x → test x ≡ true → x ≡ y) → find test xs ≡ Some y
  find_only [] y there passes only = absurd (omega arith)
  find_only (x ∷ xs) y there passes only = elim (bool_cases (test x)) [
    | inl passed ↦ rw passed (ap Some (only x (member_head x xs) passed))
    | inr failed ↦ rw failed (elim (member_cases x xs y there) [
      | inl same ↦ (let clash : false ≡ true = sym failed ∙ ap test same ∙ passes in cc)
      | inr later ↦ find_only xs y later passes (λ z at. only z (member_later x xs z at))
    ])
  ]

  find_none : (xs : List X) → ((x : X) → Contains xs x → test x ≡ true → ⊥) → find test xs ≡ None
  find_none [] none = refl
  find_none (x ∷ xs) none = elim (bool_cases (test x)) [
    | inl passed ↦ absurd (none x (member_head x xs) passed)
    | inr failed ↦ rw failed (find_none xs (λ z at. none z (member_later x xs z at)))
  ]

-- the one element of a list is in a longer one
first_of : {X : Type 0} (x : X) (xs : List X) (z : X) → Contains (x ∷ []) z → Contains (x ∷ xs) z
first_of x xs z at = elim (member_cases x [] z at) [
  | inl same ↦ subst (λ (y : _). Contains (x ∷ xs) y) same (member_head x xs)
  | inr none ↦ absurd (let there = none in omega arith)
]

both_true : (a b : Bool) → (a && b) ≡ true → (a ≡ true) × (b ≡ true)
both_true true true e = (refl, refl)
both_true true false e = cc
both_true false b e = cc

-- ---- routers

is_of_router : (r : ℕ) (lsa : List ℕ) → IsRouterLsa lsa → number_at 8 4 lsa ≡ r → is_lsa_of_router r lsa ≡ true
is_of_router r lsa is at = rw (eq-eqb (type_of lsa) 1 is, eq-eqb (number_at 8 4 lsa) r at) refl

of_router : (r : ℕ) (lsa : List ℕ) → is_lsa_of_router r lsa ≡ true → IsRouterLsa lsa × (number_at 8 4 lsa ≡ r)
of_router r lsa e = let both = both_true (type_of lsa == 1) (number_at 8 4 lsa == r) e in (eqb-true (type_of lsa) 1 both.0, eqb-true (number_at 8 4 lsa) r both.1)

router_kind : (lsa : List ℕ) → IsRouterLsa lsa → kind_of lsa ≡ kind.Router
router_kind lsa is = rw is refl

module _ (lsas : List (List ℕ)) (is : IsListing lsas) where
  -- a router-LSA of a router has its key
  keyed : (r : RouterId) (lsa : List ℕ) → Contains lsas lsa → is_lsa_of_router r.0 lsa ≡ true → key_of lsa ≡ router_key r
  keyed r lsa there e =
      let of = of_router r.0 lsa e in
      let id : number_at 4 4 lsa ≡ r.0 = (listed_in lsas is lsa there).0 fault.IdMismatch of.0 ∙ of.1 in
      let kinds = router_kind lsa of.0 in
      λ i. record { kind = kinds i; id = id i; router = record { 0 = of.1 i } }

  -- the LSA of a router's key is the one that is found
  found_router : (r : RouterId) (lsa : List ℕ) → Contains lsas lsa → key_of lsa ≡ router_key r → find (is_lsa_of_router r.0) lsas ≡ Some lsa
  found_router r lsa there key =
      let at : number_at 8 4 lsa ≡ r.0 = ap (λ (k : LsaKey). k.router.0) key in
      find_only (is_lsa_of_router r.0) lsas lsa there (is_of_router r.0 lsa (keyed_router lsas is r lsa there key) at)
      (λ x h e. one_key lsas is.rising x lsa h there (keyed r x h e ∙ sym key))

  pub links_found : (r : RouterId) (lsa : List ℕ) → Contains lsas lsa → key_of lsa ≡ router_key r → links_listed_by lsas r.0 ≡ links_of lsa
  links_found r lsa there key = ap links_in_some (found_router r lsa there key)

  pub links_none : (r : RouterId) → (HasKey lsas (router_key r) → ⊥) → links_listed_by lsas r.0 ≡ []
  links_none r none =
      ap links_in_some (find_none (is_lsa_of_router r.0) lsas (λ x h e. none (h.0, x, h.1, h.2, keyed r x h e)))

-- ---- networks

is_of_network : (id : ℕ) (lsa : List ℕ) → IsOfNetwork id lsa → is_lsa_of_network id lsa ≡ true
is_of_network id lsa of = rw (eq-eqb (type_of lsa) 2 of.0, eq-eqb (number_at 4 4 lsa) id of.1) refl

of_network : (id : ℕ) (lsa : List ℕ) → is_lsa_of_network id lsa ≡ true → IsOfNetwork id lsa
of_network id lsa e = let both = both_true (type_of lsa == 2) (number_at 4 4 lsa == id) e in (eqb-true (type_of lsa) 2 both.0, eqb-true (number_at 4 4 lsa) id both.1)

network_kind : (lsa : List ℕ) → IsNetworkLsa lsa → kind_of lsa ≡ kind.Network
network_kind lsa is = rw is refl

-- of two network-LSAs of one Link State ID the one behind has the larger Advertising Router
behind : (id : ℕ) (a b : List ℕ) → IsOfNetwork id a → IsOfNetwork id b → Precedes (key_of a) (key_of b) → number_at 8 4 b ≤ number_at 8 4 a → ⊥
behind id a b of_a of_b (inl less) low =
    let kinds : ls_type (kind_of a) ≡ ls_type (kind_of b) = ap ls_type (network_kind a of_a.0 ∙ sym (network_kind b of_b.0)) in
    omega (arith, less)
behind id a b of_a of_b (inr (same, inl less)) low = omega (arith, of_a.1, of_b.1, less)
behind id a b of_a of_b (inr (same, inr more)) low = omega (arith, more.1, low)

rising_all : (x : List ℕ) (xs : List (List ℕ)) → AllByRecursion (λ other. Precedes (key_of x) (key_of other)) xs → (z : List ℕ) → Contains xs z → Precedes (key_of x) (key_of z)
rising_all x xs all z at =
    subst (λ (l : List ℕ). Precedes (key_of x) (key_of l)) at.2 (All-from_recursion (λ (other : List ℕ). Precedes (key_of x) (key_of other)) xs all at.0 z at.1)

-- the one that is found from the end
last_more : (id : ℕ) (x : List ℕ) (xs : List (List ℕ)) (found : Option (List ℕ)) → find (is_lsa_of_network id) (reverse xs) ≡ found
    → find (is_lsa_of_network id) (reverse (x ∷ xs)) ≡ option_or found (find (is_lsa_of_network id) (x ∷ []))
last_more id x xs found is =
    ap (λ (ls : List (List ℕ)). find (is_lsa_of_network id) ls) (reverse-append (x ∷ []) xs) ∙ find-append (is_lsa_of_network id) (reverse xs) (x ∷ []) ∙ ap (λ (o : Option (List ℕ)). option_or o (find (is_lsa_of_network id) (x ∷ []))) is

last_none : (id : ℕ) (lsas : List (List ℕ)) → ((x : List ℕ) → Contains lsas x → IsOfNetwork id x → ⊥) → find (is_lsa_of_network id) (reverse lsas) ≡ None
last_none id [] none = refl
last_none id (x ∷ xs) none =
    last_more id x xs None (last_none id xs (λ z at. none z (member_later x xs z at)))
    ∙ find_none (is_lsa_of_network id) (x ∷ []) (λ z at e. none z (first_of x xs z at) (of_network id z e))

last_is : (id : ℕ) (lsas : List (List ℕ)) (y : List ℕ) → IsRising lsas → IsNetworkOf lsas id y → find (is_lsa_of_network id) (reverse lsas) ≡ Some y
last_is id [] y rises is = absurd (let there = is.listed in omega arith)
last_is id (x ∷ xs) y rises is = elim (member_cases x xs y is.listed) [
  | inl same ↦
      let none : find (is_lsa_of_network id) (reverse xs) ≡ None = last_none id xs
      (λ z at of. behind id x z (subst (λ l. IsOfNetwork id l) (sym same) is.of) of (rising_all x xs rises.0 z at)
      (subst (λ l. number_at 8 4 z ≤ number_at 8 4 l) (sym same) (is.largest z (member_later x xs z at) of))) in
      last_more id x xs None none ∙ rw (is_of_network id x (subst (λ l. IsOfNetwork id l) (sym same) is.of)) (ap Some same)
  | inr later ↦
      last_more id x xs (Some y) (last_is id xs y rises.1 (record { listed = later; of = is.of; largest = λ z at of. is.largest z (member_later x xs z at) of }))
]

pub attached_found : (id : ℕ) (lsas : List (List ℕ)) (lsa : List ℕ) → IsListing lsas → IsNetworkOf lsas id lsa → attached_to lsas id ≡ attached_of lsa
attached_found id lsas lsa is of = ap routers_in_some (last_is id lsas lsa is.rising of)

pub attached_none : (id : ℕ) (lsas : List (List ℕ)) → ((x : List ℕ) → Contains lsas x → IsOfNetwork id x → ⊥) → attached_to lsas id ≡ []
attached_none id lsas none = ap routers_in_some (last_none id lsas none)

-- ---- texts of several pieces

pub four_pieces : (a b c d : List ℕ) → a ++ (b ++ (c ++ d)) ≡ a ++ b ++ c ++ d
four_pieces a b c d = sym (append_assoc a b (c ++ d)) ∙ sym (append_assoc (a ++ b) c d)

pub five_pieces : (a b c d e : List ℕ) → a ++ (b ++ (c ++ (d ++ e))) ≡ a ++ b ++ c ++ d ++ e
five_pieces a b c d e = sym (append_assoc a b (c ++ (d ++ e))) ∙ four_pieces (a ++ b) c d e
