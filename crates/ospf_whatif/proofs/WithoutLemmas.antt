-- An area without what a failure takes.
use Rattle.std.proofs.Common.{◌≡◌, ◌↔◌, ◌+◌, ◌*◌, ◌<◌, ◌≤◌, ℕ, ℤ, zero, suc, Bool, true, false, cond, ◌⊎◌, inl, inr, arith, filter, List, [], ◌∷◌, ◌++◌, map, take, drop, length, get_or, slice_index, refl, sym, ap, ◌∙◌, subst, not, Result, Ok, Err, IfOk, IfErr, OnOk}
use Rattle.std.specs.List.{AllZip, Contains, list_all}
use Rattle.std.proofs.lemmas.List.Elements.{filter-append}
use Rattle.std.proofs.lemmas.List.{drop_more, length-append, take_more, take-append-drop, map-append}
use Rattle.std.proofs.lemmas.List.Sums.{count_by-le-length, fold_more, length-filter}
use Rattle.ospf_base.specs.declared.ids.LsaKey.{LsaKey}
use Rattle.ospf_base.specs.declared.ids.RouterId.{RouterId}
use Rattle.ospf_base.specs.Keys.{Precedes}
use Rattle.ospf_base.specs.Bytes.{number_at}
use Rattle.ospf_lsa.specs.Header.{header_of}
use Rattle.ospf_lsa.specs.Lsa.{IsLsa, IsRouterLsa, IsNetworkLsa, key_of, kind_of, links_of}
use Rattle.ospf_lsa.specs.Link.{LinkEntry, entries_in, plain}
use Rattle.ospf_lsa.proofs.Words.{IsRising}
use Rattle.ospf_lsa.specs.declared.fault.LsaFault.TheVariants as fault
use Rattle.ospf_lsa.proofs.ListingLemmas.{AllBefore, before_it}
use Rattle.ospf_lsa.specs.Value.{HasAll, IsMade, IsUnmade, RouterNeeds, router_value, LsaValue, router_body}
use Rattle.ospf_lsa.specs.declared.link.Link.{Link}
use Rattle.ospf_graph.specs.Advertisements.{Advertisement, network_lsa, router_lsa}
use Rattle.ospf_graph.specs.EdgeLists.Listed.{advertisement_of}
use Rattle.ospf_graph.proofs.ListLemmas.{bool_cases, member_of_map, member_to_map}
use Rattle.ospf_graph.proofs.EdgeLists.ListedLemmas.{router_of, network_of}
use Rattle.ospf_whatif.specs.Failure.{HasLarge, HasLeftLarge, HasLeftLargeBy, IsLarge, IsLeftBy, IsLeftLarge, IsLeftLsa, inner_of, left_of_lsa, kept_after, kept_links, takes, without, without_all}
use Rattle.ospf_whatif.specs.declared.failure.AreaFailure.{AreaFailure}

pub kept_links-append : (inner : List Link) (f : AreaFailure) (r : RouterId) (xs ys : List Link) → kept_links inner f r (xs ++ ys) ≡ kept_links inner f r xs ++ kept_links inner f r ys
kept_links-append inner f r xs ys = filter-append (λ l. not (takes inner f r l)) xs ys

-- a link that is not taken is kept
pub kept_one : (inner : List Link) (f : AreaFailure) (r : RouterId) (l : Link) → takes inner f r l ≡ false → kept_links inner f r (l ∷ []) ≡ l ∷ []
kept_one inner f r l stays = rw stays refl

-- ---- a router-LSA that is made

plain_links : (links : List Link) → map (λ (e : LinkEntry). e.link) (map plain links) ≡ links
plain_links [] = refl
plain_links (l ∷ rest) = ap (λ more. l ∷ more) (plain_links rest)

module _ (r : RouterId) (number : ℤ) (links : List Link) (left : List ℕ) (made : IsMade (router_value r number links) left) where
  is_router : IsRouterLsa left
  is_router = ap (λ (v : LsaValue). v.header.kind) made.read

  names : (let named : RouterId = record { 0 = number_at 8 4 left } in named) ≡ r
  names = ap (λ (v : LsaValue). v.header.router) made.read

  id_is : number_at 4 4 left ≡ r.0
  id_is = ap (λ (v : LsaValue). v.header.id) made.read

  entries_are : entries_in (number_at 22 2 left) (drop 24 left) ≡ map plain links
  entries_are =
      let body : router_body (slice_index left 20) (slice_index left 21) (entries_in (number_at 22 2 left) (drop 24 left)) ≡ router_body 0 0 (map plain links) =
      rw is_router at (ap (λ (v : LsaValue). v.body) made.read) in
      cc

  links_are : links_of left ≡ links
  links_are = ap (λ es. map (λ (e : LinkEntry). e.link) es) entries_are ∙ plain_links links

  pub made_says : advertisement_of left ≡ router_lsa r links
  made_says = router_of left is_router ∙ (λ i. router_lsa (names i) (links_are i))

  number_is : (header_of left).number ≡ number
  number_is = ap (λ (v : LsaValue). v.header.number) made.read

  -- the key of a router-LSA that bears its Router ID
  pub made_key : (lsa : List ℕ) → IsRouterLsa lsa → IsLsa lsa → r ≡ record { 0 = number_at 8 4 lsa } → key_of left ≡ key_of lsa
  made_key lsa is valid same =
      let kinds : kind_of left ≡ kind_of lsa = rw (is_router, is) refl in
      let other : number_at 4 4 lsa ≡ number_at 8 4 lsa = valid fault.IdMismatch is in
      let ids : number_at 4 4 left ≡ number_at 4 4 lsa = id_is ∙ ap (λ (x : RouterId). x.0) same ∙ sym other in
      let routers : (let named : RouterId = record { 0 = number_at 8 4 left } in named) ≡ record { 0 = number_at 8 4 lsa } = names ∙ same in
      λ i. record { kind = kinds i; id = ids i; router = routers i }

  pub made_kept : (inner : List Link) (f : AreaFailure) (lsa : List ℕ) → IsRouterLsa lsa → r ≡ record { 0 = number_at 8 4 lsa } → links ≡ kept_links inner f r (links_of lsa)
      → advertisement_of left ≡ left_of_lsa inner f (advertisement_of lsa)
  made_kept inner f lsa is same are =
      made_says ∙ ap (λ ls. router_lsa r ls) are ∙ ap (λ (x : RouterId). router_lsa x (kept_links inner f x (links_of lsa))) same ∙ sym (ap (left_of_lsa inner f) (router_of lsa is))

-- ---- an LSA that stays

pub router_kept : (inner : List Link) (f : AreaFailure) (lsa : List ℕ) → IsRouterLsa lsa → kept_links inner f (record { 0 = number_at 8 4 lsa }) (links_of lsa) ≡ links_of lsa
    → advertisement_of lsa ≡ left_of_lsa inner f (advertisement_of lsa)
router_kept inner f lsa is all =
    router_of lsa is ∙ ap (λ ls. router_lsa (record { 0 = number_at 8 4 lsa }) ls) (sym all) ∙ sym (ap (left_of_lsa inner f) (router_of lsa is))

pub network_kept : (inner : List Link) (f : AreaFailure) (lsa : List ℕ) → IsNetworkLsa lsa → advertisement_of lsa ≡ left_of_lsa inner f (advertisement_of lsa)
network_kept inner f lsa is = network_of lsa is ∙ sym (ap (left_of_lsa inner f) (network_of lsa is))

pub IfOk-map : {X E : Type 0} (r : Result X E) (P Q : X → Type 0) → IfOk r P → ((x : X) → P x → Q x) → IfOk r Q
IfOk-map (Ok x) P Q p to = to x p
IfOk-map (Err e) P Q p to = tt

pub err_at : {X E : Type 0} (r : Result X E) (P : E → Type 0) (e : E) → IfErr r P → r ≡ Err e → P e
err_at r P e h is = let there = subst (λ (q : Result _ _). IfErr q P) is h in there

-- ---- all LSAs, one after the other

keyed_before : (key : LsaKey) (xs ys : List (List ℕ)) → map key_of xs ≡ map key_of ys → AllBefore key ys → AllBefore key xs
keyed_before key [] ys same below = tt
keyed_before key (x ∷ xs) [] same below = absurd (cc)
keyed_before key (x ∷ xs) (y ∷ ys) same below =
    let first : key_of y ≡ key_of x = cc in
    let rest : map key_of xs ≡ map key_of ys = cc in
    (subst (λ k. Precedes k key) first below.0, keyed_before key xs ys rest below.1)

module _ (lsas : List (List ℕ)) (i : ℕ) (x : List ℕ) (within : i < length lsas) (is : x ≡ get_or lsas i x) where
  -- what stands in front of it, by keys
  pub keys_before : IsRising lsas → (left : List (List ℕ)) (new : List ℕ) → map key_of left ≡ map key_of (take i lsas) → key_of new ≡ key_of x
      → AllBefore (key_of new) left
  keys_before rises left new same key =
      let split : take i lsas ++ x ∷ drop (i + 1) lsas ≡ lsas =
      ap (λ t. take i lsas ++ t) (ap (λ (l : List ℕ). l ∷ drop (i + 1) lsas) is ∙ sym (drop_more lsas i x within)) ∙ take-append-drop i lsas in
      let below : AllBefore (key_of x) (take i lsas) = before_it (take i lsas) x (drop (i + 1) lsas) (subst (λ l. IsRising l) (sym split) rises) in
      keyed_before (key_of new) left (take i lsas) same (subst (λ k. AllBefore k (take i lsas)) (sym key) below)

  next : take (i + 1) lsas ≡ take i lsas ++ x ∷ []
  next = take_more lsas i x within ∙ ap (λ l. take i lsas ++ l ∷ []) (sym is)

  pub keys_next : (left : List (List ℕ)) (new : List ℕ) → map key_of left ≡ map key_of (take i lsas) → key_of new ≡ key_of x
      → map key_of (left ++ new ∷ []) ≡ map key_of (take (i + 1) lsas)
  keys_next left new same key =
      map-append key_of left (new ∷ []) ∙ (λ j. same j ++ key j ∷ []) ∙ sym (ap (map key_of) next ∙ map-append key_of (take i lsas) (x ∷ []))

  pub told_next : (inner : List Link) (f : AreaFailure) (left : List (List ℕ)) (new : List ℕ) → map advertisement_of left ≡ map (left_of_lsa inner f) (map advertisement_of (take i lsas))
      → advertisement_of new ≡ left_of_lsa inner f (advertisement_of x) → map advertisement_of (left ++ new ∷ []) ≡ map (left_of_lsa inner f) (map advertisement_of (take (i + 1) lsas))
  told_next inner f left new same told =
      map-append advertisement_of left (new ∷ []) ∙ (λ j. same j ++ told j ∷ [])
      ∙ sym (ap (λ l. map (left_of_lsa inner f) (map advertisement_of l)) next ∙ ap (map (left_of_lsa inner f)) (map-append advertisement_of (take i lsas) (x ∷ [])) ∙ map-append (left_of_lsa inner f) (map advertisement_of (take i lsas)) (advertisement_of x ∷ []))

-- ---- what cannot be made anew

-- a filter keeps no more than there is
kept_length : {X : Type 0} (p : X → Bool) (xs : List X) → length (filter p xs) ≤ length xs
kept_length p [] = omega arith
kept_length p (x ∷ xs) = go (p x) (kept_length p xs)
  where
    go : (b : Bool) → length (filter p xs) ≤ length xs → length (cond b (x ∷ filter p xs) (filter p xs)) ≤ suc (length xs)
    go true h = omega arith
    go false h = omega arith

-- a filter that keeps as many as there are keeps all
kept_whole : {X : Type 0} (p : X → Bool) (xs : List X) → length xs ≤ length (filter p xs) → filter p xs ≡ xs
kept_whole p [] many = refl
kept_whole p (x ∷ xs) many = go (kept_whole p xs) (p x) many
  where
    go : (length xs ≤ length (filter p xs) → filter p xs ≡ xs) → (b : Bool) → suc (length xs) ≤ length (cond b (x ∷ filter p xs) (filter p xs))
        → cond b (x ∷ filter p xs) (filter p xs) ≡ x ∷ xs
    go rest true h = ap (λ l. x ∷ l) (rest (omega (arith, h)))
    go rest false h = let few = kept_length p xs in absurd (omega arith)

-- the links are fewer where one is taken
pub kept_fewer : (inner : List Link) (f : AreaFailure) (r : RouterId) (xs : List Link) (l : Link) (ys : List Link) → takes inner f r l ≡ true → kept_links inner f r (xs ++ l ∷ ys) ≡ xs ++ l ∷ ys → ⊥
kept_fewer inner f r xs l ys goes same =
    let test : Link → Bool = (λ (x : Link). not (takes inner f r x)) in
    let rest : kept_links inner f r (l ∷ ys) ≡ kept_links inner f r ys = rw goes refl in
    let lengths : length (kept_links inner f r xs ++ kept_links inner f r ys) ≡ length (xs ++ l ∷ ys) =
    ap (λ t. length (kept_links inner f r xs ++ t)) (sym rest) ∙ ap length (sym (kept_links-append inner f r xs (l ∷ ys)) ∙ same) in
    let one = length-append (kept_links inner f r xs) (kept_links inner f r ys) in
    let two = length-append xs (l ∷ ys) in
    let front : length (kept_links inner f r xs) ≤ length xs = kept_length test xs in
    let back : length (kept_links inner f r ys) ≤ length ys = kept_length test ys in
    omega arith

-- all links are kept where none is taken
kept_all : (inner : List Link) (f : AreaFailure) (r : RouterId) (links : List Link) → (list_all (λ l. not (takes inner f r l)) links ≡ true) ↔ (kept_links inner f r links ≡ links)
kept_all inner f r [] = (λ yes. refl, λ same. refl)
kept_all inner f r (l ∷ rest) =
    elim (bool_cases (takes inner f r l)) [
      | inl goes ↦ (λ yes. absurd (let no : false ≡ true = rw goes at yes in cc), λ same. absurd (kept_fewer inner f r [] l rest goes same))
      | inr stays ↦ (
        λ yes. rw stays (ap (λ ls. l ∷ ls) ((kept_all inner f r rest).0 (rw stays at yes))),
        λ same. rw stays ((kept_all inner f r rest).1 (let kept : l ∷ kept_links inner f r rest ≡ l ∷ rest = rw stays at same in ap (drop 1) kept)),
      )
    ]

pub all_kept : (inner : List Link) (f : AreaFailure) (r : RouterId) (links : List Link) (b : Bool) → b ≡ list_all (λ l. not (takes inner f r l)) links → (b ≡ true) ↔ (kept_links inner f r links ≡ links)
all_kept inner f r links b is = (λ yes. (kept_all inner f r links).0 (sym is ∙ yes), λ same. is ∙ (kept_all inner f r links).1 same)

kept_after_few : (A : List Advertisement) (fs : List AreaFailure) (r : RouterId) (links : List Link) → length (kept_after A fs r links) ≤ length links
kept_after_few A [] r links = omega arith
kept_after_few A (f ∷ fs) r links =
    let inner = inner_of f A in
    let later : length (kept_after (without f A) fs r (kept_links inner f r links)) ≤ length (kept_links inner f r links) = kept_after_few (without f A) fs r (kept_links inner f r links) in
    let first : length (kept_links inner f r links) ≤ length links = kept_length (λ (l : Link). not (takes inner f r l)) links in
    omega (arith, later, first)

-- a router-LSA that is made anew of too many links
pub large_left : (inner : List Link) (f : AreaFailure) (r : RouterId) (number : ℤ) (links : List Link) (lsa : List ℕ) → IsRouterLsa lsa → r ≡ (key_of lsa).router → links ≡ kept_links inner f r (links_of lsa)
    → (kept_links inner f r (links_of lsa) ≡ links_of lsa → ⊥) → IsUnmade (RouterNeeds number links) fault.Length → IsLeftLarge inner f (advertisement_of lsa)
large_left inner f r number links lsa is same are differs (inl memory) = let e : fault.Length ≡ fault.Memory = memory.0 in cc
large_left inner f r number links lsa is same are differs (inr first) =
    let of : kept_links inner f r (links_of lsa) ≡ kept_links inner f (key_of lsa).router (links_of lsa) = ap (λ (q : RouterId). kept_links inner f q (links_of lsa)) same in
    subst (IsLeftLarge inner f) (sym (router_of lsa is)) ((λ e. differs (of ∙ e)), subst (λ (l : List Link). 1361 < length l) (are ∙ of) (go first.broken))
  where
    go : (24 + 12 * length links ≤ 16356 → ⊥) → 1361 < length links
    go long = omega (arith, long)

-- none is left so large where one of all links that are kept is made
pub small_left : (inner : List Link) (f : AreaFailure) (r : RouterId) (number : ℤ) (links : List Link) (lsa : List ℕ) → IsRouterLsa lsa → r ≡ (key_of lsa).router → links ≡ kept_links inner f r (links_of lsa)
    → HasAll (RouterNeeds number links) → IsLeftLarge inner f (advertisement_of lsa) → ⊥
small_left inner f r number links lsa is same are needs large =
    let of : kept_links inner f r (links_of lsa) ≡ kept_links inner f (key_of lsa).router (links_of lsa) = ap (λ (q : RouterId). kept_links inner f q (links_of lsa)) same in
    let here : IsLeftLarge inner f (router_lsa (key_of lsa).router (links_of lsa)) = subst (IsLeftLarge inner f) (router_of lsa is) large in
    let many : 1361 < length links = subst (λ (l : List Link). 1361 < length l) (sym (are ∙ of)) here.1 in
    apart many (needs fault.Length)
  where
    apart : 1361 < length links → 24 + 12 * length links ≤ 16356 → ⊥
    apart many short = omega (arith, many, short)

-- what follows from what a success says
pub OnOk-map : {T E : Type 0} (r : Result T E) (P Q : Type 0) → OnOk r P → (P → Q) → OnOk r Q
OnOk-map (Ok x) P Q p f = f p
OnOk-map (Err e) P Q p f = p

-- none of a listing
pub small_in : (inner : List Link) (f : AreaFailure) (items listing : List (List ℕ)) → items ≡ listing → ((lsa : List ℕ) → Contains items lsa → IsLeftLarge inner f (advertisement_of lsa) → ⊥)
    → HasLeftLargeBy inner f (map advertisement_of listing) → ⊥
small_in inner f items listing same none large =
    let m = member_of_map advertisement_of listing large.0 large.1 in
    none m.0 (subst (λ (l : List (List ℕ)). Contains l m.0) (sym same) m.1) (subst (IsLeftLarge inner f) (sym m.2) large.2)

-- one of a listing
pub large_in : (inner : List Link) (f : AreaFailure) (items listing : List (List ℕ)) (lsa : List ℕ) → items ≡ listing → Contains items lsa → IsLeftLarge inner f (advertisement_of lsa) → HasLeftLargeBy inner f (map advertisement_of listing)
large_in inner f items listing lsa same here large =
    (advertisement_of lsa, member_to_map advertisement_of listing lsa (subst (λ (l : List (List ℕ)). Contains l lsa) same here), large)

-- what is too large then is too large before
left_is_large : (inner : List Link) (f : AreaFailure) (advert : Advertisement) → IsLeftLarge inner f advert → IsLarge advert
left_is_large inner f (router_lsa router links) large =
    let kept : length (kept_links inner f router links) ≤ length links = kept_length (λ (l : Link). not (takes inner f router l)) links in
    let more = large.1 in
    omega (arith, kept, more)
left_is_large inner f (network_lsa n router mask attached) large = absurd large

pub has_large : (f : AreaFailure) (adverts : List Advertisement) → HasLeftLarge f adverts → HasLarge adverts
has_large f adverts large = (large.0, large.1, left_is_large (inner_of f adverts) f large.0 large.2)

-- ---- a router has no more links than before

kept_few : (inner : List Link) (f : AreaFailure) (advert : Advertisement) → IsLarge (left_of_lsa inner f advert) → IsLarge advert
kept_few inner f (router_lsa router links) large =
    let kept_is = length-filter (λ (l : Link). not (takes inner f router l)) links in
    let few = count_by-le-length (λ (l : Link). not (takes inner f router l)) links in
    omega arith
kept_few inner f (network_lsa n router mask attached) large = absurd large

pub small_without : (f : AreaFailure) (adverts : List Advertisement) → (HasLarge adverts → ⊥) → HasLarge (without f adverts) → ⊥
unfolding without
small_without f adverts small large =
    let m = member_of_map (left_of_lsa (inner_of f adverts) f) adverts large.0 large.1 in
    small (m.0, m.1, kept_few (inner_of f adverts) f m.0 (subst IsLarge (sym m.2) large.2))

-- ---- one failure more

pub left_more : (failures : List AreaFailure) (i : ℕ) (x : AreaFailure) (adverts old new : List Advertisement) → i < length failures → x ≡ get_or failures i x
    → old ≡ without_all (take i failures) adverts → new ≡ without x old → new ≡ without_all (take (i + 1) failures) adverts
left_more failures i x adverts old new within is before now =
    now ∙ ap (without x) before ∙ ap (λ (f : AreaFailure). without f (without_all (take i failures) adverts)) is
    ∙ sym (fold_more (λ (left : List Advertisement) (f : AreaFailure). without f left) adverts failures i x within)

-- ---- its bytes

pub zip_same : {X : Type 0} (R : X → X → Type 0) → ((x : X) → R x x) → (xs : List X) → AllZip R xs xs
zip_same R same [] = tt
zip_same R same (x ∷ xs) = (same x, zip_same R same xs)

zip_over : {X : Type 0} (R S T : X → X → Type 0) → ((x y z : X) → R x y → S y z → T x z) → (xs ys zs : List X) → AllZip R xs ys → AllZip S ys zs → AllZip T xs zs
zip_over R S T over [] [] [] first second = tt
zip_over R S T over [] [] (z ∷ zs) first second = absurd second
zip_over R S T over [] (y ∷ ys) zs first second = absurd first
zip_over R S T over (x ∷ xs) [] zs first second = absurd first
zip_over R S T over (x ∷ xs) (y ∷ ys) [] first second = absurd second
zip_over R S T over (x ∷ xs) (y ∷ ys) (z ∷ zs) first second = (over x y z first.0 second.0, zip_over R S T over xs ys zs first.1 second.1)

-- no failure
pub left_by_none : (A : List Advertisement) (lsa : List ℕ) → IsLeftLsa A [] lsa lsa
left_by_none A lsa = inl (inr refl, refl)

not_both : (lsa : List ℕ) → IsRouterLsa lsa → IsNetworkLsa lsa → ⊥
not_both lsa router network = (let both : (let one : ℕ = 1 in one) ≡ 2 = sym router ∙ network in cc)

-- what is kept of some links, then of those by a failure, and of all by both
module _ (first then both : RouterId → List Link → List Link) (more : (r : RouterId) (links : List Link) → both r links ≡ then r (first r links))
    (less_first : (r : RouterId) (links : List Link) → length (first r links) ≤ length links)
    (whole_then : (r : RouterId) (links : List Link) → length links ≤ length (then r links) → then r links ≡ links) where
  left_twice : (a c : List ℕ) → IsNetworkLsa a ⊎ (first (key_of a).router (links_of a) ≡ links_of a) → IsLeftBy then a c → IsLeftBy both a c
  left_twice a c (inl network) (inl stays) = inl (inl network, stays.1)
  left_twice a c (inl network) (inr made) = absurd (not_both a made.0 network)
  left_twice a c (inr kept) second =
      let r = (key_of a).router in
      let now : both r (links_of a) ≡ then r (links_of a) = more r (links_of a) ∙ ap (then r) kept in
      elim second [
        | inl stays ↦ inl (elim stays.0 [ inl network ↦ inl network | inr all ↦ inr (now ∙ all) ], stays.1)
        | inr made ↦ inr (made.0, (λ e. made.1 (sym now ∙ e)), subst (λ (ls : List Link). IsMade (router_value r (header_of a).number ls) c) (sym now) made.2)
      ]

  left_made : (a b c : List ℕ) → IsRouterLsa a → (first (key_of a).router (links_of a) ≡ links_of a → ⊥)
      → IsMade (router_value (key_of a).router (header_of a).number (first (key_of a).router (links_of a))) b → IsLeftBy then b c → IsLeftBy both a c
  left_made a b c is less made second =
      let r = (key_of a).router in
      let number = (header_of a).number in
      let kept = first r (links_of a) in
      let now : both r (links_of a) ≡ then r kept = more r (links_of a) in
      let links : links_of b ≡ kept = links_are r number kept b made in
      let named : (key_of b).router ≡ r = names r number kept b made in
      let numbers : (header_of b).number ≡ number = number_is r number kept b made in
      let again : then (key_of b).router (links_of b) ≡ then r kept = (λ i. then (named i) (links i)) in
      elim second [
        | inl stays ↦
            elim stays.0 [
              | inl network ↦ absurd (not_both b (is_router r number kept b made) network)
              | inr all ↦
                  let whole : both r (links_of a) ≡ kept = now ∙ sym again ∙ all ∙ links in
                  inr (is, (λ e. less (sym whole ∙ e)), subst (λ (ls : List Link). IsMade (router_value r number ls) c) (sym whole) (subst (λ (x : List ℕ). IsMade (router_value r number kept) x) (sym stays.1) made))
            ]
        | inr anew ↦ inr (
          is,
          (λ e.
              let few = less_first r (links_of a) in
              let lengths : length (then r kept) ≡ length (links_of a) = ap length (sym now ∙ e) in
              let many : length kept ≤ length (then r kept) = omega arith in
              anew.1 (again ∙ whole_then r kept many ∙ sym links)),
          subst (λ (v : LsaValue). IsMade v c) (λ i. router_value (named i) (numbers i) ((again ∙ sym now) i)) anew.2,
        )
      ]

  left_then : (a b c : List ℕ) → IsLeftBy first a b → IsLeftBy then b c → IsLeftBy both a c
  left_then a b c (inl stays) second = left_twice a c stays.0 (subst (λ (x : List ℕ). IsLeftBy then x c) stays.1 second)
  left_then a b c (inr made) second = left_made a b c made.0 made.1 made.2 second

-- what is kept by the last of some failures
kept_next : (fs : List AreaFailure) (i : ℕ) (x : AreaFailure) (A : List Advertisement) (r : RouterId) (links : List Link) → i < length fs → x ≡ get_or fs i x
    → kept_after A (take (suc i) fs) r links ≡ kept_links (inner_of x (without_all (take i fs) A)) x r (kept_after A (take i fs) r links)
kept_next [] i x A r links within is = absurd (omega (arith, within))
kept_next (f ∷ fs) zero x A r links within is = let same : x ≡ f = is in λ j. kept_links (inner_of (sym same j) A) (sym same j) r links
kept_next (f ∷ fs) (suc i) x A r links within is = kept_next fs i x (without f A) r (kept_links (inner_of f A) f r links) (omega (arith, within)) is

kept_more : (fs : List AreaFailure) (i : ℕ) (x : AreaFailure) (A : List Advertisement) (r : RouterId) (links : List Link) → i < length fs → x ≡ get_or fs i x
    → kept_after A (take (i + 1) fs) r links ≡ kept_links (inner_of x (without_all (take i fs) A)) x r (kept_after A (take i fs) r links)
kept_more fs i x A r links within is =
    let one : suc i ≡ i + 1 = omega arith in
    subst (λ (n : ℕ). kept_after A (take n fs) r links ≡ kept_links (inner_of x (without_all (take i fs) A)) x r (kept_after A (take i fs) r links)) one
    (kept_next fs i x A r links within is)

-- one failure more
pub bytes_more : (failures : List AreaFailure) (i : ℕ) (x : AreaFailure) (A C : List Advertisement) (before left new : List (List ℕ)) → i < length failures → x ≡ get_or failures i x
    → C ≡ without_all (take i failures) A → AllZip (IsLeftLsa A (take i failures)) before left → AllZip (IsLeftLsa C (x ∷ [])) left new
    → AllZip (IsLeftLsa A (take (i + 1) failures)) before new
bytes_more failures i x A C before left new within is at first second =
    let then = kept_links (inner_of x C) x in
    zip_over (IsLeftLsa A (take i failures)) (IsLeftLsa C (x ∷ [])) (IsLeftLsa A (take (i + 1) failures))
    (left_then (kept_after A (take i failures)) then (kept_after A (take (i + 1) failures))
    (λ r links. kept_more failures i x A r links within is ∙ ap (λ (D : List Advertisement). kept_links (inner_of x D) x r (kept_after A (take i failures) r links)) (sym at))
    (λ r links. kept_after_few A (take i failures) r links)
    (λ r links many. kept_whole (λ (l : Link). not (takes (inner_of x C) x r l)) links many))
    before left new first second
