-- Bytes compared piece by piece.
use Rattle.std.proofs.Common.{◌≡◌, ◌≤◌, ◌<◌, ◌+◌, ◌-◌, ◌*◌, ◌/◌, ◌++◌, cond, map, filter, pos, ◌&&◌, ◌||◌, ◌⊎◌, ℕ, Bool, true, false, List, [], ◌∷◌, length, take, drop, get_or, Option, None, Some, inl, inr, refl, sym, ap, subst, ◌∙◌, arith, if◌then◌else◌}
use Rattle.std.specs.Prelude.{◌==◌}
use Rattle.std.specs.List.{flat_map}
use Rattle.std.specs.Str.{bytes_eq}
use Rattle.std.proofs.lemmas.List.{append-nil, length-append, length-map, drop-drop, length-drop, length-take-le, take-append-drop, take_all, take_more, take_rest}
use Rattle.std.proofs.lemmas.List.Concat.{flat_map-append}
use Rattle.std.proofs.lemmas.Slice.Eq.{bytes_eq-Decides}
use Rattle.ospf_area.specs.State.{LinkValue}
use Rattle.ospf_base.specs.Bytes.{number_at, number_bytes}
use Rattle.ospf_base.specs.declared.interface.InterfaceKind.{InterfaceKind}
use Rattle.ospf_base.specs.declared.interface.InterfaceKind.TheVariants as kind
use Rattle.ospf_base.specs.declared.stub_network.StubNetwork.{StubNetwork}
use Rattle.ospf_lsa.specs.Lsa.{HasLinks, HasRouters, IsLsa, IsNetworkLsa, IsRouterLsa}
use Rattle.ospf_lsa.specs.declared.fault.LsaFault.TheVariants as fault
use Rattle.ospf_neighbour.specs.Neighbour.{NeighbourValue}
use Rattle.ospf_neighbour.specs.Interface.Machine.{is_down}
use Rattle.ospf_originate.specs.Wants.Wanted.{attached_routers, is_full, links_of_link, own_links, router_link, stub_link, subnet_link, subnets_of}
use Rattle.ospf_originate.proofs.Wants.Words.{aside, broadcast_link, is_full_before, is_full_behind, links_of_kind}
use Rattle.ospf_originate.specs.Wants.Wanted.WantedValue.{RouterLsa, NetworkLsa}
use Rattle.ospf_base.specs.Sums.{contents}
use Rattle.std.proofs.lemmas.List.Folds.{flat_map-map}
use Rattle.ospf_base.specs.declared.ids.RouterId.{RouterId}
use Rattle.ospf_lsa.specs.Attached.{router_bytes, routers_bytes}
use Rattle.ospf_lsa.specs.Header.{header_bytes}
use Rattle.ospf_lsa.specs.Link.{entry_bytes, link_bytes, plain}
use Rattle.ospf_lsa.specs.Value.{contents_bytes, network_value, router_value}
use Rattle.ospf_lsa.specs.declared.link.Link.{Link}
use Rattle.ospf_lsa.specs.declared.header.LsaHeader.{LsaHeader}
use Rattle.ospf_originate.specs.Wants.Made.{says}
use Rattle.ospf_originate.specs.Wants.Said.{behind, is_end, links_bytes, router_link_bytes, lower_bytes, higher_bytes, stub_bytes, subnet_bytes}
use Rattle.ospf_originate.proofs.Wants.MadeLemmas.{bytes_eq-append}

-- which of two is asked first is the same
pub either : (a b : Bool) → (a || b) ≡ (b || a)
either true true = refl
either true false = refl
either false true = refl
either false false = refl

nothing_behind : (front : List ℕ) → behind front None ≡ None
unfolding behind
nothing_behind front = refl

-- byte by byte
behind_one : (x y : ℕ) (xs ys : List ℕ) → behind (x ∷ xs) (Some (y ∷ ys)) ≡ (if (y == x) then behind xs (Some ys) else None)
unfolding behind
behind_one x y xs ys = by_test (y == x)
  where
    by_test : (b : Bool) → (if b && bytes_eq (take (length xs) ys) xs then Some (drop (length xs) ys) else None) ≡ (if b then (if bytes_eq (take (length xs) ys) xs then Some (drop (length xs) ys) else None) else None)
    by_test true = refl
    by_test false = refl

behind_short : (x : ℕ) (xs : List ℕ) → behind (x ∷ xs) (Some []) ≡ None
unfolding behind
behind_short x xs = refl

pub behind_none : (bytes : Option (List ℕ)) → behind [] bytes ≡ bytes
unfolding behind
behind_none None = refl
behind_none (Some bytes) = refl

-- one list behind the other
pub behind-append : (xs ys : List ℕ) (bytes : Option (List ℕ)) → behind (xs ++ ys) bytes ≡ behind ys (behind xs bytes)
behind-append [] ys bytes = ap (λ (o : Option (List ℕ)). behind ys o) (sym (behind_none bytes))
behind-append (x ∷ xs) ys None = nothing_behind (x ∷ xs ++ ys) ∙ sym (nothing_behind ys) ∙ ap (λ (o : Option (List ℕ)). behind ys o) (sym (nothing_behind (x ∷ xs)))
behind-append (x ∷ xs) ys (Some []) = behind_short x (xs ++ ys) ∙ sym (nothing_behind ys) ∙ ap (λ (o : Option (List ℕ)). behind ys o) (sym (behind_short x xs))
behind-append (x ∷ xs) ys (Some (b ∷ bs)) =
    behind_one x b (xs ++ ys) bs ∙ by_test (b == x) (behind-append xs ys (Some bs)) ∙ ap (λ (o : Option (List ℕ)). behind ys o) (sym (behind_one x b xs bs))
  where
    by_test : (t : Bool) → behind (xs ++ ys) (Some bs) ≡ behind ys (behind xs (Some bs)) → (if t then behind (xs ++ ys) (Some bs) else None) ≡ behind ys (if t then behind xs (Some bs) else None)
    by_test true later = later
    by_test false later = sym (nothing_behind ys)

-- nothing stands behind a list where the bytes are that list
pub end_behind : (front bytes : List ℕ) → is_end (behind front (Some bytes)) ≡ bytes_eq bytes front
unfolding is_end
end_behind [] [] = ap (λ (o : Option (List ℕ)). is_end o) (behind_none (Some []))
end_behind [] (b ∷ bs) = ap (λ (o : Option (List ℕ)). is_end o) (behind_none (Some (b ∷ bs)))
end_behind (x ∷ xs) [] = ap (λ (o : Option (List ℕ)). is_end o) (behind_short x xs)
end_behind (x ∷ xs) (b ∷ bs) = ap (λ (o : Option (List ℕ)). is_end o) (behind_one x b xs bs) ∙ by_test (b == x) (end_behind xs bs)
  where
    by_test : (t : Bool) → is_end (behind xs (Some bs)) ≡ bytes_eq bs xs → is_end (if t then behind xs (Some bs) else None) ≡ (t && bytes_eq bs xs)
    by_test true later = later
    by_test false later = refl

-- one list more
pub behind_more : {X : Type 0} (f : X → List ℕ) (xs : List X) (i : ℕ) (d : X) (start : Option (List ℕ)) → i < length xs
    → behind (flat_map f (take (i + 1) xs)) start ≡ behind (f (get_or xs i d)) (behind (flat_map f (take i xs)) start)
behind_more f xs i d start within =
    let more : flat_map f (take (i + 1) xs) ≡ flat_map f (take i xs) ++ f (get_or xs i d) =
    ap (λ ys. flat_map f ys) (take_more xs i d within) ∙ flat_map-append f (take i xs) (get_or xs i d ∷ []) ∙ ap (λ ys. flat_map f (take i xs) ++ ys) (append-nil (f (get_or xs i d))) in
    ap (λ (ys : List ℕ). behind ys start) more ∙ behind-append (flat_map f (take i xs)) (f (get_or xs i d)) start

-- ---- an LSA by its parts

-- the front of a list, and what stands behind it
split_eq : (n : ℕ) (xs ys us : List ℕ) → n ≤ length xs → length ys ≡ n → bytes_eq xs (ys ++ us) ≡ (bytes_eq (take n xs) ys && bytes_eq (drop n xs) us)
split_eq n xs ys us long is =
    ap (λ (zs : List ℕ). bytes_eq zs (ys ++ us)) (sym (take-append-drop n xs)) ∙ bytes_eq-append (take n xs) ys (drop n xs) us (length-take-le n xs long ∙ sym is)

-- what stands behind the age, number and checksum aside, by its parts
parts_eq : (lsa front size start rest : List ℕ) → 24 ≤ length lsa → length front ≡ 10 → length size ≡ 2 → length start ≡ 4
    → bytes_eq (aside (contents lsa)) (front ++ (size ++ (start ++ rest)))
    ≡ (bytes_eq (take 10 (drop 2 lsa)) front && (bytes_eq (take 2 (drop 18 lsa)) size && (bytes_eq (take 4 (drop 20 lsa)) start && bytes_eq (drop 24 lsa) rest)))
parts_eq lsa front size start rest long f s b =
    let first : length (take 10 (drop 2 lsa)) ≡ 10 = length-take-le 10 (drop 2 lsa) (omega (arith, length-drop 2 lsa, long)) in
    let body : bytes_eq (drop 20 lsa) (start ++ rest) ≡ (bytes_eq (take 4 (drop 20 lsa)) start && bytes_eq (drop 24 lsa) rest) =
    split_eq 4 (drop 20 lsa) start rest (omega (arith, length-drop 20 lsa, long)) b
    ∙ ap (λ (zs : List ℕ). bytes_eq (take 4 (drop 20 lsa)) start && bytes_eq zs rest) (drop-drop 4 20 lsa) in
    let tail : bytes_eq (drop 18 lsa) (size ++ (start ++ rest)) ≡ (bytes_eq (take 2 (drop 18 lsa)) size && bytes_eq (drop 20 lsa) (start ++ rest)) =
    split_eq 2 (drop 18 lsa) size (start ++ rest) (omega (arith, length-drop 18 lsa, long)) s
    ∙ ap (λ (zs : List ℕ). bytes_eq (take 2 (drop 18 lsa)) size && bytes_eq zs (start ++ rest)) (drop-drop 2 18 lsa) in
    ap (λ (zs : List ℕ). bytes_eq (take 10 (drop 2 lsa) ++ zs) (front ++ (size ++ (start ++ rest)))) (drop-drop 16 2 lsa)
    ∙ bytes_eq-append (take 10 (drop 2 lsa)) front (drop 18 lsa) (size ++ (start ++ rest)) (first ∙ sym f)
    ∙ ap (λ (b : Bool). bytes_eq (take 10 (drop 2 lsa)) front && b) (tail ∙ ap (λ (b : Bool). bytes_eq (take 2 (drop 18 lsa)) size && b) body)

and_nothing : (b : Bool) → (b && false) ≡ false
and_nothing true = refl
and_nothing false = refl

-- where the rest is the same, the length is that of what is wanted, and so is what is counted of it
by_rest : (front : Bool) (lsa size size' start start' rest : List ℕ) → (drop 24 lsa ≡ rest → (size ≡ size') × (start ≡ start'))
    → (front && (bytes_eq (take 2 (drop 18 lsa)) size && (bytes_eq (take 4 (drop 20 lsa)) start && bytes_eq (drop 24 lsa) rest)))
    ≡ ((front && (bytes_eq (take 2 (drop 18 lsa)) size' && bytes_eq (take 4 (drop 20 lsa)) start')) && bytes_eq (drop 24 lsa) rest)
by_rest front lsa size size' start start' rest same = by_test (bytes_eq (drop 24 lsa) rest) refl
  where
    moved : (f a b : Bool) → (f && (a && (b && true))) ≡ ((f && (a && b)) && true)
    moved true true true = refl
    moved true true false = refl
    moved true false b = refl
    moved false a b = refl

    dropped : (f a b a' b' : Bool) → (f && (a && (b && false))) ≡ ((f && (a' && b')) && false)
    dropped f a b a' b' = ap (λ (x : Bool). f && (a && x)) (and_nothing b) ∙ ap (λ (x : Bool). f && x) (and_nothing a) ∙ and_nothing f ∙ sym (and_nothing (f && (a' && b')))

    by_test : (t : Bool) → t ≡ bytes_eq (drop 24 lsa) rest
        → (front && (bytes_eq (take 2 (drop 18 lsa)) size && (bytes_eq (take 4 (drop 20 lsa)) start && t)))
        ≡ ((front && (bytes_eq (take 2 (drop 18 lsa)) size' && bytes_eq (take 4 (drop 20 lsa)) start')) && t)
    by_test true is =
        let all = same ((bytes_eq-Decides (drop 24 lsa) rest).0 (sym is)) in
        moved front (bytes_eq (take 2 (drop 18 lsa)) size) (bytes_eq (take 4 (drop 20 lsa)) start)
        ∙ ap (λ (zs : List ℕ). (front && (bytes_eq (take 2 (drop 18 lsa)) zs && bytes_eq (take 4 (drop 20 lsa)) start)) && true) (all.0)
        ∙ ap (λ (zs : List ℕ). (front && (bytes_eq (take 2 (drop 18 lsa)) size' && bytes_eq (take 4 (drop 20 lsa)) zs)) && true) (all.1)
    by_test false is =
        dropped front (bytes_eq (take 2 (drop 18 lsa)) size) (bytes_eq (take 4 (drop 20 lsa)) start) (bytes_eq (take 2 (drop 18 lsa)) size') (bytes_eq (take 4 (drop 20 lsa)) start')

-- ---- what is wanted

links_length : (links : List Link) → length (flat_map link_bytes links) ≡ 12 * length links
links_length [] = refl
links_length (l ∷ ls) = let later = links_length ls in omega (arith, later, length-append (link_bytes l) (flat_map link_bytes ls))

routers_length : (routers : List RouterId) → length (routers_bytes routers) ≡ 4 * length routers
routers_length [] = refl
routers_length (r ∷ rs) = let later = routers_length rs in omega (arith, later, length-append (router_bytes r) (routers_bytes rs))

rest_length : (lsa rest : List ℕ) → drop 24 lsa ≡ rest → length lsa - 24 ≡ length rest
rest_length lsa rest is = sym (length-drop 24 lsa) ∙ ap (λ (zs : List ℕ). length zs) is

counted : (size n : ℕ) → size ≡ 24 + 12 * n → (size - 24) / 12 ≡ n
counted size n is = omega arith

-- the length field of an LSA is its length
whole : (copy lsa : List ℕ) → lsa ≡ copy → IsLsa copy → number_at 18 2 lsa ≡ length lsa
whole copy lsa is valid =
    let long : (20 ≤ length copy) × (number_at 18 2 copy ≤ length copy) = valid fault.Short in
    let short : length copy ≤ number_at 18 2 copy = valid fault.Length in
    ap (λ (b : List ℕ). number_at 18 2 b) is ∙ let same : number_at 18 2 copy ≡ length copy = omega (arith, long.1, short) in same ∙ ap (λ (b : List ℕ). length b) (sym is)

said_router : (lsa : List ℕ) (router : RouterId) (links : List Link) (size : ℕ) (same end : Bool) → 24 ≤ length lsa → size ≡ length lsa
    → same ≡ (bytes_eq (take 10 (drop 2 lsa)) (take 10 (header_bytes (record (router_value router (pos 0) []).header { length = size })))
    && (bytes_eq (take 2 (drop 18 lsa)) (number_bytes 2 size) && bytes_eq (take 4 (drop 20 lsa)) (0 ∷ 0 ∷ number_bytes 2 ((size - 24) / 12))))
    → end ≡ is_end (behind (flat_map link_bytes links) (Some (drop 24 lsa)))
    → (same && end) ≡ bytes_eq (aside (contents lsa)) (aside (contents_bytes (router_value router (pos 0) links)))
said_router lsa router links size same end long sized is_same is_the_end =
    let header : LsaHeader = (router_value router (pos 0) links).header in
    let front : List ℕ = take 10 (header_bytes header) in
    let rest : List ℕ = flat_map link_bytes links in
    let count : List ℕ = 0 ∷ 0 ∷ number_bytes 2 (length (map plain links)) in
    let wanted : aside (contents_bytes (router_value router (pos 0) links)) ≡ front ++ (number_bytes 2 (24 + 12 * length links) ++ (count ++ rest)) =
    ap (λ (zs : List ℕ). front ++ (number_bytes 2 (24 + 12 * length links) ++ (count ++ zs))) (flat_map-map entry_bytes plain links) in
    let sizes : drop 24 lsa ≡ rest → size ≡ 24 + 12 * length links = λ is. let all = rest_length lsa rest is in omega (arith, all, links_length links, long, sized) in
    let fields : drop 24 lsa ≡ rest → (number_bytes 2 (24 + 12 * length links) ≡ number_bytes 2 size) × (count ≡ 0 ∷ 0 ∷ number_bytes 2 ((size - 24) / 12)) =
    λ is. (
      ap (λ (n : ℕ). number_bytes 2 n) (sym (sizes is)),
      ap (λ (n : ℕ). 0 ∷ 0 ∷ number_bytes 2 n) (length-map links plain ∙ sym (counted size (length links) (sizes is))),
    ) in
    ap (λ (b : Bool). b && end) is_same
    ∙ ap (λ (b : Bool). (bytes_eq (take 10 (drop 2 lsa)) front && (bytes_eq (take 2 (drop 18 lsa)) (number_bytes 2 size) && bytes_eq (take 4 (drop 20 lsa)) (0 ∷ 0 ∷ number_bytes 2 ((size - 24) / 12)))) && b)
    (is_the_end ∙ end_behind rest (drop 24 lsa))
    ∙ sym (by_rest (bytes_eq (take 10 (drop 2 lsa)) front) lsa (number_bytes 2 (24 + 12 * length links)) (number_bytes 2 size) count (0 ∷ 0 ∷ number_bytes 2 ((size - 24) / 12)) rest fields)
    ∙ sym (parts_eq lsa front (number_bytes 2 (24 + 12 * length links)) count rest long refl refl refl)
    ∙ ap (λ (zs : List ℕ). bytes_eq (aside (contents lsa)) zs) (sym wanted)

said_network : (lsa : List ℕ) (id : ℕ) (router : RouterId) (mask : ℕ) (routers : List RouterId) (size : ℕ) (same end : Bool) → 24 ≤ length lsa → size ≡ length lsa
    → same ≡ (bytes_eq (take 10 (drop 2 lsa)) (take 10 (header_bytes (record (network_value id router (pos 0) 0 []).header { length = size })))
    && (bytes_eq (take 2 (drop 18 lsa)) (number_bytes 2 size) && bytes_eq (take 4 (drop 20 lsa)) (number_bytes 4 mask)))
    → end ≡ is_end (behind (routers_bytes routers) (Some (drop 24 lsa)))
    → (same && end) ≡ bytes_eq (aside (contents lsa)) (aside (contents_bytes (network_value id router (pos 0) mask routers)))
said_network lsa id router mask routers size same end long sized is_same is_the_end =
    let front : List ℕ = take 10 (header_bytes (network_value id router (pos 0) mask routers).header) in
    let rest : List ℕ = routers_bytes routers in
    let fields : drop 24 lsa ≡ rest → (number_bytes 2 (24 + 4 * length routers) ≡ number_bytes 2 size) × (number_bytes 4 mask ≡ number_bytes 4 mask) =
    λ is. (ap (λ (n : ℕ). number_bytes 2 n) (let all = rest_length lsa rest is in omega (arith, all, routers_length routers, long, sized)), refl) in
    ap (λ (b : Bool). b && end) is_same
    ∙ ap (λ (b : Bool). (bytes_eq (take 10 (drop 2 lsa)) front && (bytes_eq (take 2 (drop 18 lsa)) (number_bytes 2 size) && bytes_eq (take 4 (drop 20 lsa)) (number_bytes 4 mask))) && b)
    (is_the_end ∙ end_behind rest (drop 24 lsa))
    ∙ sym (by_rest (bytes_eq (take 10 (drop 2 lsa)) front) lsa (number_bytes 2 (24 + 4 * length routers)) (number_bytes 2 size) (number_bytes 4 mask) (number_bytes 4 mask) rest fields)
    ∙ sym (parts_eq lsa front (number_bytes 2 (24 + 4 * length routers)) (number_bytes 4 mask) rest long refl refl refl)

pub long_body : (copy lsa : List ℕ) → lsa ≡ copy → IsRouterLsa copy ⊎ IsNetworkLsa copy → (IsRouterLsa copy → HasLinks copy) → (IsNetworkLsa copy → HasRouters copy) → 24 ≤ length lsa
long_body copy lsa is kinds router network =
    subst (λ (b : List ℕ). 24 ≤ length b) (sym is) (elim kinds [ inl r ↦ (router r).0 | inr n ↦ (network n).0 ])

pub long_size : (copy lsa : List ℕ) (size : ℕ) → lsa ≡ copy → IsLsa copy → 24 ≤ length lsa → size ≡ number_at 18 2 lsa → 24 ≤ size
long_size copy lsa size is valid long sized = let all = sized ∙ whole copy lsa is valid in omega (arith, all, long)

pub router_says : (copy lsa : List ℕ) (router : RouterId) (links : List Link) (size : ℕ) (same end : Bool) (rest : Option (List ℕ)) → lsa ≡ copy → IsLsa copy → 24 ≤ length lsa → size ≡ number_at 18 2 lsa
    → same ≡ (bytes_eq (take 10 (drop 2 lsa)) (take 10 (header_bytes (record (router_value router (pos 0) []).header { length = size })))
    && (bytes_eq (take 2 (drop 18 lsa)) (number_bytes 2 size) && bytes_eq (take 4 (drop 20 lsa)) (0 ∷ 0 ∷ number_bytes 2 ((size - 24) / 12))))
    → end ≡ is_end rest → rest ≡ behind (flat_map link_bytes links) (Some (drop 24 copy))
    → (same && end) ≡ says (contents copy) (RouterLsa router links)
unfolding says
router_says copy lsa router links size same end rest is valid long sized is_same is_the_end is_rest =
    said_router lsa router links size same end long (sized ∙ whole copy lsa is valid) is_same
    (is_the_end ∙ ap (λ (o : Option (List ℕ)). is_end o) (is_rest ∙ ap (λ (b : List ℕ). behind (flat_map link_bytes links) (Some (drop 24 b))) (sym is)))
    ∙ ap (λ (b : List ℕ). bytes_eq (aside (contents b)) (aside (contents_bytes (router_value router (pos 0) links)))) is

pub network_says : (copy lsa : List ℕ) (id : ℕ) (router : RouterId) (mask : ℕ) (routers : List RouterId) (size : ℕ) (same end : Bool) (rest : Option (List ℕ)) → lsa ≡ copy → IsLsa copy → 24 ≤ length lsa → size ≡ number_at 18 2 lsa
    → same ≡ (bytes_eq (take 10 (drop 2 lsa)) (take 10 (header_bytes (record (network_value id router (pos 0) 0 []).header { length = size })))
    && (bytes_eq (take 2 (drop 18 lsa)) (number_bytes 2 size) && bytes_eq (take 4 (drop 20 lsa)) (number_bytes 4 mask)))
    → end ≡ is_end rest → rest ≡ behind (routers_bytes routers) (Some (drop 24 copy))
    → (same && end) ≡ says (contents copy) (NetworkLsa id router mask routers)
unfolding says
network_says copy lsa id router mask routers size same end rest is valid long sized is_same is_the_end is_rest =
    said_network lsa id router mask routers size same end long (sized ∙ whole copy lsa is valid) is_same
    (is_the_end ∙ ap (λ (o : Option (List ℕ)). is_end o) (is_rest ∙ ap (λ (b : List ℕ). behind (routers_bytes routers) (Some (drop 24 b))) (sym is)))
    ∙ ap (λ (b : List ℕ). bytes_eq (aside (contents b)) (aside (contents_bytes (network_value id router (pos 0) mask routers)))) is

-- what stands behind the first 24 bytes
pub body_behind : (front copy lsa : List ℕ) → lsa ≡ copy → behind front (Some (take (length lsa - 24) (drop 24 lsa))) ≡ behind front (Some (drop 24 copy))
body_behind front copy lsa is =
    ap (λ (b : List ℕ). behind front (Some b)) (take_rest lsa 24) ∙ ap (λ (b : List ℕ). behind front (Some (drop 24 b))) is

-- ---- links and routers, piece by piece

chosen : {X Y : Type 0} → (h : Y → List ℕ) (g : X → Y) (p : X → Bool) (xs : List X) → flat_map h (map g (filter p xs)) ≡ flat_map (λ x. if p x then h (g x) else []) xs
chosen h g p [] = refl
chosen h g p (x ∷ xs) = by_test (p x) (chosen h g p xs)
  where
    by_test : (t : Bool) → flat_map h (map g (filter p xs)) ≡ flat_map (λ x. if p x then h (g x) else []) xs
        → flat_map h (map g (cond t (x ∷ filter p xs) (filter p xs))) ≡ (if t then h (g x) else []) ++ flat_map (λ x. if p x then h (g x) else []) xs
    by_test true later = ap (λ (zs : List ℕ). h (g x) ++ zs) later
    by_test false later = later

full_links : (stub_router : Bool) (l : LinkValue) (ns : List NeighbourValue) → flat_map link_bytes (map (router_link stub_router l) (filter is_full ns)) ≡ flat_map (router_link_bytes stub_router l) ns
unfolding router_link_bytes
full_links stub_router l ns = chosen link_bytes (router_link stub_router l) is_full ns

before_routers : (router : RouterId) (ns : List NeighbourValue) → routers_bytes (map (λ (n : NeighbourValue). n.router) (filter (is_full_before router) ns)) ≡ flat_map (lower_bytes router) ns
unfolding lower_bytes
before_routers router ns = chosen router_bytes (λ (n : NeighbourValue). n.router) (is_full_before router) ns

behind_routers : (router : RouterId) (ns : List NeighbourValue) → routers_bytes (map (λ (n : NeighbourValue). n.router) (filter (is_full_behind router) ns)) ≡ flat_map (higher_bytes router) ns
unfolding higher_bytes
behind_routers router ns = chosen router_bytes (λ (n : NeighbourValue). n.router) (is_full_behind router) ns

-- one link behind others
one_behind : (links : List Link) (link : Link) (start : Option (List ℕ)) → behind (flat_map link_bytes (links ++ link ∷ [])) start ≡ behind (link_bytes link) (behind (flat_map link_bytes links) start)
one_behind links link start =
    ap (λ (zs : List ℕ). behind zs start) (flat_map-append link_bytes links (link ∷ []) ∙ ap (λ (zs : List ℕ). flat_map link_bytes links ++ zs) (append-nil (link_bytes link)))
    ∙ behind-append (flat_map link_bytes links) (link_bytes link) start

-- the link to the subnet behind others, unless it is suppressed
subnets_behind : (links : List Link) (l : LinkValue) (start : Option (List ℕ))
    → behind (flat_map link_bytes (links ++ subnets_of l)) start ≡ behind (subnet_bytes l) (behind (flat_map link_bytes links) start)
unfolding subnet_bytes
subnets_behind links l start = by_test l.settings.suppressed
  where
    by_test : (t : Bool) → behind (flat_map link_bytes (links ++ (if t then [] else subnet_link l ∷ []))) start
        ≡ behind (if t then [] else link_bytes (subnet_link l)) (behind (flat_map link_bytes links) start)
    by_test true = ap (λ (ls : List Link). behind (flat_map link_bytes ls) start) (append-nil links) ∙ sym (behind_none (behind (flat_map link_bytes links) start))
    by_test false = one_behind links (subnet_link l) start

-- the links of a link that is up
pub up_is : (stub_router : Bool) (l : LinkValue) → is_down l.iface.state ≡ false → links_of_link stub_router l ≡ links_of_kind l.iface.settings.kind stub_router l
unfolding links_of_link
up_is stub_router l up = rw up refl

pub down_behind : (stub_router : Bool) (l : LinkValue) (start : Option (List ℕ)) → is_down l.iface.state ≡ true → start ≡ behind (links_bytes stub_router l) start
unfolding links_of_link links_bytes
down_behind stub_router l start down = rw down (sym (behind_none start))

pub ends_behind : (stub_router : Bool) (l : LinkValue) (start mid after : Option (List ℕ)) → is_down l.iface.state ≡ false → l.iface.settings.kind ≡ kind.PointToPoint
    → mid ≡ behind (flat_map (router_link_bytes stub_router l) l.neighbours) start → after ≡ behind (subnet_bytes l) mid
    → after ≡ behind (links_bytes stub_router l) start
unfolding links_bytes
ends_behind stub_router l start mid after up is_kind is_mid is =
    is ∙ ap (λ (o : Option (List ℕ)). behind (subnet_bytes l) o)
    (is_mid ∙ ap (λ (zs : List ℕ). behind zs start) (sym (full_links stub_router l l.neighbours)))
    ∙ sym (subnets_behind (map (router_link stub_router l) (filter is_full l.neighbours)) l start)
    ∙ ap (λ (ls : List Link). behind (flat_map link_bytes ls) start) (sym (up_is stub_router l up ∙ ap (λ (k : InterfaceKind). links_of_kind k stub_router l) is_kind))

pub broadcast_behind : (stub_router : Bool) (l : LinkValue) (start after : Option (List ℕ)) → is_down l.iface.state ≡ false → l.iface.settings.kind ≡ kind.Broadcast
    → after ≡ behind (link_bytes (broadcast_link stub_router l)) start → after ≡ behind (links_bytes stub_router l) start
unfolding links_bytes
broadcast_behind stub_router l start after up is_kind is =
    is ∙ ap (λ (o : Option (List ℕ)). behind (link_bytes (broadcast_link stub_router l)) o) (sym (behind_none start))
    ∙ sym (one_behind [] (broadcast_link stub_router l) start)
    ∙ ap (λ (ls : List Link). behind (flat_map link_bytes ls) start) (sym (up_is stub_router l up ∙ ap (λ (k : InterfaceKind). links_of_kind k stub_router l) is_kind))

-- all links of a router, link by link
links_of_links : {X Y : Type 0} → (h : Y → List ℕ) (g : X → List Y) (xs : List X) → flat_map h (flat_map g xs) ≡ flat_map (λ x. flat_map h (g x)) xs
links_of_links h g [] = refl
links_of_links h g (x ∷ xs) = flat_map-append h (g x) (flat_map g xs) ∙ ap (λ (zs : List ℕ). flat_map h (g x) ++ zs) (links_of_links h g xs)

pub all_behind : (stub_router : Bool) (links : List LinkValue) (i : ℕ) (start : Option (List ℕ)) → length links ≤ i
    → behind (flat_map (links_bytes stub_router) (take i links)) start ≡ behind (flat_map link_bytes (flat_map (links_of_link stub_router) links)) start
unfolding links_bytes
all_behind stub_router links i start past =
    ap (λ (ls : List LinkValue). behind (flat_map (links_bytes stub_router) ls) start) (take_all i links past)
    ∙ ap (λ (zs : List ℕ). behind zs start) (sym (links_of_links link_bytes (links_of_link stub_router) links))

-- and the links to stub networks behind them
pub own_behind : (stub_router : Bool) (links : List LinkValue) (stubs : List StubNetwork) (start mid after : Option (List ℕ)) → mid ≡ behind (flat_map link_bytes (flat_map (links_of_link stub_router) links)) start
    → after ≡ behind (flat_map stub_bytes stubs) mid → after ≡ behind (flat_map link_bytes (own_links stub_router links stubs)) start
own_behind stub_router links stubs start mid after is_mid is =
    let of_links : List Link = flat_map (links_of_link stub_router) links in
    is ∙ ap (λ (o : Option (List ℕ)). behind (flat_map stub_bytes stubs) o) is_mid
    ∙ sym (behind-append (flat_map link_bytes of_links) (flat_map stub_bytes stubs) start)
    ∙ ap (λ (zs : List ℕ). behind (flat_map link_bytes of_links ++ zs) start) (sym (flat_map-map link_bytes stub_link stubs))
    ∙ ap (λ (zs : List ℕ). behind zs start) (sym (flat_map-append link_bytes of_links (map stub_link stubs)))

-- the routers attached to a network
pub attached_behind : (router : RouterId) (ns : List NeighbourValue) (start mid own after : Option (List ℕ)) → mid ≡ behind (flat_map (lower_bytes router) ns) start → own ≡ behind (router_bytes router) mid
    → after ≡ behind (flat_map (higher_bytes router) ns) own → after ≡ behind (routers_bytes (attached_routers router ns)) start
attached_behind router ns start mid own after is_mid is_own is =
    let before : List RouterId = map (λ (n : NeighbourValue). n.router) (filter (is_full_before router) ns) in
    let later : List RouterId = map (λ (n : NeighbourValue). n.router) (filter (is_full_behind router) ns) in
    is ∙ ap (λ (o : Option (List ℕ)). behind (flat_map (higher_bytes router) ns) o) (is_own ∙ ap (λ (o : Option (List ℕ)). behind (router_bytes router) o) is_mid)
    ∙ sym (behind-append (router_bytes router) (flat_map (higher_bytes router) ns) (behind (flat_map (lower_bytes router) ns) start))
    ∙ sym (behind-append (flat_map (lower_bytes router) ns) (router_bytes router ++ flat_map (higher_bytes router) ns) start)
    ∙ ap (λ (zs : List ℕ). behind zs start)
    (ap (λ (zs : List ℕ). zs ++ (router_bytes router ++ flat_map (higher_bytes router) ns)) (sym (before_routers router ns))
    ∙ ap (λ (zs : List ℕ). routers_bytes before ++ (router_bytes router ++ zs)) (sym (behind_routers router ns))
    ∙ sym (flat_map-append router_bytes before (router ∷ later)))
