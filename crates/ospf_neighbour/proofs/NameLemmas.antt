-- The names of a request list's LSAs, and a list that has no entry of a name.
use Rattle.std.proofs.Common.{◌≡◌, ◌&&◌, ◌||◌, ◌==◌, ◌∙◌, ◌≤◌, ℕ, zero, suc, Bool, true, false, cond, not, List, [], ◌∷◌, Some, None, length, find, take, refl, sym, ap, arith}
use Rattle.std.specs.List.{list_any, position}
use Rattle.std.proofs.lemmas.Bool.{eqb-true}
use Rattle.std.proofs.lemmas.Grind.{common_steps}
use Rattle.std.proofs.lemmas.List.{length-take-le}
use Rattle.std.proofs.lemmas.List.Folds.{list_any_at}
use Rattle.std.proofs.lemmas.List.Quantifiers.{position-Some}
use Rattle.std.proofs.lemmas.Map.Views.{any-filter_same}
use Rattle.ospf_base.specs.declared.ids.LsaKey.{LsaKey}
use Rattle.ospf_lsa.specs.declared.header.LsaHeader.{LsaHeader}
use Rattle.ospf_neighbour.specs.Lists.{is_header_of, request_of, request_put, requests_without, unrequested, AreNamesOf, is_named, name_eq, name_of, name_of_key}
use Rattle.ospf_neighbour.proofs.Words.{is_of_other, is_requested}
use Rattle.ospf_neighbour.specs.Neighbour.{NeighbourValue}
use Rattle.ospf_neighbour.specs.OneAKey.{is_of_one_lsa}
use Rattle.ospf_neighbour.specs.declared.requests.LsaName.{LsaName}
use Rattle.ospf_neighbour.proofs.KeyLemmas.{cond_not, neither, none_leaves}
use Rattle.ospf_neighbour.proofs.RequestLemmas.{split_and}

-- ---- one name

turned : (a b : ℕ) → (a == b) ≡ (b == a)
turned a b = grind (arith, common_steps)

name_eq-parts : (a b : LsaName) → name_eq a b ≡ ((a.kind == b.kind) && (a.id == b.id) && (a.router.0 == b.router.0))
name_eq-parts a b = assoc (a.kind == b.kind) (a.id == b.id) (a.router.0 == b.router.0)
  where
    assoc : (p q s : Bool) → p && (q && s) ≡ (p && q) && s
    assoc true q s = refl
    assoc false q s = refl

name_eq-is : (n : LsaName) (h : LsaHeader) → name_eq (name_of h) n ≡ is_named n h
unfolding is_named
name_eq-is n h =
    let k = turned h.kind n.kind in
    let i = turned h.id n.id in
    let r = turned h.router.0 n.router.0 in
    name_eq-parts (name_of h) n ∙ (rw (k, i, r) refl)

pub named_key : (key : LsaKey) (h : LsaHeader) → is_named (name_of_key key) h ≡ is_header_of key h
unfolding is_named is_header_of
named_key key h = refl

-- what a name is that of a header
as_its_name : (n m : LsaName) (h : LsaHeader) → is_named n h ≡ true → is_named m h ≡ name_eq m n
unfolding is_named
as_its_name n m h is =
    let p = split_and ((n.kind == h.kind) && (n.id == h.id)) (n.router.0 == h.router.0) is in
    let q = split_and (n.kind == h.kind) (n.id == h.id) p.0 in
    let kind : n.kind ≡ h.kind = eqb-true n.kind h.kind q.0 in
    let id : n.id ≡ h.id = eqb-true n.id h.id q.1 in
    let router : n.router.0 ≡ h.router.0 = eqb-true n.router.0 h.router.0 p.1 in
    let parts = name_eq-parts m n in
    cc

-- two headers of one LSA are of one name
one_named : (n : LsaName) (h r : LsaHeader) → is_of_one_lsa h r ≡ true → is_named n h ≡ is_named n r
unfolding is_named is_of_one_lsa
one_named n h r is =
    let p = split_and ((h.kind == r.kind) && (h.id == r.id)) (h.router.0 == r.router.0) is in
    let q = split_and (h.kind == r.kind) (h.id == r.id) p.0 in
    let kind : h.kind ≡ r.kind = eqb-true h.kind r.kind q.0 in
    let id : h.id ≡ r.id = eqb-true h.id r.id q.1 in
    let router : h.router.0 ≡ r.router.0 = eqb-true h.router.0 r.router.0 p.1 in
    cc

-- and those of a header's name are of its LSA
pub named_one : (n : LsaName) (h r : LsaHeader) → is_named n h ≡ true → is_named n r ≡ is_of_one_lsa h r
unfolding is_named is_of_one_lsa
named_one n h r is =
    let p = split_and ((n.kind == h.kind) && (n.id == h.id)) (n.router.0 == h.router.0) is in
    let q = split_and (n.kind == h.kind) (n.id == h.id) p.0 in
    let kind : n.kind ≡ h.kind = eqb-true n.kind h.kind q.0 in
    let id : n.id ≡ h.id = eqb-true n.id h.id q.1 in
    let router : n.router.0 ≡ h.router.0 = eqb-true n.router.0 h.router.0 p.1 in
    cc

-- ---- what is on the list

pub any_key : (key : LsaKey) (rs : List LsaHeader) → list_any (is_named (name_of_key key)) rs ≡ is_requested key rs
any_key key [] = refl
any_key key (r ∷ rs) = let first = named_key key r in let more = any_key key rs in rw (first, more) refl

pub any_header : (h : LsaHeader) (rs : List LsaHeader) → list_any (is_named (name_of h)) rs ≡ list_any (is_of_one_lsa h) rs
unfolding is_named is_of_one_lsa
any_header h rs = refl

any_one : (n : LsaName) (h : LsaHeader) (rs : List LsaHeader) → is_named n h ≡ true → list_any (is_named n) rs ≡ list_any (is_of_one_lsa h) rs
any_one n h [] is = refl
any_one n h (r ∷ rs) is = let first = named_one n h r is in let more = any_one n h rs is in rw (first, more) refl

-- ---- nothing of a name

no_find : {X : Type 0} (p : X → Bool) (xs : List X) → list_any p xs ≡ false → find p xs ≡ None
no_find p [] none = refl
no_find p (x ∷ xs) none = let s = neither (p x) (list_any p xs) none in rw s.0 (no_find p xs s.1)

pub no_request : (key : LsaKey) (rs : List LsaHeader) → is_requested key rs ≡ false → request_of key rs ≡ None
no_request key rs none = no_find (is_header_of key) rs none

none_in_front : {X : Type 0} (p : X → Bool) (k : ℕ) (xs : List X) → list_any p xs ≡ false → list_any p (take k xs) ≡ false
none_in_front p zero xs none = refl
none_in_front p (suc k) [] none = refl
none_in_front p (suc k) (x ∷ xs) none = let s = neither (p x) (list_any p xs) none in rw s.0 (none_in_front p k xs s.1)

asking : NeighbourValue → List LsaHeader → ℕ → NeighbourValue
asking n rs asked = record n { requests = rs; asked = asked }

-- without an entry of the key nothing changes
pub nothing_unrequested : (key : LsaKey) (n : NeighbourValue) → is_requested key n.requests ≡ false → n.asked ≤ length n.requests → n ≡ unrequested key n
unfolding asking
nothing_unrequested key n none within =
    let all = none_leaves (is_header_of key) n.requests none in
    let front = none_leaves (is_header_of key) (take n.asked n.requests) (none_in_front (is_header_of key) n.asked n.requests none) in
    ap (λ (rs : List LsaHeader). asking n rs n.asked) (sym all)
    ∙ ap (λ (k : ℕ). asking n (requests_without key n.requests) k) (sym (ap length front ∙ length-take-le n.asked n.requests within))

-- ---- the names of a list

or_same : (x y more : Bool) → x ≡ y → x || more ≡ x || (y || more)
or_same true y more is = refl
or_same false y more is = rw (sym is) refl

or_swapped : (x y more : Bool) → y || (x || more) ≡ x || (y || more)
or_swapped true true more = refl
or_swapped true false more = refl
or_swapped false y more = refl

cond_first : (b more : Bool) → cond b true more ≡ b || more
cond_first true more = refl
cond_first false more = refl

any_if : (b : Bool) (n : LsaName) (h r : LsaHeader) (rs put : List LsaHeader) → is_of_one_lsa h r ≡ b → list_any (is_named n) put ≡ is_named n h || list_any (is_named n) rs
    → list_any (is_named n) (cond b (h ∷ rs) (r ∷ put)) ≡ is_named n h || (is_named n r || list_any (is_named n) rs)
any_if true n h r rs put one more = or_same (is_named n h) (is_named n r) (list_any (is_named n) rs) (one_named n h r one)
any_if false n h r rs put one more =
    ap (λ (b : Bool). is_named n r || b) more ∙ or_swapped (is_named n h) (is_named n r) (list_any (is_named n) rs)

any_put : (n : LsaName) (h : LsaHeader) (rs : List LsaHeader) → list_any (is_named n) (request_put h rs) ≡ is_named n h || list_any (is_named n) rs
any_put n h [] = refl
any_put n h (r ∷ rs) = any_if (is_of_one_lsa h r) n h r rs (request_put h rs) refl (any_put n h rs)

-- a header is put, and its name added
pub AreNamesOf-put : (has now : LsaName → Bool) (h : LsaHeader) (rs : List LsaHeader) → AreNamesOf has rs → ((n : LsaName) → now n ≡ cond (name_eq (name_of h) n) true (has n))
    → AreNamesOf now (request_put h rs)
AreNamesOf-put has now h rs are new n =
    new n ∙ cond_first (name_eq (name_of h) n) (has n) ∙ ap (λ (b : Bool). b || has n) (name_eq-is n h) ∙ ap (λ (b : Bool). is_named n h || b) (are n) ∙ sym (any_put n h rs)

or_there : (x more : Bool) → (x ≡ true → more ≡ true) → more ≡ x || more
or_there true more is = is refl
or_there false more is = refl

-- a header takes the place of one of its LSA
pub AreNamesOf-placed : (has : LsaName → Bool) (h : LsaHeader) (rs : List LsaHeader) (at : ℕ) → position (is_of_one_lsa h) rs ≡ Some at → AreNamesOf has rs
    → AreNamesOf has (request_put h rs)
AreNamesOf-placed has h rs at found are n =
    let p = position-Some (is_of_one_lsa h) rs at h found in
    let there = list_any_at (is_of_one_lsa h) rs at h p.0 p.1 in
    are n ∙ or_there (is_named n h) (list_any (is_named n) rs) (λ is. any_one n h rs is ∙ there) ∙ sym (any_put n h rs)

-- a key's requests leave, and its name
pub AreNamesOf-remove : (has now : LsaName → Bool) (key : LsaKey) (rs : List LsaHeader) → AreNamesOf has rs
    → ((n : LsaName) → now n ≡ cond (name_eq (name_of_key key) n) false (has n)) → AreNamesOf now (requests_without key rs)
AreNamesOf-remove has now key rs are new n =
    let name = name_of_key key in
    new n ∙ sym (cond_not (name_eq name n) (has n)) ∙ ap (λ (b : Bool). not (name_eq name n) && b) (are n)
    ∙ sym (any-filter_same (is_named n) (is_of_other key) (not (name_eq name n)) (λ h is. ap not (sym (named_key key h) ∙ as_its_name n name h is)) rs)
