-- Facts of LSAs, lists, states and copies, by which parts of a step are accounted for.
use Rattle.std.proofs.Common.{◌∙◌, sym, Bool, true, false, cond, ◌≡◌, ◌⊎◌, ◌+◌, ◌++◌, ℕ, zero, suc, List, [], ◌∷◌, length, map, Some, refl, ap, inl, inr, arith, zero-add, suc-add, ◌≤◌, ◌==◌, ℤ, None, subst, Option, add-zero}
use Rattle.std.specs.List.{Contains, slice_get, filter, find, AllByRecursion}
use Rattle.std.specs.Option.{option_map}
use Rattle.std.proofs.lemmas.Bool.{false≢true, cond-true, eqb-true, ltb-false}
use Rattle.std.proofs.lemmas.Option.{none-some, same_Some, slice_get_within, get_or_from_slice_get}
use Rattle.std.specs.Prelude.{◌<ℤ◌, int_lt, nat_lt, if◌then◌else◌, ◌&&◌}
use Rattle.std.proofs.lemmas.Int.{ints}
use Rattle.ospf_base.specs.Constants.{max_age}
use Rattle.ospf_base.specs.Instances.{Covers}
use Rattle.ospf_base.specs.Sums.{contents}
use Rattle.ospf_base.specs.declared.ids.Instance.{Instance}
use Rattle.ospf_base.specs.declared.ids.Kind.{Kind}
use Rattle.ospf_base.specs.declared.ids.Kind.TheVariants.{Router, Network}
use Rattle.ospf_base.specs.declared.ids.LsaKey.{LsaKey}
use Rattle.ospf_base.specs.declared.ids.RouterId.{RouterId}
use Rattle.ospf_lsa.specs.Header.{header_of}
use Rattle.ospf_lsa.specs.Lsa.{IsLsa, instance_of, type_of, key_of}
use Rattle.ospf_lsa.specs.Recency.{recency, recency_by_age}
use Rattle.ospf_lsa.specs.declared.header.LsaHeader.{LsaHeader}
use Rattle.ospf_lsa.specs.declared.recency.Recency.{Recency}
use Rattle.ospf_lsa.specs.declared.recency.Recency.TheVariants.{Newer, Older, Same}
use Rattle.ospf_base.specs.Keys.{key_from, same_key}
use Rattle.ospf_router.specs.AreaStep.Headers.{IsOfInstance}
use Rattle.ospf_lsdb.specs.Database.{Entry, Held, lsa_of, key_in, key_at, held_of, Puts, expired, IsDatabase, header_at, instance_at}
use Rattle.ospf_base.proofs.SameKeys.{same_key-eq}
use Rattle.ospf_neighbour.specs.Neighbour.{NeighbourValue}
use Rattle.ospf_neighbour.specs.Neighbours.{neighbour_of}
use Rattle.ospf_area.specs.State.{AreaValue, LinkValue, neighbour, database_entry, copy_of}
use Rattle.ospf_area.proofs.Words.{copy_in, neighbours_in}
use Rattle.ospf_area.specs.Places.{map_from}
use Rattle.ospf_router.specs.AreaStep.Words.{HasCopy, HoldsInstance}
use Rattle.ospf_router.specs.AreaStep.Parts.{at_max_age, leaves_if}
use Rattle.ospf_exchange.specs.Laws.{HasHeader, HasInstance}
use Rattle.ospf_exchange.proofs.LawLemmas.{of_copy}
use Rattle.ospf_lsa.specs.declared.fault.LsaFault.TheVariants as fault
use Rattle.ospf_lsdb.specs.Database as lsdb
use Rattle.ospf_area.specs.Outputs.{OutputsValue, no_outputs}
use Rattle.ospf_area.specs.Acting.{Becomes}
use Rattle.ospf_base.specs.declared.ids.Addr.{Addr}
use Rattle.ospf_packet.specs.Meaning.{Meaning}
use Rattle.ospf_router.specs.AreaStep.Step.{Part, parts_of_packet}
use Rattle.ospf_area.specs.Numbers.{is_own}
use Rattle.ospf_area.proofs.Updates.Words.{is_last}

-- ---- parts of definitions of specs/ by names of their own

-- a list of a neighbour that may not be there
abbrev pub list_in : {A : Type 0} → (NeighbourValue → List A) → Option NeighbourValue → List A
list_in list None = []
list_in list (Some n) = list n

-- the acknowledgements that wait on a link that may not be there (13.5)
abbrev pub delayed_in : Option LinkValue → List LsaHeader
delayed_in None = []
delayed_in (Some link) = link.delayed

-- what a datagram brings, if it is a packet
abbrev pub parts_of_datagram : ℕ → Addr → Option Meaning → List Part
parts_of_datagram link source None = []
parts_of_datagram link source (Some p) = parts_of_packet (record { link = link; router = p.router; address = source }) p p.body

-- and with it goes the numbering run of an own key that has used up its numbers (12.1.6)
abbrev pub ends_run_if : AreaValue → LsaKey → Option Entry → Bool
ends_run_if s key None = false
ends_run_if s key (Some e) = leaves_if s (Some e) && (is_own s.router key && is_last (Some e))

-- what was to be answered is answered (13.4)
abbrev pub AnswersAll : AreaValue → OutputsValue → AreaValue → Type 0
AnswersAll before out after = Becomes (record before { heard = [] }) no_outputs out after

-- ---- facts

-- what a test lets through, and nothing else, stays in a filter
pub Contains-map_cases : {X Y : Type 0} (f : X → Y) (xs : List X) (y : Y) → Contains (map f xs) y → (x : X) × Contains xs x × (f x ≡ y)
Contains-map_cases f [] y (k, within, is) = absurd (omega arith)
Contains-map_cases f (x ∷ xs) y (zero, within, is) = (x, (zero, omega arith, refl), is)
Contains-map_cases f (x ∷ xs) y (suc k, within, is) =
    let (found, (j, inside, there), same) = Contains-map_cases f xs y (k, omega arith, is) in
    (found, (suc j, omega arith, there), same)

pub Contains-map : {X Y : Type 0} (f : X → Y) (xs : List X) (x : X) → Contains xs x → Contains (map f xs) (f x)
Contains-map f [] x (k, within, is) = absurd (omega arith)
Contains-map f (y ∷ xs) x (zero, within, is) = (zero, omega arith, ap f is)
Contains-map f (y ∷ xs) x (suc k, within, is) =
    let (j, inside, there) = Contains-map f xs x (k, omega arith, is) in
    (suc j, omega arith, there)

pub Contains-nil : {X : Type 0} (x : X) → Contains [] x → ⊥
Contains-nil x (k, within, is) = omega arith

pub slice_get-append_cases : {X : Type 0} (xs ys : List X) (k : ℕ) (x : X) → slice_get (xs ++ ys) k ≡ Some x → (slice_get xs k ≡ Some x) ⊎ ((m : ℕ) × (k ≡ length xs + m) × (slice_get ys m ≡ Some x))
slice_get-append_cases [] ys k x e = inr (k, omega arith, e)
slice_get-append_cases (y ∷ xs) ys zero x e = inl e
slice_get-append_cases (y ∷ xs) ys (suc k) x e = elim (slice_get-append_cases xs ys k x e) [ inl a ↦ inl a | inr b ↦ inr (b.0, omega (arith, b.1), b.2) ]

pub slice_get-append_left : {X : Type 0} (xs ys : List X) (k : ℕ) (x : X) → slice_get xs k ≡ Some x → slice_get (xs ++ ys) k ≡ Some x
slice_get-append_left [] ys k x e = absurd (none-some x e)
slice_get-append_left (y ∷ xs) ys zero x e = e
slice_get-append_left (y ∷ xs) ys (suc k) x e = slice_get-append_left xs ys k x e

pub slice_get-map_cases : {X Y : Type 0} (f : X → Y) (xs : List X) (k : ℕ) (y : Y) → slice_get (map f xs) k ≡ Some y → (x : X) × (slice_get xs k ≡ Some x) × (f x ≡ y)
slice_get-map_cases f [] k y e = absurd (none-some y e)
slice_get-map_cases f (x ∷ xs) zero y e = (x, refl, same_Some (f x) y e)
slice_get-map_cases f (x ∷ xs) (suc k) y e = slice_get-map_cases f xs k y e

pub Contains-from_slice_get : {X : Type 0} (xs : List X) (k : ℕ) (x : X) → slice_get xs k ≡ Some x → Contains xs x
Contains-from_slice_get xs k x e = (k, slice_get_within xs k x e, get_or_from_slice_get xs k x x e)

pub slice_get-from_Contains : {X : Type 0} (xs : List X) (x : X) → Contains xs x → (k : ℕ) × (slice_get xs k ≡ Some x)
slice_get-from_Contains [] x (k, within, is) = absurd (omega arith)
slice_get-from_Contains (y ∷ xs) x (zero, within, is) = (zero, ap Some is)
slice_get-from_Contains (y ∷ xs) x (suc k, within, is) = let (j, e) = slice_get-from_Contains xs x (k, omega arith, is) in (suc j, e)

pub slice_get-append_right : {X : Type 0} (xs ys : List X) (m : ℕ) (x : X) → slice_get ys m ≡ Some x → slice_get (xs ++ ys) (length xs + m) ≡ Some x
slice_get-append_right [] ys m x e = rw zero-add e
slice_get-append_right (y ∷ xs) ys m x e = rw suc-add (slice_get-append_right xs ys m x e)

pub Contains-filter_cases : {X : Type 0} (p : X → Bool) (xs : List X) (x : X) → Contains (filter p xs) x → Contains xs x × (p x ≡ true)
Contains-filter_cases p [] x c = absurd (Contains-nil x c)
Contains-filter_cases p (y ∷ xs) x c = go (p y) refl c (λ c. Contains-filter_cases p xs x c)
  where
    later : Contains xs x × (p x ≡ true) → Contains (y ∷ xs) x × (p x ≡ true)
    later ((k, within, is), passes) = ((suc k, omega arith, is), passes)

    inside : Contains (y ∷ filter p xs) x → (y ≡ x) ⊎ Contains (filter p xs) x
    inside (zero, within, is) = inl is
    inside (suc k, within, is) = inr (k, omega arith, is)

    go : (b : Bool) → p y ≡ b → Contains (cond b (y ∷ filter p xs) (filter p xs)) x → (Contains (filter p xs) x → Contains xs x × (p x ≡ true)) → Contains (y ∷ xs) x × (p x ≡ true)
    go false e c rec = later (rec c)
    go true e c rec = elim (inside c) [ inl is ↦ ((0, omega arith, is), ap p (sym is) ∙ e) | inr rest ↦ later (rec rest) ]

pub Contains-filter : {X : Type 0} (p : X → Bool) (xs : List X) (x : X) → Contains xs x → p x ≡ true → Contains (filter p xs) x
Contains-filter p [] x c t = absurd (Contains-nil x c)
Contains-filter p (y ∷ xs) x (zero, within, is) t = go (p y) (ap p is ∙ t)
  where
    go : (b : Bool) → b ≡ true → Contains (cond b (y ∷ filter p xs) (filter p xs)) x
    go true e = (0, omega arith, is)
    go false e = absurd (false≢true e)
Contains-filter p (y ∷ xs) x (suc k, within, is) t = go (p y) (Contains-filter p xs x (k, omega arith, is) t)
  where
    go : (b : Bool) → Contains (filter p xs) x → Contains (cond b (y ∷ filter p xs) (filter p xs)) x
    go true (j, inside, there) = (suc j, omega arith, there)
    go false c = c

pub find-some : {X : Type 0} (p : X → Bool) (xs : List X) (x : X) → find p xs ≡ Some x → Contains xs x × (p x ≡ true)
find-some p [] x e = absurd (none-some x e)
find-some p (y ∷ xs) x e = go (p y) refl e (λ f. find-some p xs x f)
  where
    go : (b : Bool) → p y ≡ b → cond b (Some y) (find p xs) ≡ Some x → (find p xs ≡ Some x → Contains xs x × (p x ≡ true)) → Contains (y ∷ xs) x × (p x ≡ true)
    go true t e later = ((0, omega arith, same_Some y x e), ap p (sym (same_Some y x e)) ∙ t)
    go false t e later = let ((k, within, is), passes) = later e in ((suc k, omega arith, is), passes)

pub find-map : {X : Type 0} (p : X → Bool) (f : X → X) (xs : List X) → ((x : X) → p (f x) ≡ p x) → find p (map f xs) ≡ option_map f (find p xs)
find-map p f [] same = refl
find-map p f (y ∷ xs) same = go (p y) (same y) (find-map p f xs same)
  where
    go : (b : Bool) → p (f y) ≡ b → find p (map f xs) ≡ option_map f (find p xs) → cond (p (f y)) (Some (f y)) (find p (map f xs)) ≡ option_map f (cond b (Some y) (find p xs))
    go true e rest = rw e refl
    go false e rest = rw e rest

-- What headers name, and what recency says of instances.
-- ---- instances

made : LsaKey → ℤ → ℕ → Instance
made k n s = record { key = k; number = n; sum = s }

made_same : (k k' : LsaKey) (n n' : ℤ) (s s' : ℕ) → k ≡ k' → n ≡ n' → s ≡ s' → made k n s ≡ made k' n' s'
made_same k k' n n' s s' p q r = cc

pub instance_from_parts : (i j : Instance) → i.key ≡ j.key → i.number ≡ j.number → i.sum ≡ j.sum → i ≡ j
unfolding made
instance_from_parts i j k n s = made_same i.key j.key i.number j.number i.sum j.sum k n s

pub instance_of-contents : (lsa : List ℕ) → instance_of lsa ≡ instance_of (0 ∷ 0 ∷ contents lsa)
instance_of-contents [] = refl
instance_of-contents (a ∷ []) = refl
instance_of-contents (a ∷ b ∷ rest) = refl

-- LSAs of equal contents are of one instance
pub same_contents : (a b : List ℕ) → contents a ≡ contents b → instance_of a ≡ instance_of b
same_contents a b same = instance_of-contents a ∙ (ap (λ c. instance_of (0 ∷ 0 ∷ c)) same ∙ sym (instance_of-contents b))

-- ---- headers

key_made : Kind → ℕ → RouterId → LsaKey
key_made kind id router = record { kind = kind; id = id; router = router }

by_type : (type id : ℕ) (router : RouterId) (key : LsaKey) → key_from type id router ≡ Some key → key_made (cond (type == 2) Network Router) id router ≡ key
unfolding key_made
by_type type id router key e = go (type == 1) refl e
  where
    second : (two : Bool) → cond two (Some (key_made Network id router)) None ≡ Some key → key_made (cond two Network Router) id router ≡ key
    second true e = same_Some _ _ e
    second false e = absurd (none-some key e)

    one_not_two : (type == 1) ≡ true → (type == 2) ≡ false
    one_not_two is = let one : type ≡ 1 = eqb-true type 1 is in rw one refl

    go : (one : Bool) → (type == 1) ≡ one → cond one (Some (key_made Router id router)) (cond (type == 2) (Some (key_made Network id router)) None) ≡ Some key → key_made (cond (type == 2) Network Router) id router ≡ key
    go true is e = ap (λ two. key_made (cond two Network Router) id router) (one_not_two is) ∙ same_Some _ _ e
    go false is e = second (type == 2) e

-- the header of an LSA names its instance alone
pub header_names : (lsa : List ℕ) (i : Instance) → IsOfInstance (header_of lsa) i → instance_of lsa ≡ i
unfolding key_made
header_names lsa i is = instance_from_parts (instance_of lsa) i (by_type (type_of lsa) (header_of lsa).id (header_of lsa).router i.key is.key) is.number is.sum

known_type : (lsa : List ℕ) (type : ℕ) → (type ≡ 1) ⊎ (type ≡ 2) → key_from type (header_of lsa).id (header_of lsa).router ≡ Some (key_made (cond (type == 2) Network Router) (header_of lsa).id (header_of lsa).router)
unfolding key_made
known_type lsa type (inl one) = rw one refl
known_type lsa type (inr two) = rw two refl

-- and names it
pub header_is_of : (lsa : List ℕ) → IsLsa lsa → IsOfInstance (header_of lsa) (instance_of lsa)
unfolding key_made
header_is_of lsa is = record { key = known_type lsa (type_of lsa) (is fault.Kind); number = refl; sum = refl }

-- ---- recency

older_tests : (t1 t2 t3 t4 : Bool) (x : Recency) → cond t1 Newer (cond t2 Older (cond t3 Newer (cond t4 Older x))) ≡ Older → (t1 ≡ false) × ((t2 ≡ true) ⊎ ((t2 ≡ false) × (t3 ≡ false)))
older_tests true t2 t3 t4 x e = absurd (cc)
older_tests false true t3 t4 x e = (refl, inl refl)
older_tests false false true t4 x e = absurd (cc)
older_tests false false false t4 x e = (refl, inr (refl, refl))

same_tests : (t1 t2 t3 t4 : Bool) (x : Recency) → cond t1 Newer (cond t2 Older (cond t3 Newer (cond t4 Older x))) ≡ Same → (t1 ≡ false) × (t2 ≡ false) × (t3 ≡ false) × (t4 ≡ false)
same_tests true t2 t3 t4 x e = absurd (cc)
same_tests false true t3 t4 x e = absurd (cc)
same_tests false false true t4 x e = absurd (cc)
same_tests false false false true x e = absurd (cc)
same_tests false false false false x e = (refl, refl, refl, refl)

neither_less : (a b : ℤ) → int_lt a b ≡ false → int_lt b a ≡ false → a ≡ b
neither_less a b e f = grind (arith, ints)

less : (a b : ℤ) → int_lt a b ≡ true → a <ℤ b
less a b e = grind (arith, ints)

older_numbers : (a b : LsaHeader) → recency a b ≡ Older → (a.number <ℤ b.number) ⊎ ((a.number ≡ b.number) × (a.sum ≤ b.sum))
older_numbers a b e = go (older_tests (int_lt b.number a.number) (int_lt a.number b.number) (nat_lt b.sum a.sum) (nat_lt a.sum b.sum) (recency_by_age a.age b.age) e)
  where
    go : (int_lt b.number a.number ≡ false) × ((int_lt a.number b.number ≡ true) ⊎ ((int_lt a.number b.number ≡ false) × (nat_lt b.sum a.sum ≡ false))) → (a.number <ℤ b.number) ⊎ ((a.number ≡ b.number) × (a.sum ≤ b.sum))
    go (t1, inl t2) = inl (less a.number b.number t2)
    go (t1, inr (t2, t3)) = inr (neither_less a.number b.number t2 t1, ltb-false b.sum a.sum t3)

-- an older header is covered by the other
pub recency-older : (a b : LsaHeader) (i j : Instance) → IsOfInstance a i → IsOfInstance b j → i.key ≡ j.key → recency a b ≡ Older → Covers j i
recency-older a b i j is_a is_b same e = (sym same, go (older_numbers a b e))
  where
    go : (a.number <ℤ b.number) ⊎ ((a.number ≡ b.number) × (a.sum ≤ b.sum)) → (i.number <ℤ j.number) ⊎ ((j.number ≡ i.number) × (i.sum ≤ j.sum))
    go (inl lt) = inl (subst (λ n. n <ℤ j.number) is_a.number (subst (λ n. a.number <ℤ n) is_b.number lt))
    go (inr (n, le)) = inr (sym is_b.number ∙ (sym n ∙ is_a.number), subst (λ s. s ≤ j.sum) is_a.sum (subst (λ s. a.sum ≤ s) is_b.sum le))

-- headers that are the same are of one instance
pub recency-same : (a b : LsaHeader) (i j : Instance) → IsOfInstance a i → IsOfInstance b j → i.key ≡ j.key → recency a b ≡ Same → i ≡ j
recency-same a b i j is_a is_b same e =
    let (t1, t2, t3, t4) = same_tests (int_lt b.number a.number) (int_lt a.number b.number) (nat_lt b.sum a.sum) (nat_lt a.sum b.sum) (recency_by_age a.age b.age) e in
    let above : a.sum ≤ b.sum = ltb-false b.sum a.sum t3 in
    let below : b.sum ≤ a.sum = ltb-false a.sum b.sum t4 in
    let sums : a.sum ≡ b.sum = omega arith in
    instance_from_parts i j same (sym is_a.number ∙ (neither_less a.number b.number t2 t1 ∙ is_b.number)) (sym is_a.sum ∙ (sums ∙ is_b.sum))

is_less : (a b : ℤ) → a <ℤ b → int_lt a b ≡ true
is_less a b lt = grind (arith, ints)

-- an LSA of a greater number is newer, whatever the ages
pub greater_is_newer : (a b : LsaHeader) → b.number <ℤ a.number → recency a b ≡ Newer
greater_is_newer a b lt = cond-true (int_lt b.number a.number) _ _ (is_less b.number a.number lt)

tests : Bool → Bool → Bool → Bool → Recency → Recency
tests t1 t2 t3 t4 x = cond t1 Newer (cond t2 Older (cond t3 Newer (cond t4 Older x)))

newer_by_tests : (t1 t2 t3 t4 : Bool) (x y : Recency) → (x ≡ Newer → ⊥) → tests t1 t2 t3 t4 x ≡ Newer → tests t1 t2 t3 t4 y ≡ Newer
unfolding tests
newer_by_tests true t2 t3 t4 x y never e = refl
newer_by_tests false true t3 t4 x y never e = absurd (cc)
newer_by_tests false false true t4 x y never e = refl
newer_by_tests false false false true x y never e = absurd (cc)
newer_by_tests false false false false x y never e = absurd (never e)

not_by_age : (age : ℕ) → recency_by_age age max_age ≡ Newer → ⊥
not_by_age age e = go (age == max_age) e
  where
    go : (b : Bool) → cond b Same (cond b Newer Older) ≡ Newer → ⊥
    go true e = absurd (cc)
    go false e = absurd (cc)

over : LsaHeader → ℤ → ℕ → Recency → Recency
over a number sum x = tests (int_lt number a.number) (int_lt a.number number) (nat_lt sum a.sum) (nat_lt a.sum sum) x

-- what is newer than a copy at MaxAge is newer than it was at any age
pub newer_than_expired : (a b c : LsaHeader) → b.age ≡ max_age → c.number ≡ b.number → c.sum ≡ b.sum → recency a b ≡ Newer → recency a c ≡ Newer
unfolding over tests
newer_than_expired a b c expired number sum newer =
    subst (λ n. over a n c.sum (recency_by_age a.age c.age) ≡ Newer) (sym number)
    (subst (λ s. over a b.number s (recency_by_age a.age c.age) ≡ Newer) (sym sum)
    (newer_by_tests (int_lt b.number a.number) (int_lt a.number b.number) (nat_lt b.sum a.sum) (nat_lt a.sum b.sum) (recency_by_age a.age b.age) (recency_by_age a.age c.age)
    (λ e. not_by_age a.age (ap (λ age. recency_by_age a.age age) (sym expired) ∙ e)) newer))

-- Neighbours, copies and delayed acknowledgements after a change.
router_made : ℕ → RouterId
router_made n = record { 0 = n }

-- Router IDs of one number are one
pub same_router : (a b : RouterId) → a.0 ≡ b.0 → a ≡ b
unfolding router_made
same_router a b e = ap router_made e

pub slice_get-map_from : {X : Type 0} (f : ℕ → X → X) (k : ℕ) (xs : List X) (i : ℕ) → slice_get (map_from f k xs) i ≡ option_map (f (k + i)) (slice_get xs i)
slice_get-map_from f k [] i = refl
slice_get-map_from f k (x ∷ xs) zero = rw add-zero refl
slice_get-map_from f k (x ∷ xs) (suc i) = slice_get-map_from f (suc k) xs i ∙ ap (λ n. option_map (f n) (slice_get xs i)) (omega arith)

zero_more : (l : ℕ) → 0 + l ≡ l
zero_more l = omega arith

pub link-changed : (f : ℕ → LinkValue → LinkValue) (before after : AreaValue) (l : ℕ) → after.links ≡ map_from f 0 before.links → slice_get after.links l ≡ option_map (f l) (slice_get before.links l)
link-changed f before after l links = ap (λ ls. slice_get ls l) links ∙ (slice_get-map_from f 0 before.links l ∙ ap (λ n. option_map (f n) (slice_get before.links l)) (zero_more l))

-- the neighbour after a change of each link that knows its number
pub neighbour-changed : (f : ℕ → LinkValue → LinkValue) (g : ℕ → NeighbourValue → NeighbourValue) (before after : AreaValue) → after.links ≡ map_from f 0 before.links → ((l : ℕ) (link : LinkValue) → (f l link).neighbours ≡ map (g l) link.neighbours) → ((l : ℕ) (n : NeighbourValue) → (g l n).router ≡ n.router) → (l : ℕ) (q : RouterId) → neighbour after l q ≡ option_map (g l) (neighbour before l q)
neighbour-changed f g before after links each keeps l q =
    ap (λ o. neighbour_of (neighbours_in o) q) (link-changed f before after l links) ∙ go (slice_get before.links l)
  where
    go : (o : Option LinkValue) → neighbour_of (neighbours_in (option_map (f l) o)) q ≡ option_map (g l) (neighbour_of (neighbours_in o) q)
    go None = refl
    go (Some link) = ap (λ ns. neighbour_of ns q) (each l link) ∙ find-map (λ n. n.router.0 == q.0) (g l) link.neighbours (λ n. ap (λ r. r.0 == q.0) (keeps l n))

pub neighbour-router : (s : AreaValue) (l : ℕ) (q : RouterId) (n : NeighbourValue) → neighbour s l q ≡ Some n → n.router ≡ q
neighbour-router s l q n e = same_router n.router q (eqb-true n.router.0 q.0 (find-some (λ n. n.router.0 == q.0) (neighbours_in (slice_get s.links l)) n e).1)

-- the copy of a key has the key
pub entry_of-key : (s : AreaValue) (key : LsaKey) (e : Entry) → database_entry s key ≡ Some e → key_in e.contents ≡ key
entry_of-key s key e is = go (held_of s.database key) refl is
  where
    go : (o : Option Held) → held_of s.database key ≡ o → option_map (λ h. h.entry) o ≡ Some e → key_in e.contents ≡ key
    go None found is = absurd (none-some e is)
    go (Some h) found is = ap (λ e. key_in e.contents) (sym (same_Some h.entry e is)) ∙ same_key-eq (key_at h) key (find-some (λ h. same_key (key_at h) key) s.database h found).1

pub key_of-lsa_of : (e : Entry) → key_of (lsa_of e) ≡ key_in e.contents
unfolding key_in
key_of-lsa_of e = refl

pub copy_of-key : (s : AreaValue) (key : LsaKey) (lsa : List ℕ) → copy_of s key ≡ Some lsa → key_of lsa ≡ key
copy_of-key s key lsa is = go (database_entry s key) refl is
  where
    go : (o : Option Entry) → database_entry s key ≡ o → copy_in o ≡ Some lsa → key_of lsa ≡ key
    go None at is = absurd (none-some lsa is)
    go (Some e) at is = ap key_of (sym (same_Some (lsa_of e) lsa is)) ∙ (key_of-lsa_of e ∙ entry_of-key s key e at)

-- the copy of a key is one that the database has
pub copy_of-has : (s : AreaValue) (key : LsaKey) (lsa : List ℕ) → copy_of s key ≡ Some lsa → HasCopy s lsa
copy_of-has s key lsa is = ap (copy_of s) (copy_of-key s key lsa is) ∙ is

-- two copies of one key are one
pub copies_agree : (s : AreaValue) (a b : List ℕ) → HasCopy s a → HasCopy s b → key_of a ≡ key_of b → a ≡ b
copies_agree s a b has_a has_b same = same_Some a b (sym has_a ∙ (ap (copy_of s) same ∙ has_b))

-- instances of one key that are held are one
pub held_agree : (s : AreaValue) (i j : Instance) → HoldsInstance s i → HoldsInstance s j → i.key ≡ j.key → i ≡ j
held_agree s i j (a, has_a, is_a) (b, has_b, is_b) same =
    sym is_a ∙ (ap instance_of (copies_agree s a b has_a has_b (ap (λ i. i.key) is_a ∙ (same ∙ sym (ap (λ i. i.key) is_b)))) ∙ is_b)

-- a list of a neighbour after a change
pub list-changed : {A : Type 0} (list : NeighbourValue → List A) (g : NeighbourValue → NeighbourValue) (o o' : Option NeighbourValue) (x : A) → o' ≡ option_map g o → Contains (list_in list o') x → (n : NeighbourValue) × (o ≡ Some n) × Contains (list (g n)) x
list-changed list g None o' x same c = absurd (let (k, within, is) = subst (λ o. Contains (list_in list o) x) same c in omega arith)
list-changed list g (Some n) o' x same c = (n, refl, subst (λ o. Contains (list_in list o) x) same c)

-- What the layers below call a header or an instance of the database is held.
pub HasInstance-held : (s : AreaValue) (i : Instance) → IsDatabase s.database → HasInstance s.database i → HoldsInstance s i
HasInstance-held s i is has =
    let (e, at, same) = of_copy instance_at s.database is.rising i has in
    (lsa_of e, copy_of-has s (key_in e.contents) (lsa_of e) (ap copy_in at), same)

pub HasHeader-held : (s : AreaValue) (h : LsaHeader) → IsDatabase s.database → HasHeader s.database h → (i : Instance) → IsOfInstance h i → HoldsInstance s i
HasHeader-held s h is has i names =
    let (e, at, same) = of_copy header_at s.database is.rising h has in
    (lsa_of e, copy_of-has s (key_in e.contents) (lsa_of e) (ap copy_in at), header_names (lsa_of e) i (subst (λ h. IsOfInstance h i) (sym same) names))

-- ---- a copy that is brought to MaxAge

pub set_age : Entry → ℕ → Entry
set_age e age = record { age = age; contents = e.contents; tick = e.tick; by_flooding = e.by_flooding }

pub expired_entry : (h : Held) → h.entry.age ≤ max_age → (expired h).entry ≡ at_max_age h.entry
unfolding expired set_age
expired_entry h le = go (nat_lt h.entry.age max_age) refl
  where
    go : (b : Bool) → nat_lt h.entry.age max_age ≡ b → (cond b (record { entry = record h.entry { age = max_age }; reached = false }) h).entry ≡ at_max_age h.entry
    go true e = refl
    go false e =
        let le' : max_age ≤ h.entry.age = ltb-false h.entry.age max_age e in
        let is : h.entry.age ≡ max_age = omega arith in
        ap (set_age h.entry) is

pub age_of_held : (db : List Held) (key : LsaKey) (h : Held) → IsDatabase db → held_of db key ≡ Some h → h.entry.age ≤ max_age
age_of_held db key h is at = from_all db (find-some (λ h. same_key (key_at h) key) db h at).0 is.ages
  where
    from_all : (xs : List Held) → Contains xs h → AllByRecursion (λ h. h.entry.age ≤ max_age) xs → h.entry.age ≤ max_age
    from_all [] (k, within, e) all = absurd (omega arith)
    from_all (x ∷ xs) (zero, within, e) all = subst (λ h. h.entry.age ≤ max_age) e all.0
    from_all (x ∷ xs) (suc k, within, e) all = from_all xs (k, omega arith, e) all.1

-- what `Lsdb::expire` makes of the database is what an expiry makes of its entries
pub expires-entries : (key : LsaKey) (copy : Entry) (before after : List Held) → IsDatabase before → lsdb.entry_of before key ≡ Some copy → Puts key (option_map expired (held_of before key)) before after → (k : LsaKey) → lsdb.entry_of after k ≡ (if same_key key k then Some (at_max_age copy) else lsdb.entry_of before k)
expires-entries key copy before after is at puts k = ap (option_map (λ h. h.entry)) (puts k) ∙ go (same_key key k)
  where
    now : (o : Option Held) → held_of before key ≡ o → option_map (λ h. h.entry) o ≡ Some copy → option_map (λ h. h.entry) (option_map expired o) ≡ Some (at_max_age copy)
    now None here e = absurd (none-some copy e)
    now (Some h) here e = ap Some (expired_entry h (age_of_held before key h is here) ∙ ap at_max_age (same_Some h.entry copy e))

    go : (b : Bool) → option_map (λ h. h.entry) (cond b (option_map expired (held_of before key)) (held_of before k)) ≡ cond b (Some (at_max_age copy)) (lsdb.entry_of before k)
    go true = now (held_of before key) refl at
    go false = refl
