-- The order in which findings are told.
use Rattle.std.proofs.Common.{rules, ◌≡◌, ◌<◌, ◌≤◌, ◌+◌, ◌&&◌, ◌⊎◌, ℕ, zero, Bool, true, false, nat_lt, List, [], ◌∷◌, ◌++◌, map, ◌∙◌, ap, sym, subst, refl, inl, inr, arith, Option, Some, None, cond, filter}
use Rattle.std.proofs.lemmas.List.Elements.{Contains-append_cases}
use Rattle.std.specs.List.{Contains, cons_option, enumerate_from, filter_map, find, flat_map}
use Rattle.ospf_config.specs.declared.config.Config.{Config}
use Rattle.ospf_config.specs.declared.interface.Interface.{Interface}
use Rattle.ospf_plan.specs.declared.ends.LinkEnd.{LinkEnd}
use Rattle.ospf_plan.specs.declared.fault.AreaFault.{AreaFault}
use Rattle.ospf_plan.specs.Ends.{link_end_of, ends_at, ends_of}
use Rattle.ospf_plan.specs.Findings.{around_of, every_fault, found, found_at, found_in}
use Rattle.ospf_plan.specs.Laws.{IsAhead, IsFindingBefore, area_fault_number}
use Rattle.ospf_plan.proofs.Words.{RisesBy}
use Rattle.ospf_plan.proofs.Members.{filter_from, flat_from, in_cases, later_in, none_in_nil, some_from}
use Rattle.ospf_plan.proofs.FindingLemmas.{says}

-- ---- lists that rise

pub rising_append : {X : Type 0} (R : X → X → Type 0) (xs ys : List X) → RisesBy R xs → RisesBy R ys → ((x y : X) → Contains xs x → Contains ys y → R x y) → RisesBy R (xs ++ ys)
rising_append R [] ys up more apart = more
rising_append R (x ∷ xs) ys up more apart = (
  (λ y at. elim (Contains-append_cases xs ys y at) [ inl here ↦ up.0 y here | inr there ↦ apart x y (zero, omega arith, refl) there ]),
  rising_append R xs ys up.1 more (λ z y here there. apart z y (later_in x xs z here) there),
)

pub rising_flat : {X Y : Type 0} (R : X → X → Type 0) (S : Y → Y → Type 0) (f : X → List Y) (xs : List X) → RisesBy R xs → ((x : X) → RisesBy S (f x))
    → ((x z : X) (a b : Y) → R x z → Contains (f x) a → Contains (f z) b → S a b) → RisesBy S (flat_map f xs)
rising_flat R S f [] up each apart = up
rising_flat R S f (x ∷ xs) up each apart =
    rising_append S (f x) (flat_map f xs) (each x) (rising_flat R S f xs up.1 each apart)
    (λ a b here there. let (z, at, is) = flat_from f xs b there in apart x z a b (up.0 z at) here is)

rising_option : {X Y : Type 0} (R : X → X → Type 0) (S : Y → Y → Type 0) (h : X → Option Y) (x : X) (xs : List X) (o : Option Y) → h x ≡ o → RisesBy R (x ∷ xs)
    → ((w z : X) (a b : Y) → R w z → h w ≡ Some a → h z ≡ Some b → S a b) → RisesBy S (filter_map h xs) → RisesBy S (cons_option o (filter_map h xs))
rising_option R S h x xs None is up apart rest = rest
rising_option R S h x xs (Some a) is up apart rest = ((λ b at. let (z, among, gives) = some_from h xs b at in apart x z a b (up.0 z among) is gives), rest)

pub rising_some : {X Y : Type 0} (R : X → X → Type 0) (S : Y → Y → Type 0) (h : X → Option Y) (xs : List X) → RisesBy R xs
    → ((w z : X) (a b : Y) → R w z → h w ≡ Some a → h z ≡ Some b → S a b) → RisesBy S (filter_map h xs)
rising_some R S h [] up apart = up
rising_some R S h (x ∷ xs) up apart = rising_option R S h x xs (h x) refl up apart (rising_some R S h xs up.1 apart)

pub map_from : {X Y : Type 0} (f : X → Y) (xs : List X) (y : Y) → Contains (map f xs) y → (x : X) × Contains xs x × (f x ≡ y)
map_from f [] y h = absurd (none_in_nil y h)
map_from f (x ∷ xs) y h = elim (in_cases (f x) (map f xs) y h)
    [ inl same ↦ (x, (zero, omega arith, refl), same) | inr later ↦ (let (z, at, is) = map_from f xs y later in (z, later_in x xs z at, is)) ]

pub rising_map : {X Y : Type 0} (R : X → X → Type 0) (S : Y → Y → Type 0) (f : X → Y) (xs : List X) → RisesBy R xs → ((x z : X) → R x z → S (f x) (f z)) → RisesBy S (map f xs)
rising_map R S f [] up keeps = up
rising_map R S f (x ∷ xs) up keeps = ((λ b at. let (z, among, is) = map_from f xs b at in subst (λ y. S (f x) y) is (keeps x z (up.0 z among))), rising_map R S f xs up.1 keeps)

rising_kept : {X : Type 0} (R : X → X → Type 0) (p : X → Bool) (x : X) (xs : List X) (b : Bool) → RisesBy R (x ∷ xs) → RisesBy R (filter p xs)
    → RisesBy R (cond b (x ∷ filter p xs) (filter p xs))
rising_kept R p x xs false up rest = rest
rising_kept R p x xs true up rest = ((λ y at. up.0 y (filter_from p xs y at).0), rest)

pub rising_filter : {X : Type 0} (R : X → X → Type 0) (p : X → Bool) (xs : List X) → RisesBy R xs → RisesBy R (filter p xs)
rising_filter R p [] up = up
rising_filter R p (x ∷ xs) up = rising_kept R p x xs (p x) up (rising_filter R p xs up.1)

not_both : true ≡ false → ⊥
not_both e = search rules

first_or : {X : Type 0} (R : X → X → Type 0) (p : X → Bool) (z : X) (zs : List X) (x : X) (b : Bool) → p z ≡ b → RisesBy R (z ∷ zs) → Contains (z ∷ zs) x → p x ≡ true
    → (Contains zs x → (y : X) × (find p zs ≡ Some y) × ((y ≡ x) ⊎ R y x)) → (y : X) × (cond b (Some z) (find p zs) ≡ Some y) × ((y ≡ x) ⊎ R y x)
first_or R p z zs x true e up at is rest = (z, refl, elim (in_cases z zs x at) [ inl same ↦ inl same | inr later ↦ inr (up.0 x later) ])
first_or R p z zs x false e up at is rest = elim (in_cases z zs x at) [ inl same ↦ absurd (not_both (sym is ∙ ap p (sym same) ∙ e)) | inr later ↦ rest later ]

-- what is found is that which was looked for, or before it
pub finds_first : {X : Type 0} (R : X → X → Type 0) (p : X → Bool) (xs : List X) (x : X) → RisesBy R xs → Contains xs x → p x ≡ true
    → (y : X) × (find p xs ≡ Some y) × ((y ≡ x) ⊎ R y x)
finds_first R p [] x up at is = absurd (none_in_nil x at)
finds_first R p (z ∷ zs) x up at is = first_or R p z zs x (p z) refl up at is (λ later. finds_first R p zs x up.1 later is)

-- ---- numbered lists

from_on : {X : Type 0} (n : ℕ) (xs : List X) (e : ℕ × X) → Contains (enumerate_from n xs) e → n ≤ e.0
from_on n [] e h = absurd (none_in_nil e h)
from_on n (x ∷ xs) e h = elim (in_cases (n, x) (enumerate_from (n + 1) xs) e h)
    [ inl same ↦ (let is : n ≡ e.0 = ap (λ (p : ℕ × _). p.0) same in omega (arith, is)) | inr later ↦ (let le = from_on (n + 1) xs e later in omega (arith, le)) ]

pub rising_numbers : {X : Type 0} (n : ℕ) (xs : List X) → RisesBy (λ (a b : ℕ × X). a.0 < b.0) (enumerate_from n xs)
rising_numbers n [] = tt
rising_numbers n (x ∷ xs) = ((λ e at. let le = from_on (n + 1) xs e at in omega (arith, le)), rising_numbers (n + 1) xs)

-- ---- the interfaces

file_at : (f : ℕ × Config) (e : LinkEnd) → Contains (ends_at f) e → e.file ≡ f.0
file_at f e h = let (i, at, is) = map_from (link_end_of f) (enumerate_from 0 f.1.interfaces.items) e h in ap (λ (d : LinkEnd). d.file) (sym is)

pub ends_rise : (configs : List Config) → RisesBy IsAhead (ends_of configs)
ends_rise configs =
    rising_flat (λ (a b : ℕ × Config). a.0 < b.0) IsAhead ends_at (enumerate_from 0 configs) (rising_numbers 0 configs)
    (λ f. rising_map (λ (a b : ℕ × Interface). a.0 < b.0) IsAhead (link_end_of f) (enumerate_from 0 f.1.interfaces.items) (rising_numbers 0 f.1.interfaces.items) (λ x z lt. inr (refl, lt)))
    (λ f g d e lt here there. let p = file_at f d here in let q = file_at g e there in inl (subst (λ n. d.file < n) (sym q) (subst (λ n. n < g.0) (sym p) lt)))

-- ---- the faults

abbrev all_above : ℕ → List AreaFault → Bool
all_above n [] = true
all_above n (f ∷ fs) = nat_lt n (area_fault_number f) && all_above n fs

abbrev all_rise : List AreaFault → Bool
all_rise [] = true
all_rise (f ∷ fs) = all_above (area_fault_number f) fs && all_rise fs

both : (a b : Bool) → (a && b) ≡ true → (a ≡ true) × (b ≡ true)
both true b e = (refl, e)
both false b e = absurd (let no : false ≡ true = e in search rules)

below : (n m : ℕ) → nat_lt n m ≡ true → n < m
below n m h = grind (arith, h)

above_at : (n : ℕ) (fs : List AreaFault) (f : AreaFault) → all_above n fs ≡ true → Contains fs f → n < area_fault_number f
above_at n [] f h at = absurd (none_in_nil f at)
above_at n (g ∷ gs) f h at =
    let (one, more) = both (nat_lt n (area_fault_number g)) (all_above n gs) h in
    elim (in_cases g gs f at) [ inl same ↦ subst (λ x. n < area_fault_number x) same (below n (area_fault_number g) one) | inr later ↦ above_at n gs f more later ]

faults_rise : (fs : List AreaFault) → all_rise fs ≡ true → RisesBy (λ f g. area_fault_number f < area_fault_number g) fs
faults_rise [] h = tt
faults_rise (f ∷ fs) h =
    let (one, more) = both (all_above (area_fault_number f) fs) (all_rise fs) h in
    ((λ g at. above_at (area_fault_number f) fs g one at), faults_rise fs more)

-- ---- the findings

pub findings_rise : (configs : List Config) → RisesBy IsFindingBefore (found_in (ends_of configs))
findings_rise configs =
    let ends = ends_of configs in
    rising_flat IsAhead IsFindingBefore (found_at ends) ends (ends_rise configs)
    (λ e. rising_some (λ f g. area_fault_number f < area_fault_number g) IsFindingBefore (found (around_of ends e) e) every_fault (faults_rise every_fault refl)
    (λ v w f g lt is_f is_g.
    let p = says (around_of ends e) e v f is_f in
    let q = says (around_of ends e) e w g is_g in
    inr (p.here_is ∙ sym q.here_is, subst (λ x. area_fault_number f.fault < area_fault_number x) (sym q.fault_is) (subst (λ x. area_fault_number x < area_fault_number w) (sym p.fault_is) lt))))
    (λ d e f g ahead here there.
    let (v, _, is_f) = some_from (found (around_of ends d) d) every_fault f here in
    let (w, _, is_g) = some_from (found (around_of ends e) e) every_fault g there in
    let p = says (around_of ends d) d v f is_f in
    let q = says (around_of ends e) e w g is_g in
    inl (subst (λ x. IsAhead f.here x) (sym q.here_is) (subst (λ x. IsAhead x e) (sym p.here_is) ahead)))
