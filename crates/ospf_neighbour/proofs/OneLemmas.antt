-- Lists of which at most one entry passes a test: it is where `position` says.
use Rattle.std.proofs.Common.{◌≡◌, ◌∙◌, ◌++◌, ◌||◌, ◌≤◌, ◌+◌, ℕ, zero, suc, Bool, true, false, cond, not, List, [], ◌∷◌, Some, None, length, map, filter, take, drop, get_or, set, refl, sym, ap, subst, if◌then◌else◌, arith}
use Rattle.std.specs.List.{AllByRecursion, list_any, position}
use Rattle.std.proofs.lemmas.List.Quantifiers.{position-Some}
use Rattle.ospf_base.specs.Keys.{same_key}
use Rattle.ospf_base.specs.Rising.{IsRisingBy}
use Rattle.ospf_base.specs.declared.ids.Instance.{Instance}
use Rattle.ospf_base.specs.declared.ids.LsaKey.{LsaKey}
use Rattle.ospf_base.proofs.SameKeys.{same_instance-eq, same_key-eq, same_key-turned}
use Rattle.ospf_lsa.specs.declared.header.LsaHeader.{LsaHeader}
use Rattle.ospf_neighbour.specs.Lists.{is_header_of, is_of_instance, name_of_key, requests_without, sent_again, without_instance, without_key}
use Rattle.ospf_neighbour.specs.OneAKey.{AsksOnce, IsAloneOfKeys, is_of_one_lsa}
use Rattle.ospf_neighbour.specs.declared.neighbour.Listed.{Listed}
use Rattle.ospf_neighbour.proofs.KeyLemmas.{neither, no_instance, none_leaves, nowhere}
use Rattle.ospf_neighbour.proofs.NameLemmas.{named_key, named_one}
use Rattle.ospf_neighbour.proofs.Words.{is_of_key}

-- ---- any test

-- of two that are in the relation only one passes
abbrev Parts : {X : Type 0} → (X → X → Type 0) → (X → Bool) → Type 0
Parts {X} R p = (x y : X) → p x ≡ true → R x y → p y ≡ false

none_after : {X : Type 0} (R : X → X → Type 0) (p : X → Bool) → Parts R p → (x : X) (xs : List X) → p x ≡ true → AllByRecursion (R x) xs → list_any p xs ≡ false
none_after R p parts x [] is all = refl
none_after R p parts x (y ∷ ys) is all = let first = parts x y is all.0 in let more = none_after R p parts x ys is all.1 in rw (first, more) refl

gone : {X : Type 0} (b : Bool) (x : X) (xs : List X) → b ≡ true → cond (not b) (x ∷ xs) xs ≡ xs
gone b x xs is = rw is refl

stays : {X : Type 0} (b : Bool) (x : X) (xs : List X) → b ≡ false → cond (not b) (x ∷ xs) xs ≡ x ∷ xs
stays b x xs is = rw is refl

leaves_at : {X : Type 0} (R : X → X → Type 0) (p : X → Bool) → Parts R p → (xs : List X) (at : ℕ) (d : X) → IsRisingBy R xs → at + 1 ≤ length xs
    → p (get_or xs at d) ≡ true → ((k : ℕ) → k + 1 ≤ at → p (get_or xs k d) ≡ false) → take at xs ++ drop (suc at) xs ≡ filter (λ x. not (p x)) xs
leaves_at R p parts [] at d apart within here before = absurd (omega (arith, within))
leaves_at R p parts (x ∷ xs) zero d apart within here before =
    sym (none_leaves p xs (none_after R p parts x xs here apart.0)) ∙ sym (gone (p x) x (filter (λ y. not (p y)) xs) here)
leaves_at {X} R p parts (x ∷ xs) (suc at) d apart within here before =
    ap (λ (l : List X). x ∷ l) (leaves_at R p parts xs at d apart.1 (omega (arith, within)) here (λ k lt. before (suc k) (omega (arith, lt))))
    ∙ sym (stays (p x) x (filter (λ y. not (p y)) xs) (before zero (omega arith)))

-- it alone leaves
one_leaves : {X : Type 0} (R : X → X → Type 0) (p : X → Bool) → Parts R p → (xs : List X) (at : ℕ) (d : X) → IsRisingBy R xs → position p xs ≡ Some at
    → take at xs ++ drop (suc at) xs ≡ filter (λ x. not (p x)) xs
one_leaves R p parts xs at d apart found =
    let s = position-Some p xs at d found in
    leaves_at R p parts xs at d apart (omega (arith, s.0)) s.1 (λ k lt. s.2 k (omega (arith, lt)))

-- what does not pass stays
none_changes : {X : Type 0} (p : X → Bool) (f : X → X) (xs : List X) → list_any p xs ≡ false → xs ≡ map (λ x. if p x then f x else x) xs
none_changes p f [] none = refl
none_changes p f (x ∷ xs) none =
    let s = neither (p x) (list_any p xs) none in
    let more = none_changes p f xs s.1 in
    rw (s.0, ← more) refl

changed_at : {X : Type 0} (R : X → X → Type 0) (p : X → Bool) (f : X → X) → Parts R p → (xs : List X) (at : ℕ) (d : X) → IsRisingBy R xs → at + 1 ≤ length xs
    → p (get_or xs at d) ≡ true → ((k : ℕ) → k + 1 ≤ at → p (get_or xs k d) ≡ false) → set xs at (f (get_or xs at d)) ≡ map (λ x. if p x then f x else x) xs
changed_at R p f parts [] at d apart within here before = absurd (omega (arith, within))
changed_at {X} R p f parts (x ∷ xs) zero d apart within here before =
    let more = none_changes p f xs (none_after R p parts x xs here apart.0) in
    rw (here, ← more) refl
changed_at {X} R p f parts (x ∷ xs) (suc at) d apart within here before =
    let more = changed_at R p f parts xs at d apart.1 (omega (arith, within)) here (λ k lt. before (suc k) (omega (arith, lt))) in
    let first = before zero (omega arith) in
    rw (first, more) refl

-- it alone changes
one_changes : {X : Type 0} (R : X → X → Type 0) (p : X → Bool) (f : X → X) → Parts R p → (xs : List X) (at : ℕ) (d : X) → IsRisingBy R xs → position p xs ≡ Some at
    → set xs at (f (get_or xs at d)) ≡ map (λ x. if p x then f x else x) xs
one_changes R p f parts xs at d apart found =
    let s = position-Some p xs at d found in
    changed_at R p f parts xs at d apart (omega (arith, s.0)) s.1 (λ k lt. s.2 k (omega (arith, lt)))

-- ---- the request list

parts_requests : (key : LsaKey) → Parts (λ h o. is_of_one_lsa h o ≡ false) (is_header_of key)
parts_requests key h o is apart = sym (named_key key o) ∙ named_one (name_of_key key) h o (named_key key h ∙ is) ∙ apart

pub request_leaves : (key : LsaKey) (hs : List LsaHeader) (at : ℕ) (d : LsaHeader) → AsksOnce hs → position (is_header_of key) hs ≡ Some at
    → take at hs ++ drop (suc at) hs ≡ requests_without key hs
request_leaves key hs at d once found = one_leaves (λ h o. is_of_one_lsa h o ≡ false) (is_header_of key) (parts_requests key) hs at d once found

pub no_request_leaves : (key : LsaKey) (hs : List LsaHeader) → position (is_header_of key) hs ≡ None → hs ≡ requests_without key hs
no_request_leaves key hs none = sym (none_leaves (is_header_of key) hs (nowhere (is_header_of key) hs none))

-- ---- the retransmission list

abbrev AreApart : Listed → Listed → Type 0
AreApart l o = same_key l.instance.key o.instance.key ≡ false

parts_keys : (key : LsaKey) → Parts AreApart (is_of_key key)
parts_keys key l o is apart =
    same_key-turned o.instance.key key ∙ subst (λ (k : LsaKey). same_key k o.instance.key ≡ false) (same_key-eq l.instance.key key is) apart

parts_instances : (i : Instance) → Parts AreApart (is_of_instance i)
parts_instances i l o is apart =
    let turned : same_key o.instance.key i.key ≡ false =
    same_key-turned o.instance.key i.key ∙ subst (λ (j : Instance). same_key j.key o.instance.key ≡ false) (same_instance-eq l.instance i is) apart in
    (neither (is_of_instance i o) false (no_instance i (o ∷ []) (ap (λ (b : Bool). b || false) turned))).0

pub key_leaves : (key : LsaKey) (ls : List Listed) (at : ℕ) (d : Listed) → IsAloneOfKeys ls → position (is_of_key key) ls ≡ Some at
    → take at ls ++ drop (suc at) ls ≡ without_key key ls
key_leaves key ls at d alone found = one_leaves AreApart (is_of_key key) (parts_keys key) ls at d alone found

pub no_key_place_leaves : (key : LsaKey) (ls : List Listed) → position (is_of_key key) ls ≡ None → ls ≡ without_key key ls
no_key_place_leaves key ls none = sym (none_leaves (is_of_key key) ls (nowhere (is_of_key key) ls none))

pub place_leaves : (i : Instance) (ls : List Listed) (at : ℕ) (d : Listed) → IsAloneOfKeys ls → position (is_of_instance i) ls ≡ Some at
    → take at ls ++ drop (suc at) ls ≡ without_instance i ls
place_leaves i ls at d alone found = one_leaves AreApart (is_of_instance i) (parts_instances i) ls at d alone found

-- the entry of an instance is sent again
pub place_sent : (i : Instance) (tick : ℕ) (ls : List Listed) (at : ℕ) (d : Listed) → IsAloneOfKeys ls → position (is_of_instance i) ls ≡ Some at
    → set ls at (record (get_or ls at d) { sent_at = tick }) ≡ map (sent_again i tick) ls
place_sent i tick ls at d alone found = one_changes AreApart (is_of_instance i) (λ l. record l { sent_at = tick }) (parts_instances i) ls at d alone found

pub no_place_sent : (i : Instance) (tick : ℕ) (ls : List Listed) → position (is_of_instance i) ls ≡ None → ls ≡ map (sent_again i tick) ls
no_place_sent i tick ls none = none_changes (is_of_instance i) (λ l. record l { sent_at = tick }) ls (nowhere (is_of_instance i) ls none)
