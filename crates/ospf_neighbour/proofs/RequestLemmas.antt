-- Headers that are put on a request list: each in place of its LSA's entry.
use Rattle.std.proofs.Common.{◌≡◌, ◌<◌, ◌≤◌, ◌+◌, ◌&&◌, ◌==◌, ◌∙◌, ℕ, zero, suc, Bool, true, false, cond, List, [], ◌∷◌, ◌++◌, Some, None, filter, length, set, get_or, take, refl, sym, ap, arith}
use Rattle.std.specs.List.{AllByRecursion, position, position_from}
use Rattle.std.proofs.lemmas.Bool.{false≢true, eqb-true}
use Rattle.std.proofs.lemmas.List.{take_more}
use Rattle.std.proofs.lemmas.List.Quantifiers.{position-Some}
use Rattle.std.proofs.lemmas.Iterator.Adapters.{position_from-zero}
use Rattle.ospf_lsa.specs.declared.header.LsaHeader.{LsaHeader}
use Rattle.ospf_neighbour.specs.Lists.{request_put, requests_put}
use Rattle.ospf_neighbour.specs.OneAKey.{is_of_one_lsa, AsksOnce}

-- ---- one LSA

pub split_and : (a b : Bool) → a && b ≡ true → (a ≡ true) × (b ≡ true)
split_and true b is = (refl, is)
split_and false b is = absurd (false≢true is)

-- two headers of one LSA are of one LSA with the same headers
one_as : (a b c : LsaHeader) → is_of_one_lsa a b ≡ true → is_of_one_lsa a c ≡ is_of_one_lsa b c
unfolding is_of_one_lsa
one_as a b c is =
    let p = split_and ((a.kind == b.kind) && (a.id == b.id)) (a.router.0 == b.router.0) is in
    let q = split_and (a.kind == b.kind) (a.id == b.id) p.0 in
    let kind : a.kind ≡ b.kind = eqb-true a.kind b.kind q.0 in
    let id : a.id ≡ b.id = eqb-true a.id b.id q.1 in
    let router : a.router.0 ≡ b.router.0 = eqb-true a.router.0 b.router.0 p.1 in
    cc

one_refl : (a : LsaHeader) → is_of_one_lsa a a ≡ true
unfolding is_of_one_lsa
one_refl a = grind arith

one_turned : (a b : LsaHeader) → is_of_one_lsa a b ≡ true → is_of_one_lsa b a ≡ true
one_turned a b is = sym (one_as a b a is) ∙ one_refl a

-- and so are those of two
apart_turned : (a b : LsaHeader) → is_of_one_lsa a b ≡ false → is_of_one_lsa b a ≡ false
apart_turned a b is = by_test (is_of_one_lsa b a) refl
  where
    by_test : (t : Bool) → is_of_one_lsa b a ≡ t → t ≡ false
    by_test true back = absurd (false≢true (sym is ∙ one_turned b a back))
    by_test false back = refl

-- ---- one header is put

put_at : (h : LsaHeader) (rs : List LsaHeader) (at : ℕ) → at ≤ length rs → (at + 1 ≤ length rs) → is_of_one_lsa h (get_or rs at h) ≡ true
    → ((k : ℕ) → k + 1 ≤ at → is_of_one_lsa h (get_or rs k h) ≡ false) → set rs at h ≡ request_put h rs
put_at h [] at le within here before = absurd (omega arith)
put_at h (r ∷ rs) zero le within here before = ap (λ (b : Bool). cond b (h ∷ rs) (r ∷ request_put h rs)) (sym here)
put_at h (r ∷ rs) (suc at) le within here before =
    ap (λ (l : List LsaHeader). r ∷ l) (put_at h rs at (omega arith) (omega arith) here (λ k lt. before (suc k) (omega arith)))
    ∙ ap (λ (b : Bool). cond b (h ∷ rs) (r ∷ request_put h rs)) (sym (before zero (omega arith)))

pub put_found : (h : LsaHeader) (rs : List LsaHeader) (at : ℕ) → position (is_of_one_lsa h) rs ≡ Some at → set rs at h ≡ request_put h rs
put_found h rs at found =
    let p = position-Some (is_of_one_lsa h) rs at h found in
    put_at h rs at (omega (arith, p.0)) (omega (arith, p.0)) p.1 (λ k lt. p.2 k (omega arith))

new_by : (b : Bool) (h r : LsaHeader) (k : ℕ) (rs : List LsaHeader) → cond b (Some k) (position_from (is_of_one_lsa h) (k + 1) rs) ≡ None
    → (position_from (is_of_one_lsa h) (k + 1) rs ≡ None → rs ++ h ∷ [] ≡ request_put h rs) → (r ∷ rs) ++ h ∷ [] ≡ cond b (h ∷ rs) (r ∷ request_put h rs)
new_by true h r k rs none more = absurd (cc)
new_by false h r k rs none more = ap (λ (l : List LsaHeader). r ∷ l) (more none)

put_last : (h : LsaHeader) (k : ℕ) (rs : List LsaHeader) → position_from (is_of_one_lsa h) k rs ≡ None → rs ++ h ∷ [] ≡ request_put h rs
put_last h k [] none = refl
put_last h k (r ∷ rs) none = new_by (is_of_one_lsa h r) h r k rs none (λ more. put_last h (k + 1) rs more)

pub put_new : (h : LsaHeader) (rs : List LsaHeader) → position (is_of_one_lsa h) rs ≡ None → rs ++ h ∷ [] ≡ request_put h rs
put_new h rs none = put_last h 0 rs (sym (position_from-zero (is_of_one_lsa h) rs) ∙ none)

-- ---- headers are put in turn

pub puts_more : (hs : List LsaHeader) (h : LsaHeader) (rs : List LsaHeader) → requests_put (hs ++ h ∷ []) rs ≡ request_put h (requests_put hs rs)
puts_more [] h rs = refl
puts_more (x ∷ hs) h rs = puts_more hs h (request_put x rs)

-- one header more of those that are gone over
pub put_more : (i : ℕ) (hs : List LsaHeader) (h : LsaHeader) (rs before : List LsaHeader) → i < length hs → h ≡ get_or hs i h → before ≡ requests_put (take i hs) rs
    → request_put h before ≡ requests_put (take (i + 1) hs) rs
put_more i hs h rs before within is so_far =
    let longer : take (i + 1) hs ≡ take i hs ++ h ∷ [] = take_more hs i h within ∙ ap (λ (x : LsaHeader). take i hs ++ x ∷ []) (sym is) in
    ap (request_put h) so_far ∙ sym (puts_more (take i hs) h rs) ∙ ap (λ (l : List LsaHeader). requests_put l rs) (sym longer)

longer_if : (b : Bool) (h r : LsaHeader) (rs put : List LsaHeader) → length rs ≤ length put → length (r ∷ rs) ≤ length (cond b (h ∷ rs) (r ∷ put))
longer_if true h r rs put le = omega arith
longer_if false h r rs put le = omega arith

put_longer : (h : LsaHeader) (rs : List LsaHeader) → length rs ≤ length (request_put h rs)
put_longer h [] = omega arith
put_longer h (r ∷ rs) = longer_if (is_of_one_lsa h r) h r rs (request_put h rs) (put_longer h rs)

-- nothing leaves the list
pub puts_longer : (hs rs : List LsaHeader) → length rs ≤ length (requests_put hs rs)
puts_longer [] rs = omega arith
puts_longer (h ∷ hs) rs = omega (arith, put_longer h rs, puts_longer hs (request_put h rs))

-- ---- one entry an LSA

abbrev AllApart : LsaHeader → List LsaHeader → Type 0
AllApart h rs = AllByRecursion (λ (o : LsaHeader). is_of_one_lsa h o ≡ false) rs

apart_as : (h r : LsaHeader) (rs : List LsaHeader) → is_of_one_lsa h r ≡ true → AllApart r rs → AllApart h rs
apart_as h r [] one all = tt
apart_as h r (o ∷ rs) one all = (one_as h r o one ∙ all.0, apart_as h r rs one all.1)

apart_if : (b : Bool) (o h r : LsaHeader) (rs put : List LsaHeader) → is_of_one_lsa o h ≡ false → AllApart o (r ∷ rs) → AllApart o put → AllApart o (cond b (h ∷ rs) (r ∷ put))
apart_if true o h r rs put apart all more = (apart, all.1)
apart_if false o h r rs put apart all more = (all.0, more)

apart_put : (o h : LsaHeader) (rs : List LsaHeader) → is_of_one_lsa o h ≡ false → AllApart o rs → AllApart o (request_put h rs)
apart_put o h [] apart all = (apart, tt)
apart_put o h (r ∷ rs) apart all = apart_if (is_of_one_lsa h r) o h r rs (request_put h rs) apart all (apart_put o h rs apart all.1)

once_if : (b : Bool) (h r : LsaHeader) (rs : List LsaHeader) → is_of_one_lsa h r ≡ b → AsksOnce (r ∷ rs) → AsksOnce (request_put h rs) → AsksOnce (cond b (h ∷ rs) (r ∷ request_put h rs))
once_if true h r rs one once more = (apart_as h r rs one once.0, once.1)
once_if false h r rs apart once more = (apart_put r h rs (apart_turned h r apart) once.0, more)

once_put : (h : LsaHeader) (rs : List LsaHeader) → AsksOnce rs → AsksOnce (request_put h rs)
once_put h [] once = (tt, tt)
once_put h (r ∷ rs) once = once_if (is_of_one_lsa h r) h r rs refl once (once_put h rs once.1)

pub AsksOnce-put : (hs rs : List LsaHeader) → AsksOnce rs → AsksOnce (requests_put hs rs)
AsksOnce-put [] rs once = once
AsksOnce-put (h ∷ hs) rs once = AsksOnce-put hs (request_put h rs) (once_put h rs once)

all_if : (b : Bool) (h x : LsaHeader) (xs kept : List LsaHeader) → is_of_one_lsa h x ≡ false → AllApart h kept → AllApart h (cond b (x ∷ kept) kept)
all_if true h x xs kept apart all = (apart, all)
all_if false h x xs kept apart all = all

all_kept : (h : LsaHeader) (test : LsaHeader → Bool) (rs : List LsaHeader) → AllApart h rs → AllApart h (filter test rs)
all_kept h test [] all = tt
all_kept h test (r ∷ rs) all = all_if (test r) h r rs (filter test rs) all.0 (all_kept h test rs all.1)

kept_if : (b : Bool) (h : LsaHeader) (kept : List LsaHeader) → AllApart h kept → AsksOnce kept → AsksOnce (cond b (h ∷ kept) kept)
kept_if true h kept apart once = (apart, once)
kept_if false h kept apart once = once

-- fewer requests
pub AsksOnce-filter : (test : LsaHeader → Bool) (rs : List LsaHeader) → AsksOnce rs → AsksOnce (filter test rs)
AsksOnce-filter test [] once = tt
AsksOnce-filter test (r ∷ rs) once = kept_if (test r) r (filter test rs) (all_kept r test rs once.0) (AsksOnce-filter test rs once.1)
