-- The contents of LSAs, one after another.
use Rattle.std.proofs.Common.{◌≡◌, ◌∙◌, ◌+◌, ◌-◌, ◌≤◌, ℕ, zero, suc, List, [], ◌∷◌, ◌++◌, ap, arith, drop, flat_map, length, map, refl, subst, sym, take, Contains, slice_index, if◌then◌else◌, ◌==◌}
use Rattle.std.proofs.Math.Seq.{drop-append_seam, take-append_seam}
use Rattle.std.proofs.lemmas.List.{get_or-drop, get_or-take, length-drop}
use Rattle.std.specs.Int.{cast_signed, w32}
use Rattle.std.specs.List.{AllByRecursion}
use Rattle.ospf_base.proofs.Numbers.{number_at-drop}
use Rattle.ospf_base.specs.Bytes.{number_at}
use Rattle.ospf_base.specs.Sums.{contents}
use Rattle.ospf_base.specs.declared.ids.Instance.{Instance}
use Rattle.ospf_base.specs.declared.ids.Kind.TheVariants.{Network, Router}
use Rattle.ospf_world.specs.Listings.{ListTheSame, ListsInstance}
use Rattle.ospf_lsa.specs.Listing.{IsListable, IsListing}
use Rattle.ospf_lsa.specs.Lsa.{instance_of}
use Rattle.ospf_lsa.specs.declared.fault.LsaFault.TheVariants as fault
use Rattle.ospf_router.proofs.AreaStep.StateFacts.{Contains-map, Contains-map_cases}

-- ---- what the contents say

-- the instance of an LSA of these contents
instance_in : List ℕ → Instance
instance_in c = record {
  key = record { kind = if slice_index c 1 == 2 then Network else Router; id = number_at 2 4 c; router = record { 0 = number_at 6 4 c } };
  number = cast_signed w32 (number_at 10 4 c);
  sum = number_at 14 2 c;
}

instance-is : (lsa : List ℕ) → instance_in (contents lsa) ≡ instance_of lsa
unfolding instance_in
instance-is lsa =
    let kind = get_or-drop 2 lsa 1 0 in
    let id = number_at-drop 2 2 4 lsa in
    let router = number_at-drop 2 6 4 lsa in
    let number = number_at-drop 2 10 4 lsa in
    let sum = number_at-drop 2 14 2 lsa in
    rw (kind, id, router, number, sum) refl

-- the number in a beginning of some bytes
number_at-take : (k at width : ℕ) (bytes : List ℕ) → at + width ≤ k → number_at at width (take k bytes) ≡ number_at at width bytes
number_at-take k at zero bytes within = refl
number_at-take k at (suc n) bytes within =
    let here = get_or-take k bytes at 0 (omega (arith, within)) in
    let there = number_at-take k (suc at) n bytes (omega (arith, within)) in
    rw (here, there) refl

-- ---- contents in a row

-- an LSA is as long as its header says (A.4.1)
abbrev TellsLength : List ℕ → Type 0
TellsLength lsa = (20 ≤ length lsa) × (length lsa ≡ number_at 18 2 lsa)

abbrev AreLong : List (List ℕ) → Type 0
AreLong lsas = AllByRecursion TellsLength lsas

tells_length : (lsa : List ℕ) → IsListable lsa → TellsLength lsa
tells_length lsa is =
    let short = is.0 fault.Short in
    let long = is.0 fault.Length in
    (short.0, omega (arith, short.1, long))

listed_long : (lsas : List (List ℕ)) → AllByRecursion IsListable lsas → AreLong lsas
listed_long [] all = tt
listed_long (lsa ∷ lsas) all = (tells_length lsa all.0, listed_long lsas all.1)

-- the length in the contents at the beginning of a row
number_in_row : (c rest : List ℕ) → 18 ≤ length c → number_at 16 2 (c ++ rest) ≡ number_at 16 2 c
number_in_row c rest long = sym (number_at-take (length c) 16 2 (c ++ rest) (omega (arith, long))) ∙ ap (number_at 16 2) (take-append_seam c rest)

contents_length : (lsa : List ℕ) → TellsLength lsa → length (contents lsa) ≡ number_at 16 2 (contents lsa) - 2
contents_length lsa long = length-drop 2 lsa ∙ ap (λ (n : ℕ). n - 2) (long.1 ∙ sym (number_at-drop 2 16 2 lsa))

contents_long : (lsa : List ℕ) → TellsLength lsa → 18 ≤ length (contents lsa)
contents_long lsa long = let is = length-drop 2 lsa in omega (arith, is, long.0)

-- so two rows that are one begin with contents of one length
one_length : (x y : List ℕ) (r s : List ℕ) → TellsLength x → TellsLength y → contents x ++ r ≡ contents y ++ s → length (contents x) ≡ length (contents y)
one_length x y r s lx ly same =
    let numbers : number_at 16 2 (contents x) ≡ number_at 16 2 (contents y) =
    sym (number_in_row (contents x) r (contents_long x lx)) ∙ ap (number_at 16 2) same ∙ number_in_row (contents y) s (contents_long y ly) in
    contents_length x lx ∙ ap (λ (n : ℕ). n - 2) numbers ∙ sym (contents_length y ly)

-- two rows that are one begin with the same where they begin with as much
same_first : (a b r s : List ℕ) → length a ≡ length b → a ++ r ≡ b ++ s → a ≡ b
same_first a b r s long same =
    sym (take-append_seam a r) ∙ ap (take (length a)) same ∙ ap (λ (n : ℕ). take n (b ++ s)) long ∙ take-append_seam b s

same_rest : (a b r s : List ℕ) → length a ≡ length b → a ++ r ≡ b ++ s → r ≡ s
same_rest a b r s long same =
    sym (drop-append_seam a r) ∙ ap (drop (length a)) same ∙ ap (λ (n : ℕ). drop n (b ++ s)) long ∙ drop-append_seam b s

none_long : (a r : List ℕ) → 18 ≤ length a → [] ≡ a ++ r → ⊥
none_long [] r long same = absurd (omega (arith, long))
none_long (x ∷ a) r long same = absurd (let no : [] ≡ x ∷ (a ++ r) = same in cc)

same_rows : (a b : List (List ℕ)) → AreLong a → AreLong b → flat_map contents a ≡ flat_map contents b → map contents a ≡ map contents b
same_rows [] [] la lb same = refl
same_rows [] (y ∷ b) la lb same = absurd (none_long (contents y) (flat_map contents b) (contents_long y lb.0) same)
same_rows (x ∷ a) [] la lb same = absurd (none_long (contents x) (flat_map contents a) (contents_long x la.0) (sym same))
same_rows (x ∷ a) (y ∷ b) la lb same =
    let long = one_length x y (flat_map contents a) (flat_map contents b) la.0 lb.0 same in
    let first = same_first (contents x) (contents y) (flat_map contents a) (flat_map contents b) long same in
    let rest = same_rows a b la.1 lb.1 (same_rest (contents x) (contents y) (flat_map contents a) (flat_map contents b) long same) in
    ap (λ c. c ∷ map contents a) first ∙ ap (λ cs. contents y ∷ cs) rest

-- ---- the same LSAs

lists_too : (a b : List (List ℕ)) (i : Instance) → map contents a ≡ map contents b → ListsInstance a i → ListsInstance b i
lists_too a b i same (lsa, there, is) =
    let (other, also, one) = Contains-map_cases contents b (contents lsa) (subst (λ cs. Contains cs (contents lsa)) same (Contains-map contents a lsa there)) in
    (other, also, sym (instance-is other) ∙ ap instance_in one ∙ instance-is lsa ∙ is)

pub same_contents : (a b : List (List ℕ)) → IsListing a → IsListing b → flat_map contents a ≡ flat_map contents b → map contents a ≡ map contents b
same_contents a b la lb same = same_rows a b (listed_long a la.listed) (listed_long b lb.listed) same

pub same_instances : (a b : List (List ℕ)) → map contents a ≡ map contents b → ListTheSame a b
same_instances a b same i = (lists_too a b i same, lists_too b a i (sym same))
