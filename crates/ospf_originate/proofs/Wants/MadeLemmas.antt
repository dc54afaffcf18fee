-- What LSAs say, number and checksum aside.
use Rattle.std.proofs.Common.{◌≡◌, ◌≤◌, ◌&&◌, ◌++◌, ℕ, ℤ, pos, Bool, true, false, List, [], ◌∷◌, length, take, drop, nat_eq, refl, sym, ap, ◌∙◌, arith}
use Rattle.std.specs.Str.{bytes_eq}
use Rattle.std.proofs.lemmas.List.{length-take-le}
use Rattle.ospf_base.specs.Sums.{contents}
use Rattle.ospf_lsa.specs.Value.{IsMade, contents_bytes}
use Rattle.ospf_originate.specs.Wants.Made.{lsa_value}
use Rattle.ospf_originate.specs.Wants.Wanted.{WantedValue}
use Rattle.ospf_originate.proofs.Wants.Words.{aside}
use Rattle.ospf_originate.specs.Wants.Wanted.WantedValue.{RouterLsa, NetworkLsa}

pub and_assoc : (a b c : Bool) → ((a && b) && c) ≡ (a && (b && c))
and_assoc true b c = refl
and_assoc false b c = refl

-- lists that come apart at one place are equal where both parts are
pub bytes_eq-append : (xs ys us vs : List ℕ) → length xs ≡ length ys → bytes_eq (xs ++ us) (ys ++ vs) ≡ (bytes_eq xs ys && bytes_eq us vs)
bytes_eq-append [] [] us vs same = refl
bytes_eq-append [] (y ∷ ys) us vs same = absurd (omega (arith, same))
bytes_eq-append (x ∷ xs) [] us vs same = absurd (omega (arith, same))
bytes_eq-append (x ∷ xs) (y ∷ ys) us vs same =
    let rest : bytes_eq (xs ++ us) (ys ++ vs) ≡ (bytes_eq xs ys && bytes_eq us vs) = bytes_eq-append xs ys us vs (omega (arith, same)) in
    ap (λ (b : Bool). nat_eq x y && b) rest ∙ sym (and_assoc (nat_eq x y) (bytes_eq xs ys) (bytes_eq us vs))

-- what the two tests tell of two LSAs
pub aside_parts : (a b : List ℕ) → 20 ≤ length a → 20 ≤ length b
    → bytes_eq (aside (contents a)) (aside (contents b)) ≡ (bytes_eq (take 10 (drop 2 a)) (take 10 (drop 2 b)) && bytes_eq (drop 18 a) (drop 18 b))
aside_parts [] b long_a long_b = absurd (omega (arith, long_a))
aside_parts (x ∷ []) b long_a long_b = absurd (omega (arith, long_a))
aside_parts (x ∷ y ∷ a) [] long_a long_b = absurd (omega (arith, long_b))
aside_parts (x ∷ y ∷ a) (z ∷ []) long_a long_b = absurd (omega (arith, long_b))
aside_parts (x ∷ y ∷ a) (z ∷ w ∷ b) long_a long_b =
    bytes_eq-append (take 10 a) (take 10 b) (drop 16 a) (drop 16 b)
    (length-take-le 10 a (omega (arith, long_a)) ∙ sym (length-take-le 10 b (omega (arith, long_b))))

-- both tests over two LSAs, one after the other
pub both_parts : (a b x y : List ℕ) (p q : Bool) → 20 ≤ length a → 20 ≤ length b → x ≡ a → y ≡ b
    → p ≡ bytes_eq (take 10 (drop 2 x)) (take 10 (drop 2 y)) → q ≡ bytes_eq (drop 18 x) (drop 18 y)
    → (p && q) ≡ bytes_eq (aside (contents a)) (aside (contents b))
both_parts a b x y p q long_a long_b is_a is_b front rest =
    ap (λ (r : Bool). r && q) (front ∙ cc) ∙ ap (λ (r : Bool). bytes_eq (take 10 (drop 2 a)) (take 10 (drop 2 b)) && r) (rest ∙ cc)
    ∙ sym (aside_parts a b long_a long_b)

pub and_true : (p q : Bool) → p ≡ true → q ≡ (p && q)
and_true true q is = refl
and_true false q is = absurd (let no : false ≡ true = is in cc)

pub and_false : (p q : Bool) → p ≡ false → p ≡ (p && q)
and_false true q is = absurd (let no : true ≡ false = is in cc)
and_false false q is = refl

-- an LSA that was made of a wanted one says that
pub aside_made : (number : ℤ) (w : WantedValue) (lsa : List ℕ) → IsMade (lsa_value number w) lsa → aside (contents lsa) ≡ aside (contents_bytes (lsa_value (pos 0) w))
aside_made number (RouterLsa router links) lsa made = ap (λ (b : List ℕ). aside (contents b)) made.bytes
aside_made number (NetworkLsa id router mask routers) lsa made = ap (λ (b : List ℕ). aside (contents b)) made.bytes
