-- What is written behind what was written before.
use Rattle.std.proofs.Common.{◌≡◌, ◌∙◌, ap, sym, refl, arith, ℕ, suc, ◌+◌, ◌-◌, ◌<◌, ◌≤◌, List, [], ◌∷◌, ◌++◌, flat_map, get_or, length, take, drop, subst, Option, None, Some, Result, Ok, Err, OnErr, append-nil, append_assoc, length-drop, take-append-drop}
use Rattle.std.proofs.Math.Seq.{drop-cons, take-add}
use Rattle.std.proofs.lemmas.Grind.{flat_map-append}
use Rattle.std.proofs.lemmas.List.{flat_map_more, take_more, take_rest}
use Rattle.std.specs.Io.KnownBytes.{Appends, Keeps}
use Rattle.ospf_files.specs.Streams.{IsBegun}

pub nothing_written : (o : Option (List ℕ)) → Appends o o []
nothing_written None = tt
nothing_written (Some xs) = sym (append-nil xs)

pub both_written : (a b c : Option (List ℕ)) (xs ys : List ℕ) → Appends a b xs → Appends b c ys → Appends a c (xs ++ ys)
both_written None b c xs ys h k = tt
both_written (Some p) None c xs ys h k = absurd h
both_written (Some p) (Some q) None xs ys h k = absurd k
both_written (Some p) (Some q) (Some r) xs ys h k = k ∙ ap (λ l. l ++ ys) h ∙ append_assoc p xs ys

pub kept_written : (a b c : Option (List ℕ)) (xs : List ℕ) → Appends a b xs → Keeps b c → Appends a c xs
kept_written None b c xs h k = tt
kept_written (Some p) None c xs h k = absurd h
kept_written (Some p) (Some q) None xs h k = absurd k
kept_written (Some p) (Some q) (Some r) xs h k = k ∙ h

-- nothing is a beginning
pub nothing_begun : (o : Option (List ℕ)) (xs : List ℕ) → IsBegun o o xs
nothing_begun o xs = record { part = []; rest = xs; parts = refl; written = nothing_written o }

-- what is written whole, and then kept, is begun
pub whole_begun : (a b : Option (List ℕ)) (xs : List ℕ) → Appends a b xs → IsBegun a b xs
whole_begun a b xs h = record { part = xs; rest = []; parts = sym (append-nil xs); written = h }

-- a beginning of the front
pub front_begun : (a b : Option (List ℕ)) (xs ys : List ℕ) → IsBegun a b xs → IsBegun a b (xs ++ ys)
front_begun a b xs ys h = record {
  part = h.part;
  rest = h.rest ++ ys;
  parts = ap (λ l. l ++ ys) h.parts ∙ append_assoc h.part h.rest ys;
  written = h.written;
}

-- the front, and then a beginning of the rest
pub rest_begun : (a b c : Option (List ℕ)) (xs ys : List ℕ) → Appends a b xs → IsBegun b c ys → IsBegun a c (xs ++ ys)
rest_begun a b c xs ys h k = record {
  part = xs ++ k.part;
  rest = k.rest;
  parts = ap (λ l. xs ++ l) k.parts ∙ sym (append_assoc xs k.part k.rest);
  written = both_written a b c xs k.part h k.written;
}

-- as many bytes as were written
pub taken_begun : (a b : Option (List ℕ)) (n : ℕ) (xs : List ℕ) → Appends a b (take n xs) → IsBegun a b xs
taken_begun a b n xs h = record { part = take n xs; rest = drop n xs; parts = sym (take-append-drop n xs); written = h }

-- some of the bytes that were left
pub more_written : (a b c : Option (List ℕ)) (n m k : ℕ) (xs : List ℕ) → Appends a b (take n xs) → Appends b c (take m (take (length xs - n) (drop n xs))) → k ≡ n + m
    → Appends a c (take k xs)
more_written a b c n m k xs h more is =
    let left : Appends b c (take m (drop n xs)) = subst (λ rest. Appends b c (take m rest)) (take_rest xs n) more in
    subst (λ t. Appends a c (take t xs)) (sym is) (subst (Appends a c) (sym (take-add n m xs)) (both_written a b c (take n xs) (take m (drop n xs)) h left))

-- no more than the bytes that were left
pub more_within : (n m k : ℕ) (xs : List ℕ) → n ≤ length xs → m ≤ length (take (length xs - n) (drop n xs)) → k ≡ n + m → k ≤ length xs
more_within n m k xs within bound is =
    let left : m ≤ length (drop n xs) = subst (λ rest. m ≤ length rest) (take_rest xs n) bound in
    omega (arith, length-drop n xs)

-- what holds whatever the answer is
pub whatever : {T E P : Type 0} (r : Result T E) → P → OnErr r P
whatever (Ok x) p = tt
whatever (Err e) p = p

-- the text of one element more
pub piece_written : {X : Type 0} (f : X → List ℕ) (a b c : Option (List ℕ)) (xs : List X) (i : ℕ) (x : X) → i < length xs → x ≡ get_or xs i x
    → Appends a b (flat_map f (take i xs)) → Appends b c (f x) → Appends a c (flat_map f (take (i + 1) xs))
piece_written f a b c xs i x within is h k =
    let more = flat_map_more f [] (take i xs) (get_or xs i x) ∙ ap (flat_map f) (sym (take_more xs i x within)) in
    subst (Appends a c) more (both_written a b c _ _ h (subst (λ y. Appends b c (f y)) is k))

-- a beginning of the text of one element more
pub piece_begun : {X : Type 0} (f : X → List ℕ) (a b c : Option (List ℕ)) (xs : List X) (i : ℕ) (x : X) → i < length xs → x ≡ get_or xs i x
    → Appends a b (flat_map f (take i xs)) → IsBegun b c (f x) → IsBegun a c (flat_map f xs)
piece_begun f a b c xs i x within is h k =
    let split : xs ≡ take i xs ++ x ∷ drop (suc i) xs =
    sym (ap (λ y. take i xs ++ y ∷ drop (suc i) xs) is ∙ ap (λ rest. take i xs ++ rest) (sym (drop-cons xs i x within)) ∙ take-append-drop i xs) in
    let text = ap (flat_map f) split ∙ flat_map-append f (take i xs) (x ∷ drop (suc i) xs) in
    subst (IsBegun a c) (sym text) (rest_begun a b c _ _ h (front_begun b c (f x) (flat_map f (drop (suc i) xs)) k))
