-- What seats and writers know of the tables that are published.
use Rattle.std.proofs.Common.{◌≡◌, refl, sym, subst, ◌∙◌, List, [], ◌∷◌, Result, Ok, Err, IfOk, OnErr}
use mathlib.Core.List.{IsPrefix}
use Rattle.ospf_fib.specs.PrefixIndex.Known.{Known, Table}
use Rattle.ospf_run.specs.Lookups.{Follows}
use Rattle.ospf_fib.proofs.PrefixIndex.Prefixes.{prefix_self}

-- a beginning of a beginning
pub prefix_trans : {A : Type 0} (xs ys zs : List A) → IsPrefix xs ys → IsPrefix ys zs → IsPrefix xs zs
prefix_trans [] ys zs p q = (zs, refl)
prefix_trans (x ∷ xs) [] zs p q = absurd (cc (p.1))
prefix_trans (x ∷ xs) (y ∷ ys) [] p q = absurd (cc (q.1))
prefix_trans (x ∷ xs) (y ∷ ys) (z ∷ zs) p q =
    let r = prefix_trans xs ys zs (p.0, cc (p.1)) (q.0, cc (q.1)) in
    let heads : x ≡ z = cc (p.1, q.1) in
    (r.0, cc (heads, r.1))

-- lists that begin each other are one
pub both_begin : {A : Type 0} (xs ys : List A) → IsPrefix xs ys → IsPrefix ys xs → xs ≡ ys
both_begin [] [] p q = refl
both_begin [] (y ∷ ys) p q = absurd (cc (q.1))
both_begin (x ∷ xs) [] p q = absurd (cc (p.1))
both_begin (x ∷ xs) (y ∷ ys) p q = let heads : x ≡ y = cc (p.1) in let rest = both_begin xs ys (p.0, cc (p.1)) (q.0, cc (q.1)) in cc (heads, rest)

-- a lookup leaves no less known, whatever it answers
pub looked_on : {A E : Type 0} (answer : Result A E) (old new : List Table) → IfOk answer (λ _. IsPrefix old new) → OnErr answer (new ≡ old) → IsPrefix old new
looked_on (Ok a) old new on_ok on_err = on_ok
looked_on (Err e) old new on_ok on_err = subst (λ tables. IsPrefix old tables) (sym on_err) (prefix_self old)

pub follows_on : (a b c : Known) → Follows a b → Follows b c → Follows a c
follows_on a b c f g = record { fib = g.fib ∙ f.fib; tables = prefix_trans a.tables b.tables c.tables f.tables g.tables }
