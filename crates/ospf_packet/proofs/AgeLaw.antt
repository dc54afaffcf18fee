-- The verdict on an LSA does not depend on its age.
use Rattle.std.proofs.Common.{ℕ, ◌≤◌, List, [], ◌∷◌, length, arith}
use Rattle.ospf_lsa.specs.Lsa.{IsFreeOf, IsFirstFault}
use Rattle.ospf_lsa.specs.declared.fault.LsaFault.{LsaFault}
use Rattle.ospf_lsa.specs.declared.fault.LsaFault.TheVariants as fault
use Rattle.ospf_packet.specs.Laws.{SameAtAnyAge}

free_at : (f : LsaFault) (a b x y : ℕ) (rest : List ℕ) → IsFreeOf f (a ∷ b ∷ rest) → IsFreeOf f (x ∷ y ∷ rest)
free_at fault.Short a b x y rest h = h
free_at fault.Length a b x y rest h = h
free_at fault.Sum a b x y rest h = record { not_zero = h.not_zero; sums = record { plain = h.sums.plain; weighted = h.sums.weighted } }
free_at fault.Kind a b x y rest h = h
free_at fault.Links a b x y rest h = h
free_at fault.Mask a b x y rest h = h
free_at fault.ZeroMetric a b x y rest h = h
free_at fault.IdMismatch a b x y rest h = h
free_at fault.Number a b x y rest h = h
free_at fault.Memory a b x y rest h = h

first_at : (f : LsaFault) (a b x y : ℕ) (rest : List ℕ) → IsFirstFault (a ∷ b ∷ rest) f → IsFirstFault (x ∷ y ∷ rest) f
first_at f a b x y rest h = record {
  broken = λ free. h.broken (free_at f x y a b rest free);
  first = λ g lt. free_at g a b x y rest (h.first g lt);
}

pub same_at_any_age : (age : ℕ) (bytes : List ℕ) → 2 ≤ length bytes → SameAtAnyAge age bytes
same_at_any_age age [] long = absurd (omega arith)
same_at_any_age age (a ∷ []) long = absurd (omega arith)
same_at_any_age age (a ∷ b ∷ rest) long = record {
  valid = (λ is f. free_at f a b _ _ rest (is f), λ is f. free_at f _ _ a b rest (is f));
  fault = λ f. (first_at f a b _ _ rest, first_at f _ _ a b rest);
}
