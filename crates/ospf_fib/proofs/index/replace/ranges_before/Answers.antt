use Rattle.std.proofs.Common.{rules, of_calls, ◌≡◌, ◌<◌, ◌≤◌, ◌⊎◌, ℕ, false, get_or, ltb, ltb-true, ap, inl, inr, arith}
use Rattle.std.specs.List.Sorted.{IsNonDecreasingBy}
use Rattle.std.proofs.lemmas.List.{get_or_default}
use Rattle.std.proofs.lemmas.List.Sorted.{IsNonDecreasingBy-from_default, IsPartitionPoint-from_clause, IsPartitionedBy-ltb}
use Rattle.ospf_fib.proofs.index.replace.ranges_before.Goals as goal

same_or_more : (i j : ℕ) → i ≤ j → (i ≡ j) ⊎ (i < j)
same_or_more i j le = grind arith

not_less : (a b : ℕ) → ltb a b ≡ false → b ≤ a
not_less a b h = grind arith

pub returns-clause-before : goal.returns-clause-before
returns-clause-before c =
    let starts = c.args.starts.now in
    let address = c.args.address in
    let order : IsNonDecreasingBy (λ (s : ℕ). s) starts =
    IsNonDecreasingBy-from_default (λ (s : ℕ). s) starts 0 (λ i j le lt. elim (same_or_more i j le) [
      | inl same ↦ (let e = ap (λ (k : ℕ). get_or starts k 0) same in omega arith)
      | inr less ↦ (let h = c.requires i j less lt in omega arith)
    ]) in
    let point = IsPartitionPoint-from_clause (λ (s : ℕ). ltb s address) _ _ c.partition_point.ensures.partitioned (IsPartitionedBy-ltb (λ (s : ℕ). s) starts address order) (λ a r q k. search (rules, of_calls)) in
    record {
      within = c.partition_point.ensures.bound;
      before = λ i lt. ltb-true (get_or starts i 0) address (point.0 i 0 (omega arith) lt);
      behind = λ i le lt. not_less (get_or starts i 0) address (point.1 i 0 le lt);
    }

pub returns-clause-addresses : goal.returns-clause-addresses
returns-clause-addresses c = λ k d lt. omega (arith, c.type_inv.starts k, get_or_default c.args.starts.now k d 0 lt)
