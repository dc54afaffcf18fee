use Rattle.std.proofs.Common.{ℕ, ◌-◌, ◌<◌, ◌≤◌, List, length, get_or}
use Rattle.ospf_base.specs.Keys.{Precedes}
use Rattle.ospf_lsa.specs.Lsa.{key_of}
use Rattle.ospf_lsa.proofs.listing.count_through.Given as goal

abbrev pub invariant-loop-low : goal.invariant-loop-low
invariant-loop-low l = record {
  ordered : l.low ≤ l.high;
  within : l.high ≤ length l.lsas;
  before : (k : ℕ) (d : List ℕ) → k < l.low → Precedes l.key (key_of (get_or l.lsas k d)) → ⊥;
  after : (k : ℕ) (d : List ℕ) → l.high ≤ k → k < length l.lsas → Precedes l.key (key_of (get_or l.lsas k d));
}

abbrev pub decreases-loop-low : goal.decreases-loop-low
decreases-loop-low l = l.high - l.low
