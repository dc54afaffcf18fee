use Rattle.std.proofs.Common.{◌≡◌, ℕ, ◌<◌}
use Rattle.ospf_base.specs.Masks.{mask_of}
use Rattle.ospf_base.proofs.prefix.mask_length.Given as goal

abbrev pub invariant-loop-length : goal.invariant-loop-length
invariant-loop-length l = (k : ℕ) → k < l.length → l.mask ≡ mask_of k → ⊥
