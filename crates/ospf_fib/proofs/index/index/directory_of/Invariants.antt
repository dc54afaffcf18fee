use Rattle.std.proofs.Common.{◌≡◌, ◌<◌, ◌≤◌, ℕ, get_or, length, vec_capacity}
use Rattle.ospf_fib.specs.PrefixIndex.Ranges.{IsInRange, block_start}
use Rattle.ospf_fib.proofs.index.index.directory_of.Given as goal

-- the blocks that begin before this range are in the directory
abbrev pub invariant-loop-range : goal.invariant-loop-range
invariant-loop-range l = record {
  room : 65537 ≤ vec_capacity l.directory;
  few : length l.directory.items ≤ 65537;
  all : length l.starts ≤ l.range → length l.directory.items ≡ 65537;
  behind : l.range < length l.starts → get_or l.starts l.range 0 ≤ block_start (length l.directory.items);
  named : (block : ℕ) → block < length l.directory.items → (get_or l.directory.items block 0 < length l.starts) × IsInRange l.starts (get_or l.directory.items block 0) (block_start block);
}
