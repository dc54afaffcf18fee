use Rattle.std.proofs.Common.{◌≡◌, ◌≤◌, ◌<◌, ℕ, get_or, length, vec_capacity}
use Rattle.ospf_fib.specs.PrefixIndex.Entries.{IsEntryAt}
use Rattle.ospf_fib.specs.declared.index.entries.Entry.{Entry}
use Rattle.ospf_fib.proofs.index.entries.entries_of.Given as goal

-- the places so far have their entries, and there is room for the others
abbrev pub invariant-loop-place : goal.invariant-loop-place
invariant-loop-place l = record {
  so_far : length l.entries.items ≡ l.place-index;
  room : length l.places ≤ vec_capacity l.entries;
  exact : (i : ℕ) (d : Entry) → i < l.place-index → IsEntryAt l.routes l.numbers (get_or l.places i 0) (get_or l.entries.items i d);
}
