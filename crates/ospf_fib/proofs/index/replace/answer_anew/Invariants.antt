use Rattle.std.proofs.Common.{◌≡◌, ◌<◌, ◌≤◌, ℕ, get_or, length}
use Rattle.ospf_fib.specs.declared.index.entries.Entry.{Entry}
use Rattle.ospf_fib.proofs.index.replace.answer_anew.Given as goal

-- the ranges so far are answered anew, and the others as they were
abbrev pub invariant-loop-range : goal.invariant-loop-range
invariant-loop-range l = record {
  same_length : length l.entries.items ≡ length l.initial.entries.items;
  anew : (i : ℕ) (d : Entry) → l.from ≤ i → i < l.range → (get_or l.initial.entries.items i d).prefix ≡ l.entry.prefix → 0 < (get_or l.initial.entries.items i d).set → get_or l.entries.items i d ≡ l.entry;
  others : (i : ℕ) (d : Entry) → ((get_or l.initial.entries.items i d).prefix ≡ l.entry.prefix → (get_or l.initial.entries.items i d).set ≡ 0) → get_or l.entries.items i d ≡ get_or l.initial.entries.items i d;
  ahead : (i : ℕ) (d : Entry) → l.range ≤ i → get_or l.entries.items i d ≡ get_or l.initial.entries.items i d;
}
