use Rattle.std.proofs.Common.{◌≡◌, ◌++◌, ◌∷◌, [], take}
use Rattle.ospf_fib.specs.PrefixIndex.Known.{Table, opening}
use Rattle.ospf_table.proofs.Written.{HasLookups}
use Rattle.ospf_table.proofs.lookup.print_lookups.Given as goal

-- the addresses so far are looked up, and the seat knows what was published
abbrev pub invariant-loop-address : goal.invariant-loop-address
invariant-loop-address g l =
    (l.writer ≡ l.fn.writer) × (l.seat ≡ l.fn.writer) × ((table : Table) → l.fn.writer.tables ≡ opening ++ table ∷ [] → HasLookups (g.O.Write.contents l.fn.out) (g.O.Write.contents l.out) table (take l.address-index l.addresses))
