use Rattle.std.proofs.Common.{◌≡◌, ◌++◌, map}
use Rattle.ospf_lsdb.specs.Database.{entries, lsa_of}
use Rattle.ospf_run.proofs.lsdb.lsas_in.Given as goal

-- the LSAs so far, and those of the entries that are left, are all
abbrev pub invariant-loop-entry : goal.invariant-loop-entry
invariant-loop-entry l = l.lsas.items ++ map lsa_of l.entry-iterator ≡ map lsa_of (entries l.database)
