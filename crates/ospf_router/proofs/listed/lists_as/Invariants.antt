use Rattle.std.proofs.Common.{◌≡◌, map}
use Rattle.ospf_base.specs.Sums.{contents}
use Rattle.ospf_lsdb.specs.Database.{entries}
use Rattle.ospf_router.proofs.ListLemmas.{fresh_of}
use Rattle.ospf_router.proofs.listed.lists_as.Given as goal

-- what is left is the same only if all is
abbrev pub invariant-loop-entry : goal.invariant-loop-entry
invariant-loop-entry l = fresh_of l.entry-iterator ≡ map contents l.left.rest.now → fresh_of (entries l.database) ≡ map contents l.listing
