use Rattle.std.proofs.Common.{◌≡◌, ◌++◌, List, map}
use Rattle.std.specs.Map.{values_of}
use Rattle.ospf_lsdb.specs.Database.{listed}
use Rattle.ospf_lsdb.specs.declared.dated.Stored.{Stored}
use Rattle.ospf_lsdb.proofs.ListingLemmas.{bare}
use Rattle.ospf_lsdb.proofs.dated.Dated.listing.Given as goal

abbrev pub invariant-loop-stored : goal.invariant-loop-stored
invariant-loop-stored l = record {
  done : List Stored;
  walked : values_of l.self-inside.entries.entries ≡ done ++ l.stored-iterator;
  listing : l.listing ≡ listed (map (bare l.self-inside.clock) done);
}
