-- The index of a table.
use Rattle.std.specs.Prelude.{List, ℕ}
use Rattle.ospf_graph.specs.declared.route.Route.{Route}
use Rattle.ospf_fib.specs.PrefixIndex.Entries.{AreEntries}
use Rattle.ospf_fib.specs.PrefixIndex.Ranges.{HasRanges, IsDirectory}
use Rattle.ospf_fib.specs.PrefixIndex.Sets.{AreNumbersOf}
use Rattle.ospf_fib.specs.declared.index.index.Index.{Index}

-- the ranges of the routes, what they answer with the sets of hops,
-- and the directory of these ranges
pub record IsIndexOf (routes : List Route) (index : Index) : Type 0 where
  pub places : List ℕ
  pub numbers : List ℕ
  pub ranges : HasRanges routes index.starts.items places
  pub sets : AreNumbersOf routes index.sets numbers
  pub entries : AreEntries routes numbers places index.entries.items
  pub directory : IsDirectory index.starts.items index.directory.items
